-- `amount_at` meets its contract.
use Prim.Native.Nat.{◌+◌}
use native.Mathlib.Omega.{arith}
use lib.Dec.{lit<}
use Rattle.integers.proofs.Machine.{num_u}
use Rattle.zone_sums.specs.inner.Ledger.{amount_at}
use Rattle.zone_sums.proofs.by_number.ZoneSums.amount_at.Goals as goal

pub returns : goal.returns
unfolding amount_at
returns c =
    let n = num_u _ 1024000000 (c.args.self.now.small.most (c.args.z + 1) (omega arith)) (lit< tt) in
    rw (c.cast_signed.ensures, n.is) n.is
