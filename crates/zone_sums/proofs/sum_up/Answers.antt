-- `sum_up` meets its contract: after i turns the array holds the sums over the first i bookings.
use mathlib.Core.Path.{◌≡◌, refl, sym, ap, ◌∙◌}
use native.Mathlib.Omega.{arith}
use lib.IntN.{pos}
use lib.ListN.{length-set}
use Rattle.integers.specs.Sum.{sum_to}
use Rattle.integers.proofs.Sums.{sum_zero}
use Rattle.zone_sums.specs.inner.Ledger.{booked_at, sum_at}
use Rattle.zone_sums.proofs.Bookings.{turn, turn_most, zeros}
use Rattle.zone_sums.proofs.sum_up.Goals as goal

pub loop-i-init : goal.loop-i-init
loop-i-init g c = record {
  full = refl;
  most = λ k h. omega (arith, zeros 33 k);
  part = λ content ledger e k h. ap pos (zeros 33 k) ∙ sym (sum_zero (booked_at content ledger k));
}

pub loop-i-preserved : goal.loop-i-preserved
loop-i-preserved g c =
    let i = c.loop-i in
    let b = c.booking-b in
    let fits = c.requires.fits i.i b.result c.loop-i-test.true b.ensures in
    rw c.from.ensures record {
      full = simp length-set i.invariant.full;
      most = turn_most i.sums i.i b.result i.invariant.full fits i.invariant.most;
      part = λ content ledger e. turn content ledger i.sums i.i b.result i.invariant.full fits.number (e i.i b.result c.loop-i-test.true b.ensures) (i.invariant.part content ledger e);
    }

pub returns : goal.returns
unfolding sum_at
returns g c content ledger n e =
    let all : c.loop-i.i ≡ c.args.n = omega arith in
    record { sum = λ k h. c.loop-i.invariant.part content ledger e k h ∙ ap (sum_to (booked_at content ledger k)) (all ∙ n) }
