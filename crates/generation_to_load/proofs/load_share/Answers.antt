-- `load_share` meets its contract.
use native.Mathlib.Nat.{le_refl}
use lib.IntN.{pos, ◌*ℤ◌}
use lib.Dec.{lit<}
use mir.Val.{to_z}
use mir.Syntax.{w64}
use mir.Facts.{to_z-of_z}
use Rattle.integers.proofs.Machine.{Op, rd, num, num_u, mul}
use Rattle.generation_to_load.proofs.Laws.{divided}
use Rattle.generation_to_load.proofs.load_share.Goals as goal
use Rattle.generation_to_load.proofs.load_share.Goals.{Start}

-- the two products
tenfold : (c : Start) → Op (to_z w64 10 *ℤ rd c.args.g) (pos 10 *ℤ c.args.g) 20000000
tenfold c = mul (num_u 10 10 (le_refl 10) (lit< tt)) (num c.args.g 2000000 c.requires.0 (lit< tt)) (lit< tt)

dividend : (c : Start) → Op (rd (to_z w64 10 *ℤ rd c.args.g) *ℤ rd c.args.n) (pos 10 *ℤ c.args.g *ℤ c.args.n) 400000000000000000
dividend c = mul (tenfold c).num (num c.args.n 20000000000 c.requires.1 (lit< tt)) (lit< tt)

pub overflow_mul-g : goal.overflow_mul-g
overflow_mul-g c = (tenfold c).fits

pub overflow_mul-g-2 : goal.overflow_mul-g-2
overflow_mul-g-2 c = (dividend c).fits

pub returns : goal.returns
returns c =
    divided c.rounded_quotient.result (c.rounded_quotient.ensures.0, c.rounded_quotient.ensures.1) (dividend c.before).num.is (to_z-of_z c.ranges.net_load)
