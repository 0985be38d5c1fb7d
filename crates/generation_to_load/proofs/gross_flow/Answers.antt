-- `gross_flow` meets its contract.
use native.Mathlib.Nat.{le_refl}
use lib.Dec.{lit<}
use lib.IntN.{pos, ◌-ℤ◌, ◌*ℤ◌}
use mir.Val.{to_z}
use mir.Syntax.{w64}
use Rattle.integers.proofs.Machine.{Op, rd, num, num_u, sub, mul}
use Rattle.generation_to_load.proofs.gross_flow.Goals as goal
use Rattle.generation_to_load.proofs.gross_flow.Goals.{Start}

tenfold : (c : Start) → Op (to_z w64 10 *ℤ rd c.args.a) (pos 10 *ℤ c.args.a) 200000000000
tenfold c = mul (num_u 10 10 (le_refl 10) (lit< tt)) (num c.args.a 20000000000 c.requires.0 (lit< tt)) (lit< tt)

less : (c : Start) → Op (rd (to_z w64 10 *ℤ rd c.args.a) -ℤ rd c.args.b) (pos 10 *ℤ c.args.a -ℤ c.args.b) 400000000000
less c = sub (tenfold c).num (num c.args.b 200000000000 c.requires.1 (lit< tt)) (lit< tt)

pub overflow_mul-result : goal.overflow_mul-result
overflow_mul-result c = (tenfold c).fits

pub overflow_sub-result : goal.overflow_sub-result
overflow_sub-result c = (less c).fits

pub returns : goal.returns
returns c = (less c).num.is
