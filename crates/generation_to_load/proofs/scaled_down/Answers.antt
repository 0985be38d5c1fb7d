-- `scaled_down` meets its contract.
use lib.Dec.{lit<}
use lib.IntN.{◌*ℤ◌}
use mir.Facts.{to_z-of_z}
use Rattle.integers.proofs.Machine.{Op, rd, num, mul}
use Rattle.generation_to_load.proofs.Laws.{divided}
use Rattle.generation_to_load.proofs.scaled_down.Goals as goal
use Rattle.generation_to_load.proofs.scaled_down.Goals.{Start}

dividend : (c : Start) → Op (rd c.args.h *ℤ rd c.args.final_generation) (c.args.h *ℤ c.args.final_generation) 800000000000000000
dividend c = mul (num c.args.h 400000000000 c.requires.0 (lit< tt)) (num c.args.final_generation 2000000 c.requires.1 (lit< tt)) (lit< tt)

pub overflow_mul-h : goal.overflow_mul-h
overflow_mul-h c = (dividend c).fits

pub returns : goal.returns
returns c =
    divided c.rounded_quotient.result (c.rounded_quotient.ensures.0, c.rounded_quotient.ensures.1) (dividend c.before).num.is (to_z-of_z c.ranges.net_generation)
