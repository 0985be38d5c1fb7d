-- Behind a minus there is room for the magnitude's digits, of which there are at most 19.
use native.Mathlib.Omega.{arith}
use borrow.Author.Rules.{rules}
use Rattle.writers.specs.Text.{ascii, decimal}
use Rattle.writers.proofs.Decimal.{natural_length}
use Rattle.writers.proofs.Writing.{next, left_room}
use Rattle.writers.proofs.I64Number.write.Goals as goal

pub write_natural-requires : goal.write_natural-requires
write_natural-requires c = omega (arith, c.requires, natural_length 18 c.unsigned_abs.result (omega (arith, c.unsigned_abs.ensures.bound)))

pub returns-then-self-ge0-clause-room : goal.returns-then-self-ge0-clause-room
returns-then-self-ge0-clause-room c = omega (arith, c.write_natural.ensures.count, natural_length 18 c.unsigned_abs.result (omega (arith, c.unsigned_abs.ensures.bound)))

pub write_natural-n-requires : goal.write_natural-n-requires
write_natural-n-requires c =
    rw (left_room c.put-n.ensures) (omega (arith, c.requires, c.put-n.ensures.count, natural_length 18 c.unsigned_abs-2.result (omega (arith, c.unsigned_abs-2.ensures.bound))))

pub overflow_add-n : goal.overflow_add-n
overflow_add-n c =
    omega (arith, c.put-n.ensures.count, c.write_natural-n.ensures.count, natural_length 18 c.unsigned_abs-2.result (omega (arith, c.unsigned_abs-2.ensures.bound)))

pub returns-clause-wrote : goal.returns-clause-wrote
unfolding decimal ascii
returns-clause-wrote c = search (rules, next c.put-n.ensures c.write_natural-n.ensures)

pub returns-clause-room : goal.returns-clause-room
returns-clause-room c =
    omega (arith, c.put-n.ensures.count, c.write_natural-n.ensures.count, natural_length 18 c.unsigned_abs-2.result (omega (arith, c.unsigned_abs-2.ensures.bound)))
