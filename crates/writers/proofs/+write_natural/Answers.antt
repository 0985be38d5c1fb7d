-- `write_natural` writes the digits before the last two, if there are any, and then these.
use Prim.Native.Nat.{◌/◌}
use native.Mathlib.Omega.{arith}
use borrow.Author.Rules.{rules}
use Rattle.writers.proofs.Decimal.{natural_digit, natural_two, natural_behind, natural_length, one_digit, two_more, two_at_least}
use Rattle.writers.proofs.Writing.{next, within, left_room}
use Rattle.writers.proofs.+write_natural.Goals as goal

pub put-requires : goal.put-requires
put-requires t c = omega (arith, c.requires, one_digit c.args.n (omega arith))

pub returns-then-n-lt10 : goal.returns-then-n-lt10
returns-then-n-lt10 t c = rw (natural_digit c.args.n (omega arith), ← c.digit.ensures) c.put.ensures

pub put-requires-then-n-lt100 : goal.put-requires-then-n-lt100
put-requires-then-n-lt100 t c = omega (arith, c.requires, two_at_least c.args.n (omega arith))

pub returns-then-n-lt100 : goal.returns-then-n-lt100
returns-then-n-lt100 t c =
    rw (natural_two c.args.n (omega arith) (omega arith), ← c.digit-2.ensures, ← c.digit-3.ensures) c.put-then-n-lt100.ensures

pub write_natural-front-requires : goal.write_natural-front-requires
write_natural-front-requires t c = (omega arith, omega (arith, c.requires, two_more c.args.n (omega arith)))

pub slice_bounds-put-count : goal.slice_bounds-put-count
slice_bounds-put-count t c = within c.write_natural-front.ensures

pub slice_bounds-put-start : goal.slice_bounds-put-start
slice_bounds-put-start t c = search (rules, within c.write_natural-front.ensures)

pub put-front-requires : goal.put-front-requires
put-front-requires t c =
    rw (left_room c.write_natural-front.ensures) (omega (arith, c.requires, c.write_natural-front.ensures.count, two_more c.args.n (omega arith)))

pub overflow_add-front : goal.overflow_add-front
overflow_add-front t c =
    omega (arith, c.write_natural-front.ensures.count, c.put-front.ensures.count, natural_length 19 (c.args.n / 100) (omega (arith, c.ranges.n.fits)))

pub returns : goal.returns
returns t c =
    rw (natural_behind c.args.n (omega arith), ← c.digit-2.ensures, ← c.digit-3.ensures) (next c.write_natural-front.ensures c.put-front.ensures)
