-- `amount_of` meets its contract.
use mathlib.Core.Path.{◌≡◌}
use mir.Facts.{to_z-of_z}
use borrow.Author.Rules.{rules}
use Rattle.figures.specs.Payment.{price, amount_of}
use Rattle.payment.proofs.Laws.{first_product, second_product}
use Rattle.payment.proofs.amount_of.Goals as goal
use Rattle.payment.proofs.amount_of.Goals.{After-price_of-price}

price-is : (c : After-price_of-price) → c.price_of-price.result ≡ price c.args.h.now c.args.difference
price-is c = rw (to_z-of_z c.ranges.difference) at c.price_of-price.ensures

pub overflow_mul-difference : goal.overflow_mul-difference
overflow_mul-difference c = (first_product _ c.requires.0 _ c.requires.1 _ (price-is c.before)).fits

pub overflow_mul-difference-2 : goal.overflow_mul-difference-2
overflow_mul-difference-2 c = (second_product _ c.requires.0 _ c.requires.1 _ (price-is c.before)).fits

pub returns : goal.returns
unfolding amount_of
returns c =
    let charge = second_product _ c.requires.0 _ c.requires.1 _ (price-is c.before.before.before) in
    let e = rw charge.num.is at c.rounded_quotient.ensures.0 in
    search (rules, e)
