-- `pay` meets its contract.
use borrow.Author.Rules.{rules}
use Rattle.payment.specs.inner.Payment.{payment_of}
use Rattle.payment.proofs.Laws.{gap}
use Rattle.payment.proofs.pay.Goals as goal

pub returns : goal.returns
unfolding payment_of
returns c =
    let d = (gap _ _ _ c.requires).num.is in
    simp (d, c.price_of.ensures, c.amount_of-amount.ensures, c.paid_to.ensures, c.paid_to-2.ensures) (search rules)
