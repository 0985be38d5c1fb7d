-- `totals` meets its contract.
use borrow.Author.Tests.{eq-eqb, ne_eqb}
use Rattle.hours.specs.Totals.{totals_of}
use Rattle.hours.proofs.Room.{itself, negated}
use Rattle.hours.proofs.Hour.totals.Goals as goal

pub overflow_sub-result : goal.overflow_sub-result
overflow_sub-result c = (negated _ _ _ c.amount_of-amount.ensures).fits

pub returns-then-self-code : goal.returns-then-self-code
unfolding totals_of
returns-then-self-code c =
    let n = c.seconds_of-seconds.ensures.0 in
    let e = c.amount_of-amount.ensures in
    rw (eq-eqb _ _ (rw c.code.ensures at c.if-self-code.true)) (λ j. record { seconds = n j; amount = itself _ _ _ e j; nyiso = itself _ _ _ e j; pjm = (negated _ _ _ e).num.is j })

pub overflow_sub-result-2 : goal.overflow_sub-result-2
overflow_sub-result-2 c = (negated _ _ _ c.amount_of-amount.ensures).fits

pub returns : goal.returns
unfolding totals_of
returns c =
    let n = c.seconds_of-seconds.ensures.0 in
    let e = c.amount_of-amount.ensures in
    rw (ne_eqb _ _ (rw c.code.ensures at c.if-self-code.false)) (λ j. record { seconds = n j; amount = itself _ _ _ e j; nyiso = (negated _ _ _ e).num.is j; pjm = itself _ _ _ e j })
