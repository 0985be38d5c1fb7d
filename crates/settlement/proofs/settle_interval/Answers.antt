-- `settle_interval` meets its contract, at every two byte strings.
use mathlib.Core.Path.{◌≡◌, sym, ap, ◌∙◌}
use mathlib.Core.List.{List}
use Prim.Native.Nat.{ℕ}
use Rattle.settlement.specs.Promise.{Promise}
use Rattle.settlement.specs.declared.Interval.{Interval}
use Rattle.settlement.specs.Settled.{inputs, interval, settled}
use Rattle.settlement.proofs.Promised.{promised}
use Rattle.settlement.proofs.Read.{by_outcome, interval_is}
use Rattle.settlement.proofs.settle_interval.Goals as goal

-- what the definition answers is promised
kept : (sheet list : List ℕ) (i : Interval) → i ≡ interval (inputs sheet list) → Promise sheet list i.statement
unfolding settled
kept sheet list i p = promised sheet list i.statement (ap (λ (j : Interval). j.statement) p)

pub returns-in-Err : goal.returns-in-Err
returns-in-Err c =
    let e = c.refused.ensures ∙ sym (interval_is _ ∙ ap (by_outcome _ _) c.in-Err.ensures) in
    record { value = e; promise = kept _ _ _ e }

pub returns-in-Ok : goal.returns-in-Ok
returns-in-Ok c =
    let e = rw c.in-Ok.ensures.0 at c.settle_sheet.ensures ∙ sym (interval_is _ ∙ ap (by_outcome _ _) c.in-Ok.ensures.1) in
    record { value = e; promise = kept _ _ _ e }
