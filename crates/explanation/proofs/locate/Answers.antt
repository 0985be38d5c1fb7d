-- `locate` meets its contract, at every two byte strings.
use mathlib.Core.Path.{sym, ap, ◌∙◌}
use Rattle.explanation.proofs.Promised.{by_outcome, explained_is, place_within, promised}
use Rattle.explanation.proofs.locate.Goals as goal

pub part_end-requires : goal.part_end-requires
part_end-requires c = place_within _ c.args.list.now _ _ c.in-Err.ensures

pub returns-in-Err : goal.returns-in-Err
returns-in-Err c =
    promised _ _ _ (rw c.part_end.ensures (sym (explained_is _ _ ∙ ap (by_outcome _ _ _) c.in-Err.ensures)))

pub returns-in-Ok : goal.returns-in-Ok
returns-in-Ok c =
    let s = rw c.in-Ok.ensures.0 at c.interval_or_refusal-settled.ensures in
    promised _ _ _ (c.behind_records.ensures _ s ∙ sym (explained_is _ _ ∙ ap (by_outcome _ _ _) c.in-Ok.ensures.1))
