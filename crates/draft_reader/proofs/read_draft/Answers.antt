-- `read_draft` meets its contract.
use Rattle.draft_reader.proofs.Answers.{of_refused, of_accepted}
use Rattle.draft_reader.proofs.read_draft.Goals as goal

pub returns-in-Err : goal.returns-in-Err
returns-in-Err c = rw (← c.number.ensures) at (of_refused _ c.in-Err.ensures c.no_draft.ensures)

pub returns-in-Ok : goal.returns-in-Ok
returns-in-Ok c = of_accepted _ c.in-Ok.ensures.1 (rw c.in-Ok.ensures.0 at c.draft_of.ensures)
