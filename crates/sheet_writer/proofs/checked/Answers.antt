-- `checked` meets its contract.
use mathlib.Core.Path.{sym}
use Rattle.sheet.proofs.Answers.{accepted_number, refused_number}
use Rattle.sheet_writer.proofs.checked.Goals as goal

pub returns-in-Err : goal.returns-in-Err
returns-in-Err c = sym (refused_number _ _ _ c.in-Err.ensures)

pub returns-in-Ok : goal.returns-in-Ok
returns-in-Ok c = sym (accepted_number _ _ c.in-Ok.ensures.1)
