-- `unit_at` meets its contract.
use Rattle.sheet.proofs.Accepted.{unit-is}
use Rattle.sheet_records.proofs.unit_at.Goals as goal

pub returns : goal.returns
returns c = rw (unit-is _ _ c.args.sheet.now.accepted c.args.i c.requires, ← c.body_at.ensures.0) c.unit_of.ensures
