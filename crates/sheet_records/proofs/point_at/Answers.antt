-- `point_at` meets its contract.
use Rattle.sheet.proofs.Accepted.{point-is}
use Rattle.sheet_records.proofs.point_at.Goals as goal

pub returns : goal.returns
returns c = rw (point-is _ _ c.args.sheet.now.accepted c.args.i c.requires, ← c.body_at.ensures.0) c.point_of.ensures
