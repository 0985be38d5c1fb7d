-- `path_at` meets its contract.
use Rattle.sheet.proofs.Accepted.{path-is}
use Rattle.sheet_records.proofs.path_at.Goals as goal

pub returns : goal.returns
returns c = rw (path-is _ _ c.args.sheet.now.accepted c.args.i c.requires, ← c.body_at.ensures.0) c.path_of.ensures
