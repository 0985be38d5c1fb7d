-- `par_at` meets its contract.
use Rattle.sheet.proofs.Accepted.{par-is}
use Rattle.sheet_records.proofs.par_at.Goals as goal

pub returns : goal.returns
returns c = rw (par-is _ _ c.args.sheet.now.accepted c.args.i c.requires, ← c.body_at.ensures.0) c.par_of.ensures
