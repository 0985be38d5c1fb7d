-- `zone_at` meets its contract.
use Rattle.sheet.proofs.Accepted.{zone-is}
use Rattle.sheet_records.proofs.zone_at.Goals as goal

pub returns : goal.returns
returns c = rw (zone-is _ _ c.args.sheet.now.accepted c.args.i c.requires, ← c.body_at.ensures.0) c.zone_of.ensures
