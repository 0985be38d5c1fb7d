-- `totals` keeps its promise.
use Rattle.grown_hours.proofs.Kept.{kept}
use Rattle.grown_hours.proofs.totals.Goals as goal

pub returns : goal.returns
returns c = kept _ _ c.totals.ensures
