-- `factor_at` meets its contract.
use native.Mathlib.Omega.{arith}
use Rattle.sheet.proofs.Accepted.{extent_is, factor-there}
use Rattle.sheet_drafts.proofs.factor_at.Goals as goal

pub body_at-requires : goal.body_at-requires
body_at-requires c =
    (omega (arith, extent_is _ _ c.args.sheet.now.accepted), c.requires)

pub returns : goal.returns
returns c =
    rw (factor-there _ _ c.args.sheet.now.accepted c.args.i c.requires, ← c.body_at.ensures.0) c.factor_of.ensures
