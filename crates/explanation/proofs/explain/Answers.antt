-- `explain` meets its contract, at every two byte strings.
use mathlib.Core.Path.{ap}
use Rattle.explanation.specs.Explanation.{part_of}
use Rattle.explanation.proofs.explain.Goals as goal

pub returns : goal.returns
returns c = ap (part_of _) c.locate-f.ensures.is
