-- `add` takes the interval that settling answers.
use mathlib.Core.Path.{ap, ◌∙◌}
use Rattle.hours.specs.Hour.{added}
use Rattle.hours.proofs.Hour.add.Goals as goal

pub returns : goal.returns
returns c = c.take.ensures ∙ ap (added _) c.settle_interval-i.ensures.value
