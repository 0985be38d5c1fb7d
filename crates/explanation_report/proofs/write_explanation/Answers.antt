-- `write_explanation` shows what is explained of the finding.
use mathlib.Core.Path.{ap, ◌∙◌}
use Rattle.writers.proofs.Writing.{counted, renamed}
use Rattle.explanation_report.specs.ExplanationReport.{explanation_lines, explain_output}
use Rattle.explanation_report.proofs.Fits.{fits}
use Rattle.explanation_report.proofs.write_explanation.Goals as goal

pub explained-requires : goal.explained-requires
explained-requires c = fits c.locate-f.ensures

pub returns : goal.returns
unfolding explain_output
returns c =
    let w = renamed (c.as_slice.ensures.value ∙ c.explained.ensures ∙ ap (explanation_lines _) c.locate-f.ensures.is) c.put.ensures in
    record { value = w.count; out_after = w.left; prefix_len = counted w }
