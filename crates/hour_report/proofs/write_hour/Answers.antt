-- `write_hour` shows the totals.
use mathlib.Core.Path.{ap, ◌∙◌}
use Rattle.writers.proofs.Writing.{counted, renamed}
use Rattle.hour_report.specs.HourReport.{hour_lines}
use Rattle.hour_report.proofs.write_hour.Goals as goal

pub returns : goal.returns
returns c =
    let w = renamed (c.as_slice.ensures.value ∙ c.hour_lines.ensures ∙ ap hour_lines c.totals-t.ensures.totals) c.put.ensures in
    record { value = w.count; out_after = w.left; prefix_len = counted w }
