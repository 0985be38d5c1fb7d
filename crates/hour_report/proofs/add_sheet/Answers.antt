-- `add_sheet` takes the interval, and shows what came of it.
use mathlib.Core.Path.{◌≡◌, ap, ◌∙◌}
use mir.Facts.{to_z-of_z}
use mir.Syntax.{w64}
use mir.Val.{SFits}
use borrow.Author.Rules.{rules}
use Rattle.settlement.specs.declared.Interval.{Interval}
use Rattle.hours.specs.declared.Hour.{Hour}
use Rattle.hours.specs.declared.Changed.{Changed}
use Rattle.hours.specs.Hour.{refusal_of, added}
use Rattle.writers.proofs.Writing.{counted, renamed}
use Rattle.hour_report.specs.HourReport.{sheet_line, told_of}
use Rattle.hour_report.proofs.add_sheet.Goals as goal

told_is : (h : Hour) (i j : Interval) (c : Changed) → i ≡ j → c ≡ added h i → sheet_line c.refusal i.statement.amount ≡ told_of h j
unfolding told_of added
told_is h i j c e f =
    ap (λ (c : Changed). sheet_line c.refusal i.statement.amount) f
    ∙ ap (λ (k : Interval). sheet_line (refusal_of h k) k.statement.amount) e

pub returns : goal.returns
returns c =
    let i = c.settle_interval-i.result in
    let settles = c.settle_interval-i.ensures.value in
    let takes = c.take-changed.ensures in
    let f : SFits w64 i.statement.amount = search rules in
    let e = c.as_slice.ensures.value ∙ rw (to_z-of_z f) at c.sheet_line.ensures in
    let w = renamed (e ∙ told_is _ _ _ _ settles takes) c.put-length.ensures in
    record { hour_value = ap (λ (c : Changed). c.hour) (takes ∙ ap (added _) settles); length_value = w.count; out_after = w.left; prefix_len = counted w }
