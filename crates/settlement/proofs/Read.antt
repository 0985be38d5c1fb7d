-- The interval by the reader's answer: what the definition says of the reading, it says of the outcome and the content too.
use mathlib.Core.Path.{◌≡◌, refl}
use Rattle.records.specs.Content.{Content}
use Rattle.sheet.specs.Sheet.{Outcome}
use Rattle.sheet.specs.Sheet.{Accepted, Refused}
use Rattle.sheet.specs.Sheet.{Reading, holds, fails, reading, outcome, read_sheet, content_in, content_of}
use Rattle.settlement.specs.declared.Interval.{Interval}
use Rattle.settlement.specs.Settled.{Inputs, refused_by, after_sheet, by_sheet, interval}

abbrev pub by_outcome : Content → Inputs → Outcome → Interval
by_outcome c x (Accepted l) = after_sheet c x
by_outcome c x (Refused number at) = refused_by number

pub interval_is : (x : Inputs) → interval x ≡ by_outcome (content_of x.sheet) x (read_sheet x.sheet)
unfolding interval by_sheet read_sheet content_of
interval_is x = go (reading x.sheet)
  where
    go : (r : Reading) → by_sheet x r ≡ by_outcome (content_in r) x (outcome r)
    go (holds c) = refl
    go (fails number at) = refl
