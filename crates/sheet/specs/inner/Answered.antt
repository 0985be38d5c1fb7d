-- What the reader's functions answer, as document 01 has it.
use Rattle.std.specs.Prelude.{Result, Ok, Err}
use Rattle.rows.specs.Refusals.{number}
use Rattle.layout.specs.declared.Layout.{Layout}
use Rattle.sheet.specs.declared.Refused.{Refused}
use Rattle.sheet.specs.Sheet.{Outcome}
use Rattle.sheet.specs.Sheet as sheet

abbrev pub outcome_of : Result Layout Refused → Outcome
outcome_of (Ok layout) = sheet.Accepted layout
outcome_of (Err refused) = sheet.Refused (number refused.refusal) refused.place
