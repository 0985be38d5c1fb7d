-- The reading of an interval sheet: its content, or the refusal that it meets of rows 1 to 13 and 28 (document 01, 'The interval sheet' and 'Where each refusal is checked').
use Rattle.std.specs.Prelude.{ℕ, zero, suc, ◌+◌, cond, List, [], ◌∷◌, eqb}
use Rattle.record_table.specs.Table.{body_length, body_in}
use Rattle.records.specs.Content.{Content, no_content, with_record}
use Rattle.record_rows.specs.Rows.{first_row, record_row, last_row}
use Rattle.layout.specs.Layout.{layout_of}
use Rattle.layout.specs.declared.Layout.{Layout}

-- a sheet's content, or the refusal's number and where the offending record begins
pub data Reading : Type 0 where
  holds : Content → Reading
  fails : ℕ → ℕ → Reading

-- a row that fits refuses, at a place; else the reading goes on
abbrev pub unless : ℕ → ℕ → Reading → Reading
unless number at next = cond (eqb number 0) next (fails number at)

-- The records from the place `at` on: c is the content of those before, `last` the kind of the last of them, or 0. Of the record before, `skip` bytes are still to come
unfoldable pub records_from : ℕ → ℕ → ℕ → Content → List ℕ → Reading
records_from at skip last c [] = unless (last_row c) at (holds c)
records_from at (suc skip) last c (b ∷ r) = records_from (at + 1) skip last c r
records_from at zero last c (kind ∷ r) =
    unless (record_row c last kind r) at (records_from (at + 1) (body_length kind) kind (with_record c kind (body_in kind r)) r)

-- The first faulty record refuses, by the first row that fits it. Then come the rows at the sheet's end
unfoldable pub reading : List ℕ → Reading
reading s = unless (first_row s) 0 (records_from 0 0 0 no_content s)

abbrev pub content_in : Reading → Content
content_in (holds c) = c
content_in (fails number at) = no_content

-- the refusal's number; 0 of a sheet that is accepted
abbrev pub number_in : Reading → ℕ
number_in (holds c) = 0
number_in (fails number at) = number

-- what an accepted sheet holds; nothing of a refused one
unfoldable pub content_of : List ℕ → Content
content_of s = content_in (reading s)

-- the reader's answer: of an accepted sheet how many records there are of each kind; else the refusal's number and the place
pub data Outcome : Type 0 where
  Accepted : Layout → Outcome
  Refused : ℕ → ℕ → Outcome

abbrev pub outcome : Reading → Outcome
outcome (holds c) = Accepted (layout_of c)
outcome (fails number at) = Refused number at

unfoldable pub read_sheet : List ℕ → Outcome
read_sheet s = outcome (reading s)
