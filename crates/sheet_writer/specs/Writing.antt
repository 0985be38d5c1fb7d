-- What the writer of sheets answers and leaves (document 02, requests 3 and 6).
use Rattle.std.specs.Prelude.{ℕ, cond, List, [], eqb, ltb, length}
use Rattle.rows.specs.Rows.{row}
use Rattle.records.specs.Content.{Content}
use Rattle.writers.specs.Written.{written}
use Rattle.sheet_bytes.specs.SheetBytes.{sheet_bytes}
use Rattle.sheet_bytes.specs.ContentRow.{then_row, content_row}
use Rattle.sheet_writer.specs.declared.Written.{Written}

-- rows 5 to 13 and 28; then 27, the output buffer is shorter than the sheet
unfoldable pub refusal_for : Content → List ℕ → ℕ
refusal_for c out = then_row (content_row c) (row 27 (ltb (length out) (length (sheet_bytes c))) 0)

-- what is written: the sheet, and nothing on a refusal
unfoldable pub sheet_for : Content → List ℕ → List ℕ
sheet_for c out = cond (eqb (refusal_for c out) 0) (sheet_bytes c) []

-- what writing returns
abbrev pub answer_for : Content → List ℕ → Written
answer_for c out = record { refusal = refusal_for c out; length = length (sheet_for c out) }

-- the output buffer after writing
abbrev pub left_for : Content → List ℕ → List ℕ
left_for c out = written (sheet_for c out) out
