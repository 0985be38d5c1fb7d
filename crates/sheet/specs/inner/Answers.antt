-- What an answer says of the sheet: all records pass their rows, or which row is met behind those that do.
use Rattle.std.specs.Prelude.{ℕ, ◌+◌, ◌≡◌, cond, List, ltb, length, drop}
use Rattle.fields.specs.Fields.{byte_at}
use Rattle.records.specs.Content.{Content}
use Rattle.record_rows.specs.Rows.{record_row, last_row}
use Rattle.sheet.specs.Passed.{Passed}

-- the row that the record at a place meets, or the sheet's end, or 0
unfoldable pub row_at : List ℕ → Content → ℕ → ℕ → ℕ
row_at s c last at = cond (ltb at (length s)) (record_row c last (byte_at s at) (drop (at + 1) s)) (last_row c)

pub record Accepts (s : List ℕ) (c : Content) : Type 0 where
  pub last : ℕ
  pub passed : Passed s (length s) last c
  pub end : last_row c ≡ 0

-- of rows 2 to 13 and 28
pub record Refuses (s : List ℕ) (number at : ℕ) : Type 0 where
  pub last : ℕ
  pub content : Content
  pub passed : Passed s at last content
  pub row : row_at s content last at ≡ number
  pub some : number ≡ 0 → ⊥
