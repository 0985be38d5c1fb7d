-- What the reader learns of one record.
use Rattle.std.specs.Prelude.{ℕ, ◌+◌, ◌≡◌, List, drop}
use Rattle.fields.specs.Fields.{byte_at}
use Rattle.record_rows.specs.Rows.{record_row}
use Rattle.layout.specs.declared.Layout.{Layout}
use Rattle.layout.specs.inner.Places.{counted, content_at}
use Rattle.layout.specs.inner.Listed.{Listed}

-- a number is the first row that fits the record at a place; where it is 0 the table has the record's name too
pub record RowHere (s : List ℕ) (l : Layout) (last at : ℕ) (table : List ℕ) (number : ℕ) : Type 0 where
  pub is : number ≡ record_row (content_at s l) last (byte_at s at) (drop (at + 1) s)
  pub listed : number ≡ 0 → Listed s (counted l (byte_at s at)) (byte_at s at) table
