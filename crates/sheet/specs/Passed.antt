-- Which records of a sheet pass their rows (document 01, 'Where each refusal is checked').
use Rattle.std.specs.Prelude.{ℕ, ◌+◌, ◌<◌, ◌≡◌, List, length, drop}
use Rattle.fields.specs.Fields.{byte_at}
use Rattle.record_table.specs.Table.{body_length, body_in}
use Rattle.records.specs.Content.{Content, no_content, with_record}
use Rattle.record_rows.specs.Rows.{record_row}

-- The records before a place all pass their rows: `last` is the kind of the last of them, or 0, and c is what they hold
pub data Passed (s : List ℕ) : ℕ → ℕ → Content → Type 0 where
  none : Passed s 0 0 no_content
  more : {at last : ℕ} {c : Content} → Passed s at last c → at < length s → record_row c last (byte_at s at) (drop (at + 1) s) ≡ 0 →
      Passed s (at + 1 + body_length (byte_at s at)) (byte_at s at) (with_record c (byte_at s at) (body_in (byte_at s at) (drop (at + 1) s)))
