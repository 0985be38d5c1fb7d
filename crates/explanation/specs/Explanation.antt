-- Which part of a sheet a refusal is about, and the reason for the price of an accepted interval (document 02, request 7).
use Rattle.std.specs.Prelude.{ℕ, ◌+◌, ◌-◌, cond, List, eqb, leb, ℤ, length, take, drop}
use Rattle.std.specs.Int.Signed.{lt_z}
use Rattle.fields.specs.Fields.{byte_at}
use Rattle.record_table.specs.Table.{body_length}
use Rattle.sheet.specs.Sheet.{Reading, holds, fails, reading}
use Rattle.statement.specs.declared.Statement.{Statement}
use Rattle.settlement.specs.Settled.{inputs, after_sheet}

-- the reason for the price: the flow paid on is above, below or at the entitlement. A refusal has none
pub data Reason : Type 0 where
  None : Reason
  Above : Reason
  Below : Reason
  At : Reason

-- the settlement's number, 0 of an accepted interval; where the part of the sheet that holds the offending record begins and ends
pub record Finding : Type 0 where
  pub refusal : ℕ
  pub from : ℕ
  pub to : ℕ
  pub reason : Reason

-- the flow paid on is above, below or at the entitlement, both in watts
unfoldable pub side_of : ℤ → ℤ → Reason
side_of flow entitlement = cond (lt_z entitlement flow) Above (cond (lt_z flow entitlement) Below At)

-- what a part shows of a record that is whole: for refusals 1 and 2 the kind byte alone, else kind byte and body
abbrev pub shown_bytes : ℕ → ℕ → ℕ
shown_bytes refusal kind = cond (leb refusal 2) 1 (1 + body_length kind)

-- where the part that begins at a place ends: with the record's last byte present. At the sheet's end it is empty
unfoldable pub part_end : List ℕ → ℕ → ℕ → ℕ
part_end sheet refusal from =
    cond (leb (from + shown_bytes refusal (byte_at sheet from)) (length sheet)) (from + shown_bytes refusal (byte_at sheet from)) (length sheet)

-- behind the last record the part is empty. A refusal has no reason
unfoldable pub behind_records : ℕ → Statement → Finding
behind_records end s = record { refusal = s.refusal; from = end; to = end; reason = cond (eqb s.refusal 0) (side_of s.settled s.entitlement) None }

unfoldable pub by_reading : List ℕ → List ℕ → Reading → Finding
by_reading sheet list (fails number at) = record { refusal = number; from = at; to = part_end sheet number at; reason = None }
by_reading sheet list (holds c) = behind_records (length sheet) (after_sheet c (inputs sheet list)).statement

unfoldable pub explained : List ℕ → List ℕ → Finding
explained sheet list = by_reading sheet list (reading sheet)

-- the part itself
abbrev pub part_of : List ℕ → Finding → List ℕ
part_of sheet f = take (f.to - f.from) (drop f.from sheet)
