-- The number of a record within its kind (document 01, 'The interval sheet').
use Rattle.std.specs.Prelude.{ℕ, zero, suc, ◌+◌, cond, List, [], ◌∷◌, eqb, leb, length, take}
use Rattle.fields.specs.Fields.{byte_at}
use Rattle.record_table.specs.Table.{body_length}

-- how many records of a kind begin in these bytes; of the record before, `skip` bytes are still to come
unfoldable pub records_of : ℕ → ℕ → List ℕ → ℕ
records_of kind skip [] = 0
records_of kind (suc skip) (b ∷ r) = records_of kind skip r
records_of kind zero (k ∷ r) = cond (eqb k kind) 1 0 + records_of kind (body_length k) r

-- within a kind, records are counted from 1; at the sheet's end there is none
unfoldable pub record_number : List ℕ → ℕ → ℕ
record_number sheet at = cond (leb (length sheet) at) 0 (1 + records_of (byte_at sheet at) 0 (take at sheet))
