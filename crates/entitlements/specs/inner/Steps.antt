-- How far a pass over the list has come, and the room that it needs.
use Rattle.std.specs.Prelude.{ℕ, ◌+◌, ◌*◌, ◌<◌, List, length}
use Rattle.name_index.specs.declared.Run.{Run}
use Rattle.name_index.specs.inner.Index.{names_at}
use Rattle.entitlements.specs.Entitlements.{record_length, most_records}

-- the names of the first n records, in a table with hashes up to `mask`
abbrev pub run_of : ℕ → ℕ → Run
run_of mask n = record { first = 1; stride = record_length; count = n; base = 0; mask = mask }

-- these names, the latest first
abbrev pub first_names : List ℕ → ℕ → List (List ℕ)
first_names s n = names_at s 1 record_length n

-- a table of this size has room for the names of all records that are checked
pub record Roomy (mask : ℕ) (s : List ℕ) (size : ℕ) : Type 0 where
  pub room : (n : ℕ) → n < most_records → record_length * n < length s → mask + 1 + n < size
