-- The entitlement list (document 01, 'The interval sheet'): its entries, rows 14 and 15.
use Rattle.std.specs.Prelude.{ℕ, zero, suc, ◌+◌, Bool, false, not, ◌||◌, cond, List, [], ◌∷◌, eqb, leb, ℤ, Result, Ok, Err, length}
use Rattle.fields.specs.Fields.{sbe32}
use Rattle.rows.specs.Rows.{cut_short, beyond}
use Rattle.rows.specs.Refusals.{number}
use Rattle.rows.specs.declared.Refusal.{Refusal}
use Rattle.names.specs.Names.{bad_name, same_list, seen_before, name_at}

-- a flowgate's name, and the Non-Monitoring RTO's entitlement in tenths of a MW
pub record Entry : Type 0 where
  pub name : List ℕ
  pub value : ℤ

-- kind 0x10
abbrev pub entry_kind : ℕ
entry_kind = 16

-- name 16, entitlement 4
abbrev pub body_length : ℕ
body_length = 20

-- the kind byte and the body
abbrev pub record_length : ℕ
record_length = body_length + 1

abbrev pub most_records : ℕ
most_records = 2500

abbrev pub most_value : ℕ
most_value = 100000

-- the entry in a body
unfoldable pub entry_of : List ℕ → Entry
entry_of b = record { name = name_at b 0; value = sbe32 b 16 }

-- row 14 on a record of kind k with r behind its kind byte, after records with the names `earlier` (the latest first):
-- cut short, other kind, name as 6, value out of range, name repeated, or a record after the 2,500th
unfoldable pub record_fault : List (List ℕ) → ℕ → List ℕ → Bool
record_fault earlier k r =
    cut_short body_length (length r)
    || not (eqb k entry_kind)
    || bad_name (entry_of r).name
    || beyond most_value (entry_of r).value
    || seen_before earlier (entry_of r).name
    || leb most_records (length earlier)

-- a record from here on meets row 14; of the record before, `skip` bytes are still to come
unfoldable pub any_fault : List (List ℕ) → ℕ → List ℕ → Bool
any_fault earlier skip [] = false
any_fault earlier (suc skip) (b ∷ r) = any_fault earlier skip r
any_fault earlier zero (k ∷ r) = record_fault earlier k r || any_fault ((entry_of r).name ∷ earlier) body_length r

abbrev pub row14 : List ℕ → Bool
row14 s = any_fault [] 0 s

-- the entries from here on
unfoldable pub entries_from : ℕ → List ℕ → List Entry
entries_from skip [] = []
entries_from (suc skip) (b ∷ r) = entries_from skip r
entries_from zero (k ∷ r) = entry_of r ∷ entries_from body_length r

abbrev pub entries_of : List ℕ → List Entry
entries_of s = entries_from 0 s

-- what a list says of a flowgate: the entitlement, or the refusal's number
pub data Entitlement : Type 0 where
  Found : ℤ → Entitlement
  Refused : ℕ → Entitlement

-- what the code's answer says
abbrev pub entitlement_of : Result ℤ Refusal → Entitlement
entitlement_of (Ok value) = Found value
entitlement_of (Err refusal) = Refused (number refusal)

-- row 15: no entry bears the name
unfoldable pub look_up : List Entry → List ℕ → Entitlement
look_up [] name = Refused 15
look_up (e ∷ es) name = cond (same_list e.name name) (Found e.value) (look_up es name)

-- what the list s says of the flowgate of that name
unfoldable pub entitlement : List ℕ → List ℕ → Entitlement
entitlement s name = cond (row14 s) (Refused 14) (look_up (entries_of s) name)
