-- Document 01, the table of 'The interval sheet': its body bytes, and where the fields begin.
use Prim.Native.Nat.{ℕ}
use mathlib.Core.Path.{◌≡◌, refl}
use mathlib.Core.List.{List, [], ◌∷◌, map}
use lib.ListN.{length, take}
use Rattle.record_table.specs.Table.{KindRow, kind_of, body_length, field_at}

abbrev places : KindRow → List ℕ
places k = map (field_at k) (take (length k.fields) (0 ∷ 1 ∷ 2 ∷ 3 ∷ 4 ∷ 5 ∷ 6 ∷ []))

-- kind, body bytes, the places of its fields
abbrev table : List (ℕ × ℕ × List ℕ)
table =
    (1, 27, 0 ∷ 16 ∷ 17 ∷ 19 ∷ 23 ∷ [])
    ∷ (2, 24, 0 ∷ 16 ∷ 20 ∷ [])
    ∷ (3, 21, 0 ∷ 16 ∷ 17 ∷ [])
    ∷ (4, 34, 0 ∷ 16 ∷ 17 ∷ 18 ∷ 22 ∷ 26 ∷ 30 ∷ [])
    ∷ (5, 25, 0 ∷ 16 ∷ 17 ∷ 21 ∷ [])
    ∷ (6, 6, 0 ∷ 1 ∷ 2 ∷ 4 ∷ [])
    ∷ (7, 22, 0 ∷ 16 ∷ 20 ∷ [])
    ∷ (8, 4, 0 ∷ [])
    ∷ []

pub worked_table : map (λ (e : ℕ × ℕ × List ℕ). (e.0, body_length e.0, places (kind_of e.0))) table ≡ table
worked_table = refl
