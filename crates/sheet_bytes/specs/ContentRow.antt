-- Which of rows 5 to 13 and 28 content meets, in the order in which a reader would meet its records (document 02, requests 3 and 6).
use Rattle.std.specs.Prelude.{ℕ, Bool, cond, List, [], ◌∷◌, ◌++◌, map, eqb, length}
use Rattle.rows.specs.Rows.{row}
use Rattle.names.specs.Names.{seen_before}
use Rattle.records.specs.declared.Zone.{Zone}
use Rattle.records.specs.declared.Unit.{Unit}
use Rattle.records.specs.declared.Point.{Point}
use Rattle.records.specs.declared.Par.{Par}
use Rattle.records.specs.declared.Path.{Path}
use Rattle.records.specs.declared.Circulation.{Circulation}
use Rattle.records.specs.Content.{Content}
use Rattle.due_factors.specs.Due.{due}
use Rattle.record_rows.specs.Rows.{one_too_many, head_row, zone_row, unit_row, point_row, par_row, factor_row, path_row, circulation_row, last_row}

-- a row that is met; where none is, the one that comes later
abbrev pub then_row : ℕ → ℕ → ℕ
then_row number later = cond (eqb number 0) later number

-- the records of a kind in turn, each by its row behind those before it
unfoldable pub in_turn : {A : Type 0} → (List A → A → ℕ) → List A → List A → ℕ → ℕ
in_turn row_of before [] later = later
in_turn row_of before (a ∷ l) later = then_row (row_of before a) (in_turn row_of (before ++ (a ∷ [])) l later)

-- a record with a name, behind those of its kind: row 5, then its own, row 7 where one before has its name
abbrev pub named_row : {A : Type 0} → ℕ → (A → List ℕ) → (Bool → A → ℕ) → List A → A → ℕ
named_row kind name_of row_of before a = row 5 (one_too_many kind (length before)) (row_of (seen_before (map name_of before) (name_of a)) a)

-- a circulation behind others: row 5, then its own
abbrev pub circulation_behind : List Circulation → Circulation → ℕ
circulation_behind before c = row 5 (one_too_many 8 (length before)) (circulation_row c)

-- The first faulty record refuses, by the first row that fits it; then come the rows at the sheet's end. A sheet's one head has no other before it
unfoldable pub content_row : Content → ℕ
content_row c =
    in_turn (λ before h. head_row h) [] c.heads
    (in_turn (named_row 2 (λ (z : Zone). z.name) zone_row) [] c.zones
    (in_turn (named_row 3 (λ (u : Unit). u.name) (unit_row (length c.zones))) [] c.units
    (in_turn (named_row 4 (λ (p : Point). p.name) (point_row (length c.zones))) [] c.points
    (in_turn (named_row 5 (λ (p : Par). p.name) par_row) [] c.pars
    (in_turn (λ before f. factor_row (due c) (length before) f) [] c.factors
    (in_turn (named_row 7 (λ (p : Path). p.name) path_row) [] c.paths
    (in_turn circulation_behind [] c.circulations
    (last_row c))))))))
