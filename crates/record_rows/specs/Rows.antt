-- Rows 1 to 13 and 28, in the table's order (document 01, 'Where each refusal is checked'; document 02, request 6). Below, c is the content of the records before the one in question.
use Rattle.std.specs.Prelude.{ℕ, Bool, not, ◌&&◌, ◌||◌, List, [], ◌∷◌, eqb, leb, ltb, length, get_or}
use Rattle.rows.specs.Rows.{row, outside, cut_short}
use Rattle.names.specs.Names.{bad_name, seen_before, name_at}
use Rattle.records.specs.declared.Head.{Head}
use Rattle.records.specs.declared.Zone.{Zone}
use Rattle.records.specs.declared.Unit.{Unit}
use Rattle.records.specs.declared.Point.{Point}
use Rattle.records.specs.declared.Par.{Par}
use Rattle.records.specs.declared.Factor.{Factor}
use Rattle.records.specs.declared.Path.{Path}
use Rattle.records.specs.declared.Circulation.{Circulation}
use Rattle.record_table.specs.Table.{by_kind, kind_of, last_kind, body_length, body_in}
use Rattle.records.specs.Bodies.{head_of, zone_of, unit_of, point_of, par_of, factor_of, path_of, circulation_of}
use Rattle.records.specs.Content.{Content, count_of, names_of, bears}
use Rattle.due_factors.specs.declared.Counts.{Counts}
use Rattle.due_factors.specs.declared.Due.{Due}
use Rattle.due_factors.specs.Due.{counts_of, due_list, due, no_due}
use Rattle.field_rows.specs.FieldRows.{no_rto, no_type, no_zone_of, place_unknown, head_outside, zone_outside, unit_outside, point_outside, par_outside, factor_outside, path_outside, circulation_outside, path_factor_outside}

-- row 1: sheet empty, or first byte not 1
unfoldable pub first_row : List ℕ → ℕ
first_row [] = 1
first_row (kind ∷ r) = row 1 (not (eqb kind 1)) 0

-- row 2: kind not 1..8
abbrev pub unknown_kind : ℕ → Bool
unknown_kind kind = outside 1 kind last_kind

-- row 4: kind below the one before, which is `last` (0 before the first), or a second head. `earlier` of the kind stand before
abbrev pub out_of_order : ℕ → ℕ → ℕ → Bool
out_of_order last kind earlier = ltb kind last || (eqb kind 1 && leb 1 earlier)

-- row 5: one more of kinds 2 to 5, or of 7 or 8, than allowed
abbrev pub one_too_many : ℕ → ℕ → Bool
one_too_many kind earlier = (not (outside 2 kind 5) || not (outside 7 kind 8)) && leb (kind_of kind).most earlier

-- rows 2 to 5, where `left` bytes follow the kind byte, then those of the body
unfoldable pub front_row : ℕ → ℕ → ℕ → ℕ → ℕ → ℕ
front_row last kind earlier left below =
    row 2 (unknown_kind kind)
    (row 3 (cut_short (body_length kind) left)
    (row 4 (out_of_order last kind earlier)
    (row 5 (one_too_many kind earlier) below)))

-- row 7: same name earlier in the same kind. A name stands first in its body
abbrev pub repeats : Content → ℕ → List ℕ → Bool
repeats c kind b = seen_before (names_of c kind) (name_at b 0)

-- row 10: target, subject, index not the ones due, or none due. `due` lists what is due, of which `earlier` are there already
abbrev pub not_due : List Due → ℕ → Factor → Bool
not_due due earlier f =
    leb (length due) earlier || not (bears f (get_or due earlier no_due).target (get_or due earlier no_due).subject (get_or due earlier no_due).index)

-- A record's rows by its fields. `repeated` is row 7; a sheet's one head has no other before it
unfoldable pub head_row : Head → ℕ
head_row h = row 6 (bad_name h.name) (row 8 (no_rto h.monitoring_rto) (row 9 (head_outside h) 0))

unfoldable pub zone_row : Bool → Zone → ℕ
zone_row repeated z = row 6 (bad_name z.name) (row 7 repeated (row 9 (zone_outside z) 0))

unfoldable pub unit_row : ℕ → Bool → Unit → ℕ
unit_row zones repeated u = row 6 (bad_name u.name) (row 7 repeated (row 8 (no_zone_of zones u.zone) (row 9 (unit_outside u) 0)))

unfoldable pub point_row : ℕ → Bool → Point → ℕ
point_row zones repeated p =
    row 6 (bad_name p.name) (row 7 repeated (row 8 (no_type p.sort || place_unknown zones p.place) (row 9 (point_outside p) 0)))

unfoldable pub par_row : Bool → Par → ℕ
par_row repeated p = row 6 (bad_name p.name) (row 7 repeated (row 8 (no_type p.class) (row 9 (par_outside p) 0)))

unfoldable pub factor_row : List Due → ℕ → Factor → ℕ
factor_row due earlier f = row 10 (not_due due earlier f) (row 11 (factor_outside f) 0)

-- a path's flow is row 9, its factor row 11
unfoldable pub path_row : Bool → Path → ℕ
path_row repeated p = row 6 (bad_name p.name) (row 7 repeated (row 9 (path_outside p) (row 11 (path_factor_outside p) 0)))

unfoldable pub circulation_row : Circulation → ℕ
circulation_row c = row 9 (circulation_outside c) 0

-- rows 6 to 11 of the body b, by the kind
unfoldable pub body_row : Content → ℕ → Bool → List ℕ → ℕ
body_row c kind repeated b =
    by_kind kind 0
    (head_row (head_of b)
    ∷ zone_row repeated (zone_of b)
    ∷ unit_row (length c.zones) repeated (unit_of b)
    ∷ point_row (length c.zones) repeated (point_of b)
    ∷ par_row repeated (par_of b)
    ∷ factor_row (due c) (length c.factors) (factor_of b)
    ∷ path_row repeated (path_of b)
    ∷ circulation_row (circulation_of b)
    ∷ [])

-- the first of rows 2 to 11 that fits the record of a kind with the bytes r behind its kind byte, or 0
unfoldable pub record_row : Content → ℕ → ℕ → List ℕ → ℕ
record_row c last kind r =
    front_row last kind (count_of c kind) (length r) (body_row c kind (repeats c kind (body_in kind r)) (body_in kind r))

-- row 12: no zone, or no unit
abbrev pub no_zone_or_unit : Counts → Bool
no_zone_or_unit n = eqb n.zones 0 || eqb n.units 0

-- row 13: factors still due
abbrev pub still_due : Counts → ℕ → Bool
still_due n factors = ltb factors (length (due_list n))

-- row 28: kind 7 or 8 present, but fewer than four paths or no circulation
abbrev pub lake_in_part : ℕ → ℕ → Bool
lake_in_part paths circulations = (leb 1 paths || leb 1 circulations) && (ltb paths 4 || ltb circulations 1)

-- the sheet's end
unfoldable pub end_row : Counts → ℕ → ℕ → ℕ → ℕ
end_row n factors paths circulations = row 12 (no_zone_or_unit n) (row 13 (still_due n factors) (row 28 (lake_in_part paths circulations) 0))

unfoldable pub last_row : Content → ℕ
last_row c = end_row (counts_of c) (length c.factors) (length c.paths) (length c.circulations)
