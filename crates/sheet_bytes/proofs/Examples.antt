-- Worked rows of contents and bytes of records, computed: each of rows 5 to 13 and 28, which of two comes first, a line into zone 0.
use Prim.Native.Nat.{ℕ, ◌+◌}
use mathlib.Core.Path.{◌≡◌, refl}
use mathlib.Core.List.{List, [], ◌∷◌, ◌++◌, map}
use lib.IntN.{ℤ, pos, negsuc}
use lib.ListN.{replicate}
use Rattle.fields.specs.Lists.{tab}
use Rattle.names.specs.Names.{zeros, filled, name_ok, same_list, seen_before}
use Rattle.records.specs.declared.Head.{Head}
use Rattle.records.specs.declared.Zone.{Zone}
use Rattle.records.specs.declared.Unit.{Unit}
use Rattle.records.specs.declared.Place.{Place}
use Rattle.records.specs.declared.Place.TheVariants.{Proxy, Line}
use Rattle.records.specs.declared.Point.{Point}
use Rattle.records.specs.declared.Par.{Par}
use Rattle.records.specs.declared.Factor.{Factor}
use Rattle.records.specs.declared.Path.{Path}
use Rattle.records.specs.declared.Circulation.{Circulation}
use Rattle.records.specs.Content.{Content, bears}
use Rattle.due_factors.specs.Due.{each, flowgate, per_par, due_list}
use Rattle.record_rows.specs.Rows.{head_row, zone_row, unit_row, point_row, par_row, factor_row, path_row, circulation_row, end_row, last_row}
use Rattle.field_writers.specs.FieldBytes.{signed16, signed32}
use Rattle.sheet_bytes.specs.SheetBytes.{head_body, zone_body, unit_body, point_body, par_body, factor_body, path_body, circulation_body, all, sheet_bytes}
use Rattle.sheet_bytes.specs.ContentRow.{in_turn, content_row}

-- a name of one byte
abbrev named : ℕ → List ℕ
named n = n ∷ replicate 15 0

abbrev head : Head
head = record { name = named 70; monitoring_rto = 2; seconds = 300; monitoring_price = 5000; nonmonitoring_price = 2000 }

abbrev zone : ℕ → ℕ → Zone
zone name load = record { name = named name; load = load; losses = 0 }

abbrev unit : ℕ → ℕ → Unit
unit name zone = record { name = named name; zone = zone; output = 100 }

abbrev wheel : ℕ → Place → ℕ → ℕ → ℕ → Point
wheel name place import into out = record { name = named name; sort = 1; place = place; import = import; export = 0; wheel_in = into; wheel_out = out }

abbrev point : ℕ → Place → ℕ → Point
point name place import = wheel name place import 0 0

abbrev par : ℕ → ℕ → ℤ → Par
par name class actual = record { name = named name; class = class; actual = actual; target = pos 0 }

abbrev factor : ℕ → ℕ → ℕ → ℤ → Factor
factor target subject index x = record { target = target; subject = subject; index = index; factor = x }

abbrev path : ℕ → ℤ → ℤ → Path
path name flow factor = record { name = named name; flow = flow; factor = factor }

abbrev circulation : ℤ → Circulation
circulation flow = record { flow = flow }

abbrev content : List Zone → List Unit → List Point → List Par → List Factor → List Path → List Circulation → Content
content zones units points pars factors paths circulations =
    record { heads = head ∷ []; zones = zones; units = units; points = points; pars = pars; factors = factors; paths = paths; circulations = circulations }

-- one zone, one unit and their factors
abbrev both : List Factor
both = factor 0 1 1 (pos 1) ∷ factor 0 2 1 (negsuc 0) ∷ []

abbrev with_points : List Point → Content
with_points points = content (zone 90 100 ∷ []) (unit 85 1 ∷ []) points [] both [] []

abbrev with_zones : List Zone → Content
with_zones zones = content zones (unit 0 1 ∷ []) [] [] both [] []

abbrev with_pars : List Par → Content
with_pars pars = content (zone 90 100 ∷ []) (unit 85 1 ∷ []) [] pars both [] []

abbrev with_factors_lem : List Factor → Content
with_factors_lem factors = content (zone 90 100 ∷ []) (unit 85 1 ∷ []) [] [] factors [] []

abbrev with_lake : List Factor → List Path → List Circulation → Content
with_lake factors paths circulations = content (zone 90 100 ∷ []) (unit 85 1 ∷ []) [] [] factors paths circulations

-- three paths and a fourth, and a circulation, each at an end of its range
abbrev three : List Path
three = path 1 (pos 200000) (negsuc 9999) ∷ path 2 (negsuc 199999) (pos 10000) ∷ path 3 (pos 0) (pos 0) ∷ []

abbrev fourth : Path
fourth = path 4 (pos 1) (pos 1)

abbrev around : Circulation
around = circulation (negsuc 199999)

-- 32 zones, of 32 names
abbrev zones : List Zone
zones = tab (λ i. zone (i + 1) 100) 32

abbrev rows : List (ℕ × Content)
rows =
    (0, with_factors_lem both)
    -- a scheduled line into zone 0, also where its import is out of range; into a zone that is not there
    ∷ (8, with_points (point 80 (Line 0) 0 ∷ []))
    ∷ (8, with_points (point 80 (Line 0) 200001 ∷ []))
    ∷ (8, with_points (point 80 (Line 2) 0 ∷ []))
    -- points as they should be make factors due
    ∷ (13, with_points (point 80 (Line 1) 200000 ∷ point 81 Proxy 0 ∷ []))
    ∷ (9, with_points (point 80 Proxy 200001 ∷ []))
    -- wheels in their range, and each by itself out of it
    ∷ (13, with_points (wheel 80 Proxy 0 200000 200000 ∷ []))
    ∷ (9, with_points (wheel 80 Proxy 0 200001 0 ∷ []))
    ∷ (9, with_points (wheel 80 Proxy 0 0 200001 ∷ []))
    ∷ (8, with_points (wheel 80 (Line 0) 0 0 200001 ∷ []))
    ∷ (7, with_points (point 80 Proxy 0 ∷ point 80 (Line 0) 0 ∷ []))
    -- an earlier record wins, then the lower row: the unit's name is bad
    ∷ (6, with_zones (zone 90 100 ∷ []))
    ∷ (9, with_zones (zone 90 2000001 ∷ []))
    ∷ (7, with_zones (zone 90 100 ∷ zone 90 2000001 ∷ []))
    ∷ (8, with_pars (par 80 3 (pos 0) ∷ []))
    ∷ (9, with_pars (par 80 2 (negsuc 200000) ∷ []))
    -- factors: not the one due, one too many, out of range, still due
    ∷ (10, with_factors_lem (factor 0 2 1 (pos 0) ∷ []))
    ∷ (10, with_factors_lem (factor 0 1 1 (pos 1) ∷ factor 0 2 1 (pos 1) ∷ factor 0 2 2 (pos 1) ∷ []))
    ∷ (11, with_factors_lem (factor 0 1 1 (negsuc 10000) ∷ []))
    ∷ (13, with_factors_lem (factor 0 1 1 (negsuc 9999) ∷ []))
    ∷ (12, content (zone 90 100 ∷ []) [] [] [] [] [] [])
    -- four paths and a circulation; fewer paths or no circulation, which rows 12 and 13 precede
    ∷ (0, with_lake both (three ++ (fourth ∷ [])) (around ∷ []))
    ∷ (28, with_lake both three (around ∷ []))
    ∷ (28, with_lake both (three ++ (fourth ∷ [])) [])
    ∷ (28, with_lake both [] (around ∷ []))
    ∷ (13, with_lake [] three [])
    ∷ (12, content (zone 90 100 ∷ []) [] [] [] [] three [])
    -- a path's name, flow and factor; a fifth path; a factor before it wins
    ∷ (6, with_lake both (path 0 (pos 200001) (pos 0) ∷ []) [])
    ∷ (7, with_lake both (three ++ (path 3 (pos 200001) (pos 0) ∷ [])) [])
    ∷ (9, with_lake both (path 1 (negsuc 200000) (pos 10001) ∷ []) [])
    ∷ (11, with_lake both (path 1 (pos 200000) (pos 10001) ∷ []) [])
    ∷ (5, with_lake both (three ++ (fourth ∷ path 0 (pos 0) (pos 0) ∷ [])) (around ∷ []))
    ∷ (11, with_lake (factor 0 1 1 (pos 10001) ∷ []) (path 0 (pos 0) (pos 0) ∷ []) [])
    -- the circulation: out of range; a second one
    ∷ (9, with_lake both three (circulation (pos 200001) ∷ []))
    ∷ (5, with_lake both (three ++ (fourth ∷ [])) (around ∷ circulation (pos 200001) ∷ []))
    ∷ []

pub computed_rows : map (λ (r : ℕ × Content). (content_row r.1, r.1)) rows ≡ rows
unfolding content_row in_turn head_row zone_row unit_row point_row par_row factor_row path_row circulation_row last_row end_row
    zeros filled name_ok same_list seen_before bears each flowgate per_par due_list tab
computed_rows = refl

-- a 33rd zone is row 5 before its name is looked at, and behind 32 that pass
pub computed_surplus : content_row (with_zones (zones ++ (zone 0 100 ∷ []))) ≡ 5
unfolding content_row in_turn head_row zone_row zeros filled name_ok same_list seen_before tab
computed_surplus = refl

-- import, export, wheel in, wheel out in their order, the place's byte; signs
pub computed_bodies :
    (point_body (record { name = named 80; sort = 2; place = Line 7; import = 258; export = 67305985; wheel_in = 1; wheel_out = 16909060 }) ≡ 80 ∷ 0 ∷ 0 ∷ 0 ∷ 0 ∷ 0 ∷ 0 ∷ 0 ∷ 0 ∷ 0 ∷ 0 ∷ 0 ∷ 0 ∷ 0 ∷ 0 ∷ 0 ∷ 2 ∷ 7 ∷ 0 ∷ 0 ∷ 1 ∷ 2 ∷ 4 ∷ 3 ∷ 2 ∷ 1 ∷ 0 ∷ 0 ∷ 0 ∷ 1 ∷ 1 ∷ 2 ∷ 3 ∷ 4 ∷ [])
    × (par_body (par 80 1 (negsuc 0)) ≡ 80 ∷ 0 ∷ 0 ∷ 0 ∷ 0 ∷ 0 ∷ 0 ∷ 0 ∷ 0 ∷ 0 ∷ 0 ∷ 0 ∷ 0 ∷ 0 ∷ 0 ∷ 0 ∷ 1 ∷ 255 ∷ 255 ∷ 255 ∷ 255 ∷ 0 ∷ 0 ∷ 0 ∷ 0 ∷ [])
    × (factor_body (factor 3 1 256 (negsuc 9999)) ≡ 3 ∷ 1 ∷ 1 ∷ 0 ∷ 216 ∷ 240 ∷ [])
    × (path_body (path 80 (negsuc 1) (pos 258)) ≡ 80 ∷ 0 ∷ 0 ∷ 0 ∷ 0 ∷ 0 ∷ 0 ∷ 0 ∷ 0 ∷ 0 ∷ 0 ∷ 0 ∷ 0 ∷ 0 ∷ 0 ∷ 0 ∷ 255 ∷ 255 ∷ 255 ∷ 254 ∷ 1 ∷ 2 ∷ [])
    × (circulation_body (circulation (pos 16909060)) ≡ 1 ∷ 2 ∷ 3 ∷ 4 ∷ [])
unfolding point_body par_body factor_body path_body circulation_body signed16 signed32
computed_bodies = (refl, refl, refl, refl, refl)

-- a sheet with a record of each kind
pub computed_sheet : sheet_bytes (content (zone 90 100 ∷ []) (unit 85 1 ∷ []) (wheel 80 Proxy 600 7 256 ∷ []) (par 82 2 (pos 1) ∷ []) (factor 0 1 1 (negsuc 0) ∷ []) (path 76 (pos 3) (negsuc 0) ∷ []) (circulation (negsuc 0) ∷ []))
    ≡ (1 ∷ named 70) ++ (2 ∷ 1 ∷ 44 ∷ 0 ∷ 0 ∷ 19 ∷ 136 ∷ 0 ∷ 0 ∷ 7 ∷ 208 ∷ [])
    ++ (2 ∷ named 90) ++ (0 ∷ 0 ∷ 0 ∷ 100 ∷ 0 ∷ 0 ∷ 0 ∷ 0 ∷ [])
    ++ (3 ∷ named 85) ++ (1 ∷ 0 ∷ 0 ∷ 0 ∷ 100 ∷ [])
    ++ (4 ∷ named 80) ++ (1 ∷ 0 ∷ 0 ∷ 0 ∷ 2 ∷ 88 ∷ 0 ∷ 0 ∷ 0 ∷ 0 ∷ 0 ∷ 0 ∷ 0 ∷ 7 ∷ 0 ∷ 0 ∷ 1 ∷ 0 ∷ [])
    ++ (5 ∷ named 82) ++ (2 ∷ 0 ∷ 0 ∷ 0 ∷ 1 ∷ 0 ∷ 0 ∷ 0 ∷ 0 ∷ [])
    ++ (6 ∷ 0 ∷ 1 ∷ 0 ∷ 1 ∷ 255 ∷ 255 ∷ [])
    ++ (7 ∷ named 76) ++ (0 ∷ 0 ∷ 0 ∷ 3 ∷ 255 ∷ 255 ∷ [])
    ++ (8 ∷ 255 ∷ 255 ∷ 255 ∷ 255 ∷ [])
unfolding sheet_bytes all head_body zone_body unit_body point_body par_body factor_body path_body circulation_body signed16 signed32
computed_sheet = refl
