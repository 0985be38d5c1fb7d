-- A scheduled line into zone 0 is told to the reader as one into a zone that no sheet has: by row 8 they are the same.
use Prim.Native.Nat.{ℕ, ◌≤◌}
use mathlib.Core.Path.{◌≡◌, refl, ap, ap₂}
use mathlib.Core.Bool.{Bool, true, false, cond}
use mathlib.Core.List.{List, [], ◌∷◌, map, map-map}
use native.Mathlib.Omega.{arith}
use lib.Dec.{eqb}
use lib.ListN.{length, length-map}
use borrow.Author.Tests.{eqb-true, lt-ltb, ne_eqb}
use Rattle.names.specs.Names.{seen_before}
use Rattle.records.specs.declared.Place.{Place}
use Rattle.records.specs.declared.Place.TheVariants.{Proxy, Line}
use Rattle.records.specs.declared.Point.{Point}
use Rattle.records.specs.Content.{Content}
use Rattle.records.specs.inner.Places.{at_place}
use Rattle.field_rows.specs.FieldRows.{no_zone_of, place_unknown}
use Rattle.record_rows.specs.Rows.{one_too_many, point_row, last_row}
use Rattle.record_rows.specs.inner.Valid.{LineFits}
use Rattle.record_rows.proofs.Passes.{point_pass}
use Rattle.rows.proofs.NotMet.{row_pass}
use Rattle.sheet_bytes.specs.ContentRow.{named_row, content_row}
use Rattle.sheet_bytes.specs.inner.Returns.{Each}
use Rattle.sheet_bytes.proofs.Turns.{turn_pass, turn_map}
use Rattle.sheet_bytes.specs.inner.Marked.{nowhere, marked_place, marked_point, marked}

place_same : (zones : ℕ) (p : Place) → zones ≤ 33 → place_unknown zones (marked_place p) ≡ place_unknown zones p
place_same zones Proxy h = refl
place_same zones (Line n) h = pick (eqb n 0) refl
  where
    pick : (b : Bool) → eqb n 0 ≡ b → no_zone_of zones (cond b nowhere n) ≡ no_zone_of zones n
    pick true e = rw (eqb-true n 0 e, lt-ltb zones nowhere (omega arith)) refl
    pick false e = refl

point_same : (zones : ℕ) (repeated : Bool) (p : Point) → zones ≤ 33 → point_row zones repeated (marked_point p) ≡ point_row zones repeated p
unfolding point_row
point_same zones repeated p h = rw (place_same zones p.place h) refl

named_same : (zones : ℕ) → zones ≤ 33 → (before : List Point) (p : Point) →
    named_row 4 (λ (p : Point). p.name) (point_row zones) (map marked_point before) (marked_point p) ≡ named_row 4 (λ (p : Point). p.name) (point_row zones) before p
named_same zones h before p =
    rw (length-map before marked_point, map-map (λ (p : Point). p.name) marked_point before, point_same zones _ p h) refl

pub same_row : (c : Content) → length c.zones ≤ 33 → content_row (marked c) ≡ content_row c
unfolding content_row last_row
same_row c h =
    rw (turn_map marked_point (named_row 4 (λ (p : Point). p.name) (point_row (length c.zones))) (named_row 4 (λ (p : Point). p.name) (point_row (length c.zones))) (named_same (length c.zones) h) c.points [] _, length-map c.points marked_point) refl

-- ---- where no row fits no line goes into zone 0
unmarked_place : (zones : ℕ) (p : Place) → ((n : ℕ) → p ≡ Line n → LineFits zones n) → marked_place p ≡ p
unmarked_place zones Proxy f = refl
unmarked_place zones (Line n) f = rw (ne_eqb n 0 (λ z. omega (arith, (f n refl).least))) refl

unmarked_point : (zones : ℕ) (before : List Point) (p : Point) → named_row 4 (λ (p : Point). p.name) (point_row zones) before p ≡ 0 → marked_point p ≡ p
unmarked_point zones before p e =
    let repeated = seen_before (map (λ (p : Point). p.name) before) p.name in
    let f = (point_pass zones repeated p (row_pass 4 (one_too_many 4 (length before)) (point_row zones repeated p) e).1).fits in
    ap (at_place p) (unmarked_place zones p.place f.place)

unmarked_points : (zones : ℕ) (l : List Point) → Each (λ (p : Point). (b : List Point) × (named_row 4 (λ (p : Point). p.name) (point_row zones) b p ≡ 0)) l → map marked_point l ≡ l
unmarked_points zones [] h = refl
unmarked_points zones (p ∷ l) h = ap₂ (λ (q : Point) (m : List Point). q ∷ m) (unmarked_point zones h.0.0 p h.0.1) (unmarked_points zones l h.1)

pub unmarked : (c : Content) → content_row c ≡ 0 → marked c ≡ c
unfolding content_row
unmarked c e =
    let heads = (turn_pass _ c.heads [] _ e).1 in
    let zones = (turn_pass _ c.zones [] _ heads).1 in
    let units = (turn_pass _ c.units [] _ zones).1 in
    let points = (turn_pass _ c.points [] _ units).0 in
    ap (λ (l : List Point). record { heads = c.heads; zones = c.zones; units = c.units; points = l; pars = c.pars; factors = c.factors; paths = c.paths; circulations = c.circulations }) (unmarked_points (length c.zones) c.points points)
