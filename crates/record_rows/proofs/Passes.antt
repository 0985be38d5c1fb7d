-- What follows for a record's fields where none of its rows fits.
use Prim.Native.Nat.{ℕ, ◌≤◌, ◌<◌}
use mathlib.Core.Path.{◌≡◌, refl}
use mathlib.Core.Bool.{Bool, true, false, not, ◌||◌}
use mathlib.Core.List.{List}
use native.Mathlib.Omega.{arith}
use lib.Dec.{eqb, leb, ltb}
use lib.IntN.{nat_abs}
use lib.ListN.{length, get_or}
use borrow.Author.Tests.{ltb-false, leb-false, eqb-true, not-false}
use Rattle.rows.specs.Rows.{row, outside, beyond}
use Rattle.rows.proofs.NotMet.{row_pass, neither, within}
use Rattle.names.specs.Names.{name_ok, bad_name}
use Rattle.due_factors.specs.declared.Due.{Due}
use Rattle.due_factors.specs.Due.{no_due}
use Rattle.records.specs.declared.Head.{Head}
use Rattle.records.specs.declared.Zone.{Zone}
use Rattle.records.specs.declared.Unit.{Unit}
use Rattle.records.specs.declared.Place.{Place}
use Rattle.records.specs.declared.Place.TheVariants.{Proxy, Line}
use Rattle.records.specs.declared.Point.{Point}
use Rattle.records.specs.declared.Par.{Par}
use Rattle.records.specs.declared.Factor.{Factor}
use Rattle.records.specs.declared.Path.{Path}
use Rattle.records.specs.declared.Circulation.{Circulation}
use Rattle.records.specs.Content.{bears}
use Rattle.field_rows.specs.FieldRows.{no_rto, no_type, no_zone_of, place_unknown, head_outside, zone_outside, unit_outside, point_outside, par_outside, factor_outside, path_outside, circulation_outside, path_factor_outside}
use Rattle.record_rows.specs.inner.Valid.{HeadFits, ZoneFits, UnitFits, LineFits, PointFits, ParFits, PathFits, CirculationFits}
use Rattle.record_rows.specs.Rows.{not_due, head_row, zone_row, unit_row, point_row, par_row, factor_row, path_row, circulation_row}

-- one of two codes
listed : (x a b low high : ℕ) → not (eqb x a || eqb x b) ≡ false → low ≤ a → a ≤ high → low ≤ b → b ≤ high → (low ≤ x) × (x ≤ high)
listed x a b low high e = by-test (eqb x a) refl
  where
    by-test : (t : Bool) → eqb x a ≡ t → low ≤ a → a ≤ high → low ≤ b → b ≤ high → (low ≤ x) × (x ≤ high)
    by-test true q g h g' h' = let z : x ≡ a = eqb-true x a q in (omega arith, omega arith)
    by-test false q g h g' h' = let z : x ≡ b = eqb-true x b (rw q at (not-false (eqb x a || eqb x b) e)) in (omega arith, omega arith)

-- a record with a name, for which `repeated` is row 7, and what its fields fit
pub record Passes (name : List ℕ) (repeated : Bool) (Fits : Type 0) : Type 0 where
  pub well : name_ok name ≡ true
  pub new : repeated ≡ false
  pub fits : Fits

named : {Fits : Type 0} (name : List ℕ) (repeated : Bool) (below : ℕ) → row 6 (bad_name name) (row 7 repeated below) ≡ 0 → (below ≡ 0 → Fits) → Passes name repeated Fits
named name r below e f =
    let a = row_pass 5 (bad_name name) _ e in
    let b = row_pass 6 r below a.1 in
    record { well = not-false _ a.0; new = b.0; fits = f b.1 }

pub head_pass : (h : Head) → head_row h ≡ 0 → Passes h.name false (HeadFits h)
unfolding head_row
head_pass h e =
    named h.name false _ e
    (λ e.
    let a = row_pass 7 (no_rto h.monitoring_rto) _ e in
    let b = row_pass 8 (head_outside h) 0 a.1 in
    let r = listed h.monitoring_rto 1 2 1 2 a.0 (omega arith) (omega arith) (omega arith) (omega arith) in
    let x = neither (outside 1 h.seconds 900) _ b.0 in
    let s = within 1 h.seconds 900 x.0 in
    let p = neither (ltb 400000 h.monitoring_price) (ltb 400000 h.nonmonitoring_price) x.1 in
    record {
      rto_least = r.0;
      rto_most = r.1;
      seconds_least = s.0;
      seconds_most = s.1;
      monitoring_price = ltb-false _ _ p.0;
      nonmonitoring_price = ltb-false _ _ p.1;
    })

pub zone_pass : (repeated : Bool) (z : Zone) → zone_row repeated z ≡ 0 → Passes z.name repeated (ZoneFits z)
unfolding zone_row
zone_pass r z e =
    named z.name r _ e
    (λ e.
    let a = row_pass 8 (zone_outside z) 0 e in
    let x = neither (ltb 2000000 z.load) (ltb 2000000 z.losses) a.0 in
    record { load = ltb-false _ _ x.0; losses = ltb-false _ _ x.1 })

pub unit_pass : (zones : ℕ) (repeated : Bool) (u : Unit) → unit_row zones repeated u ≡ 0 → Passes u.name repeated (UnitFits zones u)
unfolding unit_row
unit_pass zones r u e =
    named u.name r _ e
    (λ e.
    let a = row_pass 7 (no_zone_of zones u.zone) _ e in
    let b = row_pass 8 (unit_outside u) 0 a.1 in
    let z = within 1 u.zone zones a.0 in
    record { zone_least = z.0; zone_most = z.1; output = ltb-false _ _ b.0 })

place_known : (zones : ℕ) (p : Place) → place_unknown zones p ≡ false → (n : ℕ) → p ≡ Line n → LineFits zones n
place_known zones Proxy e n q = let z : ◌≡◌ {A = ℕ} 0 1 = cc in absurd (omega arith)
place_known zones (Line m) e n q =
    let m-is : m ≡ n = cc in
    let z = within 1 m zones e in
    rw (← m-is) (record { least = z.0; most = z.1 })

pub point_pass : (zones : ℕ) (repeated : Bool) (p : Point) → point_row zones repeated p ≡ 0 → Passes p.name repeated (PointFits zones p)
unfolding point_row
point_pass zones r p e =
    named p.name r _ e
    (λ e.
    let a = row_pass 7 (no_type p.sort || place_unknown zones p.place) _ e in
    let b = row_pass 8 (point_outside p) 0 a.1 in
    let x = neither (no_type p.sort) (place_unknown zones p.place) a.0 in
    let s = listed p.sort 1 2 1 2 x.0 (omega arith) (omega arith) (omega arith) (omega arith) in
    let y = neither (ltb 200000 p.import) _ b.0 in
    let z = neither (ltb 200000 p.export) _ y.1 in
    let w = neither (ltb 200000 p.wheel_in) (ltb 200000 p.wheel_out) z.1 in
    record {
      sort_least = s.0;
      sort_most = s.1;
      place = place_known zones p.place x.1;
      import = ltb-false _ _ y.0;
      export = ltb-false _ _ z.0;
      wheel_in = ltb-false _ _ w.0;
      wheel_out = ltb-false _ _ w.1;
    })

pub par_pass : (repeated : Bool) (p : Par) → par_row repeated p ≡ 0 → Passes p.name repeated (ParFits p)
unfolding par_row
par_pass r p e =
    named p.name r _ e
    (λ e.
    let a = row_pass 7 (no_type p.class) _ e in
    let b = row_pass 8 (par_outside p) 0 a.1 in
    let k = listed p.class 1 2 1 2 a.0 (omega arith) (omega arith) (omega arith) (omega arith) in
    let x = neither (beyond 200000 p.actual) (beyond 200000 p.target) b.0 in
    record { class_least = k.0; class_most = k.1; actual = ltb-false _ _ x.0; target = ltb-false _ _ x.1 })

pub path_pass : (repeated : Bool) (p : Path) → path_row repeated p ≡ 0 → Passes p.name repeated (PathFits p)
unfolding path_row
path_pass r p e =
    named p.name r _ e
    (λ e.
    let a = row_pass 8 (path_outside p) _ e in
    let b = row_pass 10 (path_factor_outside p) 0 a.1 in
    record { flow = ltb-false _ _ a.0; factor = ltb-false _ _ b.0 })

pub circulation_pass : (c : Circulation) → circulation_row c ≡ 0 → CirculationFits c
unfolding circulation_row
circulation_pass c e = record { flow = ltb-false _ _ (row_pass 8 (circulation_outside c) 0 e).0 }

-- a factor is the one due where n are there already
pub record FactorFits (due : List Due) (n : ℕ) (f : Factor) : Type 0 where
  pub some : n < length due
  pub bears : bears f (get_or due n no_due).target (get_or due n no_due).subject (get_or due n no_due).index ≡ true
  pub factor : nat_abs f.factor ≤ 10000

pub factor_pass : (due : List Due) (n : ℕ) (f : Factor) → factor_row due n f ≡ 0 → FactorFits due n f
unfolding factor_row
factor_pass due n f e =
    let a = row_pass 9 (not_due due n f) _ e in
    let b = row_pass 10 (factor_outside f) 0 a.1 in
    let x = neither (leb (length due) n) _ a.0 in
    record { some = leb-false _ _ x.0; bears = not-false _ x.1; factor = ltb-false _ _ b.0 }
