-- What an accepted sheet is: its content stands at the layout's places, and rows 1 to 13 and 28 leave of it what they should.
use Prim.Native.Nat.{ℕ, ◌+◌, ◌-◌, ◌≤◌, ◌<◌}
use mathlib.Core.Path.{◌≡◌, refl, sym, ◌∙◌}
use mathlib.Core.Bool.{Bool, true, false, not, ◌&&◌, ◌||◌}
use mathlib.Core.List.{List, [], ◌∷◌}
use mathlib.Core.Logic.{◌⊎◌, inl, inr, ⊎_elim}
use native.Mathlib.Omega.{arith}
use lib.Dec.{eqb, leb, ltb}
use lib.IntN.{nat_abs}
use lib.ListN.{length, drop, get_or, length-append}
use lib.Seq.{length-take-le}
use borrow.Author.Tests.{ltb-false, leb-false, eqb-true, eqb-false, eq-eqb, not-false}
use Rattle.fields.specs.Fields.{byte_at}
use Rattle.integers.proofs.Cases.{below_or}
use Rattle.fields.proofs.Lists.{get_or_tab}
use Rattle.rows.proofs.NotMet.{row_pass, neither}
use Rattle.record_table.specs.Table.{body_in}
use Rattle.records.specs.Bodies.{head_of, zone_of, unit_of, point_of, par_of, factor_of, path_of, circulation_of}
use Rattle.records.specs.Content.{Content, only_if, with_record, no_head, no_zone, no_unit, no_point, no_par, no_factor, no_path, no_circulation, head, zone, unit, point, par, path, circulation, factor_for}
use Rattle.due_factors.specs.Due.{no_due, key, Asked}
use Rattle.due_factors.proofs.Keys.{place_at, asked_stands}
use Rattle.record_rows.specs.inner.Valid.{Lake, Valid}
use Rattle.record_rows.specs.inner.Valid as lakes
use Rattle.record_rows.proofs.Passes.{FactorFits}
use Rattle.record_rows.specs.Rows.{first_row, no_zone_or_unit, still_due, lake_in_part, end_row, last_row}
use Rattle.layout.specs.declared.Layout.{Layout}
use Rattle.layout.specs.inner.Places.{counts_in, extent, Allowed, body_at, content_at, due_of}
use Rattle.layout.specs.Layout.{layout_of}
use Rattle.sheet.specs.Sheet.{Accepted}
use Rattle.sheet.specs.Sheet.{read_sheet, content_of}
use Rattle.sheet.specs.Passed.{Passed, none, more}
use Rattle.sheet.proofs.Passing.{passed_laid, passed_placed, passed_allowed}
use Rattle.sheet.proofs.Answers.{kept}
use Rattle.sheet.proofs.RecordsFine.{passed_head, passed_zone, passed_unit, passed_point, passed_par, passed_factor, passed_path, passed_circulation}
use Rattle.sheet.proofs.Factors.{factor_for_lem}

-- the head
first_is_head : (s : List ℕ) → first_row s ≡ 0 → (0 < length s) × (byte_at s 0 ≡ 1)
unfolding first_row
first_is_head [] e = absurd (omega arith)
first_is_head (k ∷ r) e = (omega arith, eqb-true _ _ (not-false _ (row_pass 0 (not (eqb k 1)) 0 e).0))

head_there : {s : List ℕ} {at last : ℕ} {c : Content} → byte_at s 0 ≡ 1 → Passed s at last c → (at ≡ 0) ⊎ (1 ≤ length c.heads)
unfolding with_record
head_there z none = inl refl
head_there {s} z (more {at} {last} {c} p h e) =
    inr (⊎_elim
    (λ (q : at ≡ 0). let k : byte_at s at ≡ 1 = rw q z in rw (eq-eqb (byte_at s at) 1 k, length-append c.heads (head_of (body_in (byte_at s at) (drop (at + 1) s)) ∷ [])) (omega arith))
    (λ (q : 1 ≤ length c.heads). rw (length-append c.heads (only_if (eqb (byte_at s at) 1) (head_of (body_in (byte_at s at) (drop (at + 1) s))))) (omega arith))
    (head_there z p))

-- the layout's numbers are the lists' lengths
pub record Counts (l : Layout) (c : Content) : Type 0 where
  pub heads : l.heads ≡ length c.heads
  pub zones : l.zones ≡ length c.zones
  pub units : l.units ≡ length c.units
  pub points : l.points ≡ length c.points
  pub pars : l.pars ≡ length c.pars
  pub factors : l.factors ≡ length c.factors
  pub paths : l.paths ≡ length c.paths
  pub circulations : l.circulations ≡ length c.circulations

module _ (s : List ℕ) (l : Layout) (e : read_sheet s ≡ Accepted l) where
  pub passed : Passed s (length s) (kept s l e).accepts.last (content_of s)
  passed = (kept s l e).accepts.passed

  pub counts : Counts l (content_of s)
  unfolding layout_of
  counts = rw (← (kept s l e).layout) (record { heads = refl; zones = refl; units = refl; points = refl; pars = refl; factors = refl; paths = refl; circulations = refl })

  pub content_is : content_of s ≡ content_at s l
  content_is = rw (kept s l e).layout at (passed_placed s passed)

  pub extent_is : extent l ≡ length s
  extent_is = rw (kept s l e).layout at (passed_laid s passed).here

  pub allowed : Allowed l
  allowed = rw (kept s l e).layout at (passed_allowed s passed)

  pub one_head : length (content_of s).heads ≡ 1
  one_head =
      let f = first_is_head s (kept s l e).first in
      let n = counts.heads in
      let a = allowed.heads in
      ⊎_elim (λ q. absurd (omega (arith, f.0))) (λ q. omega arith) (head_there f.1 passed)

  last_passes :
      let m = layout_of (content_of s) in
      end_row (counts_in m) m.factors m.paths m.circulations ≡ 0
  unfolding layout_of last_row
  last_passes = (kept s l e).accepts.end

  ended : (no_zone_or_unit (counts_in l) ≡ false) × (still_due (counts_in l) l.factors ≡ false) × (lake_in_part l.paths l.circulations ≡ false)
  unfolding end_row
  ended =
      let a = row_pass 11 (no_zone_or_unit (counts_in l)) _ (rw (kept s l e).layout at last_passes) in
      let b = row_pass 12 (still_due (counts_in l) l.factors) _ a.1 in
      (a.0, b.0, (row_pass 27 (lake_in_part l.paths l.circulations) 0 b.1).0)

  factor_fine : (i : ℕ) → i < length (content_of s).factors → FactorFits (due_of l) i (get_or (content_of s).factors i no_factor)
  factor_fine i h = rw ((kept s l e).layout, length-take-le i (content_of s).factors (omega arith)) at (passed_factor passed i h)

  pub all_due : l.factors ≡ length (due_of l)
  all_due =
      let d = ltb-false l.factors (length (due_of l)) ended.1 in
      let n = counts.factors in
      below_or 0 l.factors (λ a. omega (arith, (factor_fine (l.factors - 1) (omega arith)).some)) (λ a. omega arith)

  due_number : length (content_of s).factors ≡ length (due_of l)
  due_number = sym counts.factors ∙ all_due

  -- where a factor that is due stands
  pub factor_is : (target subject i n : ℕ) → n < length (due_of l) → get_or (due_of l) n no_due ≡ key target subject i →
      factor_for (content_of s).factors target subject (i + 1) ≡ (get_or (content_of s).factors n no_factor).factor
  factor_is = factor_for_lem (counts_in l) (content_of s).factors due_number factor_fine

  factor_within : (target subject i : ℕ) → Asked l.zones l.units l.points l.pars target subject i → nat_abs (factor_for (content_of s).factors target subject (i + 1)) ≤ 10000
  factor_within t j i a =
      let d = asked_stands (counts_in l) t j i a in
      rw (factor_is t j i (place_at (counts_in l) t j i) d.0 d.1) (factor_fine (place_at (counts_in l) t j i) (omega (arith, due_number, d.0))).factor

  lake : Lake l.paths l.circulations
  lake = by-test (leb 1 l.paths) (leb 1 l.circulations) refl refl ended.2
    where
      full : (ltb l.paths 4 || ltb l.circulations 1) ≡ false → Lake l.paths l.circulations
      full e =
          let x = neither (ltb l.paths 4) (ltb l.circulations 1) e in
          let p = ltb-false l.paths 4 x.0 in
          let q = ltb-false l.circulations 1 x.1 in
          lakes.all (omega (arith, p, allowed.paths)) (omega (arith, q, allowed.circulations))

      by-test : (a b : Bool) → leb 1 l.paths ≡ a → leb 1 l.circulations ≡ b → ((a || b) && (ltb l.paths 4 || ltb l.circulations 1)) ≡ false → Lake l.paths l.circulations
      by-test false false p q e = let x = leb-false 1 l.paths p in let y = leb-false 1 l.circulations q in lakes.none (omega arith) (omega arith)
      by-test false true p q e = full e
      by-test true b p q e = full e

  -- what rows 1 to 13 and 28 leave
  pub valid : Valid (content_of s)
  unfolding layout_of
  valid =
      let n = counts in
      let a = allowed in
      let x = neither (eqb l.zones 0) (eqb l.units 0) ended.0 in
      let no-zones = eqb-false l.zones 0 x.0 in
      let no-units = eqb-false l.units 0 x.1 in
      record {
        heads = one_head;
        zones_least = omega arith;
        zones_most = omega arith;
        units_least = omega arith;
        units_most = omega arith;
        points_most = omega arith;
        pars_most = omega arith;
        factors = rw (← n.zones, ← n.units, ← n.points, ← n.pars) due_number;
        lake = rw (← n.paths, ← n.circulations) lake;
        head_fits = (passed_head passed 0 (omega (arith, one_head))).fits;
        zone_fits = λ i h. (passed_zone passed i h).fits;
        unit_fits = λ i h. (passed_unit passed i h).fits;
        point_fits = λ i h. (passed_point passed i h).fits;
        par_fits = λ i h. (passed_par passed i h).fits;
        path_fits = λ i h. (passed_path passed i h).fits;
        circulation_fits = λ h. passed_circulation passed 0 h;
        factor_fits = λ t j i q. factor_within t j i (rw (← n.zones, ← n.units, ← n.points, ← n.pars) at q);
      }

  pub some_head : 0 < l.heads
  some_head = omega (arith, one_head, counts.heads)

  -- the records at their places
  pub head_is : head (content_of s) ≡ head_of (body_at s l 1 0)
  unfolding content_at
  head_is = rw content_is (get_or_tab (λ i. head_of (body_at s l 1 i)) l.heads 0 no_head some_head)

  pub circulation_is : 0 < l.circulations → circulation (content_of s) ≡ circulation_of (body_at s l 8 0)
  unfolding content_at
  circulation_is h = rw content_is (get_or_tab (λ i. circulation_of (body_at s l 8 i)) l.circulations 0 no_circulation h)

  module _ (i : ℕ) where
    pub zone-is : i < l.zones → zone (content_of s) i ≡ zone_of (body_at s l 2 i)
    unfolding content_at
    zone-is h = rw content_is (get_or_tab (λ i. zone_of (body_at s l 2 i)) l.zones i no_zone h)

    pub unit-is : i < l.units → unit (content_of s) i ≡ unit_of (body_at s l 3 i)
    unfolding content_at
    unit-is h = rw content_is (get_or_tab (λ i. unit_of (body_at s l 3 i)) l.units i no_unit h)

    pub point-is : i < l.points → point (content_of s) i ≡ point_of (body_at s l 4 i)
    unfolding content_at
    point-is h = rw content_is (get_or_tab (λ i. point_of (body_at s l 4 i)) l.points i no_point h)

    pub par-is : i < l.pars → par (content_of s) i ≡ par_of (body_at s l 5 i)
    unfolding content_at
    par-is h = rw content_is (get_or_tab (λ i. par_of (body_at s l 5 i)) l.pars i no_par h)

    pub factor-there : i < l.factors → get_or (content_of s).factors i no_factor ≡ factor_of (body_at s l 6 i)
    unfolding content_at
    factor-there h = rw content_is (get_or_tab (λ i. factor_of (body_at s l 6 i)) l.factors i no_factor h)

    pub path-is : i < l.paths → path (content_of s) i ≡ path_of (body_at s l 7 i)
    unfolding content_at
    path-is h = rw content_is (get_or_tab (λ i. path_of (body_at s l 7 i)) l.paths i no_path h)
