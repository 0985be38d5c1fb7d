-- Which numbers the rows of a record have.
use Prim.Native.Nat.{ℕ, ◌≤◌}
use mathlib.Core.Path.{◌≡◌, refl}
use mathlib.Core.Bool.{Bool, true, false, ◌||◌}
use mathlib.Core.List.{List}
use native.Mathlib.Omega.{arith}
use lib.ListN.{length}
use borrow.Author.Tests.{le-ltb}
use Rattle.names.specs.Names.{bad_name}
use Rattle.rows.specs.Rows.{row, cut_short}
use Rattle.rows.proofs.NotMet.{row_either, within}
use Rattle.record_table.specs.Table.{last_kind, body_length, body_in}
use Rattle.record_table.proofs.ByKind.{kinds}
use Rattle.records.specs.Bodies.{head_of, zone_of, unit_of, point_of, par_of, factor_of, path_of, circulation_of}
use Rattle.records.specs.Content.{Content, count_of}
use Rattle.due_factors.specs.Due.{due}
use Rattle.field_rows.specs.FieldRows.{no_rto, no_type, no_zone_of, place_unknown, head_outside, zone_outside, unit_outside, point_outside, par_outside, factor_outside, path_outside, circulation_outside, path_factor_outside}
use Rattle.record_rows.specs.Rows.{unknown_kind, out_of_order, one_too_many, front_row, repeats, not_due, head_row, zone_row, unit_row, point_row, par_row, factor_row, path_row, circulation_row, body_row, record_row}

-- a number of a whole record: no row of the sheet's end, and not that of a body cut short
abbrev Whole : ℕ → Type 0
Whole n = (n ≤ 11) × (n ≡ 3 → ⊥)

whole : (n : ℕ) (met : Bool) (below : ℕ) → Whole n → Whole below → Whole (row n met below)
whole = row_either Whole

none : Whole 0
none = (omega arith, λ e. omega arith)

six : Whole 6
six = (omega arith, λ e. omega arith)

seven : Whole 7
seven = (omega arith, λ e. omega arith)

eight : Whole 8
eight = (omega arith, λ e. omega arith)

nine : Whole 9
nine = (omega arith, λ e. omega arith)

eleven : Whole 11
eleven = (omega arith, λ e. omega arith)

named : (a b c d : Bool) → Whole (row 6 a (row 7 b (row 8 c (row 9 d 0))))
named a b c d = whole 6 a _ six (whole 7 b _ seven (whole 8 c _ eight (whole 9 d 0 nine none)))

body_whole : (c : Content) (kind : ℕ) (repeated : Bool) (b : List ℕ) → 1 ≤ kind → kind ≤ last_kind → Whole (body_row c kind repeated b)
unfolding body_row head_row zone_row unit_row point_row par_row factor_row path_row circulation_row
body_whole c kind r b =
    kinds (λ (k : ℕ). Whole (body_row c k r b))
    (named (bad_name (head_of b).name) false (no_rto (head_of b).monitoring_rto) (head_outside (head_of b)))
    (named (bad_name (zone_of b).name) r false (zone_outside (zone_of b)))
    (named (bad_name (unit_of b).name) r (no_zone_of (length c.zones) (unit_of b).zone) (unit_outside (unit_of b)))
    (named (bad_name (point_of b).name) r (no_type (point_of b).sort || place_unknown (length c.zones) (point_of b).place) (point_outside (point_of b)))
    (named (bad_name (par_of b).name) r (no_type (par_of b).class) (par_outside (par_of b)))
    (whole 10 (not_due (due c) (length c.factors) (factor_of b)) _ (omega arith, λ e. omega arith) (whole 11 (factor_outside (factor_of b)) 0 eleven none))
    (whole 6 (bad_name (path_of b).name) _ six (whole 7 r _ seven (whole 9 (path_outside (path_of b)) _ nine (whole 11 (path_factor_outside (path_of b)) 0 eleven none))))
    (whole 9 (circulation_outside (circulation_of b)) 0 nine none)
    kind

module _ (c : Content) (last kind : ℕ) (r : List ℕ) where
  -- rows 4 to 11
  abbrev below : ℕ
  below = row 4 (out_of_order last kind (count_of c kind)) (row 5 (one_too_many kind (count_of c kind)) (body_row c kind (repeats c kind (body_in kind r)) (body_in kind r)))

  whole_row : (unknown : Bool) → unknown_kind kind ≡ unknown → Whole (row 2 unknown below)
  whole_row true e = (omega arith, λ q. omega arith)
  whole_row false e =
      let k = within 1 kind last_kind e in
      whole 4 (out_of_order last kind (count_of c kind)) _ (omega arith, λ q. omega arith)
      (whole 5 (one_too_many kind (count_of c kind)) _ (omega arith, λ q. omega arith) (body_whole c kind _ _ k.0 k.1))

  -- rows 12, 13 and 28 are the sheet's end's alone
  pub record_most : record_row c last kind r ≤ 11
  unfolding record_row front_row
  record_most = pick (unknown_kind kind) (cut_short (body_length kind) (length r)) below (whole_row (unknown_kind kind) refl).0
    where
      pick : (a b : Bool) (n : ℕ) → row 2 a n ≤ 11 → row 2 a (row 3 b n) ≤ 11
      pick true b n h = omega arith
      pick false true n h = omega arith
      pick false false n h = h

  -- row 3 is that of a body cut short alone
  pub record_cut : body_length kind ≤ length r → record_row c last kind r ≡ 3 → ⊥
  unfolding record_row front_row
  record_cut h = rw (le-ltb (length r) (body_length kind) h) (whole_row (unknown_kind kind) refl).1
