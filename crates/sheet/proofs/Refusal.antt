-- Where a refusal points: the records before that place pass their rows, and the record there, or the sheet's end, meets the refusal's row.
use Prim.Native.Nat.{ℕ, ◌+◌, ◌≤◌, ◌<◌}
use mathlib.Core.Path.{◌≡◌, refl, sym, ◌∙◌}
use mathlib.Core.Bool.{Bool, true, false}
use mathlib.Core.List.{List}
use mathlib.Core.Logic.{◌⊎◌, inl, inr, ⊎_elim}
use native.Mathlib.Omega.{arith}
use lib.ListN.{length, drop, length-drop}
use borrow.Author.Tests.{lt-ltb, le-ltb}
use Rattle.fields.specs.Fields.{byte_at}
use Rattle.integers.proofs.Cases.{below_or}
use Rattle.rows.specs.Rows.{row}
use Rattle.record_table.specs.Table.{body_length}
use Rattle.records.specs.Content.{Content}
use Rattle.due_factors.specs.Due.{counts_of}
use Rattle.record_rows.specs.Rows.{unknown_kind, front_row, no_zone_or_unit, still_due, lake_in_part, record_row, last_row, end_row, first_row}
use Rattle.sheet.specs.Sheet.{Refused}
use Rattle.sheet.specs.Sheet.{Reading, holds, fails, reading, outcome, read_sheet}
use Rattle.sheet.specs.inner.Answers.{row_at, Refuses}
use Rattle.sheet.proofs.Passing.{passed_within}
use Rattle.sheet.proofs.Numbers.{record_most, record_cut}
use Rattle.sheet.proofs.Answers.{first_number, refused_first, reading_answers}

by_reading_lem : (s : List ℕ) (number at : ℕ) (r : Reading) → reading s ≡ r → outcome r ≡ Refused number at → first_row s ≡ 0 → Refuses s number at
by_reading_lem s number at (holds c) e o f = let z : ◌≡◌ {A = ℕ} 0 1 = cc in absurd (omega arith)
by_reading_lem s number at (fails n p) e o f =
    let n-is : n ≡ number = cc in
    let p-is : p ≡ at = cc in
    rw (n-is, p-is) at (rw e at (reading_answers s f))

-- row 1 at the sheet's beginning, or a row that a record or the sheet's end meets
pub refusal : (s : List ℕ) (number at : ℕ) → read_sheet s ≡ Refused number at → ((first_row s ≡ 1) × (number ≡ 1) × (at ≡ 0)) ⊎ Refuses s number at
unfolding read_sheet
refusal s number at e =
    ⊎_elim
    (λ (f : first_row s ≡ 0). inr (by_reading_lem s number at (reading s) refl e f))
    (λ (f : first_row s ≡ 1). let q = refused_first s f in inl (f, cc, cc))
    (first_number s)

pub refuses : (s : List ℕ) (number at : ℕ) → read_sheet s ≡ Refused number at → 2 ≤ number → Refuses s number at
refuses s number at e g = ⊎_elim (λ q. absurd (omega (arith, q.1))) (λ (r : Refuses s number at). r) (refusal s number at e)

-- a refusal has a row's number
pub refused_some : (s : List ℕ) (number at : ℕ) → read_sheet s ≡ Refused number at → number ≡ 0 → ⊥
refused_some s number at e z = ⊎_elim (λ q. omega (arith, q.1)) (λ (r : Refuses s number at). r.some z) (refusal s number at e)

-- the part of the sheet that a refusal points at
pub record Points (s : List ℕ) (number at : ℕ) : Type 0 where
  pub within : at ≤ length s
  pub some : number ≤ 11 → at < length s
  pub cut : number ≡ 3 → length s < at + 1 + body_length (byte_at s at)
  pub whole : 4 ≤ number → number ≤ 11 → at + 1 + body_length (byte_at s at) ≤ length s
  pub behind : 12 ≤ number → at ≡ length s

-- a body cut short is row 3 at the latest
short_row : (c : Content) (last kind : ℕ) (r : List ℕ) → length r < body_length kind → record_row c last kind r ≤ 3
unfolding record_row front_row
short_row c last k r h = rw (lt-ltb _ _ h) (pick (unknown_kind k))
  where
    pick : (b : Bool) → row 2 b 3 ≤ 3
    pick true = omega arith
    pick false = omega arith

-- at the sheet's end rows 12, 13 and 28 alone
end_late : (c : Content) (number : ℕ) → last_row c ≡ number → (number ≡ 0 → ⊥) → 12 ≤ number
unfolding last_row end_row
end_late c number = pick (no_zone_or_unit (counts_of c)) (still_due (counts_of c) (length c.factors)) (lake_in_part (length c.paths) (length c.circulations))
  where
    pick : (a b d : Bool) → row 12 a (row 13 b (row 28 d 0)) ≡ number → (number ≡ 0 → ⊥) → 12 ≤ number
    pick true b d e n = omega arith
    pick false true d e n = omega arith
    pick false false true e n = omega arith
    pick false false false e n = absurd (n (sym e))

pub points : (s : List ℕ) (number at : ℕ) → Refuses s number at → Points s number at
unfolding row_at
points s number at r =
    below_or at (length s)
    (λ a.
    let e : record_row r.content r.last (byte_at s at) (drop (at + 1) s) ≡ number = rw (lt-ltb at (length s) a) at r.row in
    record {
      within = omega arith;
      some = λ h. a;
      whole = λ g h.
          below_or (length (drop (at + 1) s)) (body_length (byte_at s at))
          (λ b. absurd (omega (arith, short_row r.content r.last (byte_at s at) (drop (at + 1) s) b)))
          (λ b. omega (arith, length-drop (at + 1) s));
      cut = λ q.
          below_or (length (drop (at + 1) s)) (body_length (byte_at s at)) (λ b. omega (arith, length-drop (at + 1) s))
          (λ b. absurd (record_cut r.content r.last (byte_at s at) (drop (at + 1) s) b (e ∙ q)));
      behind = λ h. absurd (omega (arith, record_most r.content r.last (byte_at s at) (drop (at + 1) s)));
    })
    (λ a.
    let l = end_late r.content number (rw (le-ltb at (length s) a) at r.row) r.some in
    record {
      within = passed_within s r.passed;
      some = λ h. absurd (omega arith);
      cut = λ q. absurd (omega arith);
      whole = λ g h. absurd (omega arith);
      behind = λ h. omega (arith, passed_within s r.passed);
    })
