-- A sheet's first 28,136 bytes decide: no accepted sheet is longer than 28,101 bytes, and in a longer one a record is refused that begins at or before that place.
use Prim.Native.Nat.{ℕ, zero, suc, ◌+◌, ◌-◌, ◌≤◌, ◌<◌}
use mathlib.Core.Path.{◌≡◌, refl, sym, ap, ◌∙◌}
use mathlib.Core.List.{List, [], ◌∷◌}
use native.Mathlib.Omega.{arith}
use lib.Dec.{eqb-suc-zero}
use lib.ListN.{length, take, drop, length-drop}
use lib.Seq.{take_all, take-nil, take-take, get_or-take, length-take-le}
use borrow.Author.Tests.{lt-ltb, le-ltb}
use Rattle.fields.specs.Fields.{byte_at}
use Rattle.integers.proofs.Cases.{below_or}
use Rattle.record_table.specs.Table.{body_length, body_in}
use Rattle.records.specs.Content.{Content, no_content}
use Rattle.record_table.proofs.ByKind.{size_most}
use Rattle.due_factors.proofs.DueList.{length_due, per_most}
use Rattle.record_rows.specs.Rows.{record_row, front_row, first_row}
use Rattle.layout.specs.declared.Layout.{Layout}
use Rattle.layout.specs.inner.Places.{counts_in, extent, Allowed, due_of}
use Rattle.layout.specs.Layout.{layout_of}
use Rattle.layout.proofs.Places.{extent_is}
use Rattle.sheet.specs.Sheet.{Accepted}
use Rattle.sheet.specs.Sheet.{Reading, holds, fails, records_from, reading, read_sheet, content_of}
use Rattle.sheet.specs.inner.Longest.{longest_sheet, deciding}
use Rattle.sheet.specs.Passed.{Passed, none, more}
use Rattle.sheet.specs.inner.Answers.{row_at, Accepts, Refuses}
use Rattle.sheet.proofs.Passing.{passed_laid, passed_allowed}
use Rattle.sheet.proofs.RecordsFine.{passed_factor}
use Rattle.sheet.proofs.RecordByRecord.{from_next, from_refused}
use Rattle.sheet.proofs.Answers.{reading_answers, kept}

-- no more factors than are due
few_factors : {s : List ℕ} {at last : ℕ} {c : Content} → Passed s at last c → (layout_of c).factors ≤ length (due_of (layout_of c))
unfolding layout_of
few_factors {c = c} p =
    below_or 0 (length c.factors)
    (λ a.
    let f = (passed_factor p (length c.factors - 1) (omega arith)).some in
    omega (arith, length-take-le (length c.factors - 1) c.factors (omega arith)))
    (λ a. omega arith)

pub worked_lengths : (longest_sheet ≡ 28101) × (deciding ≡ 28136)
worked_lengths = (refl, refl)

at_most : (l : Layout) → Allowed l → l.factors ≤ length (due_of l) → extent l ≤ longest_sheet
at_most l a f =
    omega (arith, extent_is l, length_due (counts_in l), per_most (counts_in l) a.few)

-- no record begins, and no sheet ends, behind the longest sheet
pub passed_short : {s : List ℕ} {at last : ℕ} {c : Content} → Passed s at last c → at ≤ longest_sheet
passed_short {s} {c = c} p = omega (arith, at_most (layout_of c) (passed_allowed s p) (few_factors p), (passed_laid s p).here)

-- records that pass lead the reading on
passed_on : {s : List ℕ} {at last : ℕ} {c : Content} → Passed s at last c → records_from at 0 last c (drop at s) ≡ records_from 0 0 0 no_content s
passed_on none = refl
passed_on {s} (more {at} {last} {c} p h e) = from_next s at last c h e ∙ passed_on p

drop_take : (a m : ℕ) (l : List ℕ) → drop a (take (a + m) l) ≡ take m (drop a l)
drop_take zero m l = let e : 0 + m ≡ m = omega arith in rw e
drop_take (suc a) m [] = rw (take-nil {A = ℕ} (suc a + m), take-nil {A = ℕ} m)
drop_take (suc a) m (x ∷ l) = let e : suc a + m ≡ suc (a + m) = omega arith in rw e (drop_take a m l)

-- bytes behind a body do not matter to its record
row_take : (c : Content) (last kind m : ℕ) (r : List ℕ) → body_length kind ≤ m → m ≤ length r → record_row c last kind (take m r) ≡ record_row c last kind r
unfolding record_row front_row
row_take c last k m r h g =
    rw (
      take-take (body_length k) m r h,
      le-ltb (length (take m r)) (body_length k) (omega (arith, length-take-le m r g)),
      le-ltb (length r) (body_length k) (omega arith),
    )

first_take : (n : ℕ) (s : List ℕ) → 0 < n → first_row (take n s) ≡ first_row s
unfolding first_row
first_take zero s h = absurd (omega arith)
first_take (suc n) [] h = refl
first_take (suc n) (k ∷ s) h = refl

module _ (s : List ℕ) (n : ℕ) (enough : deciding ≤ n) (longer : n ≤ length s) where
  abbrev front : List ℕ
  front = take n s

  front_length : length front ≡ n
  front_length = length-take-le n s longer

  same_byte : (at : ℕ) → at ≤ longest_sheet → byte_at front at ≡ byte_at s at
  same_byte at h = get_or-take n s at 0 (omega arith)

  rest : (at : ℕ) → at ≤ longest_sheet → drop (at + 1) front ≡ take (n - (at + 1)) (drop (at + 1) s)
  rest at h = let e : n ≡ at + 1 + (n - (at + 1)) = omega arith in ap (λ (m : ℕ). drop (at + 1) (take m s)) e ∙ drop_take (at + 1) (n - (at + 1)) s

  same_row : (c : Content) (last at : ℕ) → at ≤ longest_sheet → record_row c last (byte_at front at) (drop (at + 1) front) ≡ record_row c last (byte_at s at) (drop (at + 1) s)
  same_row c last at h =
      rw (same_byte at h, rest at h)
      (row_take c last (byte_at s at) (n - (at + 1)) (drop (at + 1) s) (omega (arith, size_most (byte_at s at))) (omega (arith, length-drop (at + 1) s)))

  same_body : (at : ℕ) → at ≤ longest_sheet → body_in (byte_at s at) (drop (at + 1) front) ≡ body_in (byte_at s at) (drop (at + 1) s)
  same_body at h = rw (rest at h) (take-take (body_length (byte_at s at)) (n - (at + 1)) (drop (at + 1) s) (omega (arith, size_most (byte_at s at))))

  moved : {at last : ℕ} {c : Content} → Passed s at last c → Passed front at last c
  moved none = none
  moved (more {at} {last} {c} p h e) =
      let b = passed_short p in
      rw (same_byte at b, same_body at b) at (more (moved p) (omega (arith, front_length)) (same_row c last at b ∙ e))

  refused : (number p : ℕ) → Refuses s number p → records_from 0 0 0 no_content front ≡ fails number p
  unfolding row_at
  refused number p r =
      let b = passed_short r.passed in
      let e : record_row r.content r.last (byte_at s p) (drop (p + 1) s) ≡ number = rw (lt-ltb p (length s) (omega arith)) at r.row in
      let m = moved r.passed in
      let q = same_row r.content r.last p b ∙ e in
      sym (passed_on m) ∙ from_refused front p r.last r.content (omega (arith, front_length)) (λ z. r.some (sym q ∙ z)) ∙ rw q

  by_reading_lem : (r : Reading) → reading s ≡ r → first_row s ≡ 0 → reading front ≡ r
  unfolding reading
  by_reading_lem (holds c) e f =
      let a : Accepts s c = rw e at (reading_answers s f) in
      absurd (omega (arith, passed_short a.passed))
  by_reading_lem (fails number p) e f = rw (first_take n s (omega arith), f) (refused number p (rw e at (reading_answers s f)))

  same_reading : (number : ℕ) → first_row s ≡ number → reading front ≡ reading s
  unfolding reading
  same_reading zero f = by_reading_lem (reading s) refl f
  same_reading (suc number) f = rw (first_take n s (omega arith), f, eqb-suc-zero number)

long_reading : (s : List ℕ) (n : ℕ) → deciding ≤ n → reading (take n s) ≡ reading s
long_reading s n h =
    below_or n (length s)
    (λ a. same_reading s n h (omega arith) (first_row s) refl)
    (λ a. rw (take_all n s a))

pub long : (s : List ℕ) (n : ℕ) → deciding ≤ n → read_sheet (take n s) ≡ read_sheet s
unfolding read_sheet
long s n h = rw (long_reading s n h)

pub long_content : (s : List ℕ) (n : ℕ) → deciding ≤ n → content_of (take n s) ≡ content_of s
unfolding content_of
long_content s n h = rw (long_reading s n h)

pub accepted_short : (s : List ℕ) (l : Layout) → read_sheet s ≡ Accepted l → length s ≤ longest_sheet
accepted_short s l e = passed_short (kept s l e).accepts.passed
