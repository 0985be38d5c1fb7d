-- What each answer of the reading says of the sheet.
use Prim.Native.Nat.{ℕ, zero, suc, ◌+◌, ◌≤◌, ◌<◌}
use mathlib.Core.Path.{◌≡◌, refl, sym, ap, ◌∙◌}
use mathlib.Core.Bool.{Bool, true, false, not, cond}
use mathlib.Core.Logic.{◌⊎◌, inl, inr, ⊎_elim}
use mathlib.Core.List.{List, [], ◌∷◌}
use native.Mathlib.Omega.{arith}
use lib.Dec.{eqb}
use lib.ListN.{length, drop, get_or, length-drop}
use lib.Seq.{drop-drop, get_or-drop}
use borrow.Author.Tests.{lt-ltb, le-ltb, eqb-true, eqb-false}
use Rattle.fields.specs.Fields.{byte_at}
use Rattle.rows.specs.Rows.{row}
use Rattle.record_table.specs.Table.{body_length, body_in}
use Rattle.records.specs.Content.{Content, no_content, with_record}
use Rattle.record_rows.specs.Rows.{first_row, record_row, last_row}
use Rattle.layout.specs.declared.Layout.{Layout}
use Rattle.layout.specs.Layout.{layout_of}
use Rattle.sheet.specs.Sheet.{Accepted, Refused}
use Rattle.sheet.specs.Sheet.{Reading, holds, fails, unless, records_from, reading, outcome, read_sheet, number_in, content_in, content_of}
use Rattle.sheet.specs.Passed.{Passed, none, more}
use Rattle.sheet.specs.inner.Answers.{row_at, Accepts, Refuses}
use Rattle.sheet.proofs.Passing.{passed_within}

abbrev Answers : List ℕ → Reading → Type 0
Answers s (holds c) = Accepts s c
Answers s (fails number at) = Refuses s number at

answers_unless : (s : List ℕ) (number at : ℕ) (next : Reading) → (number ≡ 0 → Answers s next) → ((number ≡ 0 → ⊥) → Refuses s number at) → Answers s (unless number at next)
answers_unless s n at next f g = go (eqb n 0) refl
  where
    go : (b : Bool) → eqb n 0 ≡ b → Answers s (cond b next (fails n at))
    go true e = f (eqb-true _ _ e)
    go false e = g (eqb-false _ _ e)

answers : (s rest : List ℕ) (at skip last : ℕ) (c : Content) → drop at s ≡ rest → Passed s (at + skip) last c → Answers s (records_from at skip last c rest)
unfolding records_from row_at
answers s [] at skip last c d p =
    let m : length s ≤ at = omega (arith, rw (length-drop at s) at (ap length d)) in
    let q : at + skip ≡ at = omega (arith, passed_within s p) in
    let z : length s ≡ at = omega (arith, passed_within s p) in
    answers_unless s (last_row c) at (holds c)
    (λ e. record { last = last; passed = rw z (rw q at p); end = e })
    (λ n. record { last = last; content = c; passed = rw q at p; row = rw (le-ltb at (length s) m); some = n })
answers s (b ∷ r) at (suc skip) last c d p =
    let d2 : drop (at + 1) s ≡ r = sym (drop-drop 1 at s) ∙ ap (drop 1) d in
    let q : at + suc skip ≡ at + 1 + skip = omega arith in
    answers s r (at + 1) skip last c d2 (rw q at p)
answers s (k ∷ r) at zero last c d p =
    let d2 : drop (at + 1) s ≡ r = sym (drop-drop 1 at s) ∙ ap (drop 1) d in
    let q : at + 0 ≡ at = omega arith in
    let p2 : Passed s at last c = rw q at p in
    let below : at < length s = omega (arith, rw (length-drop at s) at (ap length d)) in
    let here : byte_at s at ≡ k = rw (get_or-drop at s 0 0, q) at (ap (λ (x : List ℕ). get_or x 0 0) d) in
    answers_unless s (record_row c last k r) at _
    (λ e. answers s r (at + 1) (body_length k) k (with_record c k (body_in k r)) d2 (rw (here, d2) at (more p2 below (rw (here, d2) e))))
    (λ n. record { last = last; content = c; passed = p2; row = rw (lt-ltb at (length s) below, here, d2); some = n })

-- row 1 alone refuses before any record has passed
pub reading_answers : (s : List ℕ) → first_row s ≡ 0 → Answers s (reading s)
unfolding reading
reading_answers s e = rw e (answers s s 0 0 0 no_content refl none)

pub first_number : (s : List ℕ) → (first_row s ≡ 0) ⊎ (first_row s ≡ 1)
unfolding first_row
first_number [] = inr refl
first_number (k ∷ r) = pick (eqb k 1)
  where
    pick : (b : Bool) → (row 1 (not b) 0 ≡ 0) ⊎ (row 1 (not b) 0 ≡ 1)
    pick true = inl refl
    pick false = inr refl

pub refused_first : (s : List ℕ) → first_row s ≡ 1 → reading s ≡ fails 1 0
unfolding reading
refused_first s e = rw e

-- what an accepted sheet is
pub record Kept (s : List ℕ) (l : Layout) : Type 0 where
  pub first : first_row s ≡ 0
  pub accepts : Accepts s (content_of s)
  pub layout : layout_of (content_of s) ≡ l

by_reading_lem : (s : List ℕ) (l : Layout) (r : Reading) → reading s ≡ r → outcome r ≡ Accepted l → first_row s ≡ 0 → Kept s l
unfolding content_of
by_reading_lem s l (holds c) e o f =
    let q : content_of s ≡ c = rw e in
    record { first = f; accepts = rw q (rw e at (reading_answers s f)); layout = rw q (cc) }
by_reading_lem s l (fails n p) e o f = let z : ◌≡◌ {A = ℕ} 0 1 = cc in absurd (omega arith)

pub kept : (s : List ℕ) (l : Layout) → read_sheet s ≡ Accepted l → Kept s l
unfolding read_sheet
kept s l e =
    ⊎_elim (λ f. by_reading_lem s l (reading s) refl e f)
    (λ f. let q = refused_first s f in let z : ◌≡◌ {A = ℕ} 0 1 = cc in absurd (omega arith))
    (first_number s)

-- what the reader's answer says of the reading
by_outcome : (s : List ℕ) (l : Layout) (r : Reading) → reading s ≡ r → outcome r ≡ Accepted l → r ≡ holds (content_in r)
by_outcome s l (holds c) e o = refl
by_outcome s l (fails n p) e o = let z : ◌≡◌ {A = ℕ} 0 1 = cc in absurd (omega arith)

pub accepted_holds : (s : List ℕ) (l : Layout) → read_sheet s ≡ Accepted l → reading s ≡ holds (content_of s)
unfolding read_sheet content_of
accepted_holds s l e = by_outcome s l (reading s) refl e

by_refusal : (number at : ℕ) (r : Reading) → outcome r ≡ Refused number at → r ≡ fails number at
by_refusal number at (holds c) o = let z : ◌≡◌ {A = ℕ} 0 1 = cc in absurd (omega arith)
by_refusal number at (fails n p) o = let n-is : n ≡ number = cc in let p-is : p ≡ at = cc in rw (n-is, p-is)

pub refused_fails : (s : List ℕ) (number at : ℕ) → read_sheet s ≡ Refused number at → reading s ≡ fails number at
unfolding read_sheet
refused_fails s number at e = by_refusal number at (reading s) e

-- and of its number
pub accepted_number : (s : List ℕ) (l : Layout) → read_sheet s ≡ Accepted l → number_in (reading s) ≡ 0
accepted_number s l e = ap number_in (accepted_holds s l e)

pub refused_number : (s : List ℕ) (number at : ℕ) → read_sheet s ≡ Refused number at → number_in (reading s) ≡ number
refused_number s number at e = ap number_in (refused_fails s number at e)
