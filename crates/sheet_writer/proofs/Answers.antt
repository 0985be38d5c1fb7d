-- What the writer promises, by the way it ends.
use Prim.Native.Nat.{ℕ, ◌≤◌, ◌<◌}
use mathlib.Core.Path.{◌≡◌, refl, sym, ap, ◌∙◌}
use mathlib.Core.Bool.{Bool, true, false, cond}
use mathlib.Core.List.{List, [], ◌∷◌}
use native.Mathlib.Omega.{arith}
use lib.Dec.{eqb, ltb}
use lib.ListN.{length}
use borrow.Author.Tests.{ne_eqb, lt-ltb, le-ltb}
use Rattle.rows.specs.Rows.{row}
use Rattle.records.specs.declared.Head.{Head}
use Rattle.records.specs.Content.{Content}
use Rattle.sheet.specs.Sheet.{reading}
use Rattle.writers.specs.Written.{written}
use Rattle.writers.specs.inner.Wrote.{Wrote}
use Rattle.writers.proofs.Writing.{front, renamed}
use Rattle.sheet_bytes.specs.SheetBytes.{sheet_bytes}
use Rattle.sheet_bytes.specs.ContentRow.{content_row}
use Rattle.sheet_bytes.specs.inner.Marked.{marked}
use Rattle.sheet_bytes.specs.inner.Returns.{Returned}
use Rattle.sheet_bytes.proofs.Marked.{unmarked}
use Rattle.sheet_bytes.proofs.Turns.{then_met, then_passed}
use Rattle.sheet_bytes.proofs.RoundTrips.{again}
use Rattle.sheet_writer.specs.Writing.{refusal_for, sheet_for}
use Rattle.sheet_writer.specs.Promise.{Promise}

module _ (c : Content) (out : List ℕ) where
  abbrev row_27 : ℕ
  row_27 = row 27 (ltb (length out) (length (sheet_bytes c))) 0

  sheet_by : (t : Bool) → eqb (refusal_for c out) 0 ≡ t → sheet_for c out ≡ cond t (sheet_bytes c) []
  unfolding sheet_for
  sheet_by t e = ap (λ (t : Bool). cond t (sheet_bytes c) []) e

  -- a refusal: its number, nothing written
  no_sheet : (number : ℕ) → (number ≡ 0 → ⊥) → refusal_for c out ≡ number → Promise c out out (record { refusal = number; length = 0 })
  unfolding written
  no_sheet number n e =
      let none = sheet_by false (ap (λ (m : ℕ). eqb m 0) e ∙ ne_eqb number 0 n) in
      record {
        answers = λ j. record { refusal = sym e j; length = sym (ap length none) j };
        leaves = sym (ap (λ (bytes : List ℕ). written bytes out) none);
        again = λ z. absurd (n z);
      }

  pub refused : (number : ℕ) → number ≡ content_row c → (number ≡ 0 → ⊥) → Promise c out out (record { refusal = number; length = 0 })
  unfolding refusal_for
  refused number e n = no_sheet number n (then_met (content_row c) row_27 (λ z. n (e ∙ z)) ∙ sym e)

  pub too_short : content_row c ≡ 0 → length out < length (sheet_bytes c) → Promise c out out (record { refusal = 27; length = 0 })
  unfolding refusal_for
  too_short e g =
      let met : row_27 ≡ 27 = rw (lt-ltb (length out) (length (sheet_bytes c)) g) refl in
      no_sheet 27 (λ z. omega arith) (then_passed (content_row c) row_27 e ∙ met)

  -- no refusal, and all of the sheet
  module _ (e : content_row c ≡ 0) (g : length (sheet_bytes c) ≤ length out) where
    pub accepted : refusal_for c out ≡ 0
    unfolding refusal_for
    accepted =
        let passed : row_27 ≡ 0 = rw (le-ltb (length out) (length (sheet_bytes c)) g) refl in
        then_passed (content_row c) row_27 e ∙ passed

    pub whole : sheet_for c out ≡ sheet_bytes c
    whole = sheet_by true (ap (λ (m : ℕ). eqb m 0) accepted)

  pub wrote : (h : Head) → c.heads ≡ h ∷ [] → Returned (marked c) → content_row c ≡ 0 → length (sheet_bytes (marked c)) ≤ length out → {after : List ℕ} {n : ℕ} → Wrote (sheet_bytes (marked c)) out after n →
      Promise c out after (record { refusal = 0; length = n })
  wrote h one returned e g {after} {n} m =
      let same : sheet_bytes (marked c) ≡ sheet_bytes c = ap sheet_bytes (unmarked c e) in
      let w = renamed same m in
      let room : length (sheet_bytes c) ≤ length out = rw same at g in
      let all = whole e room in
      record {
        answers = λ j. record { refusal = sym (accepted e room) j; length = (w.count ∙ sym (ap length all)) j };
        leaves = w.left ∙ sym (ap (λ (bytes : List ℕ). written bytes out) all);
        again = λ z. ap reading (front w) ∙ again c h one returned e;
      }
