-- Laws of rows in turn: which of two is met, records that all pass, records that are judged as others are.
use Prim.Native.Nat.{ℕ}
use mathlib.Core.Path.{◌≡◌, refl, sym}
use mathlib.Core.Bool.{Bool, true, false, cond}
use mathlib.Core.List.{List, [], ◌∷◌, ◌++◌, map, map-append}
use lib.Dec.{eqb}
use borrow.Author.Tests.{eqb-true, eqb-false, eq-eqb, ne_eqb}
use Rattle.sheet_bytes.specs.ContentRow.{then_row, in_turn}
use Rattle.sheet_bytes.specs.inner.Returns.{Each}

pub then_met : (number later : ℕ) → (number ≡ 0 → ⊥) → then_row number later ≡ number
then_met number later n = rw (ne_eqb number 0 n) refl

pub then_passed : (number later : ℕ) → number ≡ 0 → then_row number later ≡ later
then_passed number later e = rw (eq-eqb number 0 e) refl

pub then_none : (number : ℕ) → then_row number 0 ≡ number
then_none number = pick (eqb number 0) refl
  where
    pick : (b : Bool) → eqb number 0 ≡ b → cond b 0 number ≡ number
    pick true e = sym (eqb-true number 0 e)
    pick false e = refl

pub then_pass : (number later : ℕ) → then_row number later ≡ 0 → (number ≡ 0) × (later ≡ 0)
then_pass number later = pick (eqb number 0) refl
  where
    pick : (b : Bool) → eqb number 0 ≡ b → cond b later number ≡ 0 → (number ≡ 0) × (later ≡ 0)
    pick true e z = (eqb-true number 0 e, z)
    pick false e z = absurd (eqb-false number 0 e z)

module _ {A : Type 0} (row_of : List A → A → ℕ) where
  -- each record passes behind some others, and what comes later passes
  pub turn_pass : (l before : List A) (later : ℕ) → in_turn row_of before l later ≡ 0 → Each (λ (a : A). (b : List A) × (row_of b a ≡ 0)) l × (later ≡ 0)
  unfolding in_turn
  turn_pass [] before later e = (tt, e)
  turn_pass (a ∷ l) before later e =
      let p = then_pass (row_of before a) _ e in
      let q = turn_pass l (before ++ (a ∷ [])) later p.1 in
      (((before, p.0), q.0), q.1)

-- records in turn, and others that are judged the same
module _ {A B : Type 0} (f : A → B) (rowA : List A → A → ℕ) (rowB : List B → B → ℕ) (same : (before : List A) (a : A) → rowB (map f before) (f a) ≡ rowA before a) where
  pub turn_map : (l before : List A) (later : ℕ) → in_turn rowB (map f before) (map f l) later ≡ in_turn rowA before l later
  unfolding in_turn
  turn_map [] before later = refl
  turn_map (a ∷ l) before later =
      rw (same before a, ← turn_map l (before ++ (a ∷ [])) later, map-append f before (a ∷ [])) refl
