-- The factors of a sheet are those due, in their order: a look-up by key finds the one that stands where its key is due.
use Prim.Native.Nat.{ℕ, zero, suc, ◌+◌, ◌<◌}
use mathlib.Core.Path.{◌≡◌, refl, sym, ◌∙◌}
use mathlib.Core.Bool.{Bool, true, false}
use mathlib.Core.List.{List, [], ◌∷◌}
use native.Mathlib.Omega.{arith}
use lib.Dec.{eqb}
use lib.ListN.{length, get_or}
use borrow.Author.Tests.{eqb-true}
use Rattle.rows.proofs.NotMet.{both}
use Rattle.records.specs.declared.Factor.{Factor}
use Rattle.records.specs.Content.{no_factor, bears, factor_for}
use Rattle.due_factors.specs.declared.Counts.{Counts}
use Rattle.due_factors.specs.declared.Due.{Due}
use Rattle.due_factors.specs.Due.{due_list, no_due, key}
use Rattle.due_factors.proofs.Keys.{due_once}
use Rattle.record_rows.proofs.Passes.{FactorFits}

-- the first that bears a key
first_bears : (fs : List Factor) (t j x n : ℕ) → n < length fs → bears (get_or fs n no_factor) t j x ≡ true → ((m : ℕ) → m < n → bears (get_or fs m no_factor) t j x ≡ false) → factor_for fs t j x ≡ (get_or fs n no_factor).factor
unfolding factor_for
first_bears [] t j x n h p q = absurd (omega arith)
first_bears (f ∷ fs) t j x zero h p q = rw p
first_bears (f ∷ fs) t j x (suc n) h p q = rw (q 0 (omega arith)) (first_bears fs t j x n (omega arith) p (λ m g. q (suc m) (omega arith)))

-- a record bears one key
record Bears (f : Factor) (t j x : ℕ) : Type 0 where
  target : f.target ≡ t
  subject : f.subject ≡ j
  index : f.index ≡ x

bears_key : (f : Factor) (t j x : ℕ) → bears f t j x ≡ true → Bears f t j x
unfolding bears
bears_key f t j x q =
    let a = both (eqb f.target t) _ q in
    let b = both (eqb f.subject j) (eqb f.index x) a.1 in
    record { target = eqb-true _ _ a.0; subject = eqb-true _ _ b.0; index = eqb-true _ _ b.1 }

same_key : (f : Factor) (d : Due) (t j i : ℕ) → Bears f d.target d.subject d.index → Bears f t j (i + 1) → d ≡ key t j i
same_key f d t j i a b = rw (← b.target, ← b.subject, ← b.index, a.target, a.subject, a.index)

module _ (n : Counts) (fs : List Factor) (all : length fs ≡ length (due_list n)) (each : (i : ℕ) → i < length fs → FactorFits (due_list n) i (get_or fs i no_factor)) where
  abbrev due : List Due
  due = due_list n

  others : (t j i k m : ℕ) → k < length due → get_or due k no_due ≡ key t j i → m < k → (b : Bool) → bears (get_or fs m no_factor) t j (i + 1) ≡ b → b ≡ false
  others t j i k m h q g false p = refl
  others t j i k m h q g true p =
      let f = get_or fs m no_factor in
      let x = same_key f (get_or due m no_due) t j i (bears_key f _ _ _ (each m (omega arith)).bears) (bears_key f _ _ _ p) in
      absurd (omega (arith, due_once n m k (omega arith) h (x ∙ sym q)))

  pub factor_for_lem : (t j i k : ℕ) → k < length due → get_or due k no_due ≡ key t j i → factor_for fs t j (i + 1) ≡ (get_or fs k no_factor).factor
  factor_for_lem t j i k h q =
      first_bears fs t j (i + 1) k (omega arith) (rw q at (each k (omega arith)).bears) (λ m g. others t j i k m h q g _ refl)
