-- The middle one of three numbers is what its name says, and what source 002 writes out by cases ('Determining the Settlement Market Flow').
use mathlib.Core.Path.{◌≡◌, refl}
use mathlib.Core.Bool.{Bool, true, false, cond}
use mathlib.Core.Logic.Iff
use mathlib.Core.Logic.{◌↔◌, ◌⊎◌, inl, inr}
use lib.IntN.{ℤ}
use lib.Signed.{◌≤ℤ◌, ◌<ℤ◌, le_z, ≤ℤ_refl}
use Rattle.integers.proofs.Order.{≤_trans, ≤_antisym, lt_le}
use Rattle.integers.proofs.Machine.{le_true, le_false}
use Rattle.figures.specs.Lake.{lesser, greater, middle}

-- it is one of the three: what holds of each holds of it
either_keeps : {A : Type 0} (P : A → Type 0) (b : Bool) {x y : A} → P x → P y → P (cond b x y)
either_keeps P true p q = p
either_keeps P false p q = q

pub middle_keeps : {A : Type 0} (leq : A → A → Bool) (P : A → Type 0) (x y z : A) → P x → P y → P z → P (middle leq x y z)
middle_keeps leq P x y z p q r =
    either_keeps P (leq (lesser leq x y) (lesser leq (greater leq x y) z)) (either_keeps P (leq (greater leq x y) z) (either_keeps P (leq x y) q p) r) (either_keeps P (leq x y) p q)

-- the lesser of two is at most b just where one of them is, the greater where both are
either : {P Q R : Type 0} → (P → R) → (Q → R) → P ⊎ Q → R
either f g (inl p) = f p
either f g (inr q) = g q

lesser_most : (x y b : ℤ) {P Q : Type 0} → (x ≤ℤ b) ↔ P → (y ≤ℤ b) ↔ Q → (lesser le_z x y ≤ℤ b) ↔ (P ⊎ Q)
lesser_most x y b {P} {Q} p q = by (le_z x y) refl
  where
    by : (s : Bool) → le_z x y ≡ s → (cond s x y ≤ℤ b) ↔ (P ⊎ Q)
    by true e = ((λ h. inl (p.0 h)), either p.1 (λ k. ≤_trans (le_true x y e) (q.1 k)))
    by false e = ((λ h. inr (q.0 h)), either (λ h. ≤_trans (lt_le (le_false x y e)) (p.1 h)) q.1)

greater_most : (x y b : ℤ) {P Q : Type 0} → (x ≤ℤ b) ↔ P → (y ≤ℤ b) ↔ Q → (greater le_z x y ≤ℤ b) ↔ (P × Q)
greater_most x y b {P} {Q} p q = by (le_z x y) refl
  where
    by : (s : Bool) → le_z x y ≡ s → (cond s y x ≤ℤ b) ↔ (P × Q)
    by true e = ((λ h. (p.0 (≤_trans (le_true x y e) h), q.0 h)), (λ h. q.1 h.1))
    by false e = ((λ h. (p.0 h, q.0 (≤_trans (lt_le (le_false x y e)) h))), (λ h. p.1 h.0))

-- the middle one just where two of the three are: so it is above b just where two are
abbrev pub TwoOf : Type 0 → Type 0 → Type 0 → Type 0
TwoOf P Q R = (P × Q) ⊎ ((P × R) ⊎ (Q × R))

two_of : {P Q R : Type 0} → ((P ⊎ Q) × ((P × Q) ⊎ R)) ↔ TwoOf P Q R
two_of {P} {Q} {R} = ((λ h. either inl (λ r. either (λ p. inr (inl (p, r))) (λ q. inr (inr (q, r))) h.0) h.1), back)
  where
    back : TwoOf P Q R → (P ⊎ Q) × ((P × Q) ⊎ R)
    back (inl h) = (inl h.0, inl h)
    back (inr (inl h)) = (inl h.0, inr h.1)
    back (inr (inr h)) = (inr h.0, inr h.1)

pub middle_most : (x y z b : ℤ) → (middle le_z x y z ≤ℤ b) ↔ TwoOf (x ≤ℤ b) (y ≤ℤ b) (z ≤ℤ b)
middle_most x y z b =
    Iff.trans
    (greater_most (lesser le_z x y) (lesser le_z (greater le_z x y) z) b (lesser_most x y b Iff.rfl Iff.rfl) (lesser_most (greater le_z x y) z b (greater_most x y b Iff.rfl Iff.rfl) Iff.rfl))
    two_of

-- source 002: where the adjusted market flow is the unadjusted one, above it and below it
two_equal : {P R : Type 0} → TwoOf P P R ↔ P
two_equal = (either (λ h. h.0) (either (λ h. h.0) (λ h. h.0)), (λ p. inl (p, p)))

two_above : {P Q R : Type 0} → (Q → P) → TwoOf P Q R ↔ (Q ⊎ (P × R))
two_above f = (either (λ h. inl h.1) (either inr (λ h. inl h.0)), either (λ q. inl (f q, q)) (λ h. inr (inl h)))

two_below : {P Q R : Type 0} → (P → Q) → TwoOf P Q R ↔ (Q × (P ⊎ R))
two_below f = (
  either (λ h. (h.1, inl h.0)) (either (λ h. (f h.0, inr h.1)) (λ h. (h.0, inr h.1))),
  (λ h. either (λ p. inl (p, h.0)) (λ r. inr (inr (h.0, r))) h.1),
)

same_most : {x y : ℤ} → ((b : ℤ) → (x ≤ℤ b) ↔ (y ≤ℤ b)) → x ≡ y
same_most {x} {y} h = ≤_antisym ((h y).1 (≤ℤ_refl y)) ((h x).0 (≤ℤ_refl x))

module _ (market adjusted entitlement : ℤ) where
  pub source_equal : adjusted ≡ market → middle le_z market adjusted entitlement ≡ market
  source_equal e = rw e (same_most (λ b. Iff.trans (middle_most market market entitlement b) two_equal))

  pub source_above : market <ℤ adjusted → middle le_z market adjusted entitlement ≡ lesser le_z adjusted (greater le_z market entitlement)
  source_above l =
      same_most (λ b. Iff.trans (Iff.trans (middle_most market adjusted entitlement b) (two_above (≤_trans (lt_le l))))
      (Iff.symm (lesser_most adjusted (greater le_z market entitlement) b Iff.rfl (greater_most market entitlement b Iff.rfl Iff.rfl))))

  pub source_below : adjusted <ℤ market → middle le_z market adjusted entitlement ≡ greater le_z adjusted (lesser le_z market entitlement)
  source_below l =
      same_most (λ b. Iff.trans (Iff.trans (middle_most market adjusted entitlement b) (two_below (≤_trans (lt_le l))))
      (Iff.symm (greater_most adjusted (lesser le_z market entitlement) b Iff.rfl (lesser_most market entitlement b Iff.rfl Iff.rfl))))
