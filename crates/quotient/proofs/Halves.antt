-- The tie rule, which takes the even one at a half. What holds whichever way a half goes is `tie_away` and `tie_stays`.
use mathlib.Core.Path.{◌≡◌, refl, sym, ap, ◌∙◌}
use mathlib.Core.Bool.{Bool, true, false, cond}
use mathlib.Core.Logic.{◌⊎◌, inl, inr}
use Prim.Native.Nat.{ℕ, zero, suc, ◌+◌, ◌*◌, ◌-◌, ◌/◌, ◌%◌, ◌<◌, ◌≤◌}
use native.Mathlib.Nat.{div-add-mod', mod-lt, mul-le-mul_right}
use native.Mathlib.Decide.{dec_le}
use native.Mathlib.Omega.{arith}
use borrow.Author.Tests.{ltb-true, ltb-false, eqb-true, eqb-false, eq-eqb, ne_eqb}
use lib.Dec.{eqb, ltb}
use lib.IntN.{ℤ, pos, negsuc, neg_ℤ, nat_abs, ◌+ℤ◌, ◌-ℤ◌, ◌*ℤ◌}
use lib.Signed.{◌<ℤ◌}
use Rattle.integers.proofs.Linear.{zarith}
use Rattle.integers.proofs.Tactic.{zi, zo}
use Rattle.integers.proofs.Absolute.{abs_mul}
use Rattle.quotient.specs.Rounded.{distance, Even, IsRounded, goes_away, size_of, quotient}
use Rattle.quotient.proofs.Nearest.{left_size, distance_neg, between, same_of, alone, above, near_of}

-- where it is no half, the larger of the two sizes decides
not_half : (m : ℕ) {size rest : ℕ} → (rest ≡ size → ⊥) → goes_away m size rest ≡ ltb rest size
unfolding goes_away
not_half m {size} {rest} f = rw (ne_eqb rest size f)

pub tie_away : (m size rest : ℕ) → goes_away m size rest ≡ true → rest ≤ size
tie_away m size rest e = go (dec_le rest size)
  where
    go : Dec (rest ≤ size) → rest ≤ size
    go (yes l) = l
    go (no l) = absurd (l (omega (arith, ltb-true rest size (sym (not_half m (λ f. l (omega arith))) ∙ e))))

pub tie_stays : (m size rest : ℕ) → goes_away m size rest ≡ false → size ≤ rest
tie_stays m size rest e = go (dec_le size rest)
  where
    go : Dec (size ≤ rest) → size ≤ rest
    go (yes l) = l
    go (no l) = ltb-false rest size (sym (not_half m (λ f. l (omega arith))) ∙ e)

-- what it takes is at most half of the divisor away
pub half_size : (a b : ℕ) → 0 < b → 2 * nat_abs (pos a -ℤ pos (size_of a b * b)) ≤ b
unfolding size_of
half_size a b h = go (goes_away (a / b) (a % b) (b - a % b)) refl
  where
    go : (w : Bool) → goes_away (a / b) (a % b) (b - a % b) ≡ w → 2 * nat_abs (pos a -ℤ pos (cond w (a / b + 1) (a / b) * b)) ≤ b
    go true e = rw (left_size a b h true) (omega (arith, mod-lt a h, tie_away (a / b) (a % b) (b - a % b) e))
    go false e = rw (left_size a b h false) (omega (arith, mod-lt a h, tie_stays (a / b) (a % b) (b - a % b) e))

-- at a half an odd number goes on to the next, and an even one stays
even_away : (m : ℕ) {size rest : ℕ} → rest ≡ size → goes_away m size rest ≡ true → Even (pos (m + 1))
unfolding goes_away
even_away m f e =
    let odd : m % 2 ≡ 1 = eqb-true _ _ (rw (eq-eqb _ _ f) at e) in
    record { half = pos (m / 2 + 1); twice = ap pos (omega (arith, div-add-mod' m 2)) }

even_stays : (m : ℕ) {size rest : ℕ} → rest ≡ size → goes_away m size rest ≡ false → Even (pos m)
unfolding goes_away
even_stays m f e =
    let not-odd : (m % 2 ≡ 1 → ⊥) = eqb-false _ _ (rw (eq-eqb _ _ f) at e) in
    let less : m % 2 < 2 = mod-lt m (omega arith) in
    record { half = pos (m / 2); twice = ap pos (omega (arith, div-add-mod' m 2)) }

even_neg : (q : ℤ) → Even q → Even (neg_ℤ q)
even_neg q e = record { half = neg_ℤ e.half; twice = turned q e.half e.twice }
  where
    turned : (q h : ℤ) → q ≡ h +ℤ h → neg_ℤ q ≡ neg_ℤ h +ℤ neg_ℤ h
    turned q h = simp zi (simp zo (omega zarith))

-- nearer than half, or even
even_size : (a b : ℕ) → 0 < b → (2 * nat_abs (pos a -ℤ pos (size_of a b * b)) < b) ⊎ Even (pos (size_of a b))
unfolding size_of
even_size a b h = go (eqb (b - a % b) (a % b)) refl (goes_away (a / b) (a % b) (b - a % b)) refl
  where
    go : (v : Bool) → eqb (b - a % b) (a % b) ≡ v → (w : Bool) → goes_away (a / b) (a % b) (b - a % b) ≡ w →
        (2 * nat_abs (pos a -ℤ pos (cond w (a / b + 1) (a / b) * b)) < b) ⊎ Even (pos (cond w (a / b + 1) (a / b)))
    go true f true e = inr (even_away (a / b) (eqb-true (b - a % b) (a % b) f) e)
    go true f false e = inr (even_stays (a / b) (eqb-true (b - a % b) (a % b) f) e)
    go false f true e = inl (rw (left_size a b h true) (omega (arith, eqb-false (b - a % b) (a % b) f, mod-lt a h, tie_away (a / b) (a % b) (b - a % b) e)))
    go false f false e = inl (rw (left_size a b h false) (omega (arith, eqb-false (b - a % b) (a % b) f, mod-lt a h, tie_stays (a / b) (a % b) (b - a % b) e)))

pub quotient_even : (n d : ℤ) → pos 0 <ℤ d → (2 * distance n d (quotient n d) < nat_abs d) ⊎ Even (quotient n d)
unfolding quotient
quotient_even n (negsuc b) h = absurd h.lt
quotient_even (pos a) (pos b) h = even_size a b (omega zarith)
quotient_even (negsuc a) (pos b) h = go (even_size (suc a) b (omega zarith))
  where
    go : (2 * nat_abs (pos (suc a) -ℤ pos (size_of (suc a) b * b)) < b) ⊎ Even (pos (size_of (suc a) b)) →
        (2 * distance (negsuc a) (pos b) (neg_ℤ (pos (size_of (suc a) b))) < b) ⊎ Even (neg_ℤ (pos (size_of (suc a) b)))
    go (inl l) = inl (rw (distance_neg (pos (suc a)) (pos b) (pos (size_of (suc a) b))) l)
    go (inr e) = inr (even_neg _ e)

-- so that it is the even one of two that are equally near
pub quotient_halves : (n d k : ℤ) → pos 0 <ℤ d → distance n d k ≡ distance n d (quotient n d) → (k ≡ quotient n d) ⊎ Even (quotient n d)
quotient_halves n d k h e = go (quotient_even n d h)
  where
    go : (2 * distance n d (quotient n d) < nat_abs d) ⊎ Even (quotient n d) → (k ≡ quotient n d) ⊎ Even (quotient n d)
    go (inl l) = inl (alone n d (quotient n d) k l e)
    go (inr v) = inr v

-- no two even numbers are nearest: they are at least 2 × d apart
apart_twice : (i j : ℤ) → nat_abs ((i +ℤ i) -ℤ (j +ℤ j)) ≡ 2 * nat_abs (i -ℤ j)
apart_twice i j = ap nat_abs (twice i j) ∙ abs_mul (pos 2) (i -ℤ j)
  where
    twice : (i j : ℤ) → (i +ℤ i) -ℤ (j +ℤ j) ≡ pos 2 *ℤ (i -ℤ j)
    twice i j = simp zi (simp zo (omega zarith))

even_one : (n d q p : ℤ) → 0 < nat_abs d → Even q → Even p → 2 * distance n d q ≤ nat_abs d → 2 * distance n d p ≤ nat_abs d → q ≡ p
even_one n d q p h e f l g = same_of q p (go (nat_abs (e.half -ℤ f.half)) (rw (e.twice, f.twice) (apart_twice e.half f.half)))
  where
    go : (t : ℕ) → nat_abs (q -ℤ p) ≡ 2 * t → nat_abs (q -ℤ p) ≤ 0
    go zero x = omega arith
    go (suc t) x =
        absurd (
        let m : 2 * nat_abs d ≤ 2 * suc t * nat_abs d = mul-le-mul_right (nat_abs d) (omega arith) in
        let b : 2 * suc t * nat_abs d ≤ distance n d p + distance n d q = rw x at (between n d q p) in
        omega arith)

pub halves_one : (n d q p : ℤ) → pos 0 <ℤ d → IsRounded n d q → IsRounded n d p → distance n d q ≡ distance n d p → q ≡ p
halves_one n d q p h r s e = go (r.halves p (sym e)) (s.halves q e)
  where
    half : (q : ℤ) → IsRounded n d q → 2 * distance n d q ≤ nat_abs d
    half q r = near_of n d q h r.nearest

    go : (p ≡ q) ⊎ Even q → (q ≡ p) ⊎ Even p → q ≡ p
    go (inl x) y = sym x
    go (inr x) (inl y) = y
    go (inr x) (inr y) = even_one n d q p (above d h) x y (half q r) (half p s)
