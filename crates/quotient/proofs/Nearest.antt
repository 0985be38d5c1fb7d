-- The nearest whole numbers to n / d, whichever way a half goes.
use mathlib.Core.Path.{◌≡◌, refl, sym, ap, ◌∙◌}
use mathlib.Core.Bool.{Bool, true, false, cond}
use Prim.Native.Nat.{ℕ, zero, suc, ◌+◌, ◌*◌, ◌-◌, ◌/◌, ◌%◌, ◌<◌, ◌≤◌}
use native.Mathlib.Nat.{div-add-mod', mod-lt, mul-le-mul_right}
use native.Mathlib.Omega.{arith}
use borrow.Author.Tests.{ltb-true, ltb-false}
use lib.Dec.{ltb}
use lib.IntN.{ℤ, pos, negsuc, neg_ℤ, nat_abs, neg_ℤ-neg_ℤ, neg_ℤ-+ℤ, ◌+ℤ◌, ◌-ℤ◌, ◌*ℤ◌}
use lib.Signed.{◌<ℤ◌}
use Rattle.integers.proofs.Linear.{zarith}
use Rattle.integers.proofs.Tactic.{zi, zo}
use Rattle.integers.proofs.Ring.{neg_mull}
use Rattle.integers.proofs.Absolute.{abs_neg, abs_mul, abs_sub}
use Rattle.quotient.specs.Rounded.{distance}

-- of sizes
gap : (a x : ℕ) → nat_abs (pos a -ℤ pos x) ≡ (a - x) + (x - a)
gap a zero = omega arith
gap a (suc y) = go (ltb a (suc y)) refl
  where
    go : (w : Bool) → ltb a (suc y) ≡ w → nat_abs (cond w (negsuc (suc y - suc a)) (pos (a - suc y))) ≡ (a - suc y) + (suc y - a)
    go true e = let h : a < suc y = ltb-true a (suc y) e in omega arith
    go false e = let h : suc y ≤ a = ltb-false a (suc y) e in omega arith

-- what the quotient of sizes leaves, cut off or one further
pub left_size : (a b : ℕ) → 0 < b → (w : Bool) → nat_abs (pos a -ℤ pos (cond w (a / b + 1) (a / b) * b)) ≡ cond w (b - a % b) (a % b)
left_size a b h true = rw (gap a ((a / b + 1) * b)) (omega (arith, div-add-mod' a b, mod-lt a h))
left_size a b h false = rw (gap a (a / b * b)) (omega (arith, div-add-mod' a b))

-- the same on the other side of zero
pub distance_neg : (n d q : ℤ) → distance (neg_ℤ n) d (neg_ℤ q) ≡ distance n d q
distance_neg n d q =
    ap (λ (x : ℤ). nat_abs (neg_ℤ n +ℤ neg_ℤ x)) (neg_mull q d) ∙ ap nat_abs (sym (neg_ℤ-+ℤ n (neg_ℤ (q *ℤ d)))) ∙ abs_neg (n -ℤ q *ℤ d)

pub above : (d : ℤ) → pos 0 <ℤ d → 0 < nat_abs d
above (pos b) h = omega zarith
above (negsuc b) h = absurd h.lt

-- two whole numbers lie together at least as far from n / d as from each other
split : (n d q k : ℤ) → (q -ℤ k) *ℤ d ≡ (n -ℤ k *ℤ d) -ℤ (n -ℤ q *ℤ d)
split n d q k = simp zi (simp zo (omega zarith))

pub between : (n d q k : ℤ) → nat_abs (q -ℤ k) * nat_abs d ≤ distance n d k + distance n d q
between n d q k = rw (← abs_mul (q -ℤ k) d, split n d q k) (abs_sub (n -ℤ k *ℤ d) (n -ℤ q *ℤ d))

pub same_of : (q k : ℤ) → nat_abs (q -ℤ k) ≤ 0 → q ≡ k
same_of q k = simp zi (simp zo (omega zarith))

-- k is q, or d away from it at least
pub apart : (P : Type 0) (n d q k : ℤ) → (q ≡ k → P) → (nat_abs d ≤ distance n d k + distance n d q → P) → P
apart P n d q k same other = go (nat_abs (q -ℤ k)) refl
  where
    go : (t : ℕ) → nat_abs (q -ℤ k) ≡ t → P
    go zero e = same (same_of q k (omega arith))
    go (suc t) e =
        other (
        let l : 1 * nat_abs d ≤ suc t * nat_abs d = mul-le-mul_right (nat_abs d) (omega arith) in
        let g : suc t * nat_abs d ≤ distance n d k + distance n d q = rw e at (between n d q k) in
        omega arith)

-- at most half of d away, a number is nearest, and less than half, alone
pub nearest_of : (n d q k : ℤ) → 2 * distance n d q ≤ nat_abs d → distance n d q ≤ distance n d k
nearest_of n d q k h = apart _ n d q k (λ e. rw e (omega arith)) (λ l. omega arith)

pub alone : (n d q k : ℤ) → 2 * distance n d q < nat_abs d → distance n d k ≡ distance n d q → k ≡ q
alone n d q k h e = apart _ n d q k sym (λ l. absurd (omega arith))

-- nearer than its two neighbours, a number is at most half of d away
half_of : (r : ℤ) (b : ℕ) → 0 < b → nat_abs r ≤ nat_abs (r -ℤ pos b) → nat_abs r ≤ nat_abs (r +ℤ pos b) → 2 * nat_abs r ≤ b
half_of (pos x) b h low high = let f : x ≤ (x - b) + (b - x) = rw (← gap x b) low in omega arith
half_of (negsuc x) b h low high = let f : suc x ≤ (suc x - b) + (b - suc x) = rw (← gap (suc x) b, ← abs_neg (pos (suc x) -ℤ pos b), neg_ℤ-+ℤ (pos (suc x)) (neg_ℤ (pos b)), neg_ℤ-neg_ℤ (pos b)) high in omega arith

up_one : (n d q : ℤ) → n -ℤ (q +ℤ pos 1) *ℤ d ≡ (n -ℤ q *ℤ d) -ℤ d
up_one n d q = simp zi (simp zo (omega zarith))

down_one : (n d q : ℤ) → n -ℤ (q -ℤ pos 1) *ℤ d ≡ (n -ℤ q *ℤ d) +ℤ d
down_one n d q = simp zi (simp zo (omega zarith))

pub near_of : (n d q : ℤ) → pos 0 <ℤ d → ((k : ℤ) → distance n d q ≤ distance n d k) → 2 * distance n d q ≤ nat_abs d
near_of n (negsuc b) q h f = absurd h.lt
near_of n (pos b) q h f =
    half_of (n -ℤ q *ℤ pos b) b (omega zarith) (rw (← up_one n (pos b) q) (f (q +ℤ pos 1))) (rw (← down_one n (pos b) q) (f (q -ℤ pos 1)))
