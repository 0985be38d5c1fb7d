-- Sums over indices: a loop's next step, bounds, signs; tests over indices.
use mathlib.Core.Path.{◌≡◌, refl, sym, ap, ◌∙◌}
use mathlib.Core.Bool.{Bool, true, false, ◌&&◌}
use Prim.Native.Nat.{ℕ, zero, suc, ◌+◌, ◌*◌, ◌^◌, ◌<◌, ◌≤◌}
use native.Mathlib.Nat.{lt_irrefl, lt_of_le_of_lt, mul-le-mul_right}
use native.Mathlib.Decide.{ℕ_discrete}
use native.Mathlib.Numerals.{add-one}
use native.Mathlib.Omega.{arith}
use lib.IntN.{ℤ, pos, nat_abs, ◌+ℤ◌, +ℤ_idl, +ℤ_idr}
use lib.Signed.{◌≤ℤ◌}
use Rattle.integers.specs.Sum.{sum_to, all_to}
use Rattle.integers.proofs.Linear.{zarith}
use Rattle.integers.proofs.Tactic.{zi, zo}
use Rattle.integers.proofs.Absolute.{abs_add}
use Rattle.integers.proofs.Machine.{Op, rd, op, num_is}

pub sum_suc : (f : ℕ → ℤ) (n : ℕ) → sum_to f (n + 1) ≡ sum_to f n +ℤ f n
unfolding sum_to
sum_suc f n = rw add-one

pub sum_zero : (f : ℕ → ℤ) → sum_to f 0 ≡ pos 0
unfolding sum_to
sum_zero f = refl

-- terms that agree below n
pub sum_same : (f g : ℕ → ℤ) (n : ℕ) → ((i : ℕ) → i < n → f i ≡ g i) → sum_to f n ≡ sum_to g n
unfolding sum_to
sum_same f g zero h = refl
sum_same f g (suc n) h = rw (sum_same f g n (λ i l. h i (omega arith)), h n (omega arith))

pub sum_abs : (f : ℕ → ℤ) (B n : ℕ) → ((k : ℕ) → k < n → nat_abs (f k) ≤ B) → nat_abs (sum_to f n) ≤ n * B
unfolding sum_to
sum_abs f B zero h = omega arith
sum_abs f B (suc n) h =
    let e : nat_abs (sum_to f n) ≤ n * B = sum_abs f B n (λ k l. h k (omega arith)) in
    let g : nat_abs (f n) ≤ B = h n (omega arith) in
    omega (arith, abs_add (sum_to f n) (f n))

plus_least : (x y : ℤ) → pos 0 ≤ℤ x → pos 0 ≤ℤ y → pos 0 ≤ℤ (x +ℤ y)
plus_least x y = simp zi (simp zo (omega zarith))

-- terms that are not negative
pub sum_least : (f : ℕ → ℤ) (n : ℕ) → ((i : ℕ) → i < n → pos 0 ≤ℤ f i) → pos 0 ≤ℤ sum_to f n
unfolding sum_to
sum_least f zero h = record { le = tt }
sum_least f (suc n) h = plus_least (sum_to f n) (f n) (sum_least f n (λ i l. h i (omega arith))) (h n (omega arith))

-- the sum so far, p, and the next number, a call's result r: the next sum fits, and is what the definition says
pub next : (f : ℕ → ℤ) (B n i : ℕ) {p r : ℤ} → ((k : ℕ) → k < n → nat_abs (f k) ≤ B) → n * B < 2 ^ 63 → i < n → p ≡ sum_to f i → r ≡ f i →
    Op (p +ℤ rd r) (sum_to f (i + 1)) ((i + 1) * B)
next f B n i {p} {r} h lim l ep er =
    op (rw (ep, (num_is r (f i) B er (h i l) one).is, sum_suc)) (sum_abs f B (i + 1) (λ k m. h k (omega arith)))
    (lt_of_le_of_lt (mul-le-mul_right B (omega arith)) lim)
  where
    one : B < 2 ^ 63
    one = let b : 1 * B ≤ n * B = mul-le-mul_right B (omega arith) in omega arith

-- all terms zero
pub sum_none : (f : ℕ → ℤ) (n : ℕ) → ((i : ℕ) → i < n → f i ≡ pos 0) → sum_to f n ≡ pos 0
unfolding sum_to
sum_none f zero h = refl
sum_none f (suc n) h = rw (sum_none f n (λ i l. h i (omega arith)), h n (omega arith))

-- all terms zero but one
pub sum_pick : (f : ℕ → ℤ) (n k : ℕ) → k < n → ((i : ℕ) → i < n → (i ≡ k → ⊥) → f i ≡ pos 0) → sum_to f n ≡ f k
unfolding sum_to
sum_pick f zero k l h = absurd (lt_irrefl k (omega arith))
sum_pick f (suc n) k l h = by (ℕ_discrete k n) (λ m. sum_pick f n k m (λ i a b. h i (omega arith) b))
  where
    by : Dec (k ≡ n) → (k < n → sum_to f n ≡ f k) → sum_to f n +ℤ f n ≡ f k
    by (yes q) r = rw (q, sum_none f n (λ i a. h i (omega arith) (λ b. absurd (lt_irrefl i (omega (arith, q, b)))))) (+ℤ_idl (f n))
    by (no q) r = rw (r (omega (arith, q)), h n (omega arith) (λ b. q (sym b))) (+ℤ_idr (f k))

-- a sum of sums, either way
plus_plus : (a b c d : ℤ) → (a +ℤ b) +ℤ (c +ℤ d) ≡ (a +ℤ c) +ℤ (b +ℤ d)
plus_plus a b c d = simp zi (simp zo (omega zarith))

pub sum_plus : (f g : ℕ → ℤ) (n : ℕ) → sum_to f n +ℤ sum_to g n ≡ sum_to (λ i. f i +ℤ g i) n
unfolding sum_to
sum_plus f g zero = refl
sum_plus f g (suc n) = plus_plus (sum_to f n) (f n) (sum_to g n) (g n) ∙ ap (λ (x : ℤ). x +ℤ (f n +ℤ g n)) (sum_plus f g n)

pub sum_swap : (f : ℕ → ℕ → ℤ) (m n : ℕ) → sum_to (λ j. sum_to (f j) n) m ≡ sum_to (λ i. sum_to (λ j. f j i) m) n
unfolding sum_to
sum_swap f zero n = sym (sum_none (λ i. pos 0) n (λ i l. refl))
sum_swap f (suc m) n = ap (λ (x : ℤ). x +ℤ sum_to (f m) n) (sum_swap f m n) ∙ sum_plus (λ i. sum_to (λ j. f j i) m) (f m) n

-- a test at every index: a loop that leaves early where it fails
pub all_zero : (p : ℕ → Bool) → all_to p 0 ≡ true
unfolding all_to
all_zero p = refl

-- tests that agree below n
pub all_same : (p q : ℕ → Bool) (n : ℕ) → ((i : ℕ) → i < n → p i ≡ q i) → all_to p n ≡ all_to q n
unfolding all_to
all_same p q zero h = refl
all_same p q (suc n) h = rw (all_same p q n (λ i l. h i (omega arith)), h n (omega arith))

and_false : (a : Bool) → a && false ≡ false
and_false true = refl
and_false false = refl

pub all_more : (p : ℕ → Bool) (i : ℕ) → all_to p i ≡ true → p i ≡ true → all_to p (i + 1) ≡ true
unfolding all_to
all_more p i a b = rw (add-one, a, b)

pub all_stop : (p : ℕ → Bool) (n i : ℕ) → i < n → p i ≡ false → all_to p n ≡ false
unfolding all_to
all_stop p zero i h e = absurd (lt_irrefl i (omega arith))
all_stop p (suc n) i h e = by (ℕ_discrete i n) (λ l. all_stop p n i l e)
  where
    by : Dec (i ≡ n) → (i < n → all_to p n ≡ false) → all_to p n && p n ≡ false
    by (yes q) r = rw (ap p (sym q) ∙ e) (and_false (all_to p n))
    by (no q) r = rw (r (omega (arith, q)))

and_left : (a b : Bool) → a && b ≡ true → (a ≡ true) × (b ≡ true)
and_left true b e = (refl, e)
and_left false b e = let z : ◌≡◌ {A = Bool} false true = e in (e, absurd (no z))
  where
    no : false ≡ true → ⊥
    no q = let z : ◌≡◌ {A = ℕ} 0 1 = cc in omega arith

pub all_at : (p : ℕ → Bool) (n i : ℕ) → all_to p n ≡ true → i < n → p i ≡ true
unfolding all_to
all_at p zero i e h = absurd (lt_irrefl i (omega arith))
all_at p (suc n) i e h = by (ℕ_discrete i n) (λ l. all_at p n i (and_left (all_to p n) (p n) e).0 l)
  where
    by : Dec (i ≡ n) → (i < n → p i ≡ true) → p i ≡ true
    by (yes q) r = ap p q ∙ (and_left (all_to p n) (p n) e).1
    by (no q) r = r (omega (arith, q))
