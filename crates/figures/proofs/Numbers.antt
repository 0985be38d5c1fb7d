-- Laws of numbers, of sums over indices and of the rounded quotient that the figures' bounds rest on.
use Prim.Native.Nat.{ℕ, zero, suc, ◌+◌, ◌*◌, ◌≤◌, ◌<◌}
use native.Mathlib.Nat.{le_trans, mul-le-mul, mul-le-mul_right}
use native.Mathlib.Decide.{dec_le, ℕ_discrete}
use native.Mathlib.Omega.{arith}
use mathlib.Core.Path.{◌≡◌, refl, sym, ap, ◌∙◌}
use mathlib.Core.Bool.{Bool, true, false, cond}
use lib.IntN.{ℤ, pos, negsuc, nat_abs, ◌+ℤ◌, ◌-ℤ◌, ◌*ℤ◌}
use lib.Signed.{◌≤ℤ◌, ◌<ℤ◌, ≤ℤ_refl}
use Rattle.integers.specs.Sum.{sum_to}
use Rattle.integers.proofs.Linear.{zarith}
use Rattle.integers.proofs.Absolute.{abs_add, abs_sub, abs_mul}
use Rattle.integers.proofs.Sums.{sum_abs, sum_least}
use Rattle.integers.proofs.Tactic.{zi, zo}
use Rattle.quotient.specs.Rounded.{quotient, remainder}
use Rattle.quotient.proofs.Laws.{whole, near}

pub natural_least : (n : ℕ) → pos 0 ≤ℤ pos n
natural_least n = simp zi (simp zo (omega zarith))

pub above_suc : (n : ℕ) → pos 0 <ℤ pos (suc n)
above_suc n = simp zi (simp zo (omega zarith))

pub less_left : (x y : ℤ) → pos 0 ≤ℤ y → (x -ℤ y) ≤ℤ x
less_left x y = simp zi (simp zo (omega zarith))

-- a number between 0 and k, and one between 0 and another
pub size_most : (x : ℤ) (k : ℕ) → pos 0 ≤ℤ x → x ≤ℤ pos k → nat_abs x ≤ k
size_most x k = simp zi (simp zo (omega zarith))

pub size_rise : (x y : ℤ) → pos 0 ≤ℤ x → x ≤ℤ y → nat_abs x ≤ nat_abs y
size_rise x (pos b) h l = size_most x b h l
size_rise (pos a) (negsuc b) h l = absurd l.le
size_rise (negsuc a) (negsuc b) h l = absurd h.le

-- a number or 0, and a product
pub cond_within : (b : Bool) (x : ℤ) {k : ℕ} → nat_abs x ≤ k → nat_abs (cond b x (pos 0)) ≤ k
cond_within true x h = h
cond_within false x h = omega arith

pub times_within : (x y : ℤ) {a b : ℕ} → nat_abs x ≤ a → nat_abs y ≤ b → nat_abs (x *ℤ y) ≤ a * b
times_within x y h k = omega (arith, abs_mul x y, mul-le-mul h k)

-- a sum of at most m terms within B each
pub sum_within : (f : ℕ → ℤ) (B : ℕ) {n m : ℕ} → ((i : ℕ) → i < n → nat_abs (f i) ≤ B) → n ≤ m → nat_abs (sum_to f n) ≤ m * B
sum_within f B {n} h l = le_trans (sum_abs f B n h) (mul-le-mul_right B l)

-- terms that are no larger
plus_rise : (x y a b : ℤ) → x ≤ℤ y → a ≤ℤ b → (x +ℤ a) ≤ℤ (y +ℤ b)
plus_rise x y a b = simp zi (simp zo (omega zarith))

pub sum_rise : (f g : ℕ → ℤ) (n : ℕ) → ((i : ℕ) → i < n → f i ≤ℤ g i) → sum_to f n ≤ℤ sum_to g n
unfolding sum_to
sum_rise f g zero h = ≤ℤ_refl (pos 0)
sum_rise f g (suc n) h = plus_rise (sum_to f n) (sum_to g n) (f n) (g n) (sum_rise f g n (λ i l. h i (omega arith))) (h n (omega arith))

-- one of several terms that are not negative
plus_right : (x y : ℤ) → pos 0 ≤ℤ x → y ≤ℤ (x +ℤ y)
plus_right x y = simp zi (simp zo (omega zarith))

plus_left : (x y z : ℤ) → pos 0 ≤ℤ y → z ≤ℤ x → z ≤ℤ (x +ℤ y)
plus_left x y z = simp zi (simp zo (omega zarith))

pub sum_term : (f : ℕ → ℤ) (n i : ℕ) → ((k : ℕ) → k < n → pos 0 ≤ℤ f k) → i < n → f i ≤ℤ sum_to f n
unfolding sum_to
sum_term f zero i h l = absurd (omega arith)
sum_term f (suc n) i h l = by (ℕ_discrete i n) (λ k. sum_term f n i (λ j m. h j (omega arith)) k)
  where
    by : Dec (i ≡ n) → (i < n → f i ≤ℤ sum_to f n) → f i ≤ℤ (sum_to f n +ℤ f n)
    by (yes e) r = rw e (plus_right (sum_to f n) (f n) (sum_least f n (λ j m. h j (omega arith))))
    by (no e) r = plus_left (sum_to f n) (f n) (f i) (h n (omega arith)) (r (omega (arith, e)))

-- terms that are at most k times others that are not negative
abs_both : (x y : ℤ) → pos 0 ≤ℤ x → pos 0 ≤ℤ y → nat_abs (x +ℤ y) ≡ nat_abs x + nat_abs y
abs_both (pos a) (pos b) h l = refl
abs_both (pos a) (negsuc b) h l = absurd l.le
abs_both (negsuc a) y h l = absurd h.le

pub sum_weighted : (f g : ℕ → ℤ) (k n : ℕ) → ((i : ℕ) → i < n → nat_abs (f i) ≤ k * nat_abs (g i)) → ((i : ℕ) → i < n → pos 0 ≤ℤ g i) → nat_abs (sum_to f n) ≤ k * nat_abs (sum_to g n)
unfolding sum_to
sum_weighted f g k zero h l = omega arith
sum_weighted f g k (suc n) h l =
    omega (
      arith,
      abs_add (sum_to f n) (f n),
      h n (omega arith),
      sum_weighted f g k n (λ i m. h i (omega arith)) (λ i m. l i (omega arith)),
      ap (λ m. k * m) (abs_both (sum_to g n) (g n) (sum_least g n (λ i m. l i (omega arith))) (l n (omega arith))),
    )

-- a remainder is no larger than the divisor
pub remainder_within : (n d : ℤ) {k : ℕ} → pos 0 <ℤ d → nat_abs d ≤ k → nat_abs (remainder n d) ≤ k
remainder_within n (pos b) h l = omega (zarith, near n (pos b) h)
remainder_within n (negsuc b) h l = absurd h.lt

-- a rounded quotient is at most k where the dividend is at most k divisors
less_is : (n q r d : ℤ) → n ≡ q *ℤ d +ℤ r → q *ℤ d ≡ n -ℤ r
less_is n q r d = simp zi (simp zo (omega zarith))

pub quotient_share : (n d : ℤ) (k : ℕ) → pos 0 <ℤ d → nat_abs n ≤ k * nat_abs d → nat_abs (quotient n d) ≤ k
quotient_share n (negsuc b) k h l = absurd h.lt
quotient_share n (pos b) k h l = by (dec_le (nat_abs (quotient n (pos b))) k)
  where
    product : nat_abs (quotient n (pos b)) * b ≤ nat_abs n + nat_abs (remainder n (pos b))
    product = rw (sym (abs_mul (quotient n (pos b)) (pos b)) ∙ ap nat_abs (less_is n (quotient n (pos b)) (remainder n (pos b)) (pos b) (whole n (pos b)))) (abs_sub n (remainder n (pos b)))

    by : Dec (nat_abs (quotient n (pos b)) ≤ k) → nat_abs (quotient n (pos b)) ≤ k
    by (yes g) = g
    by (no g) =
        let more : (k + 1) * b ≤ nat_abs (quotient n (pos b)) * b = mul-le-mul_right b (omega (arith, g)) in
        absurd (omega (zarith, product, more, near n (pos b) h))
