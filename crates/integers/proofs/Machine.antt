-- Signed arithmetic at i64: what each operation, cast and test asks, and what it gives.
-- `Num p z B`: what the machine reads, p, is the number z, and z is within ±B. `Op m z B`: the operation m fits, and its result is a `Num`.
use mathlib.Core.Path.{◌≡◌, refl, sym, ap, subst, ◌∙◌}
use mathlib.Core.Bool.{Bool, true, false}
use mathlib.Core.Logic.{◌⊎◌, inl, inr}
use Prim.Native.Nat.{ℕ, ◌+◌, ◌*◌, ◌^◌, ◌<◌, ◌≤◌}
use native.Mathlib.Nat.{le_trans, lt_of_le_of_lt, add-le-add, mul-le-mul}
use native.Mathlib.Omega.{arith}
use borrow.Author.Tests.{ltb-true}
use lib.Dec.{T}
use lib.IntN.{ℤ, pos, negsuc, nat_abs, ◌+ℤ◌, ◌-ℤ◌, ◌*ℤ◌}
use lib.Signed.{◌≤ℤ◌, ◌<ℤ◌, le_z, lt_z, mag}
use mir.Syntax.{Width, w64}
use mir.Val.{SFits, of_z, to_z, hbits}
use mir.Facts.{to_z-of_z, to_z_pos}
use Rattle.std.proofs.lemmas.Int.{fits_signed_from_abs}
use Rattle.integers.proofs.Linear.{zarith}
use Rattle.integers.proofs.Order.{le_or_lt}
use Rattle.integers.proofs.Absolute.{abs_add, abs_sub, abs_mul}

-- a number whose absolute value is below half the width's range fits
pub abs_fits_at : (w : Width) (z : ℤ) → nat_abs z < 2 ^ hbits w → SFits w z
abs_fits_at w z h = fits_signed_from_abs w z h

pub abs_fits : (x : ℤ) → nat_abs x < 2 ^ 63 → SFits w64 x
abs_fits x h = abs_fits_at w64 x h

pub fit_sub : (x y : ℤ) → nat_abs x + nat_abs y < 2 ^ 63 → SFits w64 (x -ℤ y)
fit_sub x y h = abs_fits (x -ℤ y) (omega (arith, abs_sub x y))

-- a divisor above zero has bits that are not zero
pub of_z_pos : {d : ℤ} → pos 0 <ℤ d → 0 < of_z w64 d
of_z_pos {d = pos b} h = omega zarith
of_z_pos {d = negsuc b} h = absurd h.lt

-- equal bits, equal numbers
pub bits_eq : {x y : ℤ} → SFits w64 x → SFits w64 y → of_z w64 x ≡ of_z w64 y → x ≡ y
bits_eq h g e = sym (to_z-of_z h) ∙ ap (λ k. to_z w64 k) e ∙ to_z-of_z g

-- tests, as a branch leaves them
pub lt_true : (x y : ℤ) → lt_z x y ≡ true → x <ℤ y
lt_true x y e = record { lt = subst T (sym e) tt }

pub le_true : (x y : ℤ) → le_z x y ≡ true → x ≤ℤ y
le_true x y e = record { le = subst T (sym e) tt }

true_is : (b : Bool) → T b → b ≡ false → ⊥
true_is true t e = subst T e tt
true_is false t e = t

pub lt_false : (x y : ℤ) → lt_z x y ≡ false → y ≤ℤ x
lt_false x y e = go (le_or_lt y x)
  where
    go : (y ≤ℤ x) ⊎ (x <ℤ y) → y ≤ℤ x
    go (inl h) = h
    go (inr h) = absurd (true_is (lt_z x y) h.lt e)

pub le_false : (x y : ℤ) → le_z x y ≡ false → y <ℤ x
le_false x y e = go (le_or_lt x y)
  where
    go : (x ≤ℤ y) ⊎ (y <ℤ x) → y <ℤ x
    go (inl h) = absurd (true_is (le_z x y) h.le e)
    go (inr h) = h

-- a number written to 64 bits and read again
abbrev pub rd : ℤ → ℤ
rd z = to_z w64 (of_z w64 z)

pub record Num (p z : ℤ) (B : ℕ) : Type 0 where
  pub is : p ≡ z
  pub abs : nat_abs z ≤ B

pub record Op (m z : ℤ) (B : ℕ) : Type 0 where
  pub fits : SFits w64 m
  pub num : Num (rd m) z B

-- a parameter, a field or a call's result
pub num : (z : ℤ) (B : ℕ) → nat_abs z ≤ B → B < 2 ^ 63 → Num (rd z) z B
num z B h l = record { is = to_z-of_z (abs_fits z (lt_of_le_of_lt h l)); abs = h }

-- a call's result that a definition gives: r ≡ z
pub num_is : (r z : ℤ) (B : ℕ) → r ≡ z → nat_abs z ≤ B → B < 2 ^ 63 → Num (rd r) z B
num_is r z B e h l = record {
  is = to_z-of_z (abs_fits r (subst (λ (y : ℤ). nat_abs y < 2 ^ 63) (sym e) (lt_of_le_of_lt h l))) ∙ e;
  abs = h;
}

-- `x as i64` of an unsigned number
pub num_u : (n B : ℕ) → n ≤ B → B < 2 ^ 63 → Num (to_z w64 n) (pos n) B
num_u n B h l = record { is = to_z_pos w64 (lt_of_le_of_lt h l); abs = h }

-- an operation m that is the number z
pub op : {m z : ℤ} {B : ℕ} → m ≡ z → nat_abs z ≤ B → B < 2 ^ 63 → Op m z B
op {m} {z} {B} e h l = record { fits = fit; num = record { is = to_z-of_z fit ∙ e; abs = h } }
  where
    fit : SFits w64 m
    fit = subst (SFits w64) (sym e) (abs_fits z (lt_of_le_of_lt h l))

-- `x as i64` of an i16 or an i32
pub num_s : (w : Width) (z : ℤ) (B : ℕ) → nat_abs z ≤ B → B < 2 ^ hbits w → B < 2 ^ 63 → Op (to_z w (of_z w z)) z B
num_s w z B h l k = op (to_z-of_z (abs_fits_at w z (lt_of_le_of_lt h l))) h k

pub add : {p q x y : ℤ} {A B : ℕ} → Num p x A → Num q y B → A + B < 2 ^ 63 → Op (p +ℤ q) (x +ℤ y) (A + B)
add {x = x} {y = y} n k l = op (rw (n.is, k.is)) (le_trans (abs_add x y) (add-le-add n.abs k.abs)) l

pub sub : {p q x y : ℤ} {A B : ℕ} → Num p x A → Num q y B → A + B < 2 ^ 63 → Op (p -ℤ q) (x -ℤ y) (A + B)
sub {x = x} {y = y} n k l = op (rw (n.is, k.is)) (le_trans (abs_sub x y) (add-le-add n.abs k.abs)) l

pub mul : {p q x y : ℤ} {A B : ℕ} → Num p x A → Num q y B → A * B < 2 ^ 63 → Op (p *ℤ q) (x *ℤ y) (A * B)
mul {x = x} {y = y} {A = A} {B = B} n k l = op (rw (n.is, k.is)) (omega (arith, abs_mul x y, mul-le-mul n.abs k.abs)) l

-- what the test `z < 0` says of a number's form
below_zero : (z : ℤ) → mag z < 2 ^ 63 → lt_z z (pos 0) ≡ true → (n : ℕ) × (z ≡ negsuc n) × (n < 2 ^ 63)
below_zero (pos n) h t = absurd (let k : n < 0 = ltb-true n 0 t in omega arith)
below_zero (negsuc n) h t = (n, refl, h)

not_below_zero : (z : ℤ) → mag z < 2 ^ 63 → lt_z z (pos 0) ≡ false → (n : ℕ) × (z ≡ pos n) × (n < 2 ^ 63)
not_below_zero (pos n) h t = (n, refl, h)
not_below_zero (negsuc n) h t = absurd (let z : ◌≡◌ {A = ℕ} 0 1 = cc in omega arith)

pub negative : (z : ℤ) → SFits w64 z → lt_z (rd z) (pos 0) ≡ true → (n : ℕ) × (z ≡ negsuc n) × (n < 2 ^ 63)
negative z f t = below_zero z f.sfits (rw (to_z-of_z f) at t)

pub not_negative : (z : ℤ) → SFits w64 z → lt_z (rd z) (pos 0) ≡ false → (n : ℕ) × (z ≡ pos n) × (n < 2 ^ 63)
not_negative z f t = not_below_zero z f.sfits (rw (to_z-of_z f) at t)
