-- The order of the integers, with products and absolute values.
use mathlib.Core.Path.{◌≡◌}
use mathlib.Core.Logic.{◌↔◌, ◌⊎◌, inl, inr}
use Prim.Native.Nat.{ℕ, ◌+◌, ◌*◌, ◌≤◌}
use native.Mathlib.Nat.{mul-le-mul_left}
use native.Mathlib.Decide.{dec_le}
use native.Mathlib.Omega.{arith}
use lib.IntN.{ℤ, pos, negsuc, neg_ℤ, nat_abs, ◌+ℤ◌, ◌*ℤ◌}
use lib.Signed.{◌≤ℤ◌, ◌<ℤ◌}
use Rattle.integers.proofs.Parts.{up, dn, up_mul, dn_mul, up_neg, dn_neg, le_of, le_to, lt_of, eq_of}
use Rattle.integers.proofs.Linear.{zin, zout, zarith}

pub ≤_trans : {x y z : ℤ} → x ≤ℤ y → y ≤ℤ z → x ≤ℤ z
≤_trans {x} {y} {z} h k = le_of x z (omega zarith)

pub ≤_antisym : {x y : ℤ} → x ≤ℤ y → y ≤ℤ x → x ≡ y
≤_antisym {x} {y} h k = eq_of x y (omega zarith)

pub lt_le : {x y : ℤ} → x <ℤ y → x ≤ℤ y
lt_le {x} {y} h = le_of x y (omega zarith)

pub le_or_lt : (x y : ℤ) → (x ≤ℤ y) ⊎ (y <ℤ x)
le_or_lt x y = go (dec_le (up x + dn y) (up y + dn x))
  where
    go : Dec (up x + dn y ≤ up y + dn x) → (x ≤ℤ y) ⊎ (y <ℤ x)
    go (yes h) = inl (le_of x y h)
    go (no h) = inr (lt_of y x (omega arith))

pub le_mul : {k x y : ℤ} → pos 0 ≤ℤ k → x ≤ℤ y → (k *ℤ x) ≤ℤ (k *ℤ y)
le_mul {k} {x} {y} h g = go k h
  where
    go : (k : ℤ) → pos 0 ≤ℤ k → (k *ℤ x) ≤ℤ (k *ℤ y)
    go (pos n) h = le_of _ _ (simp (up_mul, dn_mul) (omega (arith, mul-le-mul_left n (le_to g))))
    go (negsuc n) h = absurd h.le

pub mul_nonneg : {x y : ℤ} → pos 0 ≤ℤ x → pos 0 ≤ℤ y → pos 0 ≤ℤ (x *ℤ y)
mul_nonneg {x} {y} h g = simp zin (simp zout (omega (zarith, simp zout at (simp zin at (le_mul h g)))))

-- a positive factor cancels
pub le_cancel : {k x y : ℤ} → pos 0 <ℤ k → (k *ℤ x) ≤ℤ (k *ℤ y) → x ≤ℤ y
le_cancel {k} {x} {y} h g = go (le_or_lt x y)
  where
    go : (x ≤ℤ y) ⊎ (y <ℤ x) → x ≤ℤ y
    go (inl e) = e
    go (inr e) =
        let s : (y +ℤ pos 1) ≤ℤ x = simp zin (simp zout (omega zarith)) in
        let m = simp zout at (simp zin at (le_mul (lt_le h) s)) in
        let g' = simp zout at (simp zin at g) in
        let f : ⊥ = omega zarith in absurd f

pub abs_le : (k : ℕ) (x d : ℤ) → (pos (k * nat_abs x) ≤ℤ d) ↔ ((neg_ℤ d ≤ℤ (pos k *ℤ x)) × ((pos k *ℤ x) ≤ℤ d))
abs_le k x d = (go x, back x)
  where
    go : (x : ℤ) → (pos (k * nat_abs x) ≤ℤ d) → ((neg_ℤ d ≤ℤ (pos k *ℤ x)) × ((pos k *ℤ x) ≤ℤ d))
    go (pos n) h = (le_of _ _ (simp (up_neg, dn_neg) (omega zarith)), h)
    go (negsuc n) h = (le_of _ _ (simp (up_neg, dn_neg) (omega zarith)), le_of _ _ (simp (up_neg, dn_neg) (omega zarith)))

    back : (x : ℤ) → ((neg_ℤ d ≤ℤ (pos k *ℤ x)) × ((pos k *ℤ x) ≤ℤ d)) → (pos (k * nat_abs x) ≤ℤ d)
    back (pos n) h = h.1
    back (negsuc n) h = le_of _ _ (omega (zarith, simp (up_neg, dn_neg) at (le_to h.0)))
