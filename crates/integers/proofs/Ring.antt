-- The ring laws of the integers.
use mathlib.Core.Path.{◌≡◌, ap, ◌∙◌}
use Prim.Native.Nat.{◌+◌, ◌*◌}
use native.Mathlib.Omega.{arith}
use lib.IntN.{ℤ, neg_ℤ, ◌+ℤ◌, ◌*ℤ◌, *ℤ_comm}
use Rattle.integers.proofs.Parts.{up, dn, up_neg, dn_neg, up_mul, dn_mul, add_law, eq_of}

pub *_assoc : (x y z : ℤ) → (x *ℤ y) *ℤ z ≡ x *ℤ (y *ℤ z)
*_assoc x y z = eq_of _ _ (simp (up_mul, dn_mul) (omega arith))

pub *_distl : (x y z : ℤ) → x *ℤ (y +ℤ z) ≡ x *ℤ y +ℤ x *ℤ z
*_distl x y z = eq_of _ _ (
    let m = simp (up_mul, dn_mul) at (add_law (x *ℤ y) (x *ℤ z)) in
    let u : up x * (up (y +ℤ z) + (dn y + dn z)) ≡ up x * (dn (y +ℤ z) + (up y + up z)) = rw add_law in
    let d : dn x * (up (y +ℤ z) + (dn y + dn z)) ≡ dn x * (dn (y +ℤ z) + (up y + up z)) = rw add_law in
    simp (up_mul, dn_mul) (omega arith))

pub *_distr : (x y z : ℤ) → (x +ℤ y) *ℤ z ≡ x *ℤ z +ℤ y *ℤ z
*_distr x y z = *ℤ_comm (x +ℤ y) z ∙ *_distl z x y ∙ ap (λ k. k +ℤ z *ℤ y) (*ℤ_comm z x) ∙ ap (λ k. x *ℤ z +ℤ k) (*ℤ_comm z y)

pub neg_mull : (x y : ℤ) → neg_ℤ x *ℤ y ≡ neg_ℤ (x *ℤ y)
neg_mull x y = eq_of _ _ (simp (up_neg, dn_neg, up_mul, dn_mul) (omega arith))

pub neg_mulr : (x y : ℤ) → x *ℤ neg_ℤ y ≡ neg_ℤ (x *ℤ y)
neg_mulr x y = eq_of _ _ (simp (up_neg, dn_neg, up_mul, dn_mul) (omega arith))

pub *_left_comm : (x y z : ℤ) → x *ℤ (y *ℤ z) ≡ y *ℤ (x *ℤ z)
*_left_comm x y z = eq_of _ _ (simp (up_mul, dn_mul) (omega arith))
