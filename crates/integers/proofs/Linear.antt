-- Linear statements over the integers, taken to the naturals by `simp`.
use mathlib.Core.Path.{◌≡◌, refl, ◌∙◌}
use mathlib.Core.Logic.{◌↔◌}
use Prim.Native.Nat.{ℕ, suc, ◌+◌, ◌*◌, ◌≤◌}
use native.Mathlib.Omega.{arith}
use lib.IntN.{ℤ, pos, negsuc, neg_ℤ, neg_ℤ-neg_ℤ, neg_ℤ-+ℤ, ◌+ℤ◌, ◌*ℤ◌, *ℤ_comm, +ℤ_assoc}
use mir.Syntax.{w64}
use mir.Val.{SFits}
use lib.Signed.{◌≤ℤ◌, ◌<ℤ◌}
use Rattle.integers.proofs.Parts.{up, dn, up_pos, dn_pos, up_neg, dn_neg, up_mul, dn_mul, add_law, eq_of, eq_to, le_of, le_to, lt_of, lt_to}
use Rattle.integers.proofs.Ring.{*_assoc, *_distl, *_distr, neg_mull, neg_mulr, *_left_comm}

-- a + z ≤ b + w
pub record Le (a : ℕ) (z : ℤ) (b : ℕ) (w : ℤ) : Type 0 where
  pub le : a + up z + dn w ≤ b + up w + dn z

pub record Eq (a : ℕ) (z : ℤ) (b : ℕ) (w : ℤ) : Type 0 where
  pub eq : a + up z + dn w ≡ b + up w + dn z

abbrev pub o : ℤ
o = pos 0

pub le_start : (x y : ℤ) → (x ≤ℤ y) ↔ Le 0 (x +ℤ pos 0) 0 (y +ℤ pos 0)
le_start x y = ((λ h. record { le = omega (arith, le_to h, add_law x (pos 0), add_law y (pos 0)) }), (λ h. le_of x y (omega (arith, h.le, add_law x (pos 0), add_law y (pos 0)))))

pub lt_start : (x y : ℤ) → (x <ℤ y) ↔ Le 1 (x +ℤ pos 0) 0 (y +ℤ pos 0)
lt_start x y = ((λ h. record { le = omega (arith, lt_to h, add_law x (pos 0), add_law y (pos 0)) }), (λ h. lt_of x y (omega (arith, h.le, add_law x (pos 0), add_law y (pos 0)))))

pub le_addl : (a b : ℕ) (x y w : ℤ) → Le a (x +ℤ y) b w ↔ Le (a + up x) y (b + dn x) w
le_addl a b x y w = ((λ h. record { le = omega (arith, h.le, add_law x y) }), (λ h. record { le = omega (arith, h.le, add_law x y) }))

pub le_addr : (a b : ℕ) (x y w : ℤ) → Le a w b (x +ℤ y) ↔ Le (a + dn x) w (b + up x) y
le_addr a b x y w = ((λ h. record { le = omega (arith, h.le, add_law x y) }), (λ h. record { le = omega (arith, h.le, add_law x y) }))

pub le_end : (a b : ℕ) → Le a (pos 0) b (pos 0) ↔ a ≤ b
le_end a b = ((λ h. omega (arith, h.le, up_pos 0, dn_pos 0)), (λ h. record { le = omega (arith, h, up_pos 0, dn_pos 0) }))

pub eq_start : (x y : ℤ) → (x ≡ y) ↔ Eq 0 (x +ℤ pos 0) 0 (y +ℤ pos 0)
eq_start x y = ((λ h. record { eq = omega (arith, eq_to x y h, add_law x (pos 0), add_law y (pos 0)) }), (λ h. eq_of x y (omega (arith, h.eq, add_law x (pos 0), add_law y (pos 0)))))

pub eq_addl : (a b : ℕ) (x y w : ℤ) → Eq a (x +ℤ y) b w ↔ Eq (a + up x) y (b + dn x) w
eq_addl a b x y w = ((λ h. record { eq = omega (arith, h.eq, add_law x y) }), (λ h. record { eq = omega (arith, h.eq, add_law x y) }))

pub eq_addr : (a b : ℕ) (x y w : ℤ) → Eq a w b (x +ℤ y) ↔ Eq (a + dn x) w (b + up x) y
eq_addr a b x y w = ((λ h. record { eq = omega (arith, h.eq, add_law x y) }), (λ h. record { eq = omega (arith, h.eq, add_law x y) }))

pub eq_end : (a b : ℕ) → Eq a (pos 0) b (pos 0) ↔ a ≡ b
eq_end a b = ((λ h. omega (arith, h.eq, up_pos 0, dn_pos 0)), (λ h. record { eq = omega (arith, h, up_pos 0, dn_pos 0) }))

pub sfits : (z : ℤ) → SFits w64 z ↔ ((negsuc 9223372036854775807 ≤ℤ z) × (z ≤ℤ pos 9223372036854775807))
sfits z = (go z, back z)
  where
    go : (z : ℤ) → SFits w64 z → ((negsuc 9223372036854775807 ≤ℤ z) × (z ≤ℤ pos 9223372036854775807))
    go (pos n) h = (le_of _ _ (omega arith), le_of _ _ (omega arith))
    go (negsuc n) h = (le_of _ _ (omega arith), le_of _ _ (omega arith))

    back : (z : ℤ) → ((negsuc 9223372036854775807 ≤ℤ z) × (z ≤ℤ pos 9223372036854775807)) → SFits w64 z
    back (pos n) h = record { sfits = omega (arith, le_to h.1) }
    back (negsuc n) h = record { sfits = omega (arith, le_to h.0) }

-- a literal multiple, shut: k times x
infixr 70 ◌◃◌
pub ◌◃◌ : ℕ → ℤ → ℤ
k ◃ x = pos k *ℤ x

pub lit_l : (k : ℕ) (x : ℤ) → pos k *ℤ x ≡ k ◃ x
unfolding ◌◃◌
lit_l k x = refl

pub lit_r : (k : ℕ) (x : ℤ) → x *ℤ pos k ≡ k ◃ x
unfolding ◌◃◌
lit_r k x = *ℤ_comm x (pos k)

pub nlit_l : (k : ℕ) (x : ℤ) → negsuc k *ℤ x ≡ neg_ℤ (suc k ◃ x)
unfolding ◌◃◌
nlit_l k x = neg_mull (pos (suc k)) x

pub nlit_r : (k : ℕ) (x : ℤ) → x *ℤ negsuc k ≡ neg_ℤ (suc k ◃ x)
nlit_r k x = *ℤ_comm x (negsuc k) ∙ nlit_l k x

pub scale_l : (k : ℕ) (x y : ℤ) → (k ◃ x) *ℤ y ≡ k ◃ (x *ℤ y)
unfolding ◌◃◌
scale_l k x y = *_assoc (pos k) x y

pub scale_r : (k : ℕ) (x y : ℤ) → x *ℤ (k ◃ y) ≡ k ◃ (x *ℤ y)
unfolding ◌◃◌
scale_r k x y = *_left_comm x (pos k) y

pub scale_add : (k : ℕ) (x y : ℤ) → k ◃ (x +ℤ y) ≡ k ◃ x +ℤ k ◃ y
unfolding ◌◃◌
scale_add k x y = *_distl (pos k) x y

pub scale_neg : (k : ℕ) (x : ℤ) → k ◃ neg_ℤ x ≡ neg_ℤ (k ◃ x)
unfolding ◌◃◌
scale_neg k x = neg_mulr (pos k) x

pub up_scale : (k : ℕ) (x : ℤ) → up (k ◃ x) ≡ k * up x
unfolding ◌◃◌
up_scale k x = simp up_mul (omega arith)

pub dn_scale : (k : ℕ) (x : ℤ) → dn (k ◃ x) ≡ k * dn x
unfolding ◌◃◌
dn_scale k x = simp dn_mul (omega arith)

-- products are multiplied out, their factors sorted, literals taken out in front
pub ruleset zring = (+ℤ_assoc, *_distl, *_distr, neg_mull, neg_mulr, neg_ℤ-+ℤ, neg_ℤ-neg_ℤ, *_assoc, *ℤ_comm, *_left_comm, lit_l, lit_r, nlit_l, nlit_r, scale_l, scale_r, scale_add, scale_neg)

pub ruleset zin = (le_start, lt_start, eq_start, sfits, zring)

pub ruleset zout = (le_addl, le_addr, le_end, eq_addl, eq_addr, eq_end, up_neg, dn_neg, up_scale, dn_scale)

pub ruleset zarith = (arith, le_to, lt_to)
