-- Two names are the same exactly when their words of eight bytes are.
use Prim.Native.Nat.{ℕ, suc, ◌+◌, ◌≤◌, ◌<◌}
use mathlib.Core.Path.{◌≡◌, refl, sym, ap, ◌∙◌}
use mathlib.Core.List.{List, [], ◌∷◌}
use mathlib.Core.Bool.{Bool, true, false, ◌&&◌, true≢false}
use native.Mathlib.Omega.{arith}
use lib.ListN.{length, drop, get_or, length-take, length-drop}
use lib.Seq.{ext_get_or, get_or-take, get_or-drop}
use lib.Dec.{eqb}
use lib.Pointwise.{pointwise}
use borrow.Author.Tests.{eq-eqb, eqb-true, eqb-false}
use Rattle.fields.specs.inner.Word.{be64}
use Rattle.fields.proofs.Bytes.{Bytes, Agree, agree128, agrees128}
use Rattle.names.specs.Names.{same_list, name_at}
use Rattle.names.specs.inner.Words.{has_words}

-- the same bytes
pub same_uneven : (a b : List ℕ) → (length a ≡ length b → ⊥) → same_list a b ≡ false
unfolding same_list
same_uneven [] [] p = absurd (p refl)
same_uneven [] (y ∷ b) p = refl
same_uneven (x ∷ a) [] p = refl
same_uneven (x ∷ a) (y ∷ b) p = pick (eqb x y) (same_uneven a b (λ q. p (ap suc q)))
  where
    pick : (t : Bool) {u : Bool} → u ≡ false → (t && u) ≡ false
    pick true e = e
    pick false e = refl

-- two lists are the same exactly when `same_list` says so
pub same_refl : (x : List ℕ) → same_list x x ≡ true
unfolding same_list
same_refl [] = refl
same_refl (a ∷ x) = rw (eq-eqb a a refl) (same_refl x)

pub same_true : (x y : List ℕ) → same_list x y ≡ true → x ≡ y
unfolding same_list
same_true [] [] e = refl
same_true [] (b ∷ y) e = absurd (true≢false (sym e))
same_true (a ∷ x) [] e = absurd (true≢false (sym e))
same_true (a ∷ x) (b ∷ y) e = go (eqb a b) refl e (same_true x y)
  where
    go : (w : Bool) → eqb a b ≡ w → (w && (same_list x y)) ≡ true → (same_list x y ≡ true → x ≡ y) → a ∷ x ≡ b ∷ y
    go true p q f = rw (eqb-true a b p, f q)
    go false p q f = absurd (true≢false (sym q))

-- `==` of two arrays is `same_list`
pub same_pointwise : (x y : List ℕ) → pointwise eqb x y ≡ same_list x y
unfolding same_list
same_pointwise [] [] = refl
same_pointwise [] (b ∷ y) = refl
same_pointwise (a ∷ x) [] = refl
same_pointwise (a ∷ x) (b ∷ y) = ap (λ (t : Bool). eqb a b && t) (same_pointwise x y)

-- names are the same exactly when their words are
name_byte : (u : List ℕ) (at k : ℕ) → k < 16 → get_or (name_at u at) k 0 ≡ get_or u (at + k) 0
name_byte u at k h = get_or-take 16 (drop at u) k 0 h ∙ get_or-drop at u k 0

name_length : (u : List ℕ) (at : ℕ) → at + 16 ≤ length u → length (name_at u at) ≡ 16
name_length u at h = simp (length-take, length-drop) (omega arith)

pub same_words : (s t : List ℕ) (i j : ℕ) → same_list (name_at s i) (name_at t j) ≡ true → (be64 s i ≡ be64 t j) × (be64 s (i + 8) ≡ be64 t (j + 8))
same_words s t i j e =
    agrees128 s t i j
    (λ k h. sym (name_byte s i k h) ∙ ap (λ (x : List ℕ). get_or x k 0) (same_true _ _ e) ∙ name_byte t j k h)

module _ (s t : List ℕ) (bs : Bytes s) (bt : Bytes t) (i j : ℕ) (hs : i + 16 ≤ length s) (ht : j + 16 ≤ length t) where
  name_same : Agree s i t j 16 → name_at s i ≡ name_at t j
  name_same a =
      ext_get_or 0 (name_at s i) (name_at t j) (name_length s i hs ∙ sym (name_length t j ht))
      (λ k h. let l : k < 16 = rw (name_length s i hs) at h in name_byte s i k l ∙ a k l ∙ sym (name_byte t j k l))

  pub words_are : has_words s i (be64 t j) (be64 t (j + 8)) ≡ same_list (name_at s i) (name_at t j)
  unfolding has_words
  words_are = go (eqb (be64 s i) (be64 t j)) refl (eqb (be64 s (i + 8)) (be64 t (j + 8))) refl (same_list (name_at s i) (name_at t j)) refl
    where
      go : (v : Bool) → eqb (be64 s i) (be64 t j) ≡ v → (w : Bool) → eqb (be64 s (i + 8)) (be64 t (j + 8)) ≡ w → (r : Bool) → same_list (name_at s i) (name_at t j) ≡ r → (v && w) ≡ r
      go true p true q true e = refl
      go true p true q false e =
          let n = name_same (agree128 s t bs bt i j (eqb-true _ _ p) (eqb-true _ _ q)) in
          sym (same_refl (name_at t j)) ∙ ap (λ (x : List ℕ). same_list x (name_at t j)) (sym n) ∙ e
      go true p false q true e = absurd (eqb-false _ _ q (same_words s t i j e).1)
      go true p false q false e = refl
      go false p w q true e = absurd (eqb-false _ _ p (same_words s t i j e).0)
      go false p w q false e = refl
