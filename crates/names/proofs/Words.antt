-- A name judged by its two words of eight bytes.
use Prim.Native.Nat.{ℕ, zero, suc, ◌+◌, ◌*◌, ◌-◌, ◌^◌, ◌≤◌, ◌<◌}
use mathlib.Core.Path.{◌≡◌, refl, sym, ap, ap₂, ◌∙◌}
use mathlib.Core.Bool.{Bool, true, false, not, ◌&&◌, cond}
use mathlib.Core.List.{List, [], ◌∷◌, ◌++◌}
use native.Mathlib.Nat.{add_assoc, add-zero}
use native.Mathlib.Omega.{arith}
use borrow.Author.Tests.{eq-eqb, ne_eqb}
use lib.Arith.{digits_div, digits_mod}
use lib.Bits.{bit_or, or_block, and_le_r, or_lt, or_self, or_add_and, or_zero_l}
use lib.Dec.{eqb, lit<}
use lib.ListN.{length, take, drop, get_or, length-drop}
use lib.Seq.{take-suc, take-add, drop-drop, get_or-drop}
use Rattle.fields.specs.Fields.{byte_at}
use Rattle.fields.specs.inner.Word.{be64}
use Rattle.integers.proofs.Cases.{equal_or}
use Rattle.fields.proofs.Bytes.{Bytes}
use Rattle.names.specs.Names.{zeros, filled, name_ok, name_at}
use Rattle.names.specs.inner.Words.{non_zero, no_zero, filled_word, words_ok}

-- a byte more
no_zero_next : (k w b : ℕ) → b < 256 → no_zero (suc k) (w * 256 + b) ≡ (not (eqb b 0) && (no_zero k w))
unfolding no_zero
no_zero_next k w b h = rw (digits_mod w {m = 256} {r = b} h, digits_div w {m = 256} {r = b} h)

zero_next : (w b : ℕ) → eqb (w * 256 + b) 0 ≡ ((eqb b 0) && (eqb w 0))
zero_next w b =
    equal_or b 0
    (λ e.
    equal_or w 0
    (λ q. rw (eq-eqb b 0 e, eq-eqb w 0 q) (eq-eqb (w * 256 + b) 0 (omega arith)))
    (λ q. rw (eq-eqb b 0 e, ne_eqb w 0 q) (ne_eqb (w * 256 + b) 0 (λ o. q (omega arith)))))
    (λ e. rw (ne_eqb b 0 e) (ne_eqb (w * 256 + b) 0 (λ o. e (omega arith))))

module _ (b : ℕ) where
  zeros_last : (s : List ℕ) → zeros (s ++ b ∷ []) ≡ ((eqb b 0) && (zeros s))
  unfolding zeros
  zeros_last [] = refl
  zeros_last (a ∷ s) = rw (zeros_last s) (go (eqb a 0) (eqb b 0) (zeros s))
    where
      go : (a b z : Bool) → (a && (b && z)) ≡ (b && (a && z))
      go true b z = refl
      go false true z = refl
      go false false z = refl

  nonzero_last : (s : List ℕ) → non_zero (s ++ b ∷ []) ≡ (not (eqb b 0) && (non_zero s))
  unfolding non_zero
  nonzero_last [] = refl
  nonzero_last (a ∷ s) = rw (nonzero_last s) (go (eqb a 0) (eqb b 0) (non_zero s))
    where
      go : (a b n : Bool) → (not a && (not b && n)) ≡ (not b && (not a && n))
      go true true n = refl
      go true false n = refl
      go false b n = refl

  filled_last : (s : List ℕ) → filled (s ++ b ∷ []) ≡ (cond (eqb b 0) (filled s) (non_zero s))
  unfolding filled zeros non_zero
  filled_last [] = refl
  filled_last (a ∷ s) = rw (filled_last s, zeros_last s) (go (eqb a 0) (eqb b 0) (zeros s) (filled s) (non_zero s))
    where
      go : (a b z f n : Bool) → (cond a (b && z) (cond b f n)) ≡ (cond b (cond a z f) (not a && n))
      go true true z f n = refl
      go true false z f n = refl
      go false b z f n = refl

-- the number of k bytes from a place
abbrev number : List ℕ → ℕ → ℕ → ℕ
number s at zero = 0
number s at (suc k) = number s at k * 256 + byte_at s (at + k)

module _ (s : List ℕ) (bs : Bytes s) (at : ℕ) where
  one_more : (k : ℕ) → at + suc k ≤ length s → take (suc k) (drop at s) ≡ take k (drop at s) ++ byte_at s (at + k) ∷ []
  one_more k h = take-suc (drop at s) k 0 (omega (arith, length-drop at s)) ∙ rw (get_or-drop at s k 0)

  number_zeros : (k : ℕ) → at + k ≤ length s → eqb (number s at k) 0 ≡ zeros (take k (drop at s))
  unfolding zeros
  number_zeros zero h = refl
  number_zeros (suc k) h =
      zero_next (number s at k) (byte_at s (at + k))
      ∙ rw (one_more k h, zeros_last (byte_at s (at + k)) (take k (drop at s)), number_zeros k (omega arith))

  number_nonzero : (k : ℕ) → at + k ≤ length s → no_zero k (number s at k) ≡ non_zero (take k (drop at s))
  unfolding no_zero non_zero
  number_nonzero zero h = refl
  number_nonzero (suc k) h =
      no_zero_next k (number s at k) (byte_at s (at + k)) (bs (at + k))
      ∙ rw (one_more k h, nonzero_last (byte_at s (at + k)) (take k (drop at s)), number_nonzero k (omega arith))

  number_filled : (k : ℕ) → at + k ≤ length s → (number s at k ≡ 0 → ⊥) → filled_word k (number s at k) ≡ filled (take k (drop at s))
  unfolding filled_word
  number_filled zero h n = absurd (n refl)
  number_filled (suc k) h n =
      let w = number s at k in
      let b = byte_at s (at + k) in
      rw (one_more k h, filled_last b (take k (drop at s)))
      (equal_or b 0
      (λ e.
      let z : (w ≡ 0 → ⊥) = λ q. n (omega arith) in
      let p : w * 256 + b - 1 ≡ (w - 1) * 256 + 255 = omega arith in
      rw (p, or_block 8 w (w - 1) b 255 (omega (arith, bs (at + k))) (lit< tt), e, or_zero_l)
      (no_zero_next k (bit_or w (w - 1)) 255 (lit< tt) ∙ number_filled k (omega arith) z))
      (λ e.
      let p : w * 256 + b - 1 ≡ w * 256 + (b - 1) = omega arith in
      let l : b < 2 ^ 8 = omega (arith, bs (at + k)) in
      let m : b - 1 < 2 ^ 8 = omega arith in
      let o : (bit_or b (b - 1) ≡ 0 → ⊥) = λ q. omega (arith, or_add_and b (b - 1), and_le_r b (b - 1)) in
      rw (p, or_block 8 w w b (b - 1) l m, or_self, ne_eqb b 0 e)
      (no_zero_next k w (bit_or b (b - 1)) (or_lt 8 b (b - 1) l m) ∙ rw (ne_eqb _ _ o) (number_nonzero k (omega arith)))))

-- two lists, one behind the other
zeros_filled : (s : List ℕ) → zeros s ≡ true → filled s ≡ true
unfolding zeros filled
zeros_filled [] e = refl
zeros_filled (b ∷ s) e = go (eqb b 0) e
  where
    go : (t : Bool) → (t && (zeros s)) ≡ true → (cond t (zeros s) (filled s)) ≡ true
    go true q = q
    go false q = absurd (let z : ◌≡◌ {A = ℕ} 0 1 = cc in omega arith)

zeros_behind : (x y : List ℕ) → zeros (x ++ y) ≡ ((zeros y) && (zeros x))
unfolding zeros
zeros_behind [] y = go (zeros y)
  where
    go : (t : Bool) → t ≡ (t && true)
    go true = refl
    go false = refl
zeros_behind (a ∷ x) y = rw (zeros_behind x y) (go (eqb a 0) (zeros y) (zeros x))
  where
    go : (a t z : Bool) → (a && (t && z)) ≡ (t && (a && z))
    go true t z = refl
    go false true z = refl
    go false false z = refl

filled_behind : (x y : List ℕ) → filled (x ++ y) ≡ (cond (zeros y) (filled x) (non_zero x && filled y))
unfolding filled non_zero zeros
filled_behind [] y = go (zeros y) refl
  where
    go : (t : Bool) → zeros y ≡ t → filled y ≡ (cond t true (filled y))
    go true e = zeros_filled y e
    go false e = refl
filled_behind (a ∷ x) y = rw (filled_behind x y, zeros_behind x y) (go (eqb a 0) (zeros y) (zeros x) (filled x) (non_zero x) (filled y))
  where
    go : (a t z f n g : Bool) → (cond a (t && z) (cond t f (n && g))) ≡ (cond t (cond a z f) ((not a && n) && g))
    go true true z f n g = refl
    go true false z f n g = refl
    go false t z f n g = refl

name_filled : (s : List ℕ) → name_ok s ≡ (not (zeros s) && (filled s))
unfolding name_ok zeros filled
name_filled [] = refl
name_filled (b ∷ s) = go (eqb b 0) (zeros s) (filled s)
  where
    go : (b z f : Bool) → (not b && f) ≡ (not (b && z) && (cond b z f))
    go true true f = refl
    go true false f = refl
    go false z f = refl

name_behind : (x y : List ℕ) → name_ok (x ++ y) ≡ (cond (zeros y) (not (zeros x) && (filled x)) (non_zero x && filled y))
name_behind x y = name_filled (x ++ y) ∙ rw (zeros_behind x y, filled_behind x y) (go (zeros y) (zeros x) (filled x) (non_zero x && filled y))
  where
    go : (t z f g : Bool) → (not (t && z) && (cond t f g)) ≡ (cond t (not z && f) g)
    go true z f g = refl
    go false z f g = refl

-- the name at a place by its words
be64_number : (s : List ℕ) (at : ℕ) → be64 s at ≡ number s at 8
be64_number s at =
    let z : get_or s (at + 0) 0 ≡ get_or s at 0 = simp add-zero in
    simp add_assoc (omega arith)

module _ (s : List ℕ) (bs : Bytes s) (at : ℕ) (h : at + 16 ≤ length s) where
  first : List ℕ
  first = take 8 (drop at s)

  second : List ℕ
  second = take 8 (drop (at + 8) s)

  both : name_at s at ≡ first ++ second
  unfolding first second
  both = take-add 8 8 (drop at s) ∙ ap (λ (x : List ℕ). take 8 (drop at s) ++ take 8 x) (drop-drop 8 at s)

  first_judged : (not (eqb (number s at 8) 0) && filled_word 8 (number s at 8)) ≡ (not (zeros first) && filled first)
  unfolding first
  first_judged =
      let z = number_zeros s bs at 8 (omega arith) in
      equal_or (number s at 8) 0
      (λ q. let y = sym z ∙ eq-eqb (number s at 8) 0 q in rw (eq-eqb (number s at 8) 0 q, y))
      (λ q. let y = sym z ∙ ne_eqb (number s at 8) 0 q in rw (ne_eqb (number s at 8) 0 q, y) (number_filled s bs at 8 (omega arith) q))

  judged : words_ok (number s at 8) (number s (at + 8) 8) ≡ cond (zeros second) (not (zeros first) && filled first) (non_zero first && filled second)
  unfolding words_ok first second
  judged =
      let z = number_zeros s bs (at + 8) 8 (omega arith) in
      equal_or (number s (at + 8) 8) 0
      (λ q. let y = sym z ∙ eq-eqb (number s (at + 8) 8) 0 q in rw (eq-eqb (number s (at + 8) 8) 0 q, y) first_judged)
      (λ q.
      let y = sym z ∙ ne_eqb (number s (at + 8) 8) 0 q in
      rw (ne_eqb (number s (at + 8) 8) 0 q, y, number_nonzero s bs at 8 (omega arith), number_filled s bs (at + 8) 8 (omega arith) q))

  pub words_judge : words_ok (be64 s at) (be64 s (at + 8)) ≡ name_ok (name_at s at)
  words_judge = ap₂ words_ok (be64_number s at) (be64_number s (at + 8)) ∙ judged ∙ sym (name_behind first second) ∙ ap name_ok (sym both)
