-- The zero bytes of a word found by one sum, without a loop.
use Prim.Native.Nat.{ℕ, zero, suc, ◌+◌, ◌*◌, ◌/◌, ◌%◌, ◌^◌, ◌≤◌, ◌<◌}
use mathlib.Core.Path.{◌≡◌, refl, sym, ap, ◌∙◌}
use mathlib.Core.Bool.{Bool, true, false, not, ◌&&◌, cond}
use native.Mathlib.Nat.{div-add-mod', mod-lt}
use native.Mathlib.Omega.{arith}
use borrow.Author.Tests.{eq-eqb, ne_eqb, eqb-true}
use lib.Bits.{bit_and, bit_or, and_block, or_block, and_le_r, or_lt, and_zero_r}
use lib.Dec.{eqb, lit<}
use Rattle.integers.specs.Sum.{all_to}
use Rattle.integers.proofs.Sums.{all_at}
use Rattle.integers.proofs.Cases.{equal_or}
use Rattle.names.specs.inner.Words.{no_zero}

-- k bytes of 127, and of 128
abbrev pub sevens : ℕ → ℕ
sevens zero = 0
sevens (suc k) = sevens k * 256 + 127

abbrev pub eights : ℕ → ℕ
eights zero = 0
eights (suc k) = eights k * 256 + 128

-- 128 in the place of each byte that is not zero
unfoldable pub flags : ℕ → ℕ → ℕ
flags k w = bit_and (bit_or (bit_and w (sevens k) + sevens k) w) (eights k)

flag_of : ℕ → ℕ
flag_of b = bit_and (bit_or (bit_and b 127 + 127) b) 128

flag : ℕ → ℕ
flag b = cond (eqb b 0) 0 128

-- computed for each of the 256 bytes
flag_is : (b : ℕ) → b < 256 → flag_of b ≡ flag b
unfolding all_to flag flag_of
flag_is b h = eqb-true _ _ (all_at (λ (b : ℕ). eqb (flag_of b) (flag b)) 256 b refl h)

flags_next : (k w b : ℕ) → b < 256 → flags (suc k) (w * 256 + b) ≡ flags k w * 256 + flag b
unfolding flags flag_of
flags_next k w b h =
    let c : bit_and b 127 ≤ 127 = and_le_r b 127 in
    let l : bit_and b 127 + 127 < 2 ^ 8 = omega arith in
    let g : b < 2 ^ 8 = omega arith in
    let e : bit_and w (sevens k) * 256 + bit_and b 127 + (sevens k * 256 + 127) ≡ (bit_and w (sevens k) + sevens k) * 256 + (bit_and b 127 + 127) = omega arith in
    rw (and_block 8 w (sevens k) b 127 g (lit< tt), e, or_block 8 (bit_and w (sevens k) + sevens k) w (bit_and b 127 + 127) b l g)
    (and_block 8 (bit_or (bit_and w (sevens k) + sevens k) w) (eights k) (bit_or (bit_and b 127 + 127) b) 128 (or_lt 8 _ _ l g) (lit< tt)
    ∙ ap (λ (x : ℕ). bit_and (bit_or (bit_and w (sevens k) + sevens k) w) (eights k) * 256 + x) (flag_is b h))

same_next : (x y b : ℕ) → eqb (x * 256 + flag b) (y * 256 + 128) ≡ (not (eqb b 0) && (eqb x y))
unfolding flag
same_next x y b = go (eqb b 0)
  where
    go : (t : Bool) → eqb (x * 256 + cond t 0 128) (y * 256 + 128) ≡ (not t && (eqb x y))
    go true = ne_eqb (x * 256 + 0) (y * 256 + 128) (λ e. omega arith)
    go false = equal_or x y (λ e. eq-eqb (x * 256 + 128) (y * 256 + 128) (omega arith) ∙ sym (eq-eqb x y e)) (λ e. ne_eqb (x * 256 + 128) (y * 256 + 128) (λ q. e (omega arith)) ∙ sym (ne_eqb x y e))

-- the sum finds the zero bytes
pub flags_are : (k w : ℕ) → eqb (flags k w) (eights k) ≡ no_zero k w
unfolding no_zero flags
flags_are zero w = eq-eqb (bit_and (bit_or (bit_and w 0 + 0) w) 0) 0 (and_zero_r (bit_or (bit_and w 0 + 0) w))
flags_are (suc k) w =
    let e : w ≡ w / 256 * 256 + w % 256 = sym (div-add-mod' w 256) in
    ap (λ (x : ℕ). eqb (flags (suc k) x) (eights (suc k))) e
    ∙ ap (λ (x : ℕ). eqb x (eights (suc k))) (flags_next k (w / 256) (w % 256) (mod-lt w {m = 256} (lit< tt)))
    ∙ same_next (flags k (w / 256)) (eights k) (w % 256)
    ∙ ap (λ (x : Bool). not (eqb (w % 256) 0) && x) (flags_are k (w / 256))
