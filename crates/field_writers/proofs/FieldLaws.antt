-- A field and its bytes: each is had back from the other.
use Prim.Native.Nat.{ℕ, suc, ◌+◌, ◌*◌, ◌/◌, ◌%◌, ◌≤◌, ◌<◌}
use mathlib.Core.Path.{◌≡◌, refl, sym, ap, ap₂, ◌∙◌}
use mathlib.Core.List.{List, [], ◌∷◌, ◌++◌, append_assoc}
use native.Mathlib.Nat.{div-eq_of_lt-le, div-add-mod', mul-add-mod_self_right, mod-eq_of_lt}
use native.Mathlib.Numerals.{add-one}
use native.Mathlib.Omega.{arith}
use lib.IntN.{ℤ}
use lib.ListN.{length, take, drop, length-append}
use lib.Seq.{get_or-append-add, get_or_at, drop-cons, take-add, drop-drop}
use mir.Syntax.{w16, w32}
use mir.Val.{SFits, to_z, of_z}
use mir.Facts.{to_z-of_z, of_z-to_z}
use Rattle.fields.specs.Fields.{byte_at, be16, be32, sbe16, sbe32}
use Rattle.fields.proofs.Bytes.{Bytes, be16_small, be32_small}
use Rattle.field_writers.specs.FieldBytes.{bytes16, bytes32, signed16, signed32}

-- a number over a base, and its parts
module _ (B x m : ℕ) (h : m < B) where
  quotient : (x * B + m) / B ≡ x
  quotient = div-eq_of_lt-le {k = x} B {m = x * B + m} (omega arith) (omega arith)

  rest : (x * B + m) % B ≡ m
  rest = mul-add-mod_self_right x B m ∙ mod-eq_of_lt h

-- a field that was written behind p is read at p's end
module _ (p r : List ℕ) (a : ℕ) (e : length p ≡ a) where
  pub read8 : (n : ℕ) → byte_at (p ++ (n ∷ r)) a ≡ n
  read8 n = get_or_at p n r 0 a e

  second : (m n : ℕ) → byte_at (p ++ (m ∷ n ∷ r)) (a + 1) ≡ n
  second m n = rw (sym e) (get_or-append-add p (m ∷ n ∷ r) 1 0)

pub read16 : (p r : List ℕ) (a : ℕ) → length p ≡ a → (n : ℕ) → be16 (p ++ (bytes16 n ++ r)) a ≡ n
read16 p r a e n = rw (read8 p (n % 256 ∷ r) a e (n / 256), second p r a e (n / 256) (n % 256)) (div-add-mod' n 256)

pub read32 : (p r : List ℕ) (a : ℕ) → length p ≡ a → (n : ℕ) → be32 (p ++ (bytes32 n ++ r)) a ≡ n
read32 p r a e n =
    let x = n / 65536 in
    let y = n % 65536 in
    let l : length (p ++ bytes16 x) ≡ a + 2 = rw length-append (omega arith) in
    ap₂ (λ (u v : ℕ). u * 65536 + v) (read16 p (bytes16 y ++ r) a e x) (rw (append_assoc p (bytes16 x) (bytes16 y ++ r)) at (read16 (p ++ bytes16 x) r (a + 2) l y))
    ∙ div-add-mod' n 65536

module _ (p r : List ℕ) (a : ℕ) (e : length p ≡ a) (z : ℤ) where
  pub read_signed16 : SFits w16 z → sbe16 (p ++ (signed16 z ++ r)) a ≡ z
  unfolding signed16
  read_signed16 h = ap (to_z w16) (read16 p r a e (of_z w16 z)) ∙ to_z-of_z h

  pub read_signed32 : SFits w32 z → sbe32 (p ++ (signed32 z ++ r)) a ≡ z
  unfolding signed32
  read_signed32 h = ap (to_z w32) (read32 p r a e (of_z w32 z)) ∙ to_z-of_z h

-- a field that was read has the bytes that stand there
module _ (s : List ℕ) (at : ℕ) where
  pub written8 : at + 1 ≤ length s → byte_at s at ∷ [] ≡ take 1 (drop at s)
  written8 h = rw (drop-cons s at 0 (omega arith)) refl

  module _ (b : Bytes s) where
    pub written16 : at + 2 ≤ length s → bytes16 (be16 s at) ≡ take 2 (drop at s)
    written16 h =
        rw (
          quotient 256 (byte_at s at) (byte_at s (at + 1)) (b (at + 1)),
          rest 256 (byte_at s at) (byte_at s (at + 1)) (b (at + 1)),
          drop-cons s at 0 (omega arith),
          add-one at,
          drop-cons s (suc at) 0 (omega arith),
        )
        refl

pub written32 : (s : List ℕ) (at : ℕ) → Bytes s → at + 4 ≤ length s → bytes32 (be32 s at) ≡ take 4 (drop at s)
written32 s at b h =
    ap₂ (λ (u v : ℕ). bytes16 u ++ bytes16 v) (quotient 65536 (be16 s at) (be16 s (at + 2)) (be16_small s b (at + 2))) (rest 65536 (be16 s at) (be16 s (at + 2)) (be16_small s b (at + 2)))
    ∙ ap₂ (λ (u v : List ℕ). u ++ v) (written16 s at b (omega arith)) (written16 s (at + 2) b (omega arith) ∙ ap (take 2) (sym (drop-drop 2 at s)))
    ∙ sym (take-add 2 2 (drop at s))

module _ (s : List ℕ) (at : ℕ) (b : Bytes s) where
  pub written_signed16 : at + 2 ≤ length s → signed16 (sbe16 s at) ≡ take 2 (drop at s)
  unfolding signed16
  written_signed16 h = ap bytes16 (of_z-to_z {w = w16} (record { fits = be16_small s b at })) ∙ written16 s at b h

  pub written_signed32 : at + 4 ≤ length s → signed32 (sbe32 s at) ≡ take 4 (drop at s)
  unfolding signed32
  written_signed32 h = ap bytes32 (of_z-to_z {w = w32} (record { fits = be32_small s b at })) ∙ written32 s at b h
