-- Fields that follow one another: each stands behind those before it, and a number is read from the bytes there.
use Prim.Native.Nat.{ℕ, ◌+◌, ◌*◌, ◌<◌}
use mathlib.Core.Path.{◌≡◌, refl, sym, ap, ap₂, ◌∙◌}
use mathlib.Core.List.{List, [], ◌∷◌, ◌++◌, append-nil, append_assoc}
use native.Mathlib.Omega.{arith}
use lib.IntN.{ℤ}
use lib.ListN.{length, take, drop, length-append}
use lib.Seq.{take_at, drop_at, get_or-take, get_or-drop}
use mir.Syntax.{w16, w32}
use mir.Val.{SFits, to_z}
use Rattle.fields.specs.Fields.{byte_at, be16, be32, sbe16, sbe32}
use Rattle.field_writers.specs.FieldBytes.{bytes16, bytes32, signed16, signed32}
use Rattle.field_writers.proofs.FieldLaws.{read8, read16, read32, read_signed16, read_signed32}

-- fields one behind the other
unfoldable pub fields_from : List ℕ → List (List ℕ) → List ℕ
fields_from front [] = front
fields_from front (f ∷ fs) = fields_from (front ++ f) fs

front_apart : (front : List ℕ) (fs : List (List ℕ)) → fields_from front fs ≡ front ++ fields_from [] fs
unfolding fields_from
front_apart front [] = sym (append-nil front)
front_apart front (f ∷ fs) = rw (front_apart (front ++ f) fs, front_apart f fs) (append_assoc front f (fields_from [] fs))

-- a field stands behind those before it
pub field_at : (front f : List ℕ) (fs : List (List ℕ)) (at width : ℕ) → length front ≡ at → length f ≡ width → take width (drop at (fields_from front (f ∷ fs))) ≡ f
unfolding fields_from
field_at front f fs at width e g =
    let parts : fields_from (front ++ f) fs ≡ front ++ (f ++ fields_from [] fs) = front_apart (front ++ f) fs ∙ append_assoc front f (fields_from [] fs) in
    rw (parts, drop_at front (f ++ fields_from [] fs) at e) (take_at f (fields_from [] fs) width g)

pub longer : (front f : List ℕ) (at width : ℕ) → length front ≡ at → length f ≡ width → length (front ++ f) ≡ at + width
longer front f at width e g = rw (length-append front f) (omega arith)

-- a number by the bytes at its place
module _ (s : List ℕ) (at : ℕ) where
  byte_there : (width i k : ℕ) → i < width → at + i ≡ k → byte_at s k ≡ byte_at (take width (drop at s)) i
  byte_there width i k h e = rw (← e) (sym (get_or-take width (drop at s) i 0 h ∙ get_or-drop at s i 0))

  pub field8 : (n : ℕ) → take 1 (drop at s) ≡ n ∷ [] → byte_at s at ≡ n
  field8 n e = byte_there 1 0 at (omega arith) (omega arith) ∙ ap (λ (f : List ℕ). byte_at f 0) e ∙ read8 [] [] 0 refl n

  there16 : be16 s at ≡ be16 (take 2 (drop at s)) 0
  there16 = ap₂ (λ (x y : ℕ). x * 256 + y) (byte_there 2 0 at (omega arith) (omega arith)) (byte_there 2 1 (at + 1) (omega arith) refl)

  there32 : be32 s at ≡ be32 (take 4 (drop at s)) 0
  there32 =
      ap₂ (λ (x y : ℕ). x * 65536 + y)
      (ap₂ (λ (x y : ℕ). x * 256 + y) (byte_there 4 0 at (omega arith) (omega arith)) (byte_there 4 1 (at + 1) (omega arith) refl))
      (ap₂ (λ (x y : ℕ). x * 256 + y) (byte_there 4 2 (at + 2) (omega arith) refl) (byte_there 4 3 (at + 2 + 1) (omega arith) (omega arith)))

  pub field16 : (n : ℕ) → take 2 (drop at s) ≡ bytes16 n → be16 s at ≡ n
  field16 n e = there16 ∙ ap (λ (f : List ℕ). be16 f 0) e ∙ read16 [] [] 0 refl n

  pub field32 : (n : ℕ) → take 4 (drop at s) ≡ bytes32 n → be32 s at ≡ n
  field32 n e = there32 ∙ ap (λ (f : List ℕ). be32 f 0) e ∙ read32 [] [] 0 refl n

  pub signed_field16 : (z : ℤ) → SFits w16 z → take 2 (drop at s) ≡ signed16 z → sbe16 s at ≡ z
  unfolding signed16
  signed_field16 z h e = ap (to_z w16) there16 ∙ ap (λ (f : List ℕ). sbe16 f 0) e ∙ read_signed16 [] [] 0 refl z h

  pub signed_field32 : (z : ℤ) → SFits w32 z → take 4 (drop at s) ≡ signed32 z → sbe32 s at ≡ z
  unfolding signed32
  signed_field32 z h e = ap (to_z w32) there32 ∙ ap (λ (f : List ℕ). sbe32 f 0) e ∙ read_signed32 [] [] 0 refl z h
