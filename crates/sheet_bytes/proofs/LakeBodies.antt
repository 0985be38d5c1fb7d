-- A path, a circulation and their bodies: each is had back from the other.
use Prim.Native.Nat.{ℕ}
use mathlib.Core.Path.{◌≡◌, refl, ◌∙◌}
use mathlib.Core.List.{List, [], ◌∷◌, ◌++◌}
use native.Mathlib.Omega.{arith}
use lib.ListN.{length}
use lib.Seq.{take_all}
use mir.Syntax.{w16, w32}
use mir.Val.{SFits}
use Rattle.fields.proofs.Bytes.{Bytes}
use Rattle.field_writers.specs.FieldBytes.{signed16, signed32}
use Rattle.field_writers.proofs.FieldLaws.{written_signed16, written_signed32}
use Rattle.records.specs.declared.Path.{Path}
use Rattle.records.specs.declared.Circulation.{Circulation}
use Rattle.records.specs.Bodies.{path_of, circulation_of}
use Rattle.sheet_bytes.specs.SheetBytes.{path_body, circulation_body}
use Rattle.sheet_bytes.specs.inner.Returns.{Returns}
use Rattle.sheet_bytes.proofs.FieldPlaces.{fields_from, field_at, longer, signed_field16, signed_field32}
use Rattle.sheet_bytes.proofs.RecordBodies.{glue}

pub path_returns : (p : Path) → length p.name ≡ 16 → SFits w32 p.flow → SFits w16 p.factor → Returns 7 path_body path_of p
unfolding path_body path_of signed16 signed32 fields_from
path_returns p e fits-flow fits-factor =
    let s = path_body p in
    let flow = signed32 p.flow in
    let factor = signed16 p.factor in
    let l1 = longer p.name flow 16 4 e refl in
    record {
      long = longer (p.name ++ flow) factor 20 2 l1 refl;
      same = λ j. record {
        name = field_at [] p.name (flow ∷ factor ∷ []) 0 16 refl e j;
        flow = signed_field32 s 16 p.flow fits-flow (field_at p.name flow (factor ∷ []) 16 4 e refl) j;
        factor = signed_field16 s 20 p.factor fits-factor (field_at (p.name ++ flow) factor [] 20 2 l1 refl) j;
      };
    }

pub circulation_returns : (c : Circulation) → SFits w32 c.flow → Returns 8 circulation_body circulation_of c
unfolding circulation_body circulation_of signed32 fields_from
circulation_returns c fits =
    let flow = signed32 c.flow in
    record {
      long = refl;
      same = λ j. record { flow = signed_field32 (circulation_body c) 0 c.flow fits (field_at [] flow [] 0 4 refl refl) j };
    }

module _ (b : List ℕ) (h : Bytes b) where
  module _ (e : length b ≡ 22) where
    pub path-written : path_body (path_of b) ≡ b
    unfolding path_body path_of
    path-written = glue b h 20 2 _ _ (glue b h 16 4 _ _ refl (written_signed32 b 16 h (omega arith))) (written_signed16 b 20 h (omega arith)) ∙ take_all 22 b (omega arith)

  module _ (e : length b ≡ 4) where
    pub circulation-written : circulation_body (circulation_of b) ≡ b
    unfolding circulation_body circulation_of
    circulation-written = written_signed32 b 0 h (omega arith) ∙ take_all 4 b (omega arith)
