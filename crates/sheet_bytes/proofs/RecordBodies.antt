-- A record and its body, kinds 1 to 6: each is had back from the other.
use Prim.Native.Nat.{ℕ, ◌+◌}
use mathlib.Core.Path.{◌≡◌, refl, sym, ap, ap₂, ◌∙◌}
use mathlib.Core.Bool.{Bool, true, false, cond}
use mathlib.Core.List.{List, [], ◌∷◌, ◌++◌}
use native.Mathlib.Omega.{arith}
use lib.Dec.{eqb}
use lib.ListN.{length, take, drop}
use lib.Seq.{take-add, take_all}
use mir.Syntax.{w16, w32}
use mir.Val.{SFits}
use borrow.Author.Tests.{eqb-true, eqb-false, ne_eqb}
use Rattle.fields.specs.Fields.{byte_at}
use Rattle.fields.proofs.Bytes.{Bytes}
use Rattle.field_writers.specs.FieldBytes.{bytes16, bytes32, signed16, signed32}
use Rattle.field_writers.proofs.FieldLaws.{written8, written16, written32, written_signed16, written_signed32}
use Rattle.records.specs.declared.Head.{Head}
use Rattle.records.specs.declared.Zone.{Zone}
use Rattle.records.specs.declared.Unit.{Unit}
use Rattle.records.specs.declared.Place.{Place}
use Rattle.records.specs.declared.Place.TheVariants.{Proxy, Line}
use Rattle.records.specs.declared.Point.{Point}
use Rattle.records.specs.declared.Par.{Par}
use Rattle.records.specs.declared.Factor.{Factor}
use Rattle.records.specs.Bodies.{place_of, head_of, zone_of, unit_of, point_of, par_of, factor_of}
use Rattle.sheet_bytes.specs.SheetBytes.{place_byte, head_body, zone_body, unit_body, point_body, par_body, factor_body}
use Rattle.sheet_bytes.specs.inner.Returns.{Returns}
use Rattle.sheet_bytes.specs.inner.Marked.{nowhere, marked_zone, marked_place, marked_point}
use Rattle.sheet_bytes.proofs.FieldPlaces.{fields_from, field_at, longer, field8, field16, field32, signed_field16, signed_field32}

-- ---- a body that was written is read as the record
pub head_returns : (h : Head) → length h.name ≡ 16 → Returns 1 head_body head_of h
unfolding head_body head_of fields_from
head_returns h e =
    let s = head_body h in
    let rto : List ℕ = h.monitoring_rto ∷ [] in
    let seconds = bytes16 h.seconds in
    let price = bytes32 h.monitoring_price in
    let other = bytes32 h.nonmonitoring_price in
    let l1 = longer h.name rto 16 1 e refl in
    let l2 = longer (h.name ++ rto) seconds 17 2 l1 refl in
    let l3 = longer (h.name ++ rto ++ seconds) price 19 4 l2 refl in
    record {
      long = longer (h.name ++ rto ++ seconds ++ price) other 23 4 l3 refl;
      same = λ j. record {
        name = field_at [] h.name (rto ∷ seconds ∷ price ∷ other ∷ []) 0 16 refl e j;
        monitoring_rto = field8 s 16 h.monitoring_rto (field_at h.name rto (seconds ∷ price ∷ other ∷ []) 16 1 e refl) j;
        seconds = field16 s 17 h.seconds (field_at (h.name ++ rto) seconds (price ∷ other ∷ []) 17 2 l1 refl) j;
        monitoring_price = field32 s 19 h.monitoring_price (field_at (h.name ++ rto ++ seconds) price (other ∷ []) 19 4 l2 refl) j;
        nonmonitoring_price = field32 s 23 h.nonmonitoring_price (field_at (h.name ++ rto ++ seconds ++ price) other [] 23 4 l3 refl) j;
      };
    }

pub zone_returns : (z : Zone) → length z.name ≡ 16 → Returns 2 zone_body zone_of z
unfolding zone_body zone_of fields_from
zone_returns z e =
    let s = zone_body z in
    let load = bytes32 z.load in
    let losses = bytes32 z.losses in
    let l1 = longer z.name load 16 4 e refl in
    record {
      long = longer (z.name ++ load) losses 20 4 l1 refl;
      same = λ j. record {
        name = field_at [] z.name (load ∷ losses ∷ []) 0 16 refl e j;
        load = field32 s 16 z.load (field_at z.name load (losses ∷ []) 16 4 e refl) j;
        losses = field32 s 20 z.losses (field_at (z.name ++ load) losses [] 20 4 l1 refl) j;
      };
    }

pub unit_returns : (u : Unit) → length u.name ≡ 16 → Returns 3 unit_body unit_of u
unfolding unit_body unit_of fields_from
unit_returns u e =
    let s = unit_body u in
    let zone : List ℕ = u.zone ∷ [] in
    let output = bytes32 u.output in
    let l1 = longer u.name zone 16 1 e refl in
    record {
      long = longer (u.name ++ zone) output 17 4 l1 refl;
      same = λ j. record {
        name = field_at [] u.name (zone ∷ output ∷ []) 0 16 refl e j;
        zone = field8 s 16 u.zone (field_at u.name zone (output ∷ []) 16 1 e refl) j;
        output = field32 s 17 u.output (field_at (u.name ++ zone) output [] 17 4 l1 refl) j;
      };
    }

-- a marked place is no proxy's byte
marked_some : (n : ℕ) → marked_zone n ≡ 0 → ⊥
marked_some n = pick (eqb n 0) refl
  where
    pick : (b : Bool) → eqb n 0 ≡ b → cond b nowhere n ≡ 0 → ⊥
    pick true e z = omega arith
    pick false e z = eqb-false n 0 e z

line_returns : (n : ℕ) → (n ≡ 0 → ⊥) → place_of n ≡ Line n
line_returns n h = rw (ne_eqb n 0 h) refl

place_returns : (p : Place) → place_of (place_byte (marked_place p)) ≡ marked_place p
place_returns Proxy = refl
place_returns (Line n) = line_returns (marked_zone n) (marked_some n)

pub point_returns : (p : Point) → length p.name ≡ 16 → Returns 4 point_body point_of (marked_point p)
unfolding point_body point_of fields_from
point_returns p e =
    let s = point_body (marked_point p) in
    let place = place_byte (marked_place p.place) in
    let type : List ℕ = p.sort ∷ [] in
    let at : List ℕ = place ∷ [] in
    let import = bytes32 p.import in
    let export = bytes32 p.export in
    let into = bytes32 p.wheel_in in
    let out = bytes32 p.wheel_out in
    let l1 = longer p.name type 16 1 e refl in
    let l2 = longer (p.name ++ type) at 17 1 l1 refl in
    let l3 = longer (p.name ++ type ++ at) import 18 4 l2 refl in
    let l4 = longer (p.name ++ type ++ at ++ import) export 22 4 l3 refl in
    let l5 = longer (p.name ++ type ++ at ++ import ++ export) into 26 4 l4 refl in
    record {
      long = longer (p.name ++ type ++ at ++ import ++ export ++ into) out 30 4 l5 refl;
      same = λ j. record {
        name = field_at [] p.name (type ∷ at ∷ import ∷ export ∷ into ∷ out ∷ []) 0 16 refl e j;
        sort = field8 s 16 p.sort (field_at p.name type (at ∷ import ∷ export ∷ into ∷ out ∷ []) 16 1 e refl) j;
        place = (ap place_of (field8 s 17 place (field_at (p.name ++ type) at (import ∷ export ∷ into ∷ out ∷ []) 17 1 l1 refl)) ∙ place_returns p.place) j;
        import = field32 s 18 p.import (field_at (p.name ++ type ++ at) import (export ∷ into ∷ out ∷ []) 18 4 l2 refl) j;
        export = field32 s 22 p.export (field_at (p.name ++ type ++ at ++ import) export (into ∷ out ∷ []) 22 4 l3 refl) j;
        wheel_in = field32 s 26 p.wheel_in (field_at (p.name ++ type ++ at ++ import ++ export) into (out ∷ []) 26 4 l4 refl) j;
        wheel_out = field32 s 30 p.wheel_out (field_at (p.name ++ type ++ at ++ import ++ export ++ into) out [] 30 4 l5 refl) j;
      };
    }

pub par_returns : (p : Par) → length p.name ≡ 16 → SFits w32 p.actual → SFits w32 p.target → Returns 5 par_body par_of p
unfolding par_body par_of signed32 fields_from
par_returns p e fits-actual fits-target =
    let s = par_body p in
    let class : List ℕ = p.class ∷ [] in
    let actual = signed32 p.actual in
    let target = signed32 p.target in
    let l1 = longer p.name class 16 1 e refl in
    let l2 = longer (p.name ++ class) actual 17 4 l1 refl in
    record {
      long = longer (p.name ++ class ++ actual) target 21 4 l2 refl;
      same = λ j. record {
        name = field_at [] p.name (class ∷ actual ∷ target ∷ []) 0 16 refl e j;
        class = field8 s 16 p.class (field_at p.name class (actual ∷ target ∷ []) 16 1 e refl) j;
        actual = signed_field32 s 17 p.actual fits-actual (field_at (p.name ++ class) actual (target ∷ []) 17 4 l1 refl) j;
        target = signed_field32 s 21 p.target fits-target (field_at (p.name ++ class ++ actual) target [] 21 4 l2 refl) j;
      };
    }

pub factor_returns : (f : Factor) → SFits w16 f.factor → Returns 6 factor_body factor_of f
unfolding factor_body factor_of signed16 fields_from
factor_returns f fits =
    let s = factor_body f in
    let front : List ℕ = f.target ∷ f.subject ∷ [] in
    let index = bytes16 f.index in
    let factor = signed16 f.factor in
    record {
      long = refl;
      same = λ j. record {
        target = f.target;
        subject = f.subject;
        index = field16 s 2 f.index (field_at front index (factor ∷ []) 2 2 refl refl) j;
        factor = signed_field16 s 4 f.factor fits (field_at (front ++ index) factor [] 4 2 refl refl) j;
      };
    }

-- ---- a record that was read has the body's bytes
module _ (b : List ℕ) (h : Bytes b) where
  -- a part, and the field behind it
  pub glue : (n m : ℕ) (p q : List ℕ) → p ≡ take n b → q ≡ take m (drop n b) → p ++ q ≡ take (n + m) b
  glue n m p q e f = ap₂ (λ (x y : List ℕ). x ++ y) e f ∙ sym (take-add n m b)

  module _ (e : length b ≡ 27) where
    pub head-written : head_body (head_of b) ≡ b
    unfolding head_body head_of
    head-written =
        glue 23 4 _ _
        (glue 19 4 _ _ (glue 17 2 _ _ (glue 16 1 _ _ refl (written8 b 16 (omega arith))) (written16 b 17 h (omega arith))) (written32 b 19 h (omega arith)))
        (written32 b 23 h (omega arith))
        ∙ take_all 27 b (omega arith)

  module _ (e : length b ≡ 24) where
    pub zone-written : zone_body (zone_of b) ≡ b
    unfolding zone_body zone_of
    zone-written = glue 20 4 _ _ (glue 16 4 _ _ refl (written32 b 16 h (omega arith))) (written32 b 20 h (omega arith)) ∙ take_all 24 b (omega arith)

  module _ (e : length b ≡ 21) where
    pub unit-written : unit_body (unit_of b) ≡ b
    unfolding unit_body unit_of
    unit-written = glue 17 4 _ _ (glue 16 1 _ _ refl (written8 b 16 (omega arith))) (written32 b 17 h (omega arith)) ∙ take_all 21 b (omega arith)

  place_written : (n : ℕ) → place_byte (place_of n) ≡ n
  place_written n = pick (eqb n 0) refl
    where
      pick : (t : Bool) → eqb n 0 ≡ t → place_byte (cond t Proxy (Line n)) ≡ n
      pick true z = sym (eqb-true n 0 z)
      pick false z = refl

  module _ (e : length b ≡ 34) where
    pub point-written : point_body (point_of b) ≡ b
    unfolding point_body point_of
    point-written =
        glue 30 4 _ _
        (glue 26 4 _ _
        (glue 22 4 _ _
        (glue 18 4 _ _
        (glue 17 1 _ _ (glue 16 1 _ _ refl (written8 b 16 (omega arith))) (ap (λ (n : ℕ). n ∷ []) (place_written (byte_at b 17)) ∙ written8 b 17 (omega arith)))
        (written32 b 18 h (omega arith)))
        (written32 b 22 h (omega arith)))
        (written32 b 26 h (omega arith)))
        (written32 b 30 h (omega arith))
        ∙ take_all 34 b (omega arith)

  module _ (e : length b ≡ 25) where
    pub par-written : par_body (par_of b) ≡ b
    unfolding par_body par_of
    par-written =
        glue 21 4 _ _ (glue 17 4 _ _ (glue 16 1 _ _ refl (written8 b 16 (omega arith))) (written_signed32 b 17 h (omega arith))) (written_signed32 b 21 h (omega arith))
        ∙ take_all 25 b (omega arith)

  module _ (e : length b ≡ 6) where
    pub factor-written : factor_body (factor_of b) ≡ b
    unfolding factor_body factor_of
    factor-written =
        glue 4 2 _ _ (glue 2 2 _ _ (glue 1 1 _ _ (written8 b 0 (omega arith)) (written8 b 1 (omega arith))) (written16 b 2 h (omega arith))) (written_signed16 b 4 h (omega arith))
        ∙ take_all 6 b (omega arith)
