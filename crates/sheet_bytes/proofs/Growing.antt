-- One record more is its bytes more, and it is had back from them.
use Prim.Native.Nat.{ℕ, zero, suc, ◌+◌, ◌≤◌, ◌<◌}
use mathlib.Core.Path.{◌≡◌, refl, sym, ap, ap₂, ◌∙◌}
use mathlib.Core.Bool.{Bool, true, false, cond}
use mathlib.Core.List.{List, [], ◌∷◌, ◌++◌, append-nil, append_assoc}
use native.Mathlib.Omega.{arith}
use lib.Dec.{eqb}
use lib.ListN.{length}
use borrow.Author.Tests.{eqb-true, eqb-false, ne_eqb}
use Rattle.fields.proofs.Bytes.{Bytes}
use Rattle.record_table.specs.Table.{by_kind, last_kind, body_length}
use Rattle.record_table.proofs.ByKind.{kinds}
use Rattle.records.specs.Bodies.{head_of, zone_of, unit_of, point_of, par_of, factor_of, path_of, circulation_of}
use Rattle.records.specs.Content.{Content, only_if, with_record}
use Rattle.layout.specs.inner.Places.{count}
use Rattle.layout.specs.Layout.{layout_of}
use Rattle.sheet_bytes.specs.SheetBytes.{head_body, zone_body, unit_body, point_body, par_body, factor_body, path_body, circulation_body, all, sheet_bytes}
use Rattle.sheet_bytes.specs.inner.Returns.{Returns, Each, Returned}
use Rattle.sheet_bytes.proofs.Sections.{each_more, all_more}
use Rattle.sheet_bytes.proofs.RecordBodies.{head-written, zone-written, unit-written, point-written, par-written, factor-written}
use Rattle.sheet_bytes.proofs.LakeBodies.{path-written, circulation-written}

-- ---- parts that follow one another
-- n parts from the j-th on
joined : (ℕ → List ℕ) → ℕ → ℕ → List ℕ
joined p j zero = []
joined p j (suc n) = p j ++ joined p (suc j) n

-- bytes that are there only if
abbrev added : Bool → List ℕ → List ℕ
added t x = cond t x []

join_same : (p q : ℕ → List ℕ) (j n : ℕ) → ((i : ℕ) → j ≤ i → i < j + n → p i ≡ q i) → joined p j n ≡ joined q j n
unfolding joined
join_same p q j zero h = refl
join_same p q j (suc n) h = ap₂ (λ (x y : List ℕ). x ++ y) (h j (omega arith) (omega arith)) (join_same p q (suc j) n (λ i g l. h i (omega arith) (omega arith)))

join_none : (p : ℕ → List ℕ) (j n : ℕ) → ((i : ℕ) → j ≤ i → i < j + n → p i ≡ []) → joined p j n ≡ []
unfolding joined
join_none p j zero h = refl
join_none p j (suc n) h = rw (h j (omega arith) (omega arith)) (join_none p (suc j) n (λ i g l. h i (omega arith) (omega arith)))

-- what is added to the last part that is not empty is added to all
join_more : (p : ℕ → List ℕ) (k : ℕ) (x : List ℕ) (j n : ℕ) → j ≤ k → k < j + n → ((i : ℕ) → k < i → i < j + n → p i ≡ []) →
    joined (λ i. p i ++ added (eqb k i) x) j n ≡ joined p j n ++ x
unfolding joined
join_more p k x j zero g l h = absurd (omega arith)
join_more p k x j (suc n) g l h =
    pick (eqb k j) refl (λ z. join_more p k x (suc j) n (omega arith) (omega arith) (λ i a b. h i a (omega arith)))
  where
    pick : (t : Bool) → eqb k j ≡ t → ((k ≡ j → ⊥) → joined (λ i. p i ++ added (eqb k i) x) (suc j) n ≡ joined p (suc j) n ++ x) →
        p j ++ added t x ++ joined (λ i. p i ++ added (eqb k i) x) (suc j) n ≡ p j ++ joined p (suc j) n ++ x
    pick true e later =
        let q : k ≡ j = eqb-true k j e in
        let none = join_none p (suc j) n (λ i a b. h i (omega arith) (omega arith)) in
        let None-more = join_none (λ i. p i ++ added (eqb k i) x) (suc j) n (λ i a b. rw (h i (omega arith) (omega arith), ne_eqb k i (λ z. omega arith)) refl) in
        rw (none, None-more, append-nil (p j ++ x), append-nil (p j)) refl
    pick false e later = rw (append-nil (p j), later (eqb-false k j e)) (sym (append_assoc (p j) (joined p (suc j) n) x))

-- ---- the records of a kind
all_none : {A : Type 0} (kind : ℕ) (body : A → List ℕ) (l : List A) → length l ≡ 0 → all kind body l ≡ []
unfolding all
all_none kind body [] e = refl
all_none kind body (a ∷ l) e = absurd (omega arith)

-- a record of the kind k with the body b goes behind those of a kind, where k is that kind
module _ (k : ℕ) (b : List ℕ) (e : length b ≡ body_length k) {A : Type 0} (kind : ℕ) (body : A → List ℕ) (of : List ℕ → A) (written : length b ≡ body_length kind → body (of b) ≡ b) (l : List A) where
  part_more : all kind body (l ++ only_if (eqb k kind) (of b)) ≡ all kind body l ++ added (eqb k kind) (k ∷ b)
  part_more = pick (eqb k kind) refl
    where
      pick : (t : Bool) → eqb k kind ≡ t → all kind body (l ++ only_if t (of b)) ≡ all kind body l ++ added t (k ∷ b)
      pick true q =
          let is : k ≡ kind = eqb-true k kind q in
          all_more kind body l (of b) ∙ ap₂ (λ (j : ℕ) (x : List ℕ). all kind body l ++ (j ∷ x)) (sym is) (written (rw is at e))
      pick false q = rw (append-nil l, append-nil (all kind body l)) refl

  returns_more : Each (Returns kind body of) l → Each (Returns kind body of) (l ++ only_if (eqb k kind) (of b))
  returns_more h = pick (eqb k kind) refl
    where
      pick : (t : Bool) → eqb k kind ≡ t → Each (Returns kind body of) (l ++ only_if t (of b))
      pick true q =
          let long : length b ≡ body_length kind = rw (eqb-true k kind q) at e in
          each_more (Returns kind body of) l h (record { long = ap length (written long) ∙ long; same = ap of (written long) })
      pick false q = rw (append-nil l) h

-- ---- all kinds
abbrev part : Content → ℕ → List ℕ
part c kind =
    by_kind kind []
    (all 1 head_body c.heads
    ∷ all 2 zone_body c.zones
    ∷ all 3 unit_body c.units
    ∷ all 4 point_body c.points
    ∷ all 5 par_body c.pars
    ∷ all 6 factor_body c.factors
    ∷ all 7 path_body c.paths
    ∷ all 8 circulation_body c.circulations
    ∷ [])

sheet_joined : (c : Content) → sheet_bytes c ≡ joined (part c) 1 last_kind
unfolding sheet_bytes joined
sheet_joined c = rw (append-nil (all 8 circulation_body c.circulations)) refl

part_none : (c : Content) (kind : ℕ) → 1 ≤ kind → kind ≤ last_kind → count (layout_of c) kind ≡ 0 → part c kind ≡ []
unfolding layout_of
part_none c =
    kinds (λ (kind : ℕ). count (layout_of c) kind ≡ 0 → part c kind ≡ [])
    (all_none 1 head_body c.heads) (all_none 2 zone_body c.zones) (all_none 3 unit_body c.units) (all_none 4 point_body c.points) (all_none 5 par_body c.pars) (all_none 6 factor_body c.factors) (all_none 7 path_body c.paths) (all_none 8 circulation_body c.circulations)

module _ (c : Content) (k : ℕ) (b : List ℕ) (bytes : Bytes b) (e : length b ≡ body_length k) where
  parts_more : (kind : ℕ) → 1 ≤ kind → kind ≤ last_kind → part (with_record c k b) kind ≡ part c kind ++ added (eqb k kind) (k ∷ b)
  unfolding with_record
  parts_more =
      kinds (λ (kind : ℕ). part (with_record c k b) kind ≡ part c kind ++ added (eqb k kind) (k ∷ b))
      (part_more k b e 1 head_body head_of (head-written b bytes) c.heads)
      (part_more k b e 2 zone_body zone_of (zone-written b bytes) c.zones)
      (part_more k b e 3 unit_body unit_of (unit-written b bytes) c.units)
      (part_more k b e 4 point_body point_of (point-written b bytes) c.points)
      (part_more k b e 5 par_body par_of (par-written b bytes) c.pars)
      (part_more k b e 6 factor_body factor_of (factor-written b bytes) c.factors)
      (part_more k b e 7 path_body path_of (path-written b bytes) c.paths)
      (part_more k b e 8 circulation_body circulation_of (circulation-written b bytes) c.circulations)

  -- of the kinds above the record's own there are none
  pub grows : 1 ≤ k → k ≤ last_kind → ((j : ℕ) → k < j → j ≤ last_kind → count (layout_of c) j ≡ 0) → sheet_bytes (with_record c k b) ≡ sheet_bytes c ++ (k ∷ b)
  grows low high above =
      rw (sheet_joined c, sheet_joined (with_record c k b))
      (join_same (part (with_record c k b)) (λ i. part c i ++ added (eqb k i) (k ∷ b)) 1 last_kind (λ i g l. parts_more i g (omega arith))
      ∙ join_more (part c) k (k ∷ b) 1 last_kind low (omega arith) (λ i g l. part_none c i (omega arith) (omega arith) (above i g (omega arith))))

  pub returned_more : Returned c → Returned (with_record c k b)
  unfolding with_record
  returned_more r = record {
    heads = returns_more k b e 1 head_body head_of (head-written b bytes) c.heads r.heads;
    zones = returns_more k b e 2 zone_body zone_of (zone-written b bytes) c.zones r.zones;
    units = returns_more k b e 3 unit_body unit_of (unit-written b bytes) c.units r.units;
    points = returns_more k b e 4 point_body point_of (point-written b bytes) c.points r.points;
    pars = returns_more k b e 5 par_body par_of (par-written b bytes) c.pars r.pars;
    factors = returns_more k b e 6 factor_body factor_of (factor-written b bytes) c.factors r.factors;
    paths = returns_more k b e 7 path_body path_of (path-written b bytes) c.paths r.paths;
    circulations = returns_more k b e 8 circulation_body circulation_of (circulation-written b bytes) c.circulations r.circulations;
  }
