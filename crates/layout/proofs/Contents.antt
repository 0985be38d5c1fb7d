-- The content at the places: its lists' lengths and records, and one record more.
use Prim.Native.Nat.{ℕ, ◌+◌, ◌≤◌}
use mathlib.Core.Path.{◌≡◌, refl, sym, ap, ◌∙◌}
use mathlib.Core.Bool.{Bool, true, false}
use mathlib.Core.List.{List, [], ◌∷◌, ◌++◌, append-nil}
use native.Mathlib.Numerals.{add-one}
use native.Mathlib.Omega.{arith}
use lib.Dec.{eqb}
use lib.ListN.{length, drop}
use borrow.Author.Tests.{eqb-true, eqb-false}
use Rattle.fields.specs.Lists.{tab}
use Rattle.fields.proofs.Lists.{length_tab}
use Rattle.integers.proofs.Cases.{below_or}
use Rattle.record_table.specs.Table.{body_in, last_kind}
use Rattle.records.specs.Bodies.{head_of, zone_of, unit_of, point_of, par_of, factor_of, path_of, circulation_of}
use Rattle.records.specs.Content.{count_of, only_if, no_content, with_record}
use Rattle.due_factors.specs.Due.{counts_of}
use Rattle.layout.specs.declared.Layout.{Layout}
use Rattle.layout.specs.inner.Places.{count, counts_in, counted, no_records, start_of, body_at, content_at}
use Rattle.layout.specs.Layout.{layout_of}
use Rattle.layout.proofs.Places.{count_same, count_other, first_agree}
use Rattle.layout.proofs.Laid.{Laid, laid_at, below_same}

pub layout_at : (s : List ℕ) (l : Layout) → layout_of (content_at s l) ≡ l
unfolding layout_of content_at
layout_at s l =
    rw (
      length_tab (λ i. head_of (body_at s l 1 i)) l.heads,
      length_tab (λ i. zone_of (body_at s l 2 i)) l.zones,
      length_tab (λ i. unit_of (body_at s l 3 i)) l.units,
      length_tab (λ i. point_of (body_at s l 4 i)) l.points,
      length_tab (λ i. par_of (body_at s l 5 i)) l.pars,
      length_tab (λ i. factor_of (body_at s l 6 i)) l.factors,
      length_tab (λ i. path_of (body_at s l 7 i)) l.paths,
      length_tab (λ i. circulation_of (body_at s l 8 i)) l.circulations,
    )

-- so its counts are the layout's
pub count_at : (s : List ℕ) (l : Layout) (kind : ℕ) → count_of (content_at s l) kind ≡ count l kind
unfolding layout_of
count_at s l kind = ap (λ (m : Layout). count m kind) (layout_at s l)

pub counts_at : (s : List ℕ) (l : Layout) → counts_of (content_at s l) ≡ counts_in l
unfolding layout_of
counts_at s l = ap counts_in (layout_at s l)

pub zones_at : (s : List ℕ) (l : Layout) → length (content_at s l).zones ≡ l.zones
unfolding layout_of
zones_at s l = ap (λ (m : Layout). m.zones) (layout_at s l)

pub none_at : (s : List ℕ) → content_at s no_records ≡ no_content
unfolding content_at tab
none_at s = refl

-- f of the body of each record of a kind
abbrev list_of : {A : Type 0} → (List ℕ → A) → List ℕ → Layout → ℕ → List A
list_of f s l kind = tab (λ i. f (body_at s l kind i)) (count l kind)

tab_zero : {A : Type 0} (f : ℕ → A) → tab f 0 ≡ []
unfolding tab
tab_zero f = refl

tab_next : {A : Type 0} (f : ℕ → A) (n : ℕ) → tab f (n + 1) ≡ tab f n ++ (f n ∷ [])
unfolding tab
tab_next f n = rw add-one

module _ (s : List ℕ) (l : Layout) (last at kind : ℕ) (v : Laid l last at) (low : 1 ≤ kind) (high : kind ≤ last_kind) (order : last ≤ kind) where
  abbrev body : List ℕ
  body = body_in kind (drop (at + 1) s)

  module _ {A : Type 0} (f : List ℕ → A) where
    list-by : (j : ℕ) → j ≤ last_kind → (b : Bool) → eqb kind j ≡ b → list_of f s (counted l kind) j ≡ list_of f s l j ++ only_if b (f body)
    list-by j h true e =
        let q : kind ≡ j = eqb-true _ _ e in
        let a : start_of l kind (count l kind) ≡ at = sym (laid_at l last at kind v low high order) in
        rw (← q, count_same l kind low high, first_agree l (counted l kind) kind (below_same l last at kind v low high order))
        (tab_next (λ i. f (body_at s l kind i)) (count l kind) ∙ rw a)
    list-by j h false e =
        let n = eqb-false _ _ e in
        let o = count_other l kind j h n in
        below_or kind j
        (λ a.
        let z : count l j ≡ 0 = v.above j (omega arith) h in
        rw (o, z, tab_zero (λ i. f (body_at s (counted l kind) j i)), tab_zero (λ i. f (body_at s l j i))))
        (λ b. rw (o, first_agree l (counted l kind) j (λ i p. count_other l kind i (omega arith) (λ x. omega arith)), append-nil (list_of f s l j)))

    list-next : (j : ℕ) → j ≤ last_kind → list_of f s (counted l kind) j ≡ list_of f s l j ++ only_if (eqb kind j) (f body)
    list-next j h = list-by j h (eqb kind j) refl

  pub content_next : content_at s (counted l kind) ≡ with_record (content_at s l) kind body
  unfolding content_at with_record
  content_next =
      let heads = list-next head_of 1 (omega arith) in
      let zones = list-next zone_of 2 (omega arith) in
      let units = list-next unit_of 3 (omega arith) in
      let points = list-next point_of 4 (omega arith) in
      let pars = list-next par_of 5 (omega arith) in
      let factors = list-next factor_of 6 (omega arith) in
      let paths = list-next path_of 7 (omega arith) in
      let circulations = list-next circulation_of 8 (omega arith) in
      rw (heads, zones, units, points, pars, factors, paths, circulations)
