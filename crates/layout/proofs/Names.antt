-- The names of a kind's records, at their places and in the content.
use Prim.Native.Nat.{ℕ, zero, suc, ◌+◌, ◌*◌, ◌≤◌}
use mathlib.Core.Path.{◌≡◌, refl, sym, ap, ◌∙◌}
use mathlib.Core.Bool.{true, ◌||◌, or-false, or_assoc, or_comm}
use mathlib.Core.List.{List, [], ◌∷◌, ◌++◌}
use native.Mathlib.Omega.{arith}
use lib.ListN.{drop}
use lib.Seq.{take-take}
use Rattle.names.specs.Names.{name_at, same_list, seen_before}
use Rattle.name_index.specs.inner.Index.{names_at}
use Rattle.fields.specs.Lists.{tab}
use Rattle.fields.proofs.Lists.{map_tab, tab_same}
use Rattle.record_table.specs.Table.{kind_of, last_kind, body_length, body_in}
use Rattle.records.specs.Bodies.{head_of, zone_of, unit_of, point_of, par_of, path_of}
use Rattle.records.specs.Content.{names_of}
use Rattle.record_rows.specs.Rows.{repeats}
use Rattle.record_table.specs.inner.Sizes.{size}
use Rattle.layout.specs.declared.Layout.{Layout}
use Rattle.layout.specs.inner.Places.{count, first_of, start_of, body_at, content_at}
use Rattle.record_table.proofs.ByKind.{kinds, name_room, unnamed}

seen_snoc : (x : List ℕ) (l : List (List ℕ)) (y : List ℕ) → seen_before (l ++ (y ∷ [])) x ≡ (seen_before l x || same_list y x)
unfolding seen_before
seen_snoc x [] y = or-false (same_list y x)
seen_snoc x (z ∷ l) y = rw (seen_snoc x l y) (sym (or_assoc (same_list z x) (seen_before l x) (same_list y x)))

seen_is : (s x : List ℕ) (at stride n : ℕ) → seen_before (names_at s at stride n) x ≡ seen_before (tab (λ i. name_at s (at + stride * i)) n) x
unfolding tab names_at seen_before
seen_is s x at stride zero = refl
seen_is s x at stride (suc n) =
    rw (seen_is s x at stride n) (or_comm (same_list (name_at s (at + stride * n)) x) (seen_before (tab (λ i. name_at s (at + stride * i)) n) x))
    ∙ sym (seen_snoc x (tab (λ i. name_at s (at + stride * i)) n) (name_at s (at + stride * n)))

module _ (s : List ℕ) (l : Layout) where
  names_at_lem : (kind : ℕ) → 1 ≤ kind → kind ≤ last_kind → (kind_of kind).named ≡ true → names_of (content_at s l) kind ≡ tab (λ i. name_at (body_at s l kind i) 0) (count l kind)
  unfolding names_of content_at head_of zone_of unit_of point_of par_of path_of
  names_at_lem =
      kinds (λ (k : ℕ). (kind_of k).named ≡ true → names_of (content_at s l) k ≡ tab (λ i. name_at (body_at s l k i) 0) (count l k))
      (λ n. map_tab _ _ l.heads)
      (λ n. map_tab _ _ l.zones)
      (λ n. map_tab _ _ l.units)
      (λ n. map_tab _ _ l.points)
      (λ n. map_tab _ _ l.pars)
      unnamed
      (λ n. map_tab _ _ l.paths)
      unnamed

  same_name : (kind at : ℕ) → (kind_of kind).named ≡ true → name_at s at ≡ name_at (body_in kind (drop at s)) 0
  same_name k at n = sym (take-take 16 (body_length k) (drop at s) (name_room k n))

  -- row 7 at the places: of a record whose body stands at `from`
  pub repeated_at : (kind from : ℕ) → 1 ≤ kind → kind ≤ last_kind → (kind_of kind).named ≡ true →
      seen_before (names_at s (first_of l kind + 1) (size kind) (count l kind)) (name_at s from) ≡ repeats (content_at s l) kind (body_in kind (drop from s))
  repeated_at k from g h n =
      rw (names_at_lem k g h n, ← same_name k from n)
      (seen_is s (name_at s from) (first_of l k + 1) (size k) (count l k)
      ∙ ap (λ (names : List (List ℕ)). seen_before names (name_at s from)) (tab_same (λ i. name_at s (first_of l k + 1 + size k * i)) (λ i. name_at (body_at s l k i) 0) (count l k) (λ i. moved i)))
    where
      moved : (i : ℕ) → name_at s (first_of l k + 1 + size k * i) ≡ name_at (body_at s l k i) 0
      moved i =
          let e : first_of l k + 1 + size k * i ≡ start_of l k i + 1 = omega arith in
          rw e (same_name k (start_of l k i + 1) n)
