-- What holds once the records before a place have all passed.
use Prim.Native.Nat.{ℕ, ◌+◌, ◌-◌, ◌≤◌, ◌<◌}
use mathlib.Core.Path.{◌≡◌, refl, sym, ap, ◌∙◌}
use mathlib.Core.Bool.{Bool, true, false}
use mathlib.Core.List.{List, [], ◌∷◌, ◌++◌}
use native.Mathlib.Omega.{arith}
use lib.Dec.{eqb}
use lib.ListN.{length, drop, length-append, length-drop}
use borrow.Author.Tests.{eqb-true, leb-false, ne_eqb}
use Rattle.fields.specs.Fields.{byte_at}
use Rattle.rows.specs.Rows.{row, cut_short}
use Rattle.record_table.specs.Table.{kind_of, last_kind, body_length, body_in}
use Rattle.records.specs.Bodies.{head_of, zone_of, unit_of, point_of, par_of, factor_of, path_of, circulation_of}
use Rattle.records.specs.Content.{Content, no_content, count_of, only_if, with_record}
use Rattle.record_rows.specs.Rows.{unknown_kind, front_row, factor_row, repeats, record_row, body_row}
use Rattle.record_rows.proofs.FrontRows.{Fronted, front_pass, front_split, front_factor}
use Rattle.layout.specs.declared.Layout.{Layout}
use Rattle.layout.specs.inner.Places.{one, count, due_of, counted, no_records, Allowed, content_at}
use Rattle.layout.specs.Layout.{layout_of}
use Rattle.layout.specs.inner.Listed.{Listed}
use Rattle.layout.proofs.Listed.{listed_at, listed_kept}
use Rattle.layout.proofs.Laid.{Laid, laid_none, laid_next}
use Rattle.layout.proofs.Contents.{none_at, layout_at, count_at, counts_at, content_next}
use Rattle.sheet.specs.Passed.{Passed, none, more}

one_more : {A : Type 0} (l : List A) (b : Bool) (a : A) → length (l ++ only_if b a) ≡ length l + one b
one_more l true a = length-append l (a ∷ [])
one_more l false a = length-append l []

-- one record more is one more of its kind
pub layout_with : (c : Content) (kind : ℕ) (b : List ℕ) → layout_of (with_record c kind b) ≡ counted (layout_of c) kind
unfolding layout_of with_record counted
layout_with c k b =
    rw (
      one_more c.heads (eqb k 1) (head_of b),
      one_more c.zones (eqb k 2) (zone_of b),
      one_more c.units (eqb k 3) (unit_of b),
      one_more c.points (eqb k 4) (point_of b),
      one_more c.pars (eqb k 5) (par_of b),
      one_more c.factors (eqb k 6) (factor_of b),
      one_more c.paths (eqb k 7) (path_of b),
      one_more c.circulations (eqb k 8) (circulation_of b),
    )

layout_none : layout_of no_content ≡ no_records
unfolding layout_of
layout_none = refl

module _ (s : List ℕ) (at last : ℕ) (c : Content) (below : at < length s) (row : record_row c last (byte_at s at) (drop (at + 1) s) ≡ 0) where
  pub fronted : Fronted last (byte_at s at) (count_of c (byte_at s at)) (length s - (at + 1))
  unfolding record_row
  fronted = rw (length-drop (at + 1) s) at (front_pass _ _ _ _ _ row).0

  pub body_passes : body_row c (byte_at s at) (repeats c (byte_at s at) (body_in (byte_at s at) (drop (at + 1) s))) (body_in (byte_at s at) (drop (at + 1) s)) ≡ 0
  unfolding record_row
  body_passes = (front_pass _ _ _ _ _ row).1

module _ (s : List ℕ) where
  pub passed_within : {at last : ℕ} {c : Content} → Passed s at last c → at ≤ length s
  passed_within none = omega arith
  passed_within (more {at} {last} {c} p h e) = omega (arith, (fronted s at last c h e).fits)

  pub passed_last : {at last : ℕ} {c : Content} → Passed s at last c → last ≤ last_kind
  passed_last none = omega arith
  passed_last (more {at} {last} {c} p h e) = (fronted s at last c h e).high

  pub passed_laid : {at last : ℕ} {c : Content} → Passed s at last c → Laid (layout_of c) last at
  passed_laid none = rw layout_none laid_none
  passed_laid (more {at} {last} {c} p h e) =
      let f = fronted s at last c h e in
      rw (layout_with c (byte_at s at) (body_in (byte_at s at) (drop (at + 1) s))) (laid_next (layout_of c) last at (byte_at s at) (passed_laid p) f.low f.high f.order)

  -- the content is what stands at the layout's places
  pub passed_placed : {at last : ℕ} {c : Content} → Passed s at last c → c ≡ content_at s (layout_of c)
  passed_placed none = rw layout_none (sym (none_at s))
  passed_placed (more {at} {last} {c} p h e) =
      let f = fronted s at last c h e in
      let k = byte_at s at in
      let b = body_in k (drop (at + 1) s) in
      ap (λ (d : Content). with_record d k b) (passed_placed p)
      ∙ sym (rw (layout_with c k b) (content_next s (layout_of c) last at k (passed_laid p) f.low f.high f.order))

  cap_next : {A : Type 0} (l : List A) (n k j : ℕ) (a : A) → length l ≤ n → (k ≡ j → length l < n) → length (l ++ only_if (eqb k j) a) ≤ n
  cap_next l n k j a h g = rw (one_more l (eqb k j) a) (pick (eqb k j) refl)
    where
      pick : (b : Bool) → eqb k j ≡ b → length l + one b ≤ n
      pick true e = let f = g (eqb-true _ _ e) in omega arith
      pick false e = omega arith

  pub passed_allowed : {at last : ℕ} {c : Content} → Passed s at last c → Allowed (layout_of c)
  unfolding layout_of with_record
  passed_allowed none = record {
    heads = omega arith;
    paths = omega arith;
    circulations = omega arith;
    few = record { zones_most = omega arith; units_most = omega arith; points_most = omega arith; pars_most = omega arith };
  }
  passed_allowed (more {at} {last} {c} p h e) =
      let f = fronted s at last c h e in
      let a = passed_allowed p in
      let k = byte_at s at in
      record {
        heads = cap_next c.heads 1 k 1 _ a.heads (λ q. rw q at (f.head q));
        paths = cap_next c.paths 4 k 7 _ a.paths (λ q. leb-false _ _ (rw q at f.room));
        circulations = cap_next c.circulations 1 k 8 _ a.circulations (λ q. leb-false _ _ (rw q at f.room));
        few = record {
          zones_most = cap_next c.zones 32 k 2 _ a.few.zones_most (λ q. leb-false _ _ (rw q at f.room));
          units_most = cap_next c.units 256 k 3 _ a.few.units_most (λ q. leb-false _ _ (rw q at f.room));
          points_most = cap_next c.points 32 k 4 _ a.few.points_most (λ q. leb-false _ _ (rw q at f.room));
          pars_most = cap_next c.pars 8 k 5 _ a.few.pars_most (λ q. leb-false _ _ (rw q at f.room));
        };
      }

  -- the loop's state: a layout alone, for the content at its places
  module _ (at last : ℕ) (l : Layout) (p : Passed s at last (content_at s l)) where
    pub at-laid : Laid l last at
    at-laid = rw (layout_at s l) at (passed_laid p)

    pub at-allowed : Allowed l
    at-allowed = rw (layout_at s l) at (passed_allowed p)

    pub at-fronted : at < length s → record_row (content_at s l) last (byte_at s at) (drop (at + 1) s) ≡ 0 → Fronted last (byte_at s at) (count l (byte_at s at)) (length s - (at + 1))
    at-fronted h e = rw (count_at s l (byte_at s at)) at (fronted s at last (content_at s l) h e)

    pub at_next : at < length s → record_row (content_at s l) last (byte_at s at) (drop (at + 1) s) ≡ 0 →
        with_record (content_at s l) (byte_at s at) (body_in (byte_at s at) (drop (at + 1) s)) ≡ content_at s (counted l (byte_at s at))
    at_next h e =
        let f = at-fronted h e in
        sym (content_next s l last at (byte_at s at) at-laid f.low f.high f.order)

    -- a record without a name leaves the index of names as it was
    pub at_listed : (table : List ℕ) → at < length s → record_row (content_at s l) last (byte_at s at) (drop (at + 1) s) ≡ 0 →
        (kind_of (byte_at s at)).named ≡ false → Listed s l last table → Listed s (counted l (byte_at s at)) (byte_at s at) table
    at_listed table h e n x =
        let f = at-fronted h e in
        let k = byte_at s at in
        listed_kept s l k table f.low f.high n (listed_at s l k table last at at-laid f.order f.high x)

-- the rows of a factor that no later kind stands before
factor_rows : (s : List ℕ) (l : Layout) (last : ℕ) (r : List ℕ) → last ≤ 6 →
    record_row (content_at s l) last 6 r ≡ row 3 (cut_short (body_length 6) (length r)) (factor_row (due_of l) l.factors (factor_of (body_in 6 r)))
unfolding record_row body_row
factor_rows s l last r h = front_factor last (count_of (content_at s l) 6) (length r) _ h ∙ rw (counts_at s l, count_at s l 6)

pub record_factor : (s : List ℕ) (l : Layout) (last kind : ℕ) (r : List ℕ) → kind ≡ 6 → last ≤ 6 →
    record_row (content_at s l) last kind r ≡ row 3 (cut_short (body_length 6) (length r)) (factor_row (due_of l) l.factors (factor_of (body_in 6 r)))
record_factor s l last kind r q h = rw q (factor_rows s l last r h)

module _ (s : List ℕ) (l : Layout) (last kind at : ℕ) where
  -- where none of rows 2 to 5 fits a record its body's rows decide
  pub body_decides : front_row last kind (count l kind) (length s - (at + 1)) 0 ≡ 0 →
      record_row (content_at s l) last kind (drop (at + 1) s)
      ≡ body_row (content_at s l) kind (repeats (content_at s l) kind (body_in kind (drop (at + 1) s))) (body_in kind (drop (at + 1) s))
  unfolding record_row
  body_decides e = rw (count_at s l kind, length-drop (at + 1) s, front_split, e)

  -- else that row does
  pub front_decides : (number : ℕ) → front_row last kind (count l kind) (length s - (at + 1)) 0 ≡ number → (number ≡ 0 → ⊥) →
      record_row (content_at s l) last kind (drop (at + 1) s) ≡ number
  unfolding record_row
  front_decides number e n = rw (count_at s l kind, length-drop (at + 1) s, front_split, e, ne_eqb number 0 n)

  pub row_unknown : unknown_kind kind ≡ true → record_row (content_at s l) last kind (drop (at + 1) s) ≡ 2
  unfolding record_row front_row
  row_unknown e = rw e
