-- What the reader tells of a content's bytes: the content's own row, or the content.
use Prim.Native.Nat.{ℕ, ◌+◌, ◌≤◌}
use mathlib.Core.Path.{◌≡◌, refl, sym, ap, subst, ◌∙◌}
use mathlib.Core.Bool.{Bool}
use mathlib.Core.List.{List, [], ◌∷◌, ◌++◌, map, append-nil}
use native.Mathlib.Omega.{arith}
use lib.ListN.{length}
use Rattle.names.specs.Names.{name_at}
use Rattle.record_table.specs.Table.{last_kind, body_length}
use Rattle.records.specs.declared.Head.{Head}
use Rattle.records.specs.declared.Zone.{Zone}
use Rattle.records.specs.declared.Unit.{Unit}
use Rattle.records.specs.declared.Point.{Point}
use Rattle.records.specs.declared.Par.{Par}
use Rattle.records.specs.declared.Factor.{Factor}
use Rattle.records.specs.declared.Path.{Path}
use Rattle.records.specs.declared.Circulation.{Circulation}
use Rattle.records.specs.Bodies.{head_of, zone_of, unit_of, point_of, par_of, factor_of, path_of, circulation_of}
use Rattle.records.specs.Content.{Content, no_content, count_of, names_of, with_record}
use Rattle.due_factors.specs.Due.{due}
use Rattle.record_rows.specs.Rows.{first_row, body_row, head_row, zone_row, unit_row, point_row, par_row, factor_row, path_row, last_row}
use Rattle.sheet.specs.Sheet.{holds, records_from, reading}
use Rattle.sheet_bytes.specs.SheetBytes.{head_body, zone_body, unit_body, point_body, par_body, factor_body, path_body, circulation_body, all, sheet_bytes}
use Rattle.sheet_bytes.specs.ContentRow.{then_row, in_turn, named_row, circulation_behind, content_row}
use Rattle.sheet_bytes.specs.inner.Returns.{Returns, Each, Returned}
use Rattle.sheet_bytes.proofs.Turns.{then_none}
use Rattle.sheet_bytes.proofs.Steps.{judged, step, Tells, tells_held, tells_unless, section}

-- A kind with names. `with l` is the content in which l are the kind's records: it counts, names, judges and takes them as its own
module _ {A : Type 0} (kind : ℕ) (low : 2 ≤ kind) (high : kind ≤ last_kind) (body : A → List ℕ) (of : List ℕ → A) (name_of : A → List ℕ) (row_of : Bool → A → ℕ) (with : List A → Content)
    (counts : (l : List A) → count_of (with l) kind ≡ length l)
    (names : (l : List A) → names_of (with l) kind ≡ map name_of l)
    (first : (b : List ℕ) → name_at b 0 ≡ name_of (of b))
    (rows : (l : List A) (repeated : Bool) (b : List ℕ) → body_row (with l) kind repeated b ≡ row_of repeated (of b))
    (takes : (l : List A) (b : List ℕ) → with_record (with l) kind b ≡ with (l ++ (of b ∷ []))) where
  row_is : (before : List A) (a : A) → Returns kind body of a → judged (with before) kind (body a) ≡ named_row kind name_of row_of before a
  row_is before a r = rw (counts before, names before, first (body a), rows before _ (body a), r.same) refl

  next_is : (before : List A) (a : A) → Returns kind body of a → with_record (with before) kind (body a) ≡ with (before ++ (a ∷ []))
  next_is before a r = rw (takes before (body a), r.same) refl

  named_section : (rest : List ℕ) (later : ℕ) (c : Content) (l : List A) → Each (Returns kind body of) l →
      ((at last : ℕ) → last ≤ kind → Tells (records_from at 0 last (with l) rest) later c) →
      (at last : ℕ) → last ≤ kind → Tells (records_from at 0 last (with []) (all kind body l ++ rest)) (in_turn (named_row kind name_of row_of) [] l later) c
  named_section rest later c l h t = section kind body of (named_row kind name_of row_of) with low high row_is next_is rest later c l [] h t

-- a content c, and what is told of its records from a kind's first on
module _ (c : Content) (h : Head) (one : c.heads ≡ h ∷ []) (returned : Returned c) where
  abbrev From : ℕ → Content → List ℕ → ℕ → Type 0
  From kind d bytes number = (at last : ℕ) → last ≤ kind → Tells (records_from at 0 last d bytes) number c

  -- the content as far as the records of a kind have been read
  abbrev with_circulations : List Circulation → Content
  with_circulations l = record { heads = c.heads; zones = c.zones; units = c.units; points = c.points; pars = c.pars; factors = c.factors; paths = c.paths; circulations = l }

  abbrev with_paths : List Path → Content
  with_paths l = record { heads = c.heads; zones = c.zones; units = c.units; points = c.points; pars = c.pars; factors = c.factors; paths = l; circulations = [] }

  abbrev with_factors_lem : List Factor → Content
  with_factors_lem l = record { heads = c.heads; zones = c.zones; units = c.units; points = c.points; pars = c.pars; factors = l; paths = []; circulations = [] }

  abbrev with_pars : List Par → Content
  with_pars l = record { heads = c.heads; zones = c.zones; units = c.units; points = c.points; pars = l; factors = []; paths = []; circulations = [] }

  abbrev with_points : List Point → Content
  with_points l = record { heads = c.heads; zones = c.zones; units = c.units; points = l; pars = []; factors = []; paths = []; circulations = [] }

  abbrev with_units : List Unit → Content
  with_units l = record { heads = c.heads; zones = c.zones; units = l; points = []; pars = []; factors = []; paths = []; circulations = [] }

  abbrev with_zones : List Zone → Content
  with_zones l = record { heads = c.heads; zones = l; units = []; points = []; pars = []; factors = []; paths = []; circulations = [] }

  -- their bytes and rows
  abbrev circulations_on : List ℕ
  circulations_on = all 8 circulation_body c.circulations

  abbrev paths_on : List ℕ
  paths_on = all 7 path_body c.paths ++ circulations_on

  abbrev factors_on : List ℕ
  factors_on = all 6 factor_body c.factors ++ paths_on

  abbrev pars_on_lem : List ℕ
  pars_on_lem = all 5 par_body c.pars ++ factors_on

  abbrev points_on : List ℕ
  points_on = all 4 point_body c.points ++ pars_on_lem

  abbrev units_on : List ℕ
  units_on = all 3 unit_body c.units ++ points_on

  abbrev zones_on : List ℕ
  zones_on = all 2 zone_body c.zones ++ units_on

  abbrev circulations_row : ℕ
  circulations_row = in_turn circulation_behind [] c.circulations (last_row c)

  abbrev paths_row : ℕ
  paths_row = in_turn (named_row 7 (λ (p : Path). p.name) path_row) [] c.paths circulations_row

  abbrev factors_row : ℕ
  factors_row = in_turn (λ before f. factor_row (due c) (length before) f) [] c.factors paths_row

  abbrev pars_row : ℕ
  pars_row = in_turn (named_row 5 (λ (p : Par). p.name) par_row) [] c.pars factors_row

  abbrev points_row : ℕ
  points_row = in_turn (named_row 4 (λ (p : Point). p.name) (point_row (length c.zones))) [] c.points pars_row

  abbrev units_row : ℕ
  units_row = in_turn (named_row 3 (λ (u : Unit). u.name) (unit_row (length c.zones))) [] c.units points_row

  abbrev zones_row : ℕ
  zones_row = in_turn (named_row 2 (λ (z : Zone). z.name) zone_row) [] c.zones units_row

  end_told : From last_kind c [] (last_row c)
  unfolding records_from
  end_told at last o = rw (then_none (last_row c)) at (tells_unless (last_row c) at 0 (holds c) c (tells_held c))

  circulations_told : From 8 (with_circulations []) circulations_on circulations_row
  unfolding body_row with_record
  circulations_told at last o =
      rw (append-nil circulations_on) at
      (section 8 circulation_body circulation_of circulation_behind with_circulations (omega arith) (omega arith)
      (λ before k r. rw r.same refl)
      (λ before k r. rw (r.same, append-nil c.heads, append-nil c.zones, append-nil c.units, append-nil c.points, append-nil c.pars, append-nil c.factors, append-nil c.paths) refl)
      [] (last_row c) c c.circulations [] returned.circulations end_told at last o)

  paths_told : From 7 (with_paths []) paths_on paths_row
  unfolding names_of path_of body_row with_record
  paths_told =
      named_section 7 (omega arith) (omega arith) path_body path_of (λ (p : Path). p.name) path_row with_paths
      (λ l. refl) (λ l. refl) (λ b. refl) (λ l repeated b. refl)
      (λ l b. rw (append-nil c.heads, append-nil c.zones, append-nil c.units, append-nil c.points, append-nil c.pars, append-nil c.factors) refl)
      circulations_on circulations_row c c.paths returned.paths (λ at last o. circulations_told at last (omega arith))

  factors_told : From 6 (with_factors_lem []) factors_on factors_row
  unfolding body_row with_record
  factors_told =
      section 6 factor_body factor_of (λ before f. factor_row (due c) (length before) f) with_factors_lem (omega arith) (omega arith)
      (λ before f r. rw r.same refl)
      (λ before f r. rw (r.same, append-nil c.heads, append-nil c.zones, append-nil c.units, append-nil c.points, append-nil c.pars) refl)
      paths_on paths_row c c.factors [] returned.factors (λ at last o. paths_told at last (omega arith))

  pars_told : From 5 (with_pars []) pars_on_lem pars_row
  unfolding names_of par_of body_row with_record
  pars_told =
      named_section 5 (omega arith) (omega arith) par_body par_of (λ (p : Par). p.name) par_row with_pars
      (λ l. refl) (λ l. refl) (λ b. refl) (λ l repeated b. refl)
      (λ l b. rw (append-nil c.heads, append-nil c.zones, append-nil c.units, append-nil c.points) refl)
      factors_on factors_row c c.pars returned.pars (λ at last o. factors_told at last (omega arith))

  points_told : From 4 (with_points []) points_on points_row
  unfolding names_of point_of body_row with_record
  points_told =
      named_section 4 (omega arith) (omega arith) point_body point_of (λ (p : Point). p.name) (point_row (length c.zones)) with_points
      (λ l. refl) (λ l. refl) (λ b. refl) (λ l repeated b. refl)
      (λ l b. rw (append-nil c.heads, append-nil c.zones, append-nil c.units) refl)
      pars_on_lem pars_row c c.points returned.points (λ at last o. pars_told at last (omega arith))

  units_told : From 3 (with_units []) units_on units_row
  unfolding names_of unit_of body_row with_record
  units_told =
      named_section 3 (omega arith) (omega arith) unit_body unit_of (λ (u : Unit). u.name) (unit_row (length c.zones)) with_units
      (λ l. refl) (λ l. refl) (λ b. refl) (λ l repeated b. refl)
      (λ l b. rw (append-nil c.heads, append-nil c.zones) refl)
      points_on points_row c c.units returned.units (λ at last o. points_told at last (omega arith))

  zones_told : From 2 (with_zones []) zones_on zones_row
  unfolding names_of zone_of body_row with_record
  zones_told =
      named_section 2 (omega arith) (omega arith) zone_body zone_of (λ (z : Zone). z.name) zone_row with_zones
      (λ l. refl) (λ l. refl) (λ b. refl) (λ l repeated b. refl)
      (λ l b. rw (append-nil c.heads) refl)
      units_on units_row c c.zones returned.zones (λ at last o. units_told at last (omega arith))

  head_returned : Each (Returns 1 head_body head_of) (h ∷ [])
  head_returned = subst (λ (l : List Head). Each (Returns 1 head_body head_of) l) one returned.heads

  head_taken : with_record no_content 1 (head_body h) ≡ with_zones []
  unfolding with_record
  head_taken =
      ap (λ (h : Head). record { heads = h ∷ []; zones = []; units = []; points = []; pars = []; factors = []; paths = []; circulations = [] }) head_returned.0.same
      ∙ sym (ap (λ (l : List Head). record { heads = l; zones = []; units = []; points = []; pars = []; factors = []; paths = []; circulations = [] }) one)

  head_judged : judged no_content 1 (head_body h) ≡ head_row h
  unfolding body_row
  head_judged = ap head_row head_returned.0.same

  head_told : Tells (records_from 0 0 0 no_content (1 ∷ (head_body h ++ zones_on))) (then_row (head_row h) zones_row) c
  head_told =
      rw (step no_content 0 1 (omega arith) (omega arith) (omega arith) (λ e. refl) 0 (head_body h) zones_on head_returned.0.long, head_judged, head_taken)
      (tells_unless (head_row h) 0 zones_row _ c (zones_told (0 + 1 + body_length 1) 1 (omega arith)))

  head_bytes : all 1 head_body c.heads ≡ 1 ∷ head_body h
  unfolding all
  head_bytes = ap (λ (l : List Head). all 1 head_body l) one ∙ ap (λ (b : List ℕ). 1 ∷ b) (append-nil (head_body h))

  head_row_lem : (later : ℕ) → in_turn (λ before h. head_row h) [] c.heads later ≡ then_row (head_row h) later
  unfolding in_turn
  head_row_lem later = ap (λ (l : List Head). in_turn (λ before h. head_row h) [] l later) one

  pub told : Tells (reading (sheet_bytes c)) (content_row c) c
  unfolding reading sheet_bytes content_row first_row
  told = rw (head_bytes, head_row_lem zones_row) head_told
