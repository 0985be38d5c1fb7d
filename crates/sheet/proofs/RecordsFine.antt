-- Each record that has passed is fine, by its kind: its fields fit, and its name is well formed and new.
use Prim.Native.Nat.{ℕ, ◌+◌, ◌≤◌, ◌<◌}
use mathlib.Core.Path.{◌≡◌, refl, ap, ◌∙◌}
use mathlib.Core.Bool.{Bool, true, false}
use mathlib.Core.List.{List, [], ◌∷◌, ◌++◌, map, append-nil}
use native.Mathlib.Omega.{arith}
use lib.Dec.{eqb}
use lib.ListN.{length, take, drop, get_or, length-append, get_or-append}
use lib.Seq.{take-append-le, take-append_seam, get_or-append_seam}
use borrow.Author.Tests.{eqb-true, eqb-false}
use Rattle.fields.specs.Fields.{byte_at}
use Rattle.integers.proofs.Cases.{below_or}
use Rattle.names.specs.Names.{seen_before}
use Rattle.records.specs.declared.Head.{Head}
use Rattle.records.specs.declared.Zone.{Zone}
use Rattle.records.specs.declared.Unit.{Unit}
use Rattle.records.specs.declared.Point.{Point}
use Rattle.records.specs.declared.Par.{Par}
use Rattle.records.specs.declared.Factor.{Factor}
use Rattle.records.specs.declared.Path.{Path}
use Rattle.records.specs.declared.Circulation.{Circulation}
use Rattle.record_table.specs.Table.{body_in, last_kind}
use Rattle.records.specs.Bodies.{head_of, zone_of, unit_of, point_of, par_of, factor_of, path_of, circulation_of}
use Rattle.records.specs.Content.{Content, no_content, only_if, with_record, names_of, no_head, no_zone, no_unit, no_point, no_par, no_factor, no_path, no_circulation}
use Rattle.record_rows.specs.Rows.{repeats, record_row, body_row}
use Rattle.record_rows.specs.inner.Valid.{HeadFits, ZoneFits, UnitFits, PointFits, ParFits, PathFits, CirculationFits}
use Rattle.record_rows.proofs.Passes.{Passes, head_pass, zone_pass, unit_pass, point_pass, par_pass, FactorFits, factor_pass, path_pass, circulation_pass}
use Rattle.layout.specs.declared.Layout.{Layout}
use Rattle.layout.specs.inner.Places.{count, due_of}
use Rattle.layout.specs.Layout.{layout_of}
use Rattle.layout.proofs.Places.{count_other}
use Rattle.sheet.specs.Passed.{Passed, none, more}
use Rattle.sheet.proofs.Passing.{layout_with, fronted, body_passes, passed_laid}

-- A kind with its list, and what its rows leave of a record behind others: it depends on the counts of the kinds below, which are final
pub record Kind {A : Type 0} (kind : ℕ) (list : Content → List A) (of : List ℕ → A) (P : Layout → List A → A → Type 0) : Type 0 where
  pub high : kind ≤ last_kind
  pub empty : list no_content ≡ []
  pub grows : (c : Content) (k : ℕ) (b : List ℕ) → list (with_record c k b) ≡ list c ++ only_if (eqb k kind) (of b)
  pub counts : (c : Content) → count (layout_of c) kind ≡ length (list c)
  pub final : (l m : Layout) → ((j : ℕ) → j < kind → count m j ≡ count l j) → (before : List A) (a : A) → P l before a → P m before a
  pub passes : (c : Content) (b : List ℕ) → body_row c kind (repeats c kind b) b ≡ 0 → P (layout_of c) (list c) (of b)

module _ {A : Type 0} (kind : ℕ) (list : Content → List A) (of : List ℕ → A) (noA : A) (P : Layout → List A → A → Type 0) (K : Kind kind list of P) where
  abbrev pub Each : Content → Type 0
  Each c = (i : ℕ) → i < length (list c) → P (layout_of c) (take i (list c)) (get_or (list c) i noA)

  -- nothing changes but a count from this kind on
  same : (c d : Content) → list d ≡ list c → ((j : ℕ) → j < kind → count (layout_of d) j ≡ count (layout_of c) j) → Each c → Each d
  same c d e f q i h = rw e (K.final (layout_of c) (layout_of d) f _ _ (q i (rw e at h)))

  -- one record more
  grown : (c : Content) (b : List ℕ) (d : Content) → list d ≡ list c ++ (of b ∷ []) → ((j : ℕ) → j < kind → count (layout_of d) j ≡ count (layout_of c) j) →
      P (layout_of c) (list c) (of b) → Each c → Each d
  grown c b d e f p q i h =
      rw e
      (below_or i (length (list c))
      (λ a. rw (take-append-le i (list c) (of b ∷ []) (omega arith), get_or-append (list c) (of b ∷ []) noA i a) (K.final (layout_of c) (layout_of d) f _ _ (q i a)))
      (λ a.
      let z : i ≡ length (list c) = omega (arith, length-append (list c) (of b ∷ []), rw e at h) in
      rw (z, take-append_seam (list c) (of b ∷ []), get_or-append_seam (list c) (of b) [] noA) (K.final (layout_of c) (layout_of d) f _ _ p)))

  moved : (c : Content) (k : ℕ) (b : List ℕ) → k ≡ kind → body_row c k (repeats c k b) b ≡ 0 → body_row c kind (repeats c kind b) b ≡ 0
  moved c k b q e = rw (← q) e

  module _ (s : List ℕ) (at last : ℕ) (c : Content) (p : Passed s at last c) (h : at < length s) (e : record_row c last (byte_at s at) (drop (at + 1) s) ≡ 0) (q : Each c) where
    abbrev k : ℕ
    k = byte_at s at

    abbrev b : List ℕ
    b = body_in k (drop (at + 1) s)

    others : (j : ℕ) → j ≤ last_kind → (k ≡ j → ⊥) → count (layout_of (with_record c k b)) j ≡ count (layout_of c) j
    others j g n = rw (layout_with c k b) (count_other (layout_of c) k j g n)

    step : (t : Bool) → eqb k kind ≡ t → Each (with_record c k b)
    step true t =
        let x : k ≡ kind = eqb-true _ _ t in
        grown c b (with_record c k b) (rw t at (K.grows c k b)) (λ j g. others j (omega (arith, K.high)) (λ y. omega arith)) (K.passes c b (moved c k b x (body_passes s at last c h e))) q
    step false t =
        let n = eqb-false k kind t in
        let l : list (with_record c k b) ≡ list c = rw t at (K.grows c k b) ∙ append-nil (list c) in
        below_or k kind
        (λ a.
        let z : count (layout_of c) kind ≡ 0 = (passed_laid s p).above kind (omega (arith, (fronted s at last c h e).order)) K.high in
        λ i g. absurd (omega (arith, ap length l, K.counts c)))
        (λ a. same c (with_record c k b) l (λ j g. others j (omega (arith, K.high)) (λ y. omega arith)) q)

  pub each : {s : List ℕ} {at last : ℕ} {c : Content} → Passed s at last c → Each c
  each none = λ i h. absurd (omega (arith, ap length K.empty))
  each {s} (more {at} {last} {c} p h e) = step s at last c p h e (each p) (eqb (byte_at s at) kind) refl

-- the kinds
abbrev pub HeadFine : Layout → List Head → Head → Type 0
HeadFine l before h = Passes h.name false (HeadFits h)

abbrev pub ZoneFine : Layout → List Zone → Zone → Type 0
ZoneFine l before z = Passes z.name (seen_before (map (λ (z : Zone). z.name) before) z.name) (ZoneFits z)

abbrev pub UnitFine : Layout → List Unit → Unit → Type 0
UnitFine l before u = Passes u.name (seen_before (map (λ (u : Unit). u.name) before) u.name) (UnitFits l.zones u)

abbrev pub PointFine : Layout → List Point → Point → Type 0
PointFine l before p = Passes p.name (seen_before (map (λ (p : Point). p.name) before) p.name) (PointFits l.zones p)

abbrev pub ParFine : Layout → List Par → Par → Type 0
ParFine l before p = Passes p.name (seen_before (map (λ (p : Par). p.name) before) p.name) (ParFits p)

abbrev pub FactorFine : Layout → List Factor → Factor → Type 0
FactorFine l before f = FactorFits (due_of l) (length before) f

abbrev pub PathFine : Layout → List Path → Path → Type 0
PathFine l before p = Passes p.name (seen_before (map (λ (p : Path). p.name) before) p.name) (PathFits p)

abbrev pub CirculationFine : Layout → List Circulation → Circulation → Type 0
CirculationFine l before c = CirculationFits c

head_kind_lem : Kind 1 (λ c. c.heads) head_of HeadFine
unfolding with_record layout_of body_row
head_kind_lem = record { high = omega arith; empty = refl; grows = λ c k b. refl; counts = λ c. refl; final = λ l m f before h p. p; passes = λ c b e. head_pass (head_of b) e }

zone_kind_lem : Kind 2 (λ c. c.zones) zone_of ZoneFine
unfolding with_record layout_of body_row names_of zone_of
zone_kind_lem = record { high = omega arith; empty = refl; grows = λ c k b. refl; counts = λ c. refl; final = λ l m f before z p. p; passes = λ c b e. zone_pass _ (zone_of b) e }

unit_kind_lem : Kind 3 (λ c. c.units) unit_of UnitFine
unfolding with_record layout_of body_row names_of unit_of
unit_kind_lem = record { high = omega arith; empty = refl; grows = λ c k b. refl; counts = λ c. refl; final = λ l m f before u p. rw (f 2 (omega arith)) p; passes = λ c b e. unit_pass _ _ (unit_of b) e }

point_kind_lem : Kind 4 (λ c. c.points) point_of PointFine
unfolding with_record layout_of body_row names_of point_of
point_kind_lem = record { high = omega arith; empty = refl; grows = λ c k b. refl; counts = λ c. refl; final = λ l m f before p q. rw (f 2 (omega arith)) q; passes = λ c b e. point_pass _ _ (point_of b) e }

par_kind_lem : Kind 5 (λ c. c.pars) par_of ParFine
unfolding with_record layout_of body_row names_of par_of
par_kind_lem = record { high = omega arith; empty = refl; grows = λ c k b. refl; counts = λ c. refl; final = λ l m f before p q. q; passes = λ c b e. par_pass _ (par_of b) e }

factor_kind_lem : Kind 6 (λ c. c.factors) factor_of FactorFine
unfolding with_record layout_of body_row
factor_kind_lem = record { high = omega arith; empty = refl; grows = λ c k b. refl; counts = λ c. refl; final = λ l m f before x p. rw (f 2 (omega arith), f 3 (omega arith), f 4 (omega arith), f 5 (omega arith)) p; passes = λ c b e. factor_pass _ _ (factor_of b) e }

path_kind_lem : Kind 7 (λ c. c.paths) path_of PathFine
unfolding with_record layout_of body_row names_of path_of
path_kind_lem = record { high = omega arith; empty = refl; grows = λ c k b. refl; counts = λ c. refl; final = λ l m f before p q. q; passes = λ c b e. path_pass _ (path_of b) e }

circulation_kind_lem : Kind 8 (λ c. c.circulations) circulation_of CirculationFine
unfolding with_record layout_of body_row
circulation_kind_lem = record { high = omega arith; empty = refl; grows = λ c k b. refl; counts = λ c. refl; final = λ l m f before x q. q; passes = λ c b e. circulation_pass (circulation_of b) e }

module _ {s : List ℕ} {at last : ℕ} {c : Content} (p : Passed s at last c) (i : ℕ) where
  pub passed_head : i < length c.heads → HeadFine (layout_of c) (take i c.heads) (get_or c.heads i no_head)
  passed_head = each 1 (λ c. c.heads) head_of no_head HeadFine head_kind_lem p i

  pub passed_zone : i < length c.zones → ZoneFine (layout_of c) (take i c.zones) (get_or c.zones i no_zone)
  passed_zone = each 2 (λ c. c.zones) zone_of no_zone ZoneFine zone_kind_lem p i

  pub passed_unit : i < length c.units → UnitFine (layout_of c) (take i c.units) (get_or c.units i no_unit)
  passed_unit = each 3 (λ c. c.units) unit_of no_unit UnitFine unit_kind_lem p i

  pub passed_point : i < length c.points → PointFine (layout_of c) (take i c.points) (get_or c.points i no_point)
  passed_point = each 4 (λ c. c.points) point_of no_point PointFine point_kind_lem p i

  pub passed_par : i < length c.pars → ParFine (layout_of c) (take i c.pars) (get_or c.pars i no_par)
  passed_par = each 5 (λ c. c.pars) par_of no_par ParFine par_kind_lem p i

  pub passed_factor : i < length c.factors → FactorFine (layout_of c) (take i c.factors) (get_or c.factors i no_factor)
  passed_factor = each 6 (λ c. c.factors) factor_of no_factor FactorFine factor_kind_lem p i

  pub passed_path : i < length c.paths → PathFine (layout_of c) (take i c.paths) (get_or c.paths i no_path)
  passed_path = each 7 (λ c. c.paths) path_of no_path PathFine path_kind_lem p i

  pub passed_circulation : i < length c.circulations → CirculationFine (layout_of c) (take i c.circulations) (get_or c.circulations i no_circulation)
  passed_circulation = each 8 (λ c. c.circulations) circulation_of no_circulation CirculationFine circulation_kind_lem p i
