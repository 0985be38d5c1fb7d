-- The names of an accepted sheet: well formed, and within a kind all different.
use Prim.Native.Nat.{ℕ, zero, suc, ◌≤◌, ◌<◌}
use mathlib.Core.Path.{◌≡◌, refl}
use mathlib.Core.Bool.{true, false}
use mathlib.Core.List.{List, [], ◌∷◌, map}
use native.Mathlib.Omega.{arith}
use lib.ListN.{length, take, get_or, length-map, get_or-map}
use Rattle.names.specs.Names.{name_ok, seen_before}
use Rattle.records.specs.declared.Head.{Head}
use Rattle.records.specs.declared.Zone.{Zone}
use Rattle.records.specs.declared.Unit.{Unit}
use Rattle.records.specs.declared.Point.{Point}
use Rattle.records.specs.declared.Par.{Par}
use Rattle.records.specs.declared.Path.{Path}
use Rattle.records.specs.Content.{Content, names_of, no_name, no_head, no_zone, no_unit, no_point, no_par, no_path}
use Rattle.record_table.specs.Table.{last_kind}
use Rattle.record_table.proofs.ByKind.{kinds}
use Rattle.record_rows.specs.inner.Valid.{NamesFit}
use Rattle.layout.specs.declared.Layout.{Layout}
use Rattle.sheet.specs.Sheet.{Accepted}
use Rattle.sheet.specs.Sheet.{read_sheet, content_of}
use Rattle.sheet.proofs.RecordsFine.{passed_head, passed_zone, passed_unit, passed_point, passed_par, passed_path}
use Rattle.sheet.proofs.Accepted.{passed, one_head}

take_map : {A B : Type 0} (f : A → B) (i : ℕ) (l : List A) → take i (map f l) ≡ map f (take i l)
take_map f zero l = refl
take_map f (suc i) [] = refl
take_map f (suc i) (a ∷ l) = rw (take_map f i l)

-- by the records
record Fine {A : Type 0} (name : A → List ℕ) (l : List A) (noA : A) (i : ℕ) : Type 0 where
  well : name_ok (name (get_or l i noA)) ≡ true
  new : seen_before (map name (take i l)) (name (get_or l i noA)) ≡ false

fit : {A : Type 0} (name : A → List ℕ) (l : List A) (noA : A) → no_name ≡ name noA → ((i : ℕ) → i < length l → Fine name l noA i) → NamesFit (map name l)
fit name l noA e f = record {
  well = λ i h. rw (e, get_or-map name l i noA) (f i (rw length-map at h)).well;
  new = λ i h. rw (e, get_or-map name l i noA, take_map name i l) (f i (rw length-map at h)).new;
}

no_names : NamesFit []
no_names = record { well = λ i h. absurd (omega arith); new = λ i h. absurd (omega arith) }

module _ (s : List ℕ) (l : Layout) (e : read_sheet s ≡ Accepted l) where
  abbrev c : Content
  c = content_of s

  head_fine : (i : ℕ) → i < length c.heads → Fine (λ (h : Head). h.name) c.heads no_head i
  unfolding seen_before
  head_fine i h =
      let z : i ≡ 0 = omega (arith, one_head s l e) in
      record { well = (passed_head (passed s l e) i h).well; new = rw z }

  pub names_fit : (kind : ℕ) → 1 ≤ kind → kind ≤ last_kind → NamesFit (names_of c kind)
  unfolding names_of
  names_fit =
      kinds (λ (k : ℕ). NamesFit (names_of c k))
      (fit (λ (h : Head). h.name) c.heads no_head refl head_fine)
      (fit (λ (z : Zone). z.name) c.zones no_zone refl (λ i h. let f = passed_zone (passed s l e) i h in record { well = f.well; new = f.new }))
      (fit (λ (u : Unit). u.name) c.units no_unit refl (λ i h. let f = passed_unit (passed s l e) i h in record { well = f.well; new = f.new }))
      (fit (λ (p : Point). p.name) c.points no_point refl (λ i h. let f = passed_point (passed s l e) i h in record { well = f.well; new = f.new }))
      (fit (λ (p : Par). p.name) c.pars no_par refl (λ i h. let f = passed_par (passed s l e) i h in record { well = f.well; new = f.new }))
      no_names
      (fit (λ (p : Path). p.name) c.paths no_path refl (λ i h. let f = passed_path (passed s l e) i h in record { well = f.well; new = f.new }))
      no_names
