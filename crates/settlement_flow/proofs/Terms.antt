-- A path's term: nothing on the way leaves an i64.
use Prim.Native.Nat.{ℕ, ◌<◌}
use mathlib.Core.Path.{◌≡◌, refl}
use mathlib.Core.List.{List}
use native.Mathlib.Omega.{arith}
use lib.Dec.{lit<}
use lib.IntN.{ℤ, pos, ◌-ℤ◌, ◌*ℤ◌}
use mir.Syntax.{w16, w32}
use mir.Val.{to_z, of_z}
use Rattle.integers.proofs.Machine.{Num, Op, rd, num_is, num_s, mul, sub}
use Rattle.layout.specs.declared.Layout.{Layout}
use Rattle.records.specs.declared.Path.{Path}
use Rattle.records.specs.Content.{path, circulation}
use Rattle.sheet.specs.Sheet.{read_sheet, content_of, Accepted}
use Rattle.sheet.proofs.Accepted.{valid, counts}
use Rattle.record_rows.specs.inner.Valid.{PathFits}
use Rattle.figures.specs.Lake.{path_term}
use Rattle.figures.proofs.Ranges.{circulation_within}

-- p is the path, around the circulation's flow, as they are read; flow and factor are the path's, widened
module _ (s : List ℕ) (l : Layout) (e : read_sheet s ≡ Accepted l) (i : ℕ) (h : i < l.paths) (p : Path) (ep : p ≡ path (content_of s) i) (around : ℤ)
    (ea : around ≡ (circulation (content_of s)).flow) where
  fits : PathFits p
  fits = rw ep ((valid s l e).path_fits i (rw (counts s l e).paths at h))

  module _ (flow : ℤ) (ef : flow ≡ to_z w32 (of_z w32 p.flow)) where
    flow_read : Num (rd flow) p.flow 200000
    flow_read = rw ef (num_s w32 p.flow 200000 fits.flow (lit< tt) (lit< tt)).num

    fourfold : Op (pos 4 *ℤ rd flow) (pos 4 *ℤ p.flow) 800000
    fourfold = mul {p = pos 4} {A = 4} (record { is = refl; abs = omega arith }) flow_read (lit< tt)

    pub less : Op (rd (pos 4 *ℤ rd flow) -ℤ rd around) (pos 4 *ℤ p.flow -ℤ (circulation (content_of s)).flow) 1000000
    less =
        let some = circulation_within (valid s l e) (omega (arith, (counts s l e).paths, h)) in
        sub fourfold.num (num_is around _ 200000 ea some (lit< tt)) (lit< tt)

    module _ (factor : ℤ) (eg : factor ≡ to_z w16 (of_z w16 p.factor)) where
      factor_read : Num (rd factor) p.factor 10000
      factor_read = rw eg (num_s w16 p.factor 10000 fits.factor (lit< tt) (lit< tt)).num

      pub weighted : Op (rd (rd (pos 4 *ℤ rd flow) -ℤ rd around) *ℤ rd factor) ((pos 4 *ℤ p.flow -ℤ (circulation (content_of s)).flow) *ℤ p.factor) 10000000000
      weighted = mul less.num factor_read (lit< tt)

      pub tenfold : Op (rd (rd (rd (pos 4 *ℤ rd flow) -ℤ rd around) *ℤ rd factor) *ℤ pos 10) (path_term (content_of s) i) 100000000000
      unfolding path_term
      tenfold = rw (← ep) (mul {q = pos 10} {B = 10} weighted.num (record { is = refl; abs = omega arith }) (lit< tt))
