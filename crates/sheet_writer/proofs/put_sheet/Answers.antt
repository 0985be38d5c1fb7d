-- `put_sheet` meets its contract.
use Prim.Native.Nat.{ℕ, ◌+◌, ◌*◌, ◌≤◌}
use mathlib.Core.Path.{ap}
use native.Mathlib.Omega.{arith}
use lib.ListN.{length, take}
use borrow.Author.Rules.{rules}
use Rattle.record_table.specs.inner.Sizes.{size}
use Rattle.layout.specs.Layout.{layout_of}
use Rattle.layout.specs.inner.Places.{extent}
use Rattle.writers.proofs.Writing.{next, renamed}
use Rattle.drafts.specs.declared.Draft.{Draft}
use Rattle.drafts.specs.Draft.{given}
use Rattle.sheet_writer.proofs.Given.{given_room, content_bytes}
use Rattle.sheet_writer.proofs.put_sheet.Goals as goal

-- room for the sheet is room for the records of each kind
room : (d : Draft) {n : ℕ} → extent (layout_of (given d)) ≤ n
    → size 1 + size 2 * length (take d.zone_count d.zones) + size 3 * length (take d.unit_count d.units) + size 4 * length (take d.point_count d.points) + size 5 * length (take d.par_count d.pars)
    + size 6 * length (take d.factor_count d.factors) + size 7 * length (take d.path_count d.paths) + size 8 * length (take d.circulation_count d.circulations) ≤ n
room d h = rw (given_room d) at h

pub put_grid-n-requires : goal.put_grid-n-requires
put_grid-n-requires c =
    let total = room c.args.d.now c.requires in
    omega (arith, total, ap length c.first-zones.ensures.value, ap length c.first-units.ensures.value)

pub slice_bounds-put_flows-count : goal.slice_bounds-put_flows-count
slice_bounds-put_flows-count c =
    let total = room c.args.d.now c.requires in
    omega (arith, total, c.put_grid-n.ensures.value, ap length c.first-zones.ensures.value, ap length c.first-units.ensures.value)

pub slice_bounds-put_flows-start : goal.slice_bounds-put_flows-start
slice_bounds-put_flows-start c =
    let total = room c.args.d.now c.requires in
    omega (arith, total, c.put_grid-n.ensures.value, ap length c.first-zones.ensures.value, ap length c.first-units.ensures.value)

pub put_flows-n-requires : goal.put_flows-n-requires
put_flows-n-requires c =
    let total = room c.args.d.now c.requires in
    let e0 = c.put_grid-n.ensures.value in
    let e1 = ap length c.first-zones.ensures.value in
    let e2 = ap length c.first-units.ensures.value in
    let e3 = ap length c.first-points.ensures.value in
    let e4 = ap length c.first-pars.ensures.value in
    let e5 = ap length c.first-factors.ensures.value in
    search (rules, total, e0, e1, e2, e3, e4, e5)

pub slice_bounds-put_lake-count : goal.slice_bounds-put_lake-count
slice_bounds-put_lake-count c =
    let total = room c.args.d.now c.requires in
    omega (
      arith,
      total,
      c.put_grid-n.ensures.value,
      c.put_flows-n.ensures.value,
      ap length c.first-zones.ensures.value,
      ap length c.first-units.ensures.value,
      ap length c.first-points.ensures.value,
      ap length c.first-pars.ensures.value,
      ap length c.first-factors.ensures.value,
    )

pub slice_bounds-put_lake-start : goal.slice_bounds-put_lake-start
slice_bounds-put_lake-start c =
    let total = room c.args.d.now c.requires in
    omega (
      arith,
      total,
      c.put_grid-n.ensures.value,
      c.put_flows-n.ensures.value,
      ap length c.first-zones.ensures.value,
      ap length c.first-units.ensures.value,
      ap length c.first-points.ensures.value,
      ap length c.first-pars.ensures.value,
      ap length c.first-factors.ensures.value,
    )

pub put_lake-n-requires : goal.put_lake-n-requires
put_lake-n-requires c =
    let total = room c.args.d.now c.requires in
    let e0 = c.put_grid-n.ensures.value in
    let e1 = c.put_flows-n.ensures.value in
    let e2 = ap length c.first-zones.ensures.value in
    let e3 = ap length c.first-units.ensures.value in
    let e4 = ap length c.first-points.ensures.value in
    let e5 = ap length c.first-pars.ensures.value in
    let e6 = ap length c.first-factors.ensures.value in
    let e7 = ap length c.first-paths.ensures.value in
    let e8 = ap length c.first-circulations.ensures.value in
    search (rules, total, e0, e1, e2, e3, e4, e5, e6, e7, e8)

pub returns-clause-wrote : goal.returns-clause-wrote
returns-clause-wrote c =
    let w = next (next c.put_grid-n.ensures.wrote c.put_flows-n.ensures.wrote) c.put_lake-n.ensures.wrote in
    renamed (content_bytes c.args.d.now)
    (rw (
      c.first-zones.ensures.value,
      c.first-units.ensures.value,
      c.first-points.ensures.value,
      c.first-pars.ensures.value,
      c.first-factors.ensures.value,
      c.first-paths.ensures.value,
      c.first-circulations.ensures.value,
    )
    at w)

pub returns-clause-value : goal.returns-clause-value
returns-clause-value c =
    omega (
      arith,
      given_room c.args.d.now,
      c.put_grid-n.ensures.value,
      c.put_flows-n.ensures.value,
      c.put_lake-n.ensures.value,
      ap length c.first-zones.ensures.value,
      ap length c.first-units.ensures.value,
      ap length c.first-points.ensures.value,
      ap length c.first-pars.ensures.value,
      ap length c.first-factors.ensures.value,
      ap length c.first-paths.ensures.value,
      ap length c.first-circulations.ensures.value,
    )
