-- `draft_of` meets its contract.
use mathlib.Core.Path.{◌≡◌}
use mathlib.Core.List.{map}
use native.Mathlib.Omega.{arith}
use lib.ListN.{length-map, get_or-map}
use Rattle.records.specs.Content.{no_point}
use Rattle.drafts.specs.Draft.{drafted}
use Rattle.sheet.specs.Sheet.{content_of}
use Rattle.sheet.proofs.Accepted.{allowed, counts}
use Rattle.sheet_drafts.proofs.Cells.{few_factors}
use Rattle.sheet_drafts.proofs.Whole.{joined}
use borrow.Author.Rules.{rules}
use Rattle.sheet_drafts.proofs.draft_of.Goals as goal

pub cells_of-zones-requires : goal.cells_of-zones-requires
cells_of-zones-requires c = (omega arith, (omega (arith, (allowed _ _ c.args.sheet.now.accepted).few.zones_most), λ i h κ p e r s. omega (arith, h)))

pub cells_of-units-requires : goal.cells_of-units-requires
cells_of-units-requires c = (omega arith, (omega (arith, (allowed _ _ c.args.sheet.now.accepted).few.units_most), λ i h κ p e r s. omega (arith, h)))

pub cells_of-points-requires : goal.cells_of-points-requires
cells_of-points-requires c = (omega arith, (omega (arith, (allowed _ _ c.args.sheet.now.accepted).few.points_most), λ i h κ p e r s. omega (arith, h)))

pub cells_of-pars-requires : goal.cells_of-pars-requires
cells_of-pars-requires c = (omega arith, (omega (arith, (allowed _ _ c.args.sheet.now.accepted).few.pars_most), λ i h κ p e r s. omega (arith, h)))

pub cells_of-factors-requires : goal.cells_of-factors-requires
cells_of-factors-requires c = (omega arith, (omega (arith, few_factors _ _ c.args.sheet.now.accepted), λ i h κ p e r s. omega (arith, h)))

pub cells_of-paths-requires : goal.cells_of-paths-requires
cells_of-paths-requires c = (omega arith, (omega (arith, (allowed _ _ c.args.sheet.now.accepted).paths), λ i h κ p e r s. omega (arith, h)))

pub cells_of-circulations-requires : goal.cells_of-circulations-requires
cells_of-circulations-requires c = (omega arith, (omega (arith, (allowed _ _ c.args.sheet.now.accepted).circulations), λ i h κ p e r s. omega (arith, h)))

pub returns : goal.returns
returns c =
    let k = content_of c.args.sheet.now.bytes.now in
    let n = counts _ _ c.args.sheet.now.accepted in
    joined k n c.head_at-head.ensures
    (c.cells_of-zones.ensures k.zones n.zones (λ i r h post. search rules))
    (c.cells_of-units.ensures k.units n.units (λ i r h post. search rules))
    (c.cells_of-points.ensures (map drafted k.points) (rw length-map n.points) (λ i r h post. rw (get_or-map drafted _ _ no_point) (search rules)))
    (c.cells_of-pars.ensures k.pars n.pars (λ i r h post. search rules))
    (c.cells_of-factors.ensures k.factors n.factors (λ i r h post. search rules))
    (c.cells_of-paths.ensures k.paths n.paths (λ i r h post. search rules))
    (c.cells_of-circulations.ensures k.circulations n.circulations (λ i r h post. let z : i ≡ 0 = omega (arith, h, (allowed _ _ c.args.sheet.now.accepted).circulations) in rw z (search rules)))
