-- `reduced` meets its contract: after n turns the first n cells are filled.
use mathlib.Core.Path.{◌≡◌, ap, ap₂, ◌∙◌}
use mathlib.Core.List.{List}
use native.Mathlib.Omega.{arith}
use lib.IntN.{ℤ}
use lib.ListN.{set}
use mir.Facts.{to_z-of_z}
use mir.Syntax.{w64}
use Rattle.zone_sums.specs.ByZone.{cells}
use Rattle.zone_sums.proofs.Cells.{cells_zero, cells_next}
use Rattle.zone_sums.proofs.by_number.ZoneSums.reduced.Goals as goal

pub loop-zone-init : goal.loop-zone-init
loop-zone-init c = cells_zero _

pub loop-zone-preserved : goal.loop-zone-preserved
loop-zone-preserved c =
    ap₂ (λ (xs : List ℤ) (x : ℤ). set xs c.loop-zone.zone x) c.loop-zone.invariant (to_z-of_z {w = w64} (record { sfits = c.net_at.type_inv }) ∙ c.net_at.ensures) ∙ cells_next _ c.loop-zone.zone

pub returns : goal.returns
returns c =
    let e : c.loop-zone.zone ≡ c.args.zones = omega arith in
    c.loop-zone.invariant ∙ ap (cells _) e
