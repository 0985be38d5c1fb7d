-- Steps 1 and 2, loads and generation (5.2, 5.3), and refusals 16 to 21 on them. Powers are tenths of a MW.
-- Zones, units and points have indices from 0; the zone of index z has the number z + 1.
use Rattle.std.specs.Prelude.{ℕ, ◌+◌, Bool, true, false, not, cond, ◌||◌, eqb, ℤ, pos, nat_abs, ◌+ℤ◌, ◌-ℤ◌, length}
use Rattle.std.specs.Int.Signed.{le_z, lt_z}
use Rattle.integers.specs.Sum.{sum_to, all_to}
use Rattle.rows.specs.Rows.{row}
use Rattle.records.specs.declared.Place.{Place}
use Rattle.records.specs.declared.Place.TheVariants.{Proxy, Line}
use Rattle.records.specs.Content.{Content, zone, unit, point}

unfoldable pub same_place : Place → Place → Bool
same_place Proxy Proxy = true
same_place Proxy (Line m) = false
same_place (Line n) Proxy = false
same_place (Line n) (Line m) = eqb n m

-- a point's import, if it is at a place; imports of all points there
unfoldable pub import_at : Content → Place → ℕ → ℤ
import_at c place i = cond (same_place (point c i).place place) (pos (point c i).import) (pos 0)

unfoldable pub imports : Content → Place → ℤ
imports c place = sum_to (import_at c place) (length c.points)

-- a point's export, if it is at a place; exports of all points there
unfoldable pub export_at : Content → Place → ℕ → ℤ
export_at c place i = cond (same_place (point c i).place place) (pos (point c i).export) (pos 0)

unfoldable pub exports : Content → Place → ℤ
exports c place = sum_to (export_at c place) (length c.points)

-- Step 1. A zone's load with its losses
unfoldable pub total_load : Content → ℕ → ℤ
total_load c z = pos (zone c z).load +ℤ pos (zone c z).losses

unfoldable pub zone_load : Content → ℕ → ℤ
zone_load c z = total_load c z -ℤ imports c (Line (z + 1))

unfoldable pub net_load : Content → ℤ
net_load c = sum_to (zone_load c) (length c.zones)

unfoldable pub final_load : Content → ℤ
final_load c = net_load c -ℤ imports c Proxy

-- Step 2. A unit's output, and the same if the unit is in zone z
unfoldable pub output : Content → ℕ → ℤ
output c i = pos (unit c i).output

unfoldable pub output_in : Content → ℕ → ℕ → ℤ
output_in c z i = cond (eqb (unit c i).zone (z + 1)) (output c i) (pos 0)

unfoldable pub zone_output : Content → ℕ → ℤ
zone_output c z = sum_to (output_in c z) (length c.units)

unfoldable pub zone_generation : Content → ℕ → ℤ
zone_generation c z = zone_output c z -ℤ exports c (Line (z + 1))

unfoldable pub net_generation : Content → ℤ
net_generation c = sum_to (zone_generation c) (length c.zones)

unfoldable pub final_generation : Content → ℤ
final_generation c = net_generation c -ℤ exports c Proxy

-- G
unfoldable pub gross_output : Content → ℤ
gross_output c = sum_to (output c) (length c.units)

-- what row 16 judges beside G: loads with losses
unfoldable pub gross_load : Content → ℤ
gross_load c = sum_to (total_load c) (length c.zones)

-- no zone's figure is below zero
unfoldable pub none_below_zero : Content → (ℕ → ℤ) → Bool
none_below_zero c figure = all_to (λ z. le_z (pos 0) (figure z)) (length c.zones)

-- the first of refusals 16 to 21 that is met, downwards, or 0
unfoldable pub balance_row : Content → ℕ
balance_row c =
    row 16 (lt_z (pos 2000000) (gross_load c) || lt_z (pos 2000000) (gross_output c))
    (row 17 (not (none_below_zero c (zone_load c)))
    (row 18 (le_z (final_load c) (pos 0))
    (row 19 (not (none_below_zero c (zone_generation c)))
    (row 20 (eqb (nat_abs (net_generation c)) 0)
    (row 21 (lt_z (final_generation c) (pos 0)) 0)))))
