-- A figure of every zone in 32 cells: the zones' in their order, zeros behind them.
use Rattle.std.specs.Prelude.{ℕ, zero, suc, List, ℤ, pos, length, set, replicate}
use Rattle.records.specs.Content.{Content}
use Rattle.figures.specs.Balance.{zone_load, zone_generation}

unfoldable pub cells : (ℕ → ℤ) → ℕ → List ℤ
cells figure zero = replicate 32 (pos 0)
cells figure (suc n) = set (cells figure n) n (figure n)

-- step 1's and step 2's
abbrev pub zone_loads : Content → List ℤ
zone_loads c = cells (zone_load c) (length c.zones)

abbrev pub zone_generations : Content → List ℤ
zone_generations c = cells (zone_generation c) (length c.zones)
