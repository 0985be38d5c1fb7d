-- What `loads` and `generation` put together is step 1 and step 2.
use Prim.Native.Nat.{ℕ}
use mathlib.Core.Path.{◌≡◌}
use mathlib.Core.List.{List}
use lib.IntN.{ℤ, pos, ◌-ℤ◌}
use lib.ListN.{get_or}
use mir.Syntax.{w64}
use mir.Val.{to_z}
use Rattle.integers.specs.Sum.{sum_to}
use Rattle.integers.proofs.Machine.{rd}
use Rattle.layout.specs.declared.Layout.{Layout}
use Rattle.records.specs.declared.Place.TheVariants.{Proxy}
use Rattle.sheet.specs.Sheet.{Accepted, read_sheet, content_of}
use Rattle.sheet.proofs.Accepted.{valid, counts}
use Rattle.figures.specs.Balance.{imports, exports, total_load, zone_load, net_load, final_load, gross_load, zone_output, zone_generation, net_generation, final_generation}
use Rattle.figures.proofs.Bounds.{gross_output_is}
use Rattle.zone_sums.specs.ByZone.{cells}
use Rattle.zone_sums.specs.inner.Ledger.{net_at, total, figure_at}
use Rattle.zone_sums.proofs.Sides.{Side, cells_are, gross_is, net-is, final-is}
use Rattle.generation_to_load.specs.Steps.{loads_of, generation_of}

-- p and m are the two arrays; t, xs and x what the calls returned: the sum of the first at all zones, the zones' figures, their sum
module _ (s : List ℕ) (l : Layout) (e : read_sheet s ≡ Accepted l) {p m : List ℕ} {t x : ℤ} {xs : List ℤ} (et : t ≡ total p l.zones) (exs : xs ≡ cells (net_at p m) l.zones) (ex : x ≡ sum_to (figure_at xs) l.zones) where
  pub loads_are : Side p m l.zones (total_load (content_of s)) (zone_load (content_of s)) (imports (content_of s) Proxy) →
      record { zone_loads = xs; gross_load = rd t; net_load = rd x; final_load = rd (rd x -ℤ to_z w64 (get_or m 0 0)) } ≡ loads_of (content_of s)
  unfolding net_load final_load gross_load
  loads_are d = rw (final-is d exs ex, net-is d exs ex, gross_is d et, cells_are d exs, (counts s l e).zones)

  pub generation_is : Side p m l.zones (zone_output (content_of s)) (zone_generation (content_of s)) (exports (content_of s) Proxy) →
      record { zone_generation = xs; net_generation = rd x; final_generation = rd (rd x -ℤ to_z w64 (get_or m 0 0)); gross_output = rd t } ≡ generation_of (content_of s)
  unfolding net_generation final_generation
  generation_is d = rw (final-is d exs ex, net-is d exs ex, gross_is d et, cells_are d exs, (counts s l e).zones, gross_output_is (content_of s) (valid s l e))

  -- the same with y, what `proxies` returned
  module _ {y : ℤ} (ey : y ≡ pos (get_or m 0 0)) where
    pub loads_less_proxies : Side p m l.zones (total_load (content_of s)) (zone_load (content_of s)) (imports (content_of s) Proxy) →
        record { zone_loads = xs; gross_load = rd t; net_load = rd x; final_load = rd (rd x -ℤ rd y) } ≡ loads_of (content_of s)
    loads_less_proxies d = rw ey (loads_are d)

    pub generation_less_proxies : Side p m l.zones (zone_output (content_of s)) (zone_generation (content_of s)) (exports (content_of s) Proxy) →
        record { zone_generation = xs; net_generation = rd x; final_generation = rd (rd x -ℤ rd y); gross_output = rd t } ≡ generation_of (content_of s)
    generation_less_proxies d = rw ey (generation_is d)
