-- Worked figures of the three parts: sheet S, on the flowgate and on its PAR, and a sheet in which gross, net and final figures all differ and no remainder is zero.
use Prim.Native.Nat.{ℕ}
use mathlib.Core.Path.{◌≡◌, refl}
use mathlib.Core.List.{List, [], ◌∷◌, map}
use lib.IntN.{ℤ, pos, negsuc}
use lib.ListN.{replicate}
use Rattle.integers.specs.Sum.{sum_to}
use Rattle.quotient.specs.Rounded.{quotient, remainder}
use Rattle.records.specs.declared.Place.TheVariants.{Proxy, Line}
use Rattle.records.specs.Codes.{common, noncommon}
use Rattle.records.specs.Content.{Content, bears, factor_for}
use Rattle.figures.specs.Balance.{same_place, import_at, imports, export_at, exports, total_load, zone_load, net_load, final_load, output, output_in, zone_output, zone_generation, net_generation, final_generation, gross_output, gross_load}
use Rattle.figures.specs.Flow.{factor, output_term, weighted_output, load_term, weighted_load, first_dividend, load_share, first_remainder, gross_flow, second_dividend, generation_to_load, second_remainder}
use Rattle.figures.proofs.Examples.{head_of, zone_of, unit_of, point_of, par_of, factor_of, sheet_s, wheeling}
use Rattle.zone_sums.specs.ByZone.{cells}
use Rattle.generation_to_load.specs.declared.LoadServed.{LoadServed}
use Rattle.generation_to_load.specs.declared.GenerationServing.{GenerationServing}
use Rattle.generation_to_load.specs.declared.GenerationToLoad.{GenerationToLoad}
use Rattle.generation_to_load.specs.Steps.{loads_of, generation_of, flow_for}

-- losses, lines both ways into two of three zones, proxies both ways
abbrev differing : Content
differing = record {
  heads = head_of 2 300 5000 2000 ∷ [];
  zones = zone_of 700 23 ∷ zone_of 410 17 ∷ zone_of 305 8 ∷ [];
  units = unit_of 1 600 ∷ unit_of 3 250 ∷ unit_of 2 331 ∷ unit_of 1 100 ∷ [];
  points = point_of noncommon (Line 1) 61 40
      ∷ point_of common (Line 3) 20 30
      ∷ point_of noncommon (Line 1) 9 5
      ∷ point_of common Proxy 70 110
      ∷ point_of noncommon Proxy 13 7
      ∷ [];
  pars = par_of common (pos 40) (pos 52) ∷ [];
  factors = factor_of 0 1 1 (pos 37)
      ∷ factor_of 0 1 2 (negsuc 1249)
      ∷ factor_of 0 1 3 (pos 804)
      ∷ factor_of 0 1 4 (pos 5)
      ∷ factor_of 0 2 1 (pos 311)
      ∷ factor_of 0 2 2 (negsuc 91)
      ∷ factor_of 0 2 3 (pos 47)
      ∷ factor_of 1 1 1 (negsuc 80)
      ∷ factor_of 1 1 2 (pos 402)
      ∷ factor_of 1 1 3 (pos 11)
      ∷ factor_of 1 1 4 (negsuc 639)
      ∷ factor_of 1 2 1 (negsuc 14)
      ∷ factor_of 1 2 2 (pos 700)
      ∷ factor_of 1 2 3 (pos 39)
      ∷ [];
  paths = [];
  circulations = [];
}

-- the zones' figures, and gross, net and final
abbrev load : List ℤ → ℤ → ℤ → ℤ → LoadServed
load zones gross net final = record { zone_loads = zones; gross_load = gross; net_load = net; final_load = final }

abbrev generated : List ℤ → ℤ → ℤ → ℤ → GenerationServing
generated zones gross net final = record { zone_generation = zones; net_generation = net; final_generation = final; gross_output = gross }

-- A, N, B, first remainder, H, the flow, second remainder
abbrev flowing : ℤ → ℤ → ℤ → ℤ → ℤ → ℤ → ℤ → GenerationToLoad
flowing a n b first h flow second = record {
  weighted_output = a;
  weighted_load = n;
  load_share = b;
  first_remainder = first;
  gross_flow = h;
  flow = flow;
  second_remainder = second;
}

abbrev loads_served : List (Content × LoadServed)
loads_served =
    (sheet_s, load (pos 1000 ∷ pos 1500 ∷ replicate 30 (pos 0)) (pos 3000) (pos 2500) (pos 2200))
    ∷ (wheeling, load (pos 1000 ∷ pos 1500 ∷ replicate 30 (pos 0)) (pos 3000) (pos 2500) (pos 2200))
    ∷ (differing, load (pos 653 ∷ pos 427 ∷ pos 293 ∷ replicate 29 (pos 0)) (pos 1463) (pos 1373) (pos 1290))
    ∷ []

pub computed_loads : map (λ (r : Content × LoadServed). (r.0, loads_of r.0)) loads_served ≡ loads_served
unfolding sum_to same_place import_at imports total_load zone_load net_load final_load gross_load cells
computed_loads = refl

abbrev generation_serving : List (Content × GenerationServing)
generation_serving =
    (sheet_s, generated (pos 1200 ∷ pos 2000 ∷ replicate 30 (pos 0)) (pos 3200) (pos 3200) (pos 3000))
    ∷ (wheeling, generated (pos 1200 ∷ pos 2000 ∷ replicate 30 (pos 0)) (pos 3200) (pos 3200) (pos 3000))
    ∷ (differing, generated (pos 655 ∷ pos 331 ∷ pos 220 ∷ replicate 29 (pos 0)) (pos 1281) (pos 1206) (pos 1089))
    ∷ []

pub computed_generation : map (λ (r : Content × GenerationServing). (r.0, generation_of r.0)) generation_serving ≡ generation_serving
unfolding sum_to same_place export_at exports output output_in zone_output zone_generation net_generation final_generation gross_output cells
computed_generation = refl

-- for the flowgate, target 0, and for the first PAR, target 1
abbrev flows : List (Content × ℕ × GenerationToLoad)
flows =
    (sheet_s, 0, flowing (pos 1600000) (pos 200000) (pos 2560000) (pos 0) (pos 13440000) (pos 12600000) (pos 0))
    ∷ (sheet_s, 1, flowing (pos 1200000) (pos 0) (pos 0) (pos 0) (pos 12000000) (pos 11250000) (pos 0))
    ∷ (differing, 0, flowing (negsuc 23675) (pos 177570) (pos 1656716) (pos 632) (negsuc 1893475) (negsuc 1709780) (pos 522))
    ∷ (differing, 1, flowing (negsuc 8458) (pos 300532) (pos 2803944) (negsuc 191) (negsuc 2888533) (negsuc 2608302) (negsuc 107))
    ∷ []

pub computed_flows : map (λ (r : Content × ℕ × GenerationToLoad). (r.0, r.1, flow_for r.0 r.1)) flows ≡ flows
unfolding sum_to quotient remainder bears factor_for same_place import_at imports export_at exports total_load zone_load net_load output output_in zone_output zone_generation net_generation final_generation gross_output
    factor output_term weighted_output load_term weighted_load first_dividend load_share first_remainder gross_flow second_dividend generation_to_load second_remainder
computed_flows = refl
