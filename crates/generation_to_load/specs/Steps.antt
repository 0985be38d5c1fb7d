-- What each part of the generation-to-load routine answers (02, request 4): all figures of document 01's step 1, 2 or 3.
use Rattle.std.specs.Prelude.{ℕ, ◌≡◌, List, ℤ}
use Rattle.layout.specs.declared.Layout.{Layout}
use Rattle.records.specs.Content.{Content}
use Rattle.sheet.specs.Sheet.{Accepted}
use Rattle.sheet.specs.Sheet.{read_sheet, content_of}
use Rattle.figures.specs.Balance.{gross_load, net_load, final_load, net_generation, final_generation, gross_output, balance_row}
use Rattle.figures.specs.Flow.{weighted_output, weighted_load, load_share, first_remainder, gross_flow, generation_to_load, second_remainder}
use Rattle.zone_sums.specs.ByZone.{zone_loads, zone_generations}
use Rattle.generation_to_load.specs.declared.LoadServed.{LoadServed}
use Rattle.generation_to_load.specs.declared.GenerationServing.{GenerationServing}
use Rattle.generation_to_load.specs.declared.Balance.{Balance}
use Rattle.generation_to_load.specs.declared.GenerationToLoad.{GenerationToLoad}

-- Step 1 (5.2), and the loads with losses together, which row 16 judges
abbrev pub loads_of : Content → LoadServed
loads_of c = record { zone_loads = zone_loads c; gross_load = gross_load c; net_load = net_load c; final_load = final_load c }

-- Step 2 (5.3)
abbrev pub generation_of : Content → GenerationServing
generation_of c = record {
  zone_generation = zone_generations c;
  net_generation = net_generation c;
  final_generation = final_generation c;
  gross_output = gross_output c;
}

-- what step 3 takes of the two, beside the zone loads
abbrev pub balance_of : Content → Balance
balance_of c = record { net_load = net_load c; gross_output = gross_output c; net_generation = net_generation c; final_generation = final_generation c }

-- an accepted sheet that meets none of rows 16 to 21, with its balance and its zone loads
pub record Ready (s : List ℕ) (l : Layout) (b : Balance) (array : List ℤ) : Type 0 where
  pub accepted : read_sheet s ≡ Accepted l
  pub passed : balance_row (content_of s) ≡ 0
  pub balance : b ≡ balance_of (content_of s)
  pub loads : array ≡ zone_loads (content_of s)

-- Step 3 (5.4), for a target: A, N, B, first remainder, H, the flow, second remainder
abbrev pub flow_for : Content → ℕ → GenerationToLoad
flow_for c target = record {
  weighted_output = weighted_output c target;
  weighted_load = weighted_load c target;
  load_share = load_share c target;
  first_remainder = first_remainder c target;
  gross_flow = gross_flow c target;
  flow = generation_to_load c target;
  second_remainder = second_remainder c target;
}
