-- `generation` meets its contract.
use borrow.Author.Rules.{rules}
use Rattle.zone_sums.proofs.Sides.{few_zones, held, final_fits, generation-side}
use Rattle.generation_to_load.proofs.Sides.{generation_less_proxies}
use Rattle.generation_to_load.proofs.generation.Goals as goal

pub total-gross_output-requires : goal.total-gross_output-requires
total-gross_output-requires c = search (rules, few_zones)

pub reduced-zone_generation-requires : goal.reduced-zone_generation-requires
reduced-zone_generation-requires c = search (rules, few_zones)

pub net-net_generation-requires : goal.net-net_generation-requires
net-net_generation-requires c = search (rules, few_zones, held)

pub overflow_sub-final_generation : goal.overflow_sub-final_generation
overflow_sub-final_generation c = rw c.proxies.ensures (search (rules, few_zones, final_fits))

pub returns : goal.returns
returns c = search (rules, generation_less_proxies, generation-side)
