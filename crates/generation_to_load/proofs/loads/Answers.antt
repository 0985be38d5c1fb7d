-- `loads` meets its contract.
use borrow.Author.Rules.{rules}
use Rattle.zone_sums.proofs.Sides.{few_zones, held, final_fits, load_side}
use Rattle.generation_to_load.proofs.Sides.{loads_less_proxies}
use Rattle.generation_to_load.proofs.loads.Goals as goal

pub total-gross_load-requires : goal.total-gross_load-requires
total-gross_load-requires c = search (rules, few_zones)

pub reduced-zone_loads-requires : goal.reduced-zone_loads-requires
reduced-zone_loads-requires c = search (rules, few_zones)

pub net-net_load-requires : goal.net-net_load-requires
net-net_load-requires c = search (rules, few_zones, held)

pub overflow_sub-final_load : goal.overflow_sub-final_load
overflow_sub-final_load c = rw c.proxies.ensures (search (rules, few_zones, final_fits))

pub returns : goal.returns
returns c = search (rules, loads_less_proxies, load_side)
