-- What of a PAR's flow goes over the flowgate, and the figures of the flowgate.
use Rattle.std.specs.Prelude.{ℕ, ◌+◌, ℤ, ◌+ℤ◌, ◌*ℤ◌}
use Rattle.records.specs.Codes.{common}
use Rattle.records.specs.Content.{Content}
use Rattle.figures.specs.Flow.{par_factor, generation_to_load, first_remainder, second_remainder, parallel, shadow, redirect, non_common_redirect, market_flow}
use Rattle.market_flow.specs.declared.Flow.{Flow}

-- what of the flow on the PAR of index i goes over the flowgate
abbrev pub par_share : Content → ℕ → ℤ
par_share c i = par_factor c i *ℤ (generation_to_load c (i + 1) +ℤ parallel c (i + 1))

abbrev pub flow_of : Content → Flow
flow_of c = record {
  gtl = generation_to_load c 0;
  first_remainder = first_remainder c 0;
  second_remainder = second_remainder c 0;
  parallel = parallel c 0;
  shadow = shadow c 0;
  common = redirect c common;
  noncommon = non_common_redirect c;
  market = market_flow c;
}
