-- `flow_of` meets its contract.
use native.Mathlib.Omega.{arith}
use Rattle.records.specs.Codes.{common, noncommon}
use Rattle.generation_to_load.proofs.Laws.{read_within}
use Rattle.market_flow.proofs.Laws.{gtl-num, schedule-num, redirect_num, noncommon_num, flow-of-is}
use Rattle.market_flow.proofs.flow_of.Goals as goal

pub market_flow-market-requires : goal.market_flow-market-requires
market_flow-market-requires c =
    let r = c.args.served.now.ready in (
      read_within (gtl-num r (omega arith) _ c.flow-g.ensures),
      read_within (schedule-num r (omega arith) noncommon _ c.points-parallel.ensures),
      read_within (schedule-num r (omega arith) common _ c.points-shadow.ensures),
      read_within (redirect_num r common _ c.redirect-common.ensures),
      read_within (noncommon_num r _ c.noncommon_redirect-noncommon.ensures),
    )

pub returns : goal.returns
returns c =
    flow-of-is c.args.served.now.ready _ _ _ _ _ c.flow-g.ensures c.points-parallel.ensures c.points-shadow.ensures c.redirect-common.ensures c.noncommon_redirect-noncommon.ensures _ c.market_flow-market.ensures
