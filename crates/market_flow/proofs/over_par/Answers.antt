-- `over_par` meets its contract.
use native.Mathlib.Omega.{arith}
use Rattle.sheet.proofs.Accepted.{counts}
use Rattle.generation_to_load.proofs.Laws.{is_valid}
use Rattle.market_flow.proofs.Laws.{par-asked, par-flow, par-share}
use Rattle.market_flow.proofs.over_par.Goals as goal

pub overflow_add-target : goal.overflow_add-target
overflow_add-target c =
    let r = c.args.served.now.ready in
    omega (arith, c.requires, (counts _ _ r.accepted).pars, (is_valid r).pars_most)

pub factor_at-factor-requires : goal.factor_at-factor-requires
factor_at-factor-requires c = par-asked c.args.served.now.ready c.requires

pub overflow_add-result : goal.overflow_add-result
overflow_add-result c =
    (par-flow c.args.served.now.ready c.requires _ _ _ c.flow-gtl.ensures c.points-parallel.ensures c.factor_at-factor.ensures).fits

pub overflow_mul-result : goal.overflow_mul-result
overflow_mul-result c =
    (par-share c.args.served.now.ready c.requires _ _ _ c.flow-gtl.ensures c.points-parallel.ensures c.factor_at-factor.ensures).fits

pub returns : goal.returns
returns c =
    (par-share c.args.served.now.ready c.requires _ _ _ c.flow-gtl.ensures c.points-parallel.ensures c.factor_at-factor.ensures).num.is
