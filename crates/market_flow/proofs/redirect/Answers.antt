-- `redirect` meets its contract.
use Rattle.records.specs.Codes.{class_code}
use Rattle.market_flow.proofs.Laws.{redirect_op}
use Rattle.market_flow.proofs.redirect.Goals as goal

pub overflow_sub-result : goal.overflow_sub-result
overflow_sub-result c =
    (redirect_op c.args.served.now.ready (class_code c.args.class) c.carried_sum-sum.result c.rounded_quotient-carried.result c.pars-control.result c.carried_sum-sum.ensures c.rounded_quotient-carried.ensures.0 c.pars-control.ensures).fits

pub returns : goal.returns
returns c =
    (redirect_op c.args.served.now.ready (class_code c.args.class) c.carried_sum-sum.result c.rounded_quotient-carried.result c.pars-control.result c.carried_sum-sum.ensures c.rounded_quotient-carried.ensures.0 c.pars-control.ensures).num.is
