-- `weigh` meets its contract.
use Rattle.weighted_sums.proofs.Laws.{weighed}
use Rattle.weighted_sums.proofs.weigh.Goals as goal

pub overflow_mul-result : goal.overflow_mul-result
overflow_mul-result c = (weighed _ _ c.args.sheet.now.accepted c.requires.0 c.args.power _ c.requires.1 c.factor_at-factor.ensures).fits

pub returns : goal.returns
returns c = (weighed _ _ c.args.sheet.now.accepted c.requires.0 c.args.power _ c.requires.1 c.factor_at-factor.ensures).num.is
