-- `net_at` meets its contract.
use Rattle.zone_sums.proofs.Laws.{net_at_op}
use Rattle.zone_sums.proofs.by_number.ZoneSums.net_at.Goals as goal

pub overflow_sub-result : goal.overflow_sub-result
overflow_sub-result c = (net_at_op _ _ c.args.self.now.small c.args.minus.now.small c.args.z c.requires _ _ c.amount_at.ensures c.amount_at-2.ensures).fits

pub returns : goal.returns
returns c = (net_at_op _ _ c.args.self.now.small c.args.minus.now.small c.args.z c.requires _ _ c.amount_at.ensures c.amount_at-2.ensures).num.is
