-- `settle` hands out the interval's statement.
use Rattle.settlement.proofs.settle.Goals as goal

pub returns : goal.returns
returns c = c.settle_interval.ensures.promise
