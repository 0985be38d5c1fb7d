-- `put_lake` meets its contract.
use Rattle.writers.proofs.Writing.{next}
use Rattle.section_writers.proofs.put_lake.Goals as goal

pub returns-clause-wrote : goal.returns-clause-wrote
returns-clause-wrote c = next c.put_all-n.ensures.wrote c.put_all-n-2.ensures.wrote
