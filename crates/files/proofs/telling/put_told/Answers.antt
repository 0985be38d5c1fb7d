-- `put_told` writes the three parts one behind the other.
use Rattle.writers.specs.Text.{ascii}
use Rattle.writers.proofs.Writing.{next}
use Rattle.files.specs.inner.Telling.{told}
use Rattle.files.proofs.telling.put_told.Goals as goal

pub returns-clause-wrote : goal.returns-clause-wrote
unfolding ascii told
returns-clause-wrote c = next (next c.put-n.ensures c.put-n-2.ensures) c.put-n-3.ensures
