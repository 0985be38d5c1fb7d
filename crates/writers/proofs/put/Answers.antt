-- `put` copies all of its bytes.
use mathlib.Core.Path.{refl}
use Rattle.writers.proofs.Writing.{stored}
use Rattle.writers.proofs.put.Goals as goal

pub returns : goal.returns
returns c = rw c.copy_from_slice.ensures.after (stored refl refl)
