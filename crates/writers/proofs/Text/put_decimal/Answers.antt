-- `put_decimal` writes the number into what is free behind the text.
use native.Mathlib.Omega.{arith}
use Rattle.writers.proofs.Writing.{kept, next, front}
use Rattle.writers.proofs.Text.put_decimal.Goals as goal

pub returns-clause-written : goal.returns-clause-written
returns-clause-written g c =
    let f = kept c.self.inside.len c.self.inside.bytes (omega (arith, c.self.invariant, c.self.told)) in
    rw (← c.self.view_is) (front (next f c.write.ensures.wrote))
