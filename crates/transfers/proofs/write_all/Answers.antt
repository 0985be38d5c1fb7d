-- What the answers so far come to, with one more.
use Rattle.std.proofs.Common.{refl}
use Rattle.transfers.proofs.Steps.{over, given_up}
use Rattle.transfers.proofs.write_all.Goals as goal

pub returns-in-Break-clause-delivered : goal.returns-in-Break-clause-delivered
returns-in-Break-clause-delivered g c = over c.loop.invariant.led c.in-Break.ensures.answered c.in-Break.ensures.leads refl

pub returns-clause-delivered : goal.returns-clause-delivered
returns-clause-delivered g c = given_up c.loop.invariant.led
