-- What the answers so far come to, with one more.
use Rattle.std.proofs.Common.{subst, refl}
use Rattle.transfers.specs.Transfer.{Received, failed_by}
use Rattle.transfers.proofs.Steps.{over, given_up}
use Rattle.transfers.proofs.read_all.Goals as goal

pub returns-in-Break-clause-received : goal.returns-in-Break-clause-received
returns-in-Break-clause-received g c =
    subst (λ room. Received room c.in-Break.outcome) c.loop.invariant.same_length (over c.loop.invariant.led c.in-Break.ensures.answered c.in-Break.ensures.leads refl)

pub returns-clause-received : goal.returns-clause-received
returns-clause-received g c = subst (λ room. Received room (failed_by 4)) c.loop.invariant.same_length (given_up c.loop.invariant.led)
