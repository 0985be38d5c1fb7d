-- `look_up` meets its contract. The loop's invariant: what is left of the list answers as the whole list does.
use Rattle.std.proofs.Common.{◌≡◌}
use Rattle.entitlements.specs.Entitlements.{record_length}
use Rattle.entitlements.proofs.Chunks.{Left}
use Rattle.entitlements.proofs.look_up.Given as goal

abbrev pub invariant-loop-entry : goal.invariant-loop-entry
invariant-loop-entry l = (l.entry-iterator.size ≡ record_length) × Left l.entries l.name l.entry-iterator.rest.now
