-- What the steps so far come to: by the answers of their calls, and by the bytes.
use Rattle.std.proofs.Common.{ℕ, length}
use Rattle.transfers.specs.Transfer.{WroteOn, failed_by}
use Rattle.transfers.proofs.Steps.{Led}
use Rattle.transfers.proofs.write_all.Given as goal

abbrev pub invariant-loop : goal.invariant-loop
invariant-loop g l = record {
  led : Led (λ (n : ℕ). failed_by 5) (length l.bytes) l.done;
  bytes : WroteOn (g.W.Write.contents l.initial.writer) (g.W.Write.contents l.writer) l.bytes l.done;
}
