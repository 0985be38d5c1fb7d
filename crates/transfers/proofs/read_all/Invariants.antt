-- What the steps so far come to: by the answers of their calls, and by the bytes.
use Rattle.std.proofs.Common.{◌≡◌, length, Ok}
use Rattle.transfers.specs.inner.Steps.{ReadOn}
use Rattle.transfers.proofs.Steps.{Led}
use Rattle.transfers.proofs.read_all.Given as goal

abbrev pub invariant-loop : goal.invariant-loop
invariant-loop g l = record {
  led : Led Ok (length l.buf) l.done;
  same_length : length l.buf ≡ length l.initial.buf;
  bytes : ReadOn (g.R.Read.remaining l.initial.reader) (g.R.Read.remaining l.reader) l.buf l.done;
}
