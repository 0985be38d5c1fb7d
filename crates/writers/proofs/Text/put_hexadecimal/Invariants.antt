use Rattle.std.proofs.Common.{◌≡◌, ◌++◌, take}
use Rattle.writers.specs.Text.{hexadecimal}
use Rattle.writers.proofs.Text.put_hexadecimal.Given as goal

abbrev pub invariant-loop-b : goal.invariant-loop-b
invariant-loop-b g l = l.self ≡ l.initial.self ++ hexadecimal (take l.b-index l.bytes)
