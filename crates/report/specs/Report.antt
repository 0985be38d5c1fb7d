-- A settled statement, printed: what is answered, and what stands in the output buffer then.
use Rattle.std.specs.Prelude.{ℕ, List}
use Rattle.settlement.specs.Settled.{settled}
use Rattle.listing.specs.declared.Printed.{Printed}
use Rattle.printout.specs.Listing.{shown}
use Rattle.listing.specs.Buffer.{printed, buffer}

-- the statement after row 23, and the listing's length
unfoldable pub reported : List ℕ → List ℕ → List ℕ → Printed
reported sheet list out = printed (settled sheet list) out

unfoldable pub left : List ℕ → List ℕ → List ℕ → List ℕ
left sheet list out = buffer (settled sheet list) out

-- the program's standard output on the bytes of its two files (document 01, 'The printed statement'): the listing of the
-- settled statement, or the one line of its refusal
unfoldable pub output : List ℕ → List ℕ → List ℕ
output sheet list = shown (settled sheet list)
