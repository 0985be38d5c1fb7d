-- The printed statement in an output buffer (document 01, 'The printed statement' and row 23).
use Rattle.std.specs.Prelude.{cond, ◌&&◌, List, [], ℕ, eqb, ltb, length}
use Rattle.statement.specs.declared.Statement.{Statement}
use Rattle.statement.specs.Statement.{refused_as}
use Rattle.writers.specs.Written.{written}
use Rattle.printout.specs.Listing.{listing}
use Rattle.listing.specs.declared.Printed.{Printed}

-- the statement after row 23: refused where it was accepted and the output buffer is shorter than the listing
unfoldable pub checked : Statement → List ℕ → Statement
checked s out = cond (eqb s.refusal 0 && ltb (length out) (length (listing s))) (refused_as 23) s

-- what is printed: the listing of a statement that is still accepted, and nothing of a refused one
unfoldable pub text : Statement → List ℕ → List ℕ
text s out = cond (eqb (checked s out).refusal 0) (listing s) []

-- what printing returns
abbrev pub printed : Statement → List ℕ → Printed
printed s out = record { statement = checked s out; length = length (text s out) }

-- the output buffer after printing
abbrev pub buffer : Statement → List ℕ → List ℕ
buffer s out = written (text s out) out
