-- The circulation as a record: its bytes, and that it is had back.
use Rattle.sheet_bytes.specs.SheetBytes.{circulation_body}
use Rattle.field_writers.proofs.Records.{first, signed32_as_is}
use Rattle.sheet_bytes.proofs.LakeBodies.{circulation_returns}
use borrow.Author.Rules.{rules}
use Rattle.record_writers.proofs.nameless.CirculationRecord.put.Goals as goal

pub returns-clause-wrote : goal.returns-clause-wrote
unfolding circulation_body
returns-clause-wrote c =
    let front = rw c.code.ensures at c.put-n.ensures.wrote in
    first front (signed32_as_is (search rules) c.put-n-2.ensures.wrote)

pub returns-clause-returns : goal.returns-clause-returns
returns-clause-returns c = search (rules, circulation_returns)
