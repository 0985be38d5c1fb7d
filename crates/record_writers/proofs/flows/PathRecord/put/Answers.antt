-- A path as a record: its bytes, and that it is had back.
use Rattle.sheet_bytes.specs.SheetBytes.{path_body}
use Rattle.field_writers.proofs.Records.{field, signed16_as_is, signed32_as_is}
use Rattle.sheet_bytes.proofs.LakeBodies.{path_returns}
use borrow.Author.Rules.{rules}
use Rattle.record_writers.proofs.flows.PathRecord.put.Goals as goal

pub returns-clause-wrote : goal.returns-clause-wrote
unfolding path_body
returns-clause-wrote c =
    let front = rw c.code.ensures at c.put_front-n.ensures.wrote in
    field (field front (signed32_as_is (search rules) c.put-n.ensures.wrote)) (signed16_as_is (search rules) c.put-n-2.ensures.wrote)

pub returns-clause-returns : goal.returns-clause-returns
returns-clause-returns c = search (rules, path_returns)
