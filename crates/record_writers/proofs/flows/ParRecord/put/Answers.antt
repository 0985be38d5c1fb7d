-- A PAR as a record: its bytes, and that it is had back.
use Rattle.sheet_bytes.specs.SheetBytes.{par_body}
use Rattle.field_writers.proofs.Records.{field, signed32_as_is}
use Rattle.sheet_bytes.proofs.RecordBodies.{par_returns}
use borrow.Author.Rules.{rules}
use Rattle.record_writers.proofs.flows.ParRecord.put.Goals as goal

pub returns-clause-wrote : goal.returns-clause-wrote
unfolding par_body
returns-clause-wrote c =
    let front = rw c.code.ensures at c.put_front-n.ensures.wrote in
    field (field (field front c.put-n.ensures.wrote) (signed32_as_is (search rules) c.put-n-2.ensures.wrote)) (signed32_as_is (search rules) c.put-n-3.ensures.wrote)

pub returns-clause-returns : goal.returns-clause-returns
returns-clause-returns c = search (rules, par_returns)
