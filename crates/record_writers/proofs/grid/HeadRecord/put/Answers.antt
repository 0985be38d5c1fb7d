-- The head as a record: its bytes, and that it is had back.
use Rattle.sheet_bytes.specs.SheetBytes.{head_body}
use Rattle.field_writers.proofs.Records.{field}
use Rattle.sheet_bytes.proofs.RecordBodies.{head_returns}
use borrow.Author.Rules.{rules}
use Rattle.record_writers.proofs.grid.HeadRecord.put.Goals as goal

pub returns-clause-wrote : goal.returns-clause-wrote
unfolding head_body
returns-clause-wrote c =
    let front = rw c.code.ensures at c.put_front-n.ensures.wrote in
    field (field (field (field front c.put-n.ensures.wrote) c.put-n-2.ensures.wrote) c.put-n-3.ensures.wrote) c.put-n-4.ensures.wrote

pub returns-clause-returns : goal.returns-clause-returns
returns-clause-returns c = search (rules, head_returns)
