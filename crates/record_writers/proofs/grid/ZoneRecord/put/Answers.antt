-- A zone as a record: its bytes, and that it is had back.
use Rattle.sheet_bytes.specs.SheetBytes.{zone_body}
use Rattle.field_writers.proofs.Records.{field}
use Rattle.sheet_bytes.proofs.RecordBodies.{zone_returns}
use borrow.Author.Rules.{rules}
use Rattle.record_writers.proofs.grid.ZoneRecord.put.Goals as goal

pub returns-clause-wrote : goal.returns-clause-wrote
unfolding zone_body
returns-clause-wrote c =
    let front = rw c.code.ensures at c.put_front-n.ensures.wrote in
    field (field front c.put-n.ensures.wrote) c.put-n-2.ensures.wrote

pub returns-clause-returns : goal.returns-clause-returns
returns-clause-returns c = search (rules, zone_returns)
