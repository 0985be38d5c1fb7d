-- A factor as a record: its bytes, and that it is had back.
use Rattle.sheet_bytes.specs.SheetBytes.{factor_body}
use Rattle.field_writers.proofs.Records.{first, field, signed16_as_is}
use Rattle.sheet_bytes.proofs.RecordBodies.{factor_returns}
use borrow.Author.Rules.{rules}
use Rattle.record_writers.proofs.nameless.FactorRecord.put.Goals as goal

pub returns-clause-wrote : goal.returns-clause-wrote
unfolding factor_body
returns-clause-wrote c =
    let front = rw c.code.ensures at c.put-n.ensures.wrote in
    field (field (field (first front c.put-n-2.ensures.wrote) c.put-n-3.ensures.wrote) c.put-n-4.ensures.wrote) (signed16_as_is (search rules) c.put-n-5.ensures.wrote)

pub returns-clause-returns : goal.returns-clause-returns
returns-clause-returns c = search (rules, factor_returns)
