-- A draft's point as a record: its bytes, and that it is had back.
use Prim.Native.Nat.{ℕ}
use mathlib.Core.Path.{ap}
use mathlib.Core.List.{◌∷◌, []}
use Rattle.writers.proofs.Writing.{renamed}
use Rattle.sheet_bytes.specs.SheetBytes.{point_body}
use Rattle.field_writers.proofs.Records.{field}
use Rattle.sheet_bytes.proofs.RecordBodies.{point_returns}
use Rattle.record_writers.proofs.flows.DraftPointRecord.put.Goals as goal

pub returns-clause-wrote : goal.returns-clause-wrote
unfolding point_body
returns-clause-wrote c =
    let front = rw c.code.ensures at c.put_front-n.ensures.wrote in
    let place = renamed (ap (λ (b : ℕ). b ∷ []) c.place_byte.ensures) c.put-n-2.ensures.wrote in
    field
    (field
    (field (field (field (field front c.put-n.ensures.wrote) place) c.put-n-3.ensures.wrote) c.put-n-4.ensures.wrote)
    c.put-n-5.ensures.wrote)
    c.put-n-6.ensures.wrote

pub returns-clause-returns : goal.returns-clause-returns
returns-clause-returns c = point_returns _ c.put_front-n.ensures.name_len
