-- `record_number` meets its contract.
use mathlib.Core.Path.{refl}
use native.Mathlib.Omega.{arith}
use Rattle.fields.specs.Fields.{byte_at}
use Rattle.record_table.proofs.ByKind.{size_most}
use Rattle.record_numbers.proofs.Counted.{begun, next, done, none_there}
use Rattle.record_numbers.proofs.record_number.Goals as goal

pub returns-then-sheet-at : goal.returns-then-sheet-at
returns-then-sheet-at c = none_there _ _ c.if-sheet-at.true

pub loop-from-init : goal.loop-from-init
loop-from-init c = begun _ _ _ (omega arith) refl

pub overflow_add-from : goal.overflow_add-from
overflow_add-from c = omega (arith, c.body_length.ensures, size_most (byte_at c.args.sheet.now c.loop-from.from))

pub loop-from-preserved : goal.loop-from-preserved
loop-from-preserved c = next _ _ _ _ _ c.loop-from.invariant c.loop-from-test.true _ _ c.from-number.ensures c.body_length.ensures

pub returns : goal.returns
returns c = done _ _ _ _ _ c.loop-from.invariant (omega arith)
