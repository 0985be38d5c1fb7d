-- `start_of` meets its contract: the record ends before the last one does.
use Prim.Native.Nat.{◌+◌, ◌*◌, ◌≤◌}
use mathlib.Core.Path.{refl}
use native.Mathlib.Omega.{arith}
use Rattle.record_table.specs.inner.Kinds.{code}
use Rattle.record_table.proofs.ByKind.{code_most}
use Rattle.record_table.specs.inner.Sizes.{size}
use Rattle.layout.specs.inner.Places.{extent}
use Rattle.layout.proofs.Places.{within}
use Rattle.layout.proofs.Layout.start_of.Goals as goal
use Rattle.layout.proofs.Layout.start_of.Goals.{After-size_of}

ends : (c : After-size_of) → c.first_of.result + c.size_of.result * c.args.i + size (code c.args.kind) ≤ extent c.args.self
ends c = rw (c.first_of.ensures, c.size_of.ensures.0) (within c.args.self (code c.args.kind) c.args.i (code_most c.args.kind) c.requires.1)

pub overflow_mul-result : goal.overflow_mul-result
overflow_mul-result c = omega (arith, ends c)

pub overflow_add-result : goal.overflow_add-result
overflow_add-result c = omega (arith, ends c)

pub returns : goal.returns
returns c = rw (c.first_of.ensures, c.size_of.ensures.0) (refl, within c.args.self (code c.args.kind) c.args.i (code_most c.args.kind) c.requires.1)
