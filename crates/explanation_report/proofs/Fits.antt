-- What is located can be printed.
use mathlib.Core.List.{List}
use Prim.Native.Nat.{ℕ}
use Rattle.explanation.specs.Explanation.{Finding}
use Rattle.explanation.specs.Promise.{Promise}
use Rattle.explanation.proofs.Promised.{explained_short}
use Rattle.explanation_report.specs.inner.Whole.{Fits}

pub fits : {sheet list : List ℕ} {f : Finding} → Promise sheet list f → Fits sheet f
fits {sheet} {list} p = record { order = p.order; within = p.within; short = rw p.is (explained_short sheet list) }
