-- `good_factors` meets its contract. The loop's invariant: all before are good.
use Prim.Native.Nat.{ℕ, ◌+◌, ◌*◌, ◌<◌}
use Rattle.sheet.specs.inner.GoodFactors.{Good}
use Rattle.sheet.proofs.good_factors.Given as goal

abbrev pub invariant-loop-n : goal.invariant-loop-n
invariant-loop-n l = (k : ℕ) → k < l.n → Good l.s (l.at + 7 * k) (l.key + k)
