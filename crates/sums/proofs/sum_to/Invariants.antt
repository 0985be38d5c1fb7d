-- `sum_to` meets its contract.
use Prim.Native.Nat.{ℕ, ◌<◌, ◌≤◌, ◌*◌}
use mathlib.Core.Path.{◌≡◌}
use lib.IntN.{ℤ, nat_abs}
use Rattle.integers.specs.Sum.{sum_to}
use Rattle.sums.proofs.sum_to.Given as goal

abbrev pub invariant-loop-i : goal.invariant-loop-i
invariant-loop-i g l = record {
  within : (most : ℕ) → ((k : ℕ) (r : ℤ) → k < l.n → goal.F-post g l.term k r → nat_abs r ≤ most) → nat_abs l.sum ≤ l.i * most;
  sum : (f : ℕ → ℤ) → ((k : ℕ) (r : ℤ) → k < l.n → goal.F-post g l.term k r → r ≡ f k) → l.sum ≡ sum_to f l.i;
}
