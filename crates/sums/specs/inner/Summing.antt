-- What a sum over indices asks of the closure that gives its terms, and what it is.
use Rattle.std.specs.Prelude.{ℕ, ◌≡◌, ◌*◌, ◌^◌, ◌<◌, ◌≤◌, ℤ, nat_abs}
use Rattle.integers.specs.Sum.{sum_to}

-- it may be called at each index, and no sum of its results leaves an i64
pub record Summable (pre : ℕ → Type 0) (post : ℕ → ℤ → Type 0) (n : ℕ) : Type 0 where
  pub callable : (i : ℕ) → i < n → pre i
  pub most : ℕ
  pub within : (i : ℕ) (r : ℤ) → i < n → post i r → nat_abs r ≤ most
  pub fits : n * most < 2 ^ 63

-- of every f whose values are the closure's results it is f 0 + f 1 + .. + f (n - 1)
pub record IsSum (post : ℕ → ℤ → Type 0) (n : ℕ) (sum : ℤ) : Type 0 where
  pub is : (f : ℕ → ℤ) → ((i : ℕ) (r : ℤ) → i < n → post i r → r ≡ f i) → sum ≡ sum_to f n
