-- Sums and tests over indices.
use Rattle.std.specs.Prelude.{ℕ, zero, suc, Bool, true, ◌&&◌, ℤ, pos, ◌+ℤ◌}

-- f 0 + f 1 + .. + f (n - 1)
unfoldable pub sum_to : (ℕ → ℤ) → ℕ → ℤ
sum_to f zero = pos 0
sum_to f (suc n) = sum_to f n +ℤ f n

-- whether p holds at each index below n
unfoldable pub all_to : (ℕ → Bool) → ℕ → Bool
all_to p zero = true
all_to p (suc n) = all_to p n && p n
