-- The cells of an hour (02, request 1): the amounts and seconds of its intervals.
use Rattle.std.specs.Prelude.{ℕ, zero, suc, ◌+◌, cond, List, ltb, ℤ, pos, negsuc, get_or}
use Rattle.std.specs.Int.Signed.{lt_z}
use Rattle.integers.specs.Sum.{sum_to}

-- how many of the cells count: as many as there are intervals, and no more than there are cells
unfoldable pub held : ℕ → ℕ
held count = cond (ltb count 60) count 60

-- the seconds of the first n together
unfoldable pub seconds_to : List ℕ → ℕ → ℕ
seconds_to seconds zero = 0
seconds_to seconds (suc n) = seconds_to seconds n + get_or seconds n 0

unfoldable pub seconds_of : List ℕ → ℕ → ℕ
seconds_of seconds count = seconds_to seconds (held count)

-- a cell's amount, held to ± 2,000,000,000,000, which no interval's is beyond: so any struct has a sum
unfoldable pub cell : ℤ → ℤ
cell x = cond (lt_z x (negsuc 1999999999999)) (negsuc 1999999999999) (cond (lt_z (pos 2000000000000) x) (pos 2000000000000) x)

unfoldable pub cell_at : List ℤ → ℕ → ℤ
cell_at amounts i = cell (get_or amounts i (pos 0))

unfoldable pub amount_of : List ℤ → ℕ → ℤ
amount_of amounts count = sum_to (cell_at amounts) (held count)
