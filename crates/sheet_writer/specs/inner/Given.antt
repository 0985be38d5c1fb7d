-- How many records of an array are given, and how many bytes all of them have at most.
use Rattle.std.specs.Prelude.{ℕ, ◌+◌, ◌*◌, cond, ltb}
use Rattle.record_table.specs.inner.Sizes.{size}

-- a count, or the most that an array holds
abbrev pub at_most : ℕ → ℕ → ℕ
at_most n most = cond (ltb n most) n most

-- a head and all cells of a draft's arrays
abbrev pub most_given : ℕ
most_given = size 1 + size 2 * 33 + size 3 * 257 + size 4 * 33 + size 5 * 9 + size 6 * 2889 + size 7 * 5 + size 8 * 2
