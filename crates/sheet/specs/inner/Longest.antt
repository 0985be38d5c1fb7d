-- How long a sheet can be.
use Rattle.std.specs.Prelude.{ℕ, ◌+◌, ◌*◌}
use Rattle.record_table.specs.inner.Sizes.{size, most_size}

-- a head, 32 zones, 256 units, 32 points, 8 PARs, the 2,888 factors that these make due, four paths and the circulation
abbrev pub longest_sheet : ℕ
longest_sheet = size 1 + size 2 * 32 + size 3 * 256 + size 4 * 32 + size 5 * 8 + size 6 * 2888 + size 7 * 4 + size 8

-- so many bytes of any sheet hold each record whole that begins no later than the longest sheet ends
abbrev pub deciding : ℕ
deciding = longest_sheet + most_size
