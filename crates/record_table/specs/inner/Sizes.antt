-- How many bytes the records of a kind have, the kind byte included.
use Rattle.std.specs.Prelude.{ℕ, ◌+◌}
use Rattle.record_table.specs.Table.{body_length}

abbrev pub size : ℕ → ℕ
size kind = body_length kind + 1

-- no record is longer than a point's
abbrev pub most_size : ℕ
most_size = size 4
