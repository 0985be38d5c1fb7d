-- A word of eight bytes: no field of document 01 has eight, but a name is two such words.
use Rattle.std.specs.Prelude.{ℕ, ◌+◌, ◌*◌, List}
use Rattle.fields.specs.Fields.{be32}

abbrev pub be64 : List ℕ → ℕ → ℕ
be64 s at = be32 s at * 4294967296 + be32 s (at + 4)
