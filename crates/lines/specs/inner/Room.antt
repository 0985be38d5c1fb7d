-- How many bytes a line takes at most.
use Rattle.std.specs.Prelude.{ℕ}

-- the longest label, `entitlement `
abbrev pub label_room : ℕ
label_room = 12

-- a label, the longest number of 64 bits, -9223372036854775808, and the line feed
abbrev pub line_room : ℕ
line_room = 33
