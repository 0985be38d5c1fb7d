-- The tables of words as they are looked up.
use Rattle.std.specs.Prelude.{ℕ, cond, leb}

-- how many bytes a meaning and a kind's word have at most
abbrev pub meaning_room : ℕ
meaning_room = 128

abbrev pub word_room : ℕ
word_room = 16

-- where a kind's word stands
abbrev pub word_of : ℕ → ℕ
word_of kind = cond (leb kind 8) kind 0
