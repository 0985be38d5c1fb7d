-- A name as two words of eight bytes: its bytes by their zeros.
use Rattle.std.specs.Prelude.{ℕ, zero, suc, ◌+◌, ◌-◌, ◌/◌, ◌%◌, Bool, true, not, ◌&&◌, cond, List, [], ◌∷◌, eqb}
use Rattle.std.specs.Int.Bits.{bit_or}
use Rattle.fields.specs.inner.Word.{be64}

-- no byte is zero
unfoldable pub non_zero : List ℕ → Bool
non_zero [] = true
non_zero (b ∷ s) = not (eqb b 0) && non_zero s

-- none of the last k bytes of w is zero
unfoldable pub no_zero : ℕ → ℕ → Bool
no_zero zero w = true
no_zero (suc k) w = not (eqb (w % 256) 0) && no_zero k (w / 256)

-- of a word that is not 0: non-zero bytes, and then zero bytes alone; those at the end are filled with ones first
unfoldable pub filled_word : ℕ → ℕ → Bool
filled_word k w = no_zero k (bit_or w (w - 1))

-- the two words of a name
unfoldable pub words_ok : ℕ → ℕ → Bool
words_ok high low = cond (eqb low 0) (not (eqb high 0) && filled_word 8 high) (no_zero 8 high && filled_word 8 low)

-- the name at a place has these two words
unfoldable pub has_words : List ℕ → ℕ → ℕ → ℕ → Bool
has_words s at high low = eqb (be64 s at) high && eqb (be64 s (at + 8)) low
