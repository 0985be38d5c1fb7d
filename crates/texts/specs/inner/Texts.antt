-- Texts one behind the other, each ended by a zero byte.
use Rattle.std.specs.Prelude.{ℕ, zero, suc, ◌+◌, List, [], ◌∷◌, ◌++◌, length, drop}
use Rattle.writers.specs.Text.{unfilled}

-- the texts of a list
unfoldable pub packed : List (List ℕ) → List ℕ
packed [] = []
packed (text ∷ texts) = text ++ (0 ∷ packed texts)

-- from the text of a number on, the first being 0
unfoldable pub texts_from : ℕ → List ℕ → List ℕ
texts_from zero texts = texts
texts_from (suc n) texts = texts_from n (drop (length (unfilled texts) + 1) texts)

-- the text of a number
abbrev pub text_of : ℕ → List ℕ → List ℕ
text_of n texts = unfilled (texts_from n texts)
