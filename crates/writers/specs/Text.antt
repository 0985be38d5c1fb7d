-- Texts, numbers and names as bytes (document 01, 'The printed statement').
use Rattle.std.specs.Prelude.{cond, List, [], ◌∷◌, ◌++◌, ℕ, zero, suc, ◌/◌, ◌%◌, eqb, ltb, ℤ, pos, negsuc, get_or}
use Prim.Native.Char.{code}
use Prim.Native.String as S

-- the bytes of a text of ASCII characters
unfoldable pub ascii : S.String → List ℕ
ascii S.[] = []
ascii (S.◌∷◌ c cs) = code c ∷ ascii cs

-- the digit for a number below 16
abbrev pub digit : ℕ → ℕ
digit d = get_or (ascii "0123456789abcdef") d 0

-- the decimal digits of n, of which there are at most one more than `most`
unfoldable pub digits : ℕ → ℕ → List ℕ
digits zero n = digit n ∷ []
digits (suc most) n = cond (ltb n 10) (digit n ∷ []) (digits most (n / 10) ++ (digit (n % 10) ∷ []))

-- n in decimal without leading zeros; no number n has more than n + 1 digits
unfoldable pub natural : ℕ → List ℕ
natural n = digits n n

-- z in decimal without leading zeros, a minus before negative ones
unfoldable pub decimal : ℤ → List ℕ
decimal (pos n) = natural n
decimal (negsuc n) = ascii "-" ++ natural (suc n)

-- a name without the filling
unfoldable pub unfilled : List ℕ → List ℕ
unfilled [] = []
unfilled (b ∷ bs) = cond (eqb b 0) [] (b ∷ unfilled bs)

-- two lower-case hexadecimal digits a byte
abbrev pub pair : ℕ → List ℕ
pair b = digit (b / 16) ∷ digit (b % 16) ∷ []

unfoldable pub hexadecimal : List ℕ → List ℕ
hexadecimal [] = []
hexadecimal (b ∷ bs) = pair b ++ hexadecimal bs
