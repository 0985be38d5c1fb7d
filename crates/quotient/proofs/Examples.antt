-- Document 01, 'Figures to hold against it', with request 2's halves: the worked quotients; then halves next to odd numbers, and at the ends of an i64.
use mathlib.Core.Path.{◌≡◌, refl}
use mathlib.Core.List.{List, [], ◌∷◌, map}
use lib.IntN.{ℤ, pos, negsuc}
use Rattle.quotient.specs.Rounded.{quotient, remainder}

-- dividend, divisor, quotient, remainder
abbrev table : List (ℤ × ℤ × ℤ × ℤ)
table =
    (pos 5, pos 2, pos 2, pos 1)
    ∷ (negsuc 4, pos 2, negsuc 1, negsuc 0)
    ∷ (negsuc 0, pos 3, pos 0, negsuc 0)
    ∷ (pos 7, pos 2, pos 4, negsuc 0)
    ∷ (negsuc 6, pos 2, negsuc 3, pos 1)
    ∷ (pos 9223372036854775807, pos 2, pos 4611686018427387904, negsuc 0)
    ∷ (negsuc 9223372036854775806, pos 2, negsuc 4611686018427387903, pos 1)
    ∷ (pos 4611686018427387903, pos 9223372036854775806, pos 0, pos 4611686018427387903)
    ∷ (negsuc 9223372036854775807, pos 9223372036854775807, negsuc 0, negsuc 0)
    ∷ []

pub examples : map (λ (e : ℤ × ℤ × ℤ × ℤ). (e.0, e.1, quotient e.0 e.1, remainder e.0 e.1)) table ≡ table
unfolding quotient remainder
examples = refl
