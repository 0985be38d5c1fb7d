-- The lines of the printed statement (document 01, 'The printed statement'; document 02, request 6), in its order.
use Rattle.std.specs.Prelude.{Bool, cond, List, [], ◌∷◌, ◌++◌, ℕ, ℤ}
use Rattle.writers.specs.Text.{ascii, decimal, unfilled, hexadecimal}

-- texts one behind the other
unfoldable pub joined : List (List ℕ) → List ℕ
joined [] = []
joined (t ∷ ts) = t ++ joined ts

-- a label and a number
unfoldable pub figure : List ℕ → ℤ → List ℕ
figure label z = label ++ decimal z

-- the same, ended by one line feed
unfoldable pub line : List ℕ → ℤ → List ℕ
line label z = figure label z ++ ascii "\n"

-- two digits a byte, without the filling
unfoldable pub flowgate_line : List ℕ → List ℕ
flowgate_line name = ascii "flowgate " ++ hexadecimal (unfilled name) ++ ascii "\n"

-- flow, first and second remainder
unfoldable pub gtl_line : ℤ → ℤ → ℤ → List ℕ
gtl_line flow first second = joined (figure (ascii "gtl ") flow ∷ figure (ascii " ") first ∷ line (ascii " ") second ∷ [])

-- what is added to it, and the sum
unfoldable pub flow_lines : ℤ → ℤ → ℤ → ℤ → ℤ → List ℕ
flow_lines parallel shadow common noncommon market =
    joined (
    line (ascii "parallel ") parallel
    ∷ line (ascii "shadow ") shadow
    ∷ line (ascii "common ") common
    ∷ line (ascii "noncommon ") noncommon
    ∷ line (ascii "market ") market
    ∷ []
    )

-- the settlement flow, of a sheet with paths alone
unfoldable pub settled_lines : Bool → ℤ → List ℕ
settled_lines paths settled = cond paths (line (ascii "settled ") settled) []

-- the amount and the payments, NYISO's always first
unfoldable pub amount_lines : ℤ → ℤ → ℤ → List ℕ
amount_lines amount nyiso pjm = joined (line (ascii "amount ") amount ∷ line (ascii "NYISO ") nyiso ∷ line (ascii "PJM ") pjm ∷ [])

unfoldable pub payment_lines : ℤ → ℤ → ℤ → ℤ → ℤ → List ℕ
payment_lines entitlement price amount nyiso pjm =
    joined (line (ascii "entitlement ") entitlement ∷ line (ascii "price ") price ∷ amount_lines amount nyiso pjm ∷ [])
