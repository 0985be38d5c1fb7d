-- What each refusal means, and the words for the kinds of records (document 01, 'Where each refusal is checked' and 'The interval sheet'; document 02).
use Rattle.std.specs.Prelude.{ℕ, List, [], ◌∷◌, get_or}
use Rattle.writers.specs.Text.{ascii}

-- the conditions of refusals 1 to 28, in the words of docs/REFUSALS.md; no refusal is 0
abbrev pub meanings : List (List ℕ)
meanings =
    []
    ∷ ascii "the sheet is empty, or its first byte is not 1"
    ∷ ascii "kind byte not 1..8"
    ∷ ascii "the sheet ends within the body"
    ∷ ascii "kind below the one before, or a second head"
    ∷ ascii "33rd zone, 257th unit, 33rd point, 9th PAR, 5th path or 2nd circulation"
    ∷ ascii "first byte zero, or a non-zero byte after a zero"
    ∷ ascii "same name earlier in the same kind"
    ∷ ascii "RTO, type or class neither 1 nor 2; a unit's zone 0 or above the count of zones; a place above that count"
    ∷ ascii "a number of kinds 1 to 5, a path's flow or the circulation outside its range"
    ∷ ascii "target, subject and index are not those due, or nothing is due any more"
    ∷ ascii "factor below -10,000 or above 10,000, a path's too"
    ∷ ascii "no zone, or no unit"
    ∷ ascii "factors are still due"
    ∷ ascii "a record of the list cut short, of another kind, badly named, out of range, with a repeated name, or after the 2,500th"
    ∷ ascii "no entry bears the flowgate's name"
    ∷ ascii "loads with losses, or outputs, sum above 2,000,000"
    ∷ ascii "a zone load is below zero"
    ∷ ascii "final load is zero or below"
    ∷ ascii "a zone generation is below zero"
    ∷ ascii "net generation is zero"
    ∷ ascii "final generation is below zero"
    ∷ ascii "settlement flow below -10,000,000,000 W or above 10,000,000,000 W"
    ∷ ascii "the output buffer is shorter than the listing"
    ∷ ascii "it has 60 intervals"
    ∷ ascii "its seconds and the interval's sum above 3600"
    ∷ ascii "it is not empty, and the interval has another flowgate name or Monitoring RTO"
    ∷ ascii "the buffer is shorter than the sheet"
    ∷ ascii "a path or a circulation is there, but fewer than four paths or no circulation"
    ∷ []

unfoldable pub meaning : ℕ → List ℕ
meaning refusal = get_or meanings refusal []

-- kinds 1 to 8; any other is unknown
abbrev pub kind_words : List (List ℕ)
kind_words =
    ascii "unknown"
    ∷ ascii "head"
    ∷ ascii "zone"
    ∷ ascii "unit"
    ∷ ascii "scheduling point"
    ∷ ascii "PAR"
    ∷ ascii "factor"
    ∷ ascii "path"
    ∷ ascii "circulation"
    ∷ []

unfoldable pub kind_word : ℕ → List ℕ
kind_word kind = get_or kind_words kind (ascii "unknown")
