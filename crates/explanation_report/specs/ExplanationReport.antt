-- What the program `explain` prints (document 02, request 7), in the words of the printed statement.
use Rattle.std.specs.Prelude.{ℕ, cond, List, [], ◌∷◌, ◌++◌, eqb, pos}
use Rattle.writers.specs.Text.{ascii}
use Rattle.printout.specs.Lines.{joined, line}
use Rattle.printout.specs.Listing.{refusal_line}
use Rattle.meanings.specs.Meanings.{meaning}
use Rattle.record_numbers.specs.RecordNumbers.{record_number}
use Rattle.record_lines.specs.RecordLines.{text_line, record_lines}
use Rattle.explanation.specs.Explanation.{Reason, None, Above, Below, At, Finding, part_of, explained}

unfoldable pub side_word : Reason → List ℕ
side_word None = []
side_word Above = ascii "above"
side_word Below = ascii "below"
side_word At = ascii "at"

-- of an accepted interval the reason for the price
unfoldable pub accepted_lines : Reason → List ℕ
accepted_lines reason = ascii "accepted\nreason the flow paid on is " ++ (side_word reason ++ ascii " the entitlement\n")

-- a refusal's number and meaning, where its part begins and ends
unfoldable pub front_lines : ℕ → ℕ → ℕ → List ℕ
front_lines refusal from to =
    joined (refusal_line refusal ∷ text_line (ascii "meaning ") (meaning refusal) ∷ line (ascii "from ") (pos from) ∷ line (ascii "to ") (pos to) ∷ [])

-- behind them the record in the part, if it is not empty
unfoldable pub refused_lines : List ℕ → Finding → List ℕ
refused_lines sheet f = front_lines f.refusal f.from f.to ++ record_lines (record_number sheet f.from) (part_of sheet f)

unfoldable pub explanation_lines : List ℕ → Finding → List ℕ
explanation_lines sheet f = cond (eqb f.refusal 0) (accepted_lines f.reason) (refused_lines sheet f)

-- the program's standard output on the bytes of its two files
unfoldable pub explain_output : List ℕ → List ℕ → List ℕ
explain_output sheet list = explanation_lines sheet (explained sheet list)
