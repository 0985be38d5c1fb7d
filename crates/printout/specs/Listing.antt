-- What is printed of a statement (document 01, 'The printed statement').
use Rattle.std.specs.Prelude.{cond, List, [], ◌∷◌, ℕ, eqb, pos}
use Rattle.statement.specs.declared.Statement.{Statement}
use Rattle.writers.specs.Text.{ascii}
use Rattle.printout.specs.Lines.{joined, line, flowgate_line, gtl_line, flow_lines, settled_lines, payment_lines}

-- the twelve lines of an accepted statement, thirteen where the sheet has paths
unfoldable pub listing : Statement → List ℕ
listing s =
    joined (
    flowgate_line s.name
    ∷ gtl_line s.gtl s.first_remainder s.second_remainder
    ∷ flow_lines s.parallel s.shadow s.common s.noncommon s.market
    ∷ settled_lines s.has_paths s.settled
    ∷ payment_lines s.entitlement s.price s.amount s.nyiso s.pjm
    ∷ []
    )

-- the one line of a refusal
unfoldable pub refusal_line : ℕ → List ℕ
refusal_line n = line (ascii "refused ") (pos n)

-- what the program prints of a statement: the listing of an accepted one, the one line of a refused one
unfoldable pub shown : Statement → List ℕ
shown s = cond (eqb s.refusal 0) (listing s) (refusal_line s.refusal)
