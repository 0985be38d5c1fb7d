-- The first i records of a list stand in the array.
use Rattle.std.proofs.Common.{◌≡◌, ℕ, ◌<◌, List, length, take, get_or}
use Rattle.drafts.specs.Draft.{cells}
use Rattle.sheet_drafts.proofs.cells_of.Given as goal

abbrev pub invariant-loop-i : goal.invariant-loop-i
invariant-loop-i g l =
    (records : List g.row.R.Denot) → l.n ≡ length records → ((i : ℕ) (r : g.row.R.Denot) → i < l.n → goal.F-post g l.read i r → r ≡ get_or records i l.fn.none)
    → l.cells ≡ cells g.row.N l.fn.none (take l.i records)
