-- `cells_of` meets its contract.
use native.Mathlib.Numerals.{unary_clauses}
use native.Mathlib.Omega.{arith}
use Rattle.sheet_drafts.proofs.Cells.{more, whole}
use Rattle.sheet_drafts.proofs.cells_of.Goals as goal

pub loop-i-init : goal.loop-i-init
loop-i-init g c = λ records all gives. simp unary_clauses

pub loop-i-preserved : goal.loop-i-preserved
loop-i-preserved g c =
    let i = c.loop-i in
    λ records all gives.
    more g.row.N c.args.none records (i.invariant records all gives) (omega (arith, all, c.loop-i-test.true)) (omega (arith, all, c.requires.room)) (gives i.i c.read.result c.loop-i-test.true c.read.ensures)

pub returns : goal.returns
returns g c = λ records all gives. whole g.row.N c.args.none records (c.loop-i.invariant records all gives) (omega (arith, all))
