-- `path_term` meets its contract.
use Rattle.settlement_flow.proofs.Terms.{less, weighted, tenfold}
use Rattle.settlement_flow.proofs.path_term.Goals as goal

pub overflow_sub-result : goal.overflow_sub-result
overflow_sub-result c = (less _ _ c.args.sheet.now.accepted _ c.requires.0 _ c.path_at-p.ensures _ c.requires.1 _ c.from.ensures).fits

pub overflow_mul-result-2 : goal.overflow_mul-result-2
overflow_mul-result-2 c = (weighted _ _ c.args.sheet.now.accepted _ c.requires.0 _ c.path_at-p.ensures _ c.requires.1 _ c.from.ensures _ c.from-2.ensures).fits

pub overflow_mul-result-3 : goal.overflow_mul-result-3
overflow_mul-result-3 c = (tenfold _ _ c.args.sheet.now.accepted _ c.requires.0 _ c.path_at-p.ensures _ c.requires.1 _ c.from.ensures _ c.from-2.ensures).fits

pub returns : goal.returns
returns c = (tenfold _ _ c.args.sheet.now.accepted _ c.requires.0 _ c.path_at-p.ensures _ c.requires.1 _ c.from.ensures _ c.from-2.ensures).num.is
