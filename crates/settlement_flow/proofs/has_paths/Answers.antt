-- `has_paths` meets its contract.
use borrow.Author.Rules.{rules}
use Rattle.settlement_flow.proofs.Paths.{paths_are}
use Rattle.settlement_flow.proofs.has_paths.Goals as goal

pub returns : goal.returns
returns c = rw (paths_are _ _ c.args.sheet.now.accepted) (search rules)
