-- `put_flows` meets its contract.
use Rattle.writers.proofs.Writing.{next, renamed}
use Rattle.section_writers.proofs.Mapped.{all_given, each_given}
use Rattle.section_writers.proofs.put_flows.Goals as goal

pub returns-clause-wrote : goal.returns-clause-wrote
returns-clause-wrote c =
    let points = renamed (all_given c.args.points.now) c.put_all-n.ensures.wrote in
    next (next points c.put_all-n-2.ensures.wrote) c.put_all-n-3.ensures.wrote

pub returns-clause-each : goal.returns-clause-each
returns-clause-each c = (each_given c.args.points.now c.put_all-n.ensures.each, c.put_all-n-2.ensures.each, c.put_all-n-3.ensures.each)
