-- `m2m_read` meets its contract.
use mathlib.Core.Path.{◌≡◌, sym, ap}
use borrow.Author.Rules.{rules}
use Rattle.exports.specs.Answers.{read_answer}
use Rattle.exports.proofs.m2m_read.Goals as goal

pub returns-in-Err : goal.returns-in-Err
returns-in-Err c = rw c.number.ensures (sym (ap read_answer c.in-Err.ensures))

pub returns-in-Ok : goal.returns-in-Ok
returns-in-Ok c = sym (ap read_answer c.in-Ok.ensures.1)
