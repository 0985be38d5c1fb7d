-- `market_flow` meets its contract.
use Prim.Native.Nat.{◌+◌}
use lib.IntN.{◌+ℤ◌, ◌-ℤ◌}
use lib.Dec.{lit<}
use Rattle.integers.proofs.Machine.{Op, rd, num, add, sub}
use Rattle.figures.specs.inner.Most.{most_generation_to_load, most_schedule, most_on_par, most_redirect, most_market}
use Rattle.market_flow.proofs.market_flow.Goals as goal
use Rattle.market_flow.proofs.market_flow.Goals.{Start}

-- the sums and differences, one by one
two : (c : Start) → let a = c.args in Op (rd a.gtl +ℤ rd a.parallel) (a.gtl +ℤ a.parallel) most_on_par
two c = add (num c.args.gtl most_generation_to_load c.requires.0 (lit< tt)) (num c.args.parallel most_schedule c.requires.1 (lit< tt)) (lit< tt)

three : (c : Start) → let a = c.args in Op (rd (rd a.gtl +ℤ rd a.parallel) +ℤ rd a.shadow) (a.gtl +ℤ a.parallel +ℤ a.shadow) (most_on_par + most_schedule)
three c = add (two c).num (num c.args.shadow most_schedule c.requires.2 (lit< tt)) (lit< tt)

four : (c : Start) →
    let a = c.args in
    Op (rd (rd (rd a.gtl +ℤ rd a.parallel) +ℤ rd a.shadow) -ℤ rd a.common) (a.gtl +ℤ a.parallel +ℤ a.shadow -ℤ a.common) (most_on_par + most_schedule + most_redirect)
four c = sub (three c).num (num c.args.common most_redirect c.requires.3 (lit< tt)) (lit< tt)

five : (c : Start) →
    let a = c.args in
    Op (rd (rd (rd (rd a.gtl +ℤ rd a.parallel) +ℤ rd a.shadow) -ℤ rd a.common) -ℤ rd a.noncommon) (a.gtl +ℤ a.parallel +ℤ a.shadow -ℤ a.common -ℤ a.noncommon) most_market
five c = sub (four c).num (num c.args.noncommon most_redirect c.requires.4 (lit< tt)) (lit< tt)

pub overflow_sub-result-2 : goal.overflow_sub-result-2
overflow_sub-result-2 c = (five c).fits

pub returns : goal.returns
returns c = (five c).num.is
