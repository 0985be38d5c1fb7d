-- `put_listing` puts the parts one behind the other.
use mathlib.Core.List.{append-nil, append_assoc}
use borrow.Author.Rules.{rules}
use mir.Syntax.{w64}
use mir.Val.{SFits}
use Rattle.printout.specs.Lines.{joined}
use Rattle.printout.specs.Listing.{listing}
use Rattle.lines.proofs.Numbers.{gtl_read_back}
use Rattle.listing.proofs.put_listing.Goals as goal

pub returns : goal.returns
unfolding joined listing
returns c =
    let s = c.args.s.now in
    let a : SFits w64 s.gtl = search rules in
    let b : SFits w64 s.first_remainder = search rules in
    let d : SFits w64 s.second_remainder = search rules in
    rw (c.put_payment.ensures.written, c.put_settled.ensures.written, c.put_flows.ensures.written, c.put_gtl.ensures.written, c.put_flowgate.ensures.written, c.requires, gtl_read_back a b d) (simp (append_assoc, append-nil))
