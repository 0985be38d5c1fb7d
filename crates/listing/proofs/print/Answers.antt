-- `print` ends in one of three ways.
use Rattle.listing.proofs.Printing.{refused_before, too_short, fits}
use Rattle.listing.proofs.print.Goals as goal

pub returns-then-s-ne0 : goal.returns-then-s-ne0
returns-then-s-ne0 c =
    let e = refused_before c.args.s c.args.out.now c.if-s-ne0.true in
    record { value = e.0; out_after = e.1.0; prefix_len = e.1.1 }

pub returns-then-out-bytes : goal.returns-then-out-bytes
returns-then-out-bytes c =
    let short = rw (c.as_slice-bytes.ensures.value, c.put_listing.ensures) at c.if-out-bytes.true in
    let e = too_short c.args.s c.args.out.now c.if-s-ne0.false short in
    record { value = rw (c.refused.ensures, c.number.ensures) e.0; out_after = e.1.0; prefix_len = e.1.1 }

pub returns : goal.returns
returns c =
    let room = rw (c.as_slice-bytes.ensures.value, c.put_listing.ensures) at c.if-out-bytes.false in
    let w = rw (c.as_slice-bytes.ensures.value, c.put_listing.ensures) at c.put.ensures in
    let e = fits c.args.s c.args.out.now c.if-s-ne0.false room w in
    record { value = e.0; out_after = e.1.0; prefix_len = e.1.1 }
