-- `put_hexadecimal` writes the digits byte by byte.
use mathlib.Core.List.{append-nil, append_assoc}
use mathlib.Core.Path.{refl, sym}
use native.Mathlib.Omega.{arith}
use borrow.Author.Rules.{rules}
use lib.ListN.{length-append}
use lib.Seq.{length-take-le}
use Rattle.writers.specs.Text.{hexadecimal}
use Rattle.writers.proofs.Names.{hexadecimal_more, hexadecimal_length}
use Rattle.writers.proofs.Text.put_hexadecimal.Goals as goal

pub loop-b-init : goal.loop-b-init
unfolding hexadecimal
loop-b-init g c = sym (append-nil _)

pub put_bytes-requires : goal.put_bytes-requires
put_bytes-requires g c =
    let t = length-take-le c.loop-b.b-index c.args.bytes.now (omega arith) in
    (search rules, rw (c.loop-b.invariant, length-append, hexadecimal_length) (omega arith))

pub loop-b-preserved : goal.loop-b-preserved
loop-b-preserved g c =
    let m = hexadecimal_more c.args.bytes.now c.loop-b.b-index c.loop-b-test.true in
    rw (m, c.put_bytes.ensures, c.digit.ensures, c.digit-in-loop-b.ensures, c.loop-b.invariant, append_assoc) refl

pub returns-clause-room : goal.returns-clause-room
returns-clause-room g c =
    let t = length-take-le c.loop-b.b-index c.args.bytes.now c.loop-b.auto.b-index-end in
    rw (c.loop-b.invariant, length-append, hexadecimal_length) (omega arith)
