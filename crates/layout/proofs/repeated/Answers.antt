-- `repeated` meets its contract: the names at the places are the content's.
use Prim.Native.Nat.{◌-◌, ◌+◌, ◌*◌}
use mathlib.Core.Path.{◌≡◌, ◌∙◌}
use native.Mathlib.Omega.{arith}
use borrow.Author.Rules.{rules}
use Rattle.record_table.specs.inner.Kinds.{code}
use Rattle.record_table.proofs.ByKind.{code_least, code_most}
use Rattle.layout.specs.inner.Places.{first_of}
use Rattle.layout.proofs.Names.{repeated_at}
use Rattle.layout.proofs.Listed.{listed_next}
use Rattle.layout.proofs.repeated.Goals as goal

pub returns : goal.returns
returns c =
    let a = c.args in
    let kind = code a.kind in
    let least = code_least a.kind in
    let most = code_most a.kind in
    let n = c.count-count.ensures in
    let m = c.size_of-stride.ensures.0 in
    let begins : a.at - c.size_of-stride.result * c.count-count.result + 1 ≡ first_of a.l kind + 1 = rw (m, n) (omega (arith, c.requires.1)) in
    let e = rw (begins, m, n, c.named_of.ensures.0) at c.seen_before.ensures in
    let k = c.requires.0 in
    let t = c.requires.4 in (
      e.0 ∙ repeated_at a.s.now a.l kind (a.at + 1) least most k,
      listed_next a.s.now a.l kind _ least most a.table.now k t (omega (arith, c.named_of.ensures)) (rw k e.1) (search (rules, t.full)),
      rw k e.1,
    )
