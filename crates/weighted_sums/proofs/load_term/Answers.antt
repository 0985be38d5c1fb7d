-- `load_term` meets its contract.
use Prim.Native.Nat.{◌<◌}
use native.Mathlib.Omega.{arith}
use borrow.Author.Rules.{rules}
use lib.Dec.{lit<}
use Rattle.integers.proofs.Machine.{num_is}
use Rattle.sheet.proofs.Accepted.{valid, counts}
use Rattle.weighted_sums.proofs.Laws.{zone_asked, load_read, load_most, load_term_is}
use Rattle.weighted_sums.proofs.load_term.Goals as goal
use Rattle.weighted_sums.proofs.load_term.Goals.{Start}

few : (s : Start) → s.args.z < 32
few s = omega (arith, s.requires.2, (counts _ _ s.args.sheet.now.accepted).zones, (valid _ _ s.args.sheet.now.accepted).zones_most)

pub offset_bounds-zone_loads-z : goal.offset_bounds-zone_loads-z
offset_bounds-zone_loads-z c = omega (arith, few c)

pub bounds-zone_loads-z : goal.bounds-zone_loads-z
bounds-zone_loads-z c = few c

pub weigh-requires : goal.weigh-requires
weigh-requires c =
    let a = c.args.sheet.now.accepted in
    let n = num_is _ _ 10400000 (load_read _ _ a c.requires.0 c.args.z c.requires.2) (load_most _ _ a c.args.z c.requires.2) (lit< tt) in
    (zone_asked _ _ a c.requires.1 _ c.requires.2, rw n.is n.abs)

pub returns : goal.returns
returns c =
    let e = rw (load_term_is _ _ c.args.sheet.now.accepted c.requires.0 c.args.target c.args.z c.requires.2) at c.weigh.ensures in
    search (rules, e)
