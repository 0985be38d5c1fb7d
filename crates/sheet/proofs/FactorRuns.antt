-- Good factors that are due one behind the other all pass.
use Prim.Native.Nat.{ℕ, zero, suc, ◌+◌, ◌*◌, ◌-◌, ◌≤◌, ◌<◌}
use mathlib.Core.Path.{◌≡◌, ◌∙◌}
use mathlib.Core.List.{List}
use native.Mathlib.Nat.{add-zero}
use native.Mathlib.Omega.{arith}
use lib.ListN.{length, drop, get_or, length-drop}
use lib.Seq.{get_or-take, get_or-drop}
use borrow.Author.Tests.{eq-eqb, le-ltb, lt-leb}
use Rattle.fields.specs.Fields.{byte_at, be16, sbe16}
use Rattle.record_table.specs.Table.{body_in}
use Rattle.records.specs.Bodies.{factor_of}
use Rattle.records.specs.Content.{count_of, bears}
use Rattle.due_factors.specs.declared.Due.{Due}
use Rattle.due_factors.specs.Due.{no_due}
use Rattle.due_factors.specs.inner.Places.{more_of_run}
use Rattle.due_factors.proofs.Runs.{RunDue}
use Rattle.record_rows.specs.Rows.{factor_row, record_row, body_row}
use Rattle.record_rows.proofs.FrontRows.{front_factor}
use Rattle.layout.specs.declared.Layout.{Layout}
use Rattle.layout.specs.inner.Places.{counts_in, counted, first_of, content_at, due_of}
use Rattle.layout.specs.inner.Listed.{Listed}
use Rattle.layout.proofs.Contents.{count_at, counts_at}
use Rattle.sheet.specs.Passed.{Passed, more}
use Rattle.sheet.specs.inner.GoodFactors.{key_of, Good, with_factors}
use Rattle.sheet.proofs.Passing.{at_next}

-- a key's parts
key_parts : (a b x t j i : ℕ) → b < 256 → x < 65536 → j < 256 → i < 65536 → (a * 256 + b) * 65536 + x ≡ t * 16777216 + j * 65536 + i → (a ≡ t) × (b ≡ j) × (x ≡ i)
key_parts a b x t j i hb hx hj hi e = (omega arith, omega arith, omega arith)

counted_factor : (l : Layout) → counted l 6 ≡ with_factors l 1
unfolding counted
counted_factor l = rw (add-zero l.heads, add-zero l.zones, add-zero l.units, add-zero l.points, add-zero l.pars, add-zero l.paths, add-zero l.circulations)

-- factors have no names: the index of names stays
pub listed_factors : (s : List ℕ) (l : Layout) (n : ℕ) (table : List ℕ) → Listed s l 6 table → Listed s (with_factors l n) 6 table
unfolding first_of
listed_factors s l n table x = record { full = x.full; holds = x.holds }

module _ (s : List ℕ) where
  -- the fields where they stand in the sheet
  body_byte : (at i : ℕ) → i < 6 → byte_at (body_in 6 (drop (at + 1) s)) i ≡ byte_at s (at + 1 + i)
  body_byte at i h = get_or-take 6 (drop (at + 1) s) i 0 h ∙ get_or-drop (at + 1) s i 0

  factor_there : (at : ℕ) → factor_of (body_in 6 (drop (at + 1) s)) ≡ record { target = byte_at s (at + 1); subject = byte_at s (at + 1 + 1); index = be16 s (at + 1 + 2); factor = sbe16 s (at + 5) }
  unfolding factor_of
  factor_there at =
      let a : at + 1 + 0 ≡ at + 1 = omega arith in
      let e : at + 1 + 2 + 1 ≡ at + 1 + 3 = omega arith in
      let f : at + 5 ≡ at + 1 + 4 = omega arith in
      let g : at + 1 + 4 + 1 ≡ at + 1 + 5 = omega arith in
      rw (f, e, g, body_byte at 0 (omega arith), body_byte at 1 (omega arith), body_byte at 2 (omega arith), body_byte at 3 (omega arith), body_byte at 4 (omega arith), body_byte at 5 (omega arith), a)

  module _ (at : ℕ) (l : Layout) (d : Due) (due : get_or (due_of l) l.factors no_due ≡ d) (below : l.factors < length (due_of l)) (small : d.subject ≤ 4) (few : d.index ≤ 256) (good : Good s at (key_of d)) where
    good-row : record_row (content_at s l) 6 (byte_at s at) (drop (at + 1) s) ≡ 0
    unfolding record_row body_row factor_row bears
    good-row =
        let b = good.bytes in
        let k = key_parts (byte_at s (at + 1)) (byte_at s (at + 1 + 1)) (be16 s (at + 1 + 2)) d.target d.subject d.index (b _) (omega (arith, b (at + 1 + 2), b (at + 1 + 2 + 1))) (omega arith) (omega arith) good.bears in
        let w : 6 ≤ length s - (at + 1) = omega (arith, good.whole) in
        rw (
          good.kind,
          front_factor 6 (count_of (content_at s l) 6) (length (drop (at + 1) s)) _ (omega arith),
          counts_at s l,
          count_at s l 6,
          length-drop (at + 1) s,
          le-ltb _ _ w,
          lt-leb _ _ below,
          factor_there at,
          due,
          good.range,
          eq-eqb _ _ k.0,
          eq-eqb _ _ k.1,
          eq-eqb _ _ k.2,
        )

    -- and the records behind it go on
    pub good-passed : Passed s at 6 (content_at s l) → Passed s (at + 7) 6 (content_at s (with_factors l 1))
    good-passed p =
        let h : at < length s = omega (arith, good.whole) in
        let e : at + 1 + 6 ≡ at + 7 = omega arith in
        rw (at_next s at 6 l p h good-row, good.kind, counted_factor l, e) at (more p h good-row)

  module _ (at : ℕ) (l : Layout) (p : Passed s at 6 (content_at s l)) (run : RunDue (counts_in l) l.factors (get_or (due_of l) l.factors no_due)) where
    abbrev d : Due
    d = get_or (due_of l) l.factors no_due

    -- the first r of a run
    pub run-passed : (r : ℕ) → r ≤ more_of_run (counts_in l) l.factors → ((k : ℕ) → k < r → Good s (at + 7 * k) (key_of d + k)) → Passed s (at + 7 * r) 6 (content_at s (with_factors l r))
    run-passed zero h g = let e : at + 7 * 0 ≡ at = omega arith in rw (e, add-zero l.factors) p
    run-passed (suc r) h g =
        let i = run-passed r (omega arith) (λ k q. g k (omega arith)) in
        let b : l.factors + r < length (due_of l) = omega (arith, run.below) in
        let e : at + 7 * suc r ≡ at + 7 * r + 7 = omega arith in
        let n : l.factors + suc r ≡ l.factors + r + 1 = omega arith in
        let k : key_of d + r ≡ d.target * 16777216 + d.subject * 65536 + (d.index + r) = omega arith in
        rw (e, n)
        (good-passed (at + 7 * r) (with_factors l r) (record { target = d.target; subject = d.subject; index = d.index + r }) (run.is r (omega arith)) b run.subject (omega (arith, run.few)) (rw k at (g r (omega arith))) i)
