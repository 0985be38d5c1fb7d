-- What rows 2 to 5 leave of a record.
use Prim.Native.Nat.{ℕ, ◌≤◌, ◌<◌}
use mathlib.Core.Path.{◌≡◌, refl}
use mathlib.Core.Bool.{Bool, true, false, ◌&&◌, cond}
use lib.Dec.{eqb, leb, ltb}
use borrow.Author.Tests.{le-ltb, ltb-false, leb-false, eq-eqb}
use Rattle.rows.specs.Rows.{row, cut_short}
use Rattle.rows.proofs.NotMet.{row_pass, neither, within}
use Rattle.record_table.specs.Table.{last_kind, body_length}
use Rattle.record_rows.specs.Rows.{unknown_kind, out_of_order, one_too_many, front_row}

pub record Fronted (last kind earlier left : ℕ) : Type 0 where
  pub low : 1 ≤ kind
  pub high : kind ≤ last_kind
  pub fits : body_length kind ≤ left
  pub order : last ≤ kind
  pub head : kind ≡ 1 → earlier < 1
  pub room : one_too_many kind earlier ≡ false

module _ (last kind earlier left below : ℕ) where
  pub front_pass : front_row last kind earlier left below ≡ 0 → Fronted last kind earlier left × (below ≡ 0)
  unfolding front_row
  front_pass e =
      let a = row_pass 1 (unknown_kind kind) _ e in
      let b = row_pass 2 (cut_short (body_length kind) left) _ a.1 in
      let c = row_pass 3 (out_of_order last kind earlier) _ b.1 in
      let d = row_pass 4 (one_too_many kind earlier) below c.1 in
      let k = within 1 kind last_kind a.0 in
      let o = neither (ltb kind last) (eqb kind 1 && leb 1 earlier) c.0 in (
        record {
          low = k.0;
          high = k.1;
          fits = ltb-false _ _ b.0;
          order = ltb-false _ _ o.0;
          head = λ q. leb-false _ _ (rw (eq-eqb kind 1 q) at o.1);
          room = d.0;
        },
        d.1,
      )

  -- where none of rows 2 to 5 fits the rows below decide
  pub front_split : front_row last kind earlier left below ≡ cond (eqb (front_row last kind earlier left 0) 0) below (front_row last kind earlier left 0)
  unfolding front_row
  front_split = pick (unknown_kind kind) (cut_short (body_length kind) left) (out_of_order last kind earlier) (one_too_many kind earlier)
    where
      pick : (a b c d : Bool) → row 2 a (row 3 b (row 4 c (row 5 d below))) ≡ cond (eqb (row 2 a (row 3 b (row 4 c (row 5 d 0)))) 0) below (row 2 a (row 3 b (row 4 c (row 5 d 0))))
      pick true b c d = refl
      pick false true c d = refl
      pick false false true d = refl
      pick false false false true = refl
      pick false false false false = refl

-- of rows 2 to 5 only row 3 fits a factor that no later kind stands before
pub front_factor : (last earlier left below : ℕ) → last ≤ 6 → front_row last 6 earlier left below ≡ row 3 (cut_short (body_length 6) left) below
unfolding front_row
front_factor last earlier left below h = rw (le-ltb 6 last h)
