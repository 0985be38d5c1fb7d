-- The definition keeps the promise.
use Prim.Native.Nat.{ℕ, ◌+◌, ◌≤◌, ◌<◌}
use mathlib.Core.Path.{◌≡◌, refl, sym, ap, ◌∙◌}
use mathlib.Core.List.{List}
use mathlib.Core.Logic.{◌⊎◌, inl, inr, ⊎_elim}
use native.Mathlib.Omega.{arith}
use lib.IntN.{ℤ}
use lib.ListN.{length}
use borrow.Author.Tests.{eq-eqb, ne_eqb, lt-ltb}
use Rattle.record_table.specs.inner.Sizes.{most_size}
use Rattle.records.specs.Content.{Content, no_content, head}
use Rattle.record_rows.specs.Rows.{first_row}
use Rattle.sheet.specs.Sheet.{Outcome}
use Rattle.sheet.specs.Sheet.{Accepted, Refused}
use Rattle.sheet.specs.Sheet.{Reading, holds, fails, reading, outcome, read_sheet, content_in, content_of}
use Rattle.sheet.specs.Passed.{none}
use Rattle.sheet.specs.inner.Answers.{row_at, Refuses}
use Rattle.sheet.proofs.Passing.{passed_within}
use Rattle.sheet.proofs.Answers.{kept}
use Rattle.sheet.proofs.Refusal.{refusal, refused_some}
use Rattle.figures.specs.Lake.{settlement_flow}
use Rattle.figures.specs.Payment.{in_watts, difference}
use Rattle.statement.specs.declared.Statement.{Statement}
use Rattle.settlement.specs.Settled.{inputs, figures_at, after_sheet, settled}
use Rattle.settlement.specs.declared.Interval.{Interval}
use Rattle.settlement.proofs.Read as settlement
use Rattle.settlement.proofs.Promised.{accepted_of}
use Rattle.explanation.specs.Explanation.{Finding}
use Rattle.explanation.specs.Explanation.{None}
use Rattle.explanation.specs.Explanation.{side_of, part_end, behind_records, by_reading, explained}
use Rattle.explanation.specs.Promise.{Before, Meets, MeetsFirst, Part, Reasoned, Promise}
use Rattle.explanation.proofs.Parts.{part_within, part_short, first_part, record_part, behind_part}
use Rattle.explanation.proofs.Reasons.{side_prices}
use Rattle.explanation.proofs.Numbers.{sheet_not_23, settled_behind}

-- by the reader's answer
abbrev pub by_outcome : List ℕ → List ℕ → Content → Outcome → Finding
by_outcome sheet list c (Refused number at) = record { refusal = number; from = at; to = part_end sheet number at; reason = None }
by_outcome sheet list c (Accepted l) = behind_records (length sheet) (after_sheet c (inputs sheet list)).statement

pub explained_is : (sheet list : List ℕ) → explained sheet list ≡ by_outcome sheet list (content_of sheet) (read_sheet sheet)
unfolding explained by_reading read_sheet content_of
explained_is sheet list = go (reading sheet)
  where
    go : (r : Reading) → by_reading sheet list r ≡ by_outcome sheet list (content_in r) (outcome r)
    go (holds c) = refl
    go (fails number at) = refl

-- the part is no longer than a record
pub explained_short : (sheet list : List ℕ) → (explained sheet list).to ≤ (explained sheet list).from + most_size
unfolding explained by_reading behind_records
explained_short sheet list = go (reading sheet)
  where
    go : (r : Reading) → (by_reading sheet list r).to ≤ (by_reading sheet list r).from + most_size
    go (holds c) = omega arith
    go (fails number at) = part_short sheet number at

module _ (sheet list : List ℕ) where
  -- what holds of a refusal of the sheet's own
  record Refusing (number at : ℕ) : Type 0 where
    within : at ≤ length sheet
    before : Before sheet at
    meets : at < length sheet → MeetsFirst sheet number at ⊎ Meets sheet number at
    part : Part sheet number at (part_end sheet number at)
    never : number ≡ 23 → ⊥

  refusing : (number at : ℕ) → read_sheet sheet ≡ Refused number at → Refusing number at
  unfolding row_at
  refusing number at e =
      ⊎_elim
      (λ (f : (first_row sheet ≡ 1) × (number ≡ 1) × (at ≡ 0)).
      rw (f.1, f.2)
      (record {
        within = omega arith;
        before = record { last = 0; content = no_content; passed = none };
        meets = λ h. inl (refl, f.0);
        part = first_part sheet;
        never = λ q. omega arith;
      }))
      (λ (r : Refuses sheet number at).
      record {
        within = passed_within sheet r.passed;
        before = record { last = r.last; content = r.content; passed = r.passed };
        meets = λ h. inr (record { last = r.last; content = r.content; passed = r.passed; there = h; row = rw (lt-ltb at (length sheet) h) at r.row });
        part = record_part sheet number at r;
        never = sheet_not_23 sheet number at r;
      })
      (refusal sheet number at e)

  pub place_within : (number at : ℕ) → read_sheet sheet ≡ Refused number at → at ≤ length sheet
  place_within number at e = (refusing number at e).within

  -- an accepted interval
  reasoned : (f : Finding) (s : Statement) → s ≡ settled sheet list → s.refusal ≡ 0 → f ≡ behind_records (length sheet) s → (c : Content) × (e : ℤ) × Reasoned sheet list f c e
  unfolding settled behind_records figures_at difference
  reasoned f s p z q =
      let a = accepted_of (inputs sheet list) (rw p at z) in
      let c = a.0 in
      let e = a.1 in
      let m = a.2 in
      let s-is : s ≡ figures_at c e = p ∙ m.figures in
      let f-is : f.reason ≡ side_of (settlement_flow c (in_watts e)) (in_watts e) = rw (q, eq-eqb _ _ z, s-is) in (
        c,
        e,
        record {
          end = (rw q, rw q);
          read = m.read;
          entitled = m.entitled;
          side = f-is;
          price = rw (m.figures, f-is) (side_prices (head c) (settlement_flow c (in_watts e)) (in_watts e));
        },
      )

  by : (o : Outcome) → read_sheet sheet ≡ o → (f : Finding) → f ≡ explained sheet list → explained sheet list ≡ by_outcome sheet list (content_of sheet) o →
      settled sheet list ≡ (settlement.by_outcome (content_of sheet) (inputs sheet list) o).statement → Promise sheet list f
  unfolding behind_records
  by (Refused number at) e f p x s =
      let m = refusing number at e in
      let w = part_within sheet number at m.within in
      rw (p, x)
      (record {
        is = sym x;
        number = rw s;
        order = w.0;
        within = w.1;
        before = m.before;
        meets = λ h. m.meets (omega (arith, w.1));
        part = λ n. m.part;
        accepted = λ z. absurd (refused_some sheet number at e z);
        refused = λ n. refl;
        never_printed = m.never;
      })
  by (Accepted l) e f p x s =
      let k = kept sheet l e in
      let b = settled_behind (content_of sheet) (inputs sheet list) in
      let r = reasoned f (after_sheet (content_of sheet) (inputs sheet list)).statement (sym s) in
      rw (p, x)
      (record {
        is = sym x;
        number = rw s;
        order = omega arith;
        within = omega arith;
        before = record { last = k.accepts.last; content = content_of sheet; passed = k.accepts.passed };
        meets = λ h. absurd (omega arith);
        part = λ n. let late = b.0 (omega arith) in behind_part sheet (after_sheet (content_of sheet) (inputs sheet list)).statement.refusal (omega arith);
        accepted = λ z. rw (p, x) at (r z (p ∙ x));
        refused = λ n. rw (ne_eqb _ _ n);
        never_printed = λ q. omega (arith, b.1);
      })

  pub promised : (f : Finding) → f ≡ explained sheet list → Promise sheet list f
  unfolding settled
  promised f p = by (read_sheet sheet) refl f p (explained_is sheet list) (ap (λ (i : Interval). i.statement) (settlement.interval_is (inputs sheet list)))
