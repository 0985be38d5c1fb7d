-- The definition keeps the promise: payments add to zero, and an accepted interval is entitled and accurate.
use Prim.Native.Nat.{ℕ}
use mathlib.Core.Path.{◌≡◌, refl, sym, ap, ◌∙◌}
use mathlib.Core.Bool.{Bool, true, false, cond}
use mathlib.Core.List.{List, [], ◌∷◌}
use native.Mathlib.Omega.{arith}
use borrow.Author.Tests.{eqb-true, eqb-false}
use lib.Dec.{eqb}
use lib.IntN.{ℤ, pos, neg_ℤ, ◌+ℤ◌}
use Rattle.integers.proofs.Linear.{zarith}
use Rattle.integers.proofs.Tactic.{zi, zo}
use Rattle.names.specs.Names.{same_list}
use Rattle.layout.specs.Layout.{layout_of}
use Rattle.records.specs.declared.Head.{Head}
use Rattle.records.specs.Codes.{nyiso, pjm}
use Rattle.records.specs.Content.{Content}
use Rattle.record_rows.specs.inner.Valid.{Valid, HeadFits}
use Rattle.sheet.specs.Sheet.{Reading, holds, fails, reading, read_sheet, content_of}
use Rattle.sheet.proofs.Accepted.{valid}
use Rattle.sheet.proofs.Refusal.{refused_some}
use Rattle.entitlements.specs.Entitlements.{Entitlement}
use Rattle.entitlements.specs.Entitlements as found
use Rattle.entitlements.specs.Entitlements.{Entry, row14, entries_of, look_up, entitlement}
use Rattle.figures.specs.Balance.{balance_row}
use Rattle.figures.specs.Flow.{flow_row}
use Rattle.figures.specs.Lake.{settlement_flow}
use Rattle.figures.specs.Payment.{in_watts, amount, payment}
use Rattle.figures.proofs.Payments.{payments_opposite}
use Rattle.accuracy.proofs.Accuracy.{accurate}
use Rattle.statement.specs.declared.Statement.{Statement}
use Rattle.settlement.specs.declared.Interval.{Interval}
use Rattle.settlement.specs.Settled.{Inputs, inputs, figures_at, interval_at, refused_by, unless_met, after_balance, after_list, by_list, flowgate, after_sheet, by_sheet, interval, settled}
use Rattle.settlement.specs.Promise.{Accepted, Promise}

-- the list's refusals have numbers
look_up_some : (es : List Entry) (name : List ℕ) (row : ℕ) → look_up es name ≡ found.Refused row → row ≡ 0 → ⊥
unfolding look_up
look_up_some [] name row e z = let y : ◌≡◌ {A = ℕ} 15 0 = cc in omega arith
look_up_some (x ∷ es) name row e z = go (same_list x.name name) e (λ q. look_up_some es name row q z)
  where
    go : (b : Bool) → cond b (found.Found x.value) (look_up es name) ≡ found.Refused row → (look_up es name ≡ found.Refused row → ⊥) → ⊥
    go true e f = let y : ◌≡◌ {A = ℕ} 0 1 = cc in omega arith
    go false e f = f e

list_some : (s name : List ℕ) (row : ℕ) → entitlement s name ≡ found.Refused row → row ≡ 0 → ⊥
unfolding entitlement
list_some s name row e z = go (row14 s) e
  where
    go : (b : Bool) → cond b (found.Refused 14) (look_up (entries_of s) name) ≡ found.Refused row → ⊥
    go true e = let y : ◌≡◌ {A = ℕ} 14 0 = cc in omega arith
    go false e = look_up_some (entries_of s) name row e z

-- where a stage's answer bears the number 0, it met no row
passed : (row : ℕ) (behind : Interval) → (unless_met row behind).statement.refusal ≡ 0 → (row ≡ 0) × (unless_met row behind ≡ behind)
passed row behind e = go (eqb row 0) refl e
  where
    go : (b : Bool) → eqb row 0 ≡ b → (cond b behind (refused_by row)).statement.refusal ≡ 0 → (row ≡ 0) × (cond b behind (refused_by row) ≡ behind)
    go true p e = (eqb-true _ _ p, refl)
    go false p e = absurd (eqb-false _ _ p e)

opposites : (x : ℤ) → x +ℤ neg_ℤ x ≡ pos 0
opposites x = simp zi (simp zo (omega zarith))

payments_add : {h : Head} → HeadFits h → (a : ℤ) → payment h a nyiso +ℤ payment h a pjm ≡ pos 0
payments_add {h} f a = rw (payments_opposite f a) (opposites (payment h a nyiso))

-- the two payments of a statement add to zero
abbrev Adds : Statement → Type 0
Adds s = s.nyiso +ℤ s.pjm ≡ pos 0

unless_adds : (row : ℕ) (behind : Interval) → Adds behind.statement → Adds (unless_met row behind).statement
unless_adds row behind h = go (eqb row 0)
  where
    go : (b : Bool) → Adds (cond b behind (refused_by row)).statement
    go true = h
    go false = refl

-- what rows 1 to 13 and 28 leave of the content that a sheet holds
pub holds_valid : (sheet : List ℕ) (c : Content) → reading sheet ≡ holds c → Valid c
unfolding read_sheet content_of
holds_valid sheet c p = rw p at (valid sheet (layout_of c) (rw p))

fails_some : (sheet : List ℕ) (number at : ℕ) → reading sheet ≡ fails number at → number ≡ 0 → ⊥
unfolding read_sheet
fails_some sheet number at p = refused_some sheet number at (rw p)

-- an interval that no row refuses
pub record NoRowMet (x : Inputs) (i : Interval) (c : Content) (e : ℤ) : Type 0 where
  pub read : reading x.sheet ≡ holds c
  pub entitled : entitlement x.list (flowgate c) ≡ found.Found e
  pub balanced : balance_row c ≡ 0
  pub inside : flow_row (settlement_flow c (in_watts e)) ≡ 0
  pub is : i ≡ interval_at c e

pub statement_is : {x : Inputs} {i : Interval} {c : Content} {e : ℤ} → NoRowMet x i c e → i.statement ≡ figures_at c e
unfolding interval_at
statement_is m = ap (λ (i : Interval). i.statement) m.is

module _ (x : Inputs) where
  pub adds : Adds (interval x).statement
  unfolding interval by_sheet after_sheet by_list after_list after_balance interval_at figures_at
  adds = by-sheet (reading x.sheet) refl
    where
      by-list : (c : Content) → Valid c → (f : Entitlement) → Adds (by_list c f).statement
      by-list c v (found.Found e) =
          unless_adds (balance_row c) (after_balance c e) (unless_adds (flow_row (settlement_flow c (in_watts e))) (interval_at c e) (payments_add v.head_fits (amount c e)))
      by-list c v (found.Refused row) = refl

      by-sheet : (r : Reading) → reading x.sheet ≡ r → Adds (by_sheet x r).statement
      by-sheet (holds c) p = by-list c (holds_valid x.sheet c p) (entitlement x.list (flowgate c))
      by-sheet (fails number at) p = refl

  module _ (c : Content) (p : reading x.sheet ≡ holds c) where
    by-balance : (e : ℤ) → entitlement x.list (flowgate c) ≡ found.Found e → (after_list c e).statement.refusal ≡ 0 → NoRowMet x (after_list c e) c e
    unfolding after_list after_balance
    by-balance e q z =
        let b = passed (balance_row c) (after_balance c e) z in
        let f = passed (flow_row (settlement_flow c (in_watts e))) (interval_at c e) (ap (λ (i : Interval). i.statement.refusal) (sym b.1) ∙ z) in
        record { read = p; entitled = q; balanced = b.0; inside = f.0; is = b.1 ∙ f.1 }

    by-list : (f : Entitlement) → entitlement x.list (flowgate c) ≡ f → (by_list c f).statement.refusal ≡ 0 → (e : ℤ) × NoRowMet x (by_list c f) c e
    unfolding by_list
    by-list (found.Found e) q z = (e, by-balance e q z)
    by-list (found.Refused row) q z = absurd (list_some x.list (flowgate c) row q z)

  pub no_row_met : (interval x).statement.refusal ≡ 0 → (c : Content) × (e : ℤ) × NoRowMet x (interval x) c e
  unfolding interval by_sheet after_sheet
  no_row_met = by-sheet (reading x.sheet) refl
    where
      by-sheet : (r : Reading) → reading x.sheet ≡ r → (by_sheet x r).statement.refusal ≡ 0 → (c : Content) × (e : ℤ) × NoRowMet x (by_sheet x r) c e
      by-sheet (holds c) p z = let n = by-list c p (entitlement x.list (flowgate c)) refl z in (c, n.0, n.1)
      by-sheet (fails number at) p z = absurd (fails_some x.sheet number at p z)

  pub accepted_of : (interval x).statement.refusal ≡ 0 → (c : Content) × (e : ℤ) × Accepted x.sheet x.list (interval x).statement c e
  accepted_of z =
      let n = no_row_met z in
      let m = n.2 in
      let c = n.0 in
      let e = n.1 in
      (c, e, record { read = m.read; entitled = m.entitled; figures = statement_is m; accurate = accurate c (holds_valid x.sheet c m.read) m.balanced e })

pub promised : (sheet list : List ℕ) (s : Statement) → s ≡ settled sheet list → Promise sheet list s
unfolding settled
promised sheet list s p = rw p (record { settles = refl; add_to_zero = adds (inputs sheet list); accepted = accepted_of (inputs sheet list) })
