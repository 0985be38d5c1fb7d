-- Row 14 on one record: what it leaves of a record that passes, and the conditions as the code tests them.
use Prim.Native.Nat.{ℕ, ◌≤◌, ◌<◌}
use mathlib.Core.Path.{◌≡◌, refl}
use mathlib.Core.Bool.{Bool, true, false, not, ◌||◌, or_assoc, or-false, or-true}
use mathlib.Core.List.{List}
use native.Mathlib.Omega.{arith}
use borrow.Author.Tests.{eq-eqb, eqb-true, le-leb, le-ltb, leb-false, lt-leb, lt-ltb, ltb-false, not-false}
use lib.Dec.{eqb}
use lib.IntN.{nat_abs}
use lib.ListN.{length}
use lib.Seq.{length-take-le}
use Rattle.names.specs.Names.{bad_name, name_ok, seen_before}
use Rattle.rows.specs.Rows.{beyond}
use Rattle.rows.proofs.NotMet.{neither}
use Rattle.entitlements.specs.Entitlements.{Entry, entry_kind, body_length, most_records, most_value, entry_of, record_fault}

-- an entry that passes behind the entries es
pub record Kept (es : List (List ℕ)) (e : Entry) : Type 0 where
  pub sized : length e.name ≡ 16
  pub named : name_ok e.name ≡ true
  pub range : nat_abs e.value ≤ most_value
  pub new : seen_before es e.name ≡ false
  pub room : length es < most_records

-- a record that passes, of kind k with r behind its kind byte
pub record Passes (es : List (List ℕ)) (k : ℕ) (r : List ℕ) : Type 0 where
  pub whole : body_length ≤ length r
  pub kind : k ≡ entry_kind
  pub kept : Kept es (entry_of r)

-- by a test
pub either : {P : Type 0} (t : Bool) → (t ≡ true → P) → (t ≡ false → P) → P
either true p q = p refl
either false p q = q refl

module _ (es : List (List ℕ)) (k : ℕ) (r : List ℕ) where
  name_sized : body_length ≤ length r → length (entry_of r).name ≡ 16
  unfolding entry_of
  name_sized h = length-take-le 16 r (omega arith)

  pub passes : record_fault es k r ≡ false → Passes es k r
  unfolding record_fault
  passes e =
      let a = neither _ _ e in
      let b = neither _ _ a.0 in
      let c = neither _ _ b.0 in
      let d = neither _ _ c.0 in
      let f = neither _ _ d.0 in
      let w : body_length ≤ length r = ltb-false _ _ f.0 in
      record {
        whole = w;
        kind = eqb-true _ _ (not-false _ f.1);
        kept = record { sized = name_sized w; named = not-false _ d.1; range = ltb-false _ _ c.1; new = b.1; room = leb-false _ _ a.1 };
      }

  pub no_fault : Passes es k r → record_fault es k r ≡ false
  unfolding record_fault
  no_fault p =
      let q = p.kept in
      rw (le-ltb (length r) body_length p.whole, eq-eqb k entry_kind p.kind, q.named, le-ltb most_value _ q.range, q.new, lt-leb most_records (length es) q.room)

  pub fault_cut : length r < body_length → record_fault es k r ≡ true
  unfolding record_fault
  fault_cut h = rw (lt-ltb _ _ h)

  pub fault_full : most_records ≤ length es → record_fault es k r ≡ true
  unfolding record_fault
  fault_full h = rw (le-leb most_records (length es) h, or-true)

  pub fault_twice : seen_before es (entry_of r).name ≡ true → record_fault es k r ≡ true
  unfolding record_fault
  fault_twice e = rw (e, or-true)

  -- of a whole record with a new name, where there is room for it, kind, name and value are left to test; b tests the last two together
  pub fault_new : {b : Bool} → body_length ≤ length r → length es < most_records → seen_before es (entry_of r).name ≡ false →
      b ≡ (bad_name (entry_of r).name || beyond most_value (entry_of r).value) → record_fault es k r ≡ (not (eqb k entry_kind) || b)
  unfolding record_fault
  fault_new h g e t =
      rw (le-ltb (length r) body_length h, lt-leb most_records (length es) g, e, or-false, or-false, t) (or_assoc (not (eqb k entry_kind)) (bad_name (entry_of r).name) (beyond most_value (entry_of r).value))
