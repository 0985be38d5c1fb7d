-- The pass over the list: what it knows at a record, and what the conditions that it tests there say of the list.
use Prim.Native.Nat.{ℕ, ◌+◌, ◌*◌, ◌-◌, ◌≤◌, ◌<◌}
use mathlib.Core.Path.{◌≡◌, refl, sym, ◌∙◌}
use mathlib.Core.Bool.{Bool, true, false, not, ◌||◌}
use mathlib.Core.List.{List}
use native.Mathlib.Omega.{arith}
use lib.Dec.{eqb}
use lib.ListN.{length, drop, get_or, length-drop}
use Rattle.std.specs.Int.{div_ceil}
use Rattle.std.proofs.lemmas.Grind.{div_ceil_times}
use Rattle.rows.specs.Rows.{beyond}
use Rattle.names.specs.Names.{bad_name, name_at, seen_before}
use Rattle.name_index.specs.inner.Index.{Indexed}
use Rattle.entitlements.specs.Entitlements.{body_length, record_length, most_records, most_value, entry_kind, entry_of, record_fault, any_fault, row14}
use Rattle.entitlements.specs.inner.Steps.{run_of, first_names}
use Rattle.entitlements.proofs.RecordFault.{fault_cut, fault_full, fault_twice, fault_new}
use Rattle.entitlements.proofs.ByRecord.{first_count, first_next, fault_here, fault_on, fault_end}

-- the pass has come to record n: those before it pass, and the table holds their names
pub record Reached (mask size : ℕ) (s : List ℕ) (n : ℕ) (table : List ℕ) : Type 0 where
  pub left : any_fault (first_names s n) 0 (drop (record_length * n) s) ≡ row14 s
  pub long : length table ≡ size
  pub held : Indexed s (run_of mask n) table

module _ {mask size : ℕ} {s : List ℕ} {n : ℕ} {table : List ℕ} (r : Reached mask size s n table) where
  -- no record is left
  pub all_pass : div_ceil (length s) record_length ≤ n → row14 s ≡ false
  all_pass h =
      let b = div_ceil_times (length s) record_length (omega arith) in
      sym r.left ∙ fault_end (first_names s n) s (record_length * n) (omega arith)

  module _ (h : n < div_ceil (length s) record_length) where
    pub begins : record_length * n < length s
    begins = let b = div_ceil_times (length s) record_length (omega arith) in omega arith

    refused : record_fault (first_names s n) (get_or s (record_length * n) 0) (drop (record_length * n + 1) s) ≡ true → row14 s ≡ true
    refused e = sym r.left ∙ fault_here s (record_length * n) begins (first_names s n) e

    pub cut_refused : length s - (record_length * n + 1) < body_length → row14 s ≡ true
    cut_refused l = refused (fault_cut _ _ _ (rw (length-drop (record_length * n + 1) s) l))

    pub late_refused : most_records ≤ n → row14 s ≡ true
    late_refused l = refused (fault_full _ _ _ (rw (first_count s n) l))

    pub repeated_refused : seen_before (first_names s n) (name_at s (record_length * n + 1)) ≡ true → row14 s ≡ true
    unfolding entry_of
    repeated_refused e = refused (fault_twice _ _ _ e)

    -- kind, name and value are left to test
    module _ (whole : body_length ≤ length s - (record_length * n + 1)) (few : n < most_records) (new : seen_before (first_names s n) (name_at s (record_length * n + 1)) ≡ false) where
      module _ {b : Bool} (t : b ≡ (bad_name (entry_of (drop (record_length * n + 1) s)).name || beyond most_value (entry_of (drop (record_length * n + 1) s)).value)) where
        fault_is : record_fault (first_names s n) (get_or s (record_length * n) 0) (drop (record_length * n + 1) s) ≡ (not (eqb (get_or s (record_length * n) 0) entry_kind) || b)
        unfolding entry_of
        fault_is = fault_new _ _ _ (rw (length-drop (record_length * n + 1) s) whole) (rw (first_count s n) few) new t

        pub unfit_refused : (not (eqb (get_or s (record_length * n) 0) entry_kind) || b) ≡ true → row14 s ≡ true
        unfit_refused e = refused (fault_is ∙ e)

        pub fit_passes : (not (eqb (get_or s (record_length * n) 0) entry_kind) || b) ≡ false → any_fault (first_names s (n + 1)) 0 (drop (record_length * (n + 1)) s) ≡ row14 s
        fit_passes e =
            let q : record_length * n + record_length ≡ record_length * (n + 1) = omega arith in
            rw (first_next s (record_length * n) n refl, ← q) (sym (fault_on s (record_length * n) begins (first_names s n) (fault_is ∙ e)) ∙ r.left)
