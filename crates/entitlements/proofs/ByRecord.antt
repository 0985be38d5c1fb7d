-- The list a record at a time: what the loops over its bytes go by.
use Prim.Native.Nat.{ℕ, zero, suc, ◌+◌, ◌*◌, ◌≤◌, ◌<◌}
use mathlib.Core.Path.{◌≡◌, refl, sym, ap, ◌∙◌}
use mathlib.Core.Bool.{true, false, ◌||◌}
use mathlib.Core.List.{List, [], ◌∷◌}
use native.Mathlib.Nat.{zero-add}
use native.Mathlib.Numerals.{add-one}
use native.Mathlib.Omega.{arith}
use lib.ListN.{length, drop, get_or, drop_of_length-le}
use lib.Seq.{drop-cons, drop-drop}
use Rattle.name_index.specs.inner.Index.{names_at}
use Rattle.names.proofs.SameNames.{same_uneven}
use Rattle.rows.proofs.NotMet.{neither}
use Rattle.entitlements.specs.Entitlements.{Entry, body_length, record_length, entry_of, record_fault, any_fault, row14, entries_from, entries_of, look_up}
use Rattle.entitlements.specs.inner.Steps.{first_names}
use Rattle.entitlements.specs.Entitlements.{Refused}
use Rattle.entitlements.proofs.RecordFault.{Kept, passes}

fault_skip : (es : List (List ℕ)) (n : ℕ) (l : List ℕ) → any_fault es n l ≡ any_fault es 0 (drop n l)
unfolding any_fault
fault_skip es zero l = refl
fault_skip es (suc n) [] = refl
fault_skip es (suc n) (b ∷ l) = fault_skip es n l

entries_skip : (n : ℕ) (l : List ℕ) → entries_from n l ≡ entries_of (drop n l)
unfolding entries_from
entries_skip zero l = refl
entries_skip (suc n) [] = refl
entries_skip (suc n) (b ∷ l) = entries_skip n l

-- the record at a place, and those behind it
module _ (s : List ℕ) (at : ℕ) (h : at < length s) where
  next : suc at + body_length ≡ at + record_length
  next = omega arith

  fault_at : (es : List (List ℕ)) → any_fault es 0 (drop at s) ≡ (record_fault es (get_or s at 0) (drop (at + 1) s) || any_fault ((entry_of (drop (at + 1) s)).name ∷ es) 0 (drop (at + record_length) s))
  unfolding any_fault
  fault_at es = rw (drop-cons s at 0 h, add-one at, fault_skip _ body_length (drop (suc at) s), drop-drop body_length (suc at) s, next)

  pub fault_here : (es : List (List ℕ)) → record_fault es (get_or s at 0) (drop (at + 1) s) ≡ true → any_fault es 0 (drop at s) ≡ true
  fault_here es e = fault_at es ∙ rw e

  pub fault_on : (es : List (List ℕ)) → record_fault es (get_or s at 0) (drop (at + 1) s) ≡ false →
      any_fault es 0 (drop at s) ≡ any_fault ((entry_of (drop (at + 1) s)).name ∷ es) 0 (drop (at + record_length) s)
  fault_on es e = fault_at es ∙ rw e

  -- a list without faults has none here
  pub fault_none : (es : List (List ℕ)) → any_fault es 0 (drop at s) ≡ false → record_fault es (get_or s at 0) (drop (at + 1) s) ≡ false
  fault_none es e = (neither _ _ (sym (fault_at es) ∙ e)).0

  pub entries_at : entries_of (drop at s) ≡ entry_of (drop (at + 1) s) ∷ entries_of (drop (at + record_length) s)
  unfolding entries_from
  entries_at = rw (drop-cons s at 0 h, add-one at, entries_skip body_length (drop (suc at) s), drop-drop body_length (suc at) s, next)

pub fault_end : (es : List (List ℕ)) (s : List ℕ) (at : ℕ) → length s ≤ at → any_fault es 0 (drop at s) ≡ false
unfolding any_fault
fault_end es s at h = rw (drop_of_length-le s {i = at} h)

-- the names of the first records
pub first_count : (s : List ℕ) (n : ℕ) → length (first_names s n) ≡ n
unfolding names_at
first_count s zero = refl
first_count s (suc n) = ap suc (first_count s n)

pub first_next : (s : List ℕ) (at n : ℕ) → at ≡ record_length * n → first_names s (n + 1) ≡ (entry_of (drop (at + 1) s)).name ∷ first_names s n
unfolding names_at entry_of
first_next s at n e =
    let p : 1 + record_length * n ≡ at + 1 = omega arith in
    rw (add-one n, p)

-- the entries fs pass behind others with the names es
pub data Pass : List (List ℕ) → List Entry → Type 0 where
  none : {es : List (List ℕ)} → Pass es []
  one : {es : List (List ℕ)} {fs : List Entry} {e : Entry} → Kept es e → Pass (e.name ∷ es) fs → Pass es (e ∷ fs)

pub pass_from : (es : List (List ℕ)) (skip : ℕ) (l : List ℕ) → any_fault es skip l ≡ false → Pass es (entries_from skip l)
unfolding any_fault entries_from
pass_from es skip [] h = none
pass_from es (suc skip) (b ∷ r) h = pass_from es skip r h
pass_from es zero (k ∷ r) h =
    let a = neither (record_fault es k r) _ h in
    one (passes es k r a.0).kept (pass_from ((entry_of r).name ∷ es) body_length r a.1)

-- no record of l is cut short
pub record Whole (l : List ℕ) : Type 0 where
  pub whole : length l ≡ record_length * length (entries_of l)

whole_from : (es : List (List ℕ)) (skip : ℕ) (l : List ℕ) → skip ≤ length l → any_fault es skip l ≡ false → length l ≡ skip + record_length * length (entries_from skip l)
unfolding any_fault entries_from
whole_from es skip [] h e = omega arith
whole_from es (suc skip) (b ∷ r) h e = omega (arith, whole_from es skip r (omega arith) e)
whole_from es zero (k ∷ r) h e =
    let a = neither (record_fault es k r) _ e in
    omega (arith, whole_from ((entry_of r).name ∷ es) body_length r (passes es k r a.0).whole a.1)

pub passed_whole : (s : List ℕ) → row14 s ≡ false → Whole s
passed_whole s e = record { whole = whole_from [] 0 s (omega arith) e ∙ zero-add _ }

-- names of another length than 16
look_uneven : {es : List (List ℕ)} {fs : List Entry} (name : List ℕ) → Pass es fs → (length name ≡ 16 → ⊥) → look_up fs name ≡ Refused 15
unfolding look_up
look_uneven name none u = refl
look_uneven name (one {e = e} k p) u = rw (same_uneven e.name name (λ q. u (sym q ∙ k.sized))) (look_uneven name p u)

pub look_other_length : (s name : List ℕ) → row14 s ≡ false → (length name ≡ 16 → ⊥) → look_up (entries_of s) name ≡ Refused 15
look_other_length s name h = look_uneven name (pass_from [] 0 s h)
