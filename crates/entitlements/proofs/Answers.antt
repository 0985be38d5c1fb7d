-- What an answer says of the list: found, missing, refused; and that the first bytes of a long file are enough.
use Prim.Native.Nat.{ℕ, ◌*◌, ◌≤◌, ◌<◌}
use mathlib.Core.Path.{◌≡◌, refl, sym, ◌∙◌}
use mathlib.Core.Bool.{true, false, true≢false}
use mathlib.Core.List.Memᴰ
use mathlib.Core.List.{List, [], ◌∷◌}
use mathlib.Core.Logic.{◌↔◌, ⊎_elim}
use native.Mathlib.Omega.{arith}
use lib.IntN.{ℤ, pos, nat_abs}
use lib.ListN.{length, take}
use lib.Seq.{length-take-le, take_all}
use Rattle.integers.proofs.Cases.{below_or}
use Rattle.names.specs.Names.{same_list}
use Rattle.names.proofs.SameNames.{same_refl, same_true}
use Rattle.entitlements.specs.Entitlements.{Entry, record_length, most_records, most_value, any_fault, row14, entries_from, entries_of, look_up, entitlement}
use Rattle.entitlements.specs.Entitlements.{Found, Refused}
use Rattle.entitlements.proofs.RecordFault.{either}
use Rattle.entitlements.proofs.ByRecord.{Pass, none, one, pass_from}
use Rattle.entitlements.proofs.Passed.{Holds, sound, first_differs, too_long}

abbrev pub entry : List ℕ → ℤ → Entry
entry name v = record { name = name; value = v }

entry_is : (e : Entry) (name : List ℕ) (v : ℤ) → e.name ≡ name → e.value ≡ v → entry name v ≡ e
entry_is e name v p q = rw (← p, ← q)

named_is : (e : Entry) (name : List ℕ) (v : ℤ) → entry name v ≡ e → same_list e.name name ≡ true
named_is e name v q = rw (← q) (same_refl name)

found_not_refused : {v : ℤ} {n : ℕ} → Found v ≡ Refused n → ⊥
found_not_refused e = let z : ◌≡◌ {A = ℕ} 0 1 = cc in omega arith

-- the look-up finds only what is there
look_found : (es : List Entry) (name : List ℕ) (v : ℤ) → look_up es name ≡ Found v → Holds es (entry name v)
unfolding look_up
look_found [] name v h = let z : ◌≡◌ {A = ℕ} 0 1 = cc in absurd (omega arith)
look_found (e ∷ es) name v h =
    either (same_list e.name name)
    (λ p. let f : Found e.value ≡ Found v = rw p at h in Memᴰ.head (entry_is e name v (same_true e.name name p) (cc)))
    (λ p. Memᴰ.tail (look_found es name v (rw p at h)))

-- and passes over nothing
look_missing : (es : List Entry) (name : List ℕ) (v : ℤ) → look_up es name ≡ Refused 15 → Holds es (entry name v) → ⊥
unfolding look_up
look_missing [] name v h m = Memᴰ.not-nil m
look_missing (e ∷ es) name v h m =
    either (same_list e.name name)
    (λ p. found_not_refused (rw p at h))
    (λ p.
    ⊎_elim
    (λ (q : entry name v ≡ e). true≢false (sym (named_is e name v q) ∙ p))
    (λ (n : Holds es (entry name v)). look_missing es name v (rw p at h) n)
    (Memᴰ.cases_cons m))

look_none : (es : List Entry) (name : List ℕ) → ((v : ℤ) → Holds es (entry name v) → ⊥) → look_up es name ≡ Refused 15
unfolding look_up
look_none [] name h = refl
look_none (e ∷ es) name h =
    either (same_list e.name name)
    (λ p. absurd (h e.value (Memᴰ.head (entry_is e name e.value (same_true e.name name p) refl))))
    (λ p. rw p (look_none es name (λ v m. h v (Memᴰ.tail m))))

look_not_14 : (es : List Entry) (name : List ℕ) → look_up es name ≡ Refused 14 → ⊥
unfolding look_up
look_not_14 [] name h = let z : ◌≡◌ {A = ℕ} 15 14 = cc in omega arith
look_not_14 (e ∷ es) name h =
    either (same_list e.name name) (λ p. found_not_refused (rw p at h)) (λ p. look_not_14 es name (rw p at h))

-- so it is found by its name
look_kept : {es : List (List ℕ)} {fs : List Entry} (name : List ℕ) (v : ℤ) → Pass es fs → Holds fs (entry name v) → look_up fs name ≡ Found v
unfolding look_up
look_kept name v none m = absurd (Memᴰ.not-nil m)
look_kept name v (one {fs = fs} {e = e} k p) m =
    ⊎_elim
    (λ (q : entry name v ≡ e). rw (named_is e name v q, ← q))
    (λ (n : Holds fs (entry name v)). rw (first_differs p n) (look_kept name v p n))
    (Memᴰ.cases_cons m)

module _ (s name : List ℕ) where
  passed_is : row14 s ≡ false → entitlement s name ≡ look_up (entries_of s) name
  unfolding entitlement
  passed_is e = rw e

  faulty_is : row14 s ≡ true → entitlement s name ≡ Refused 14
  unfolding entitlement
  faulty_is e = rw e

  -- 14 exactly when a record meets it
  pub refused_14 : (entitlement s name ≡ Refused 14) ↔ (row14 s ≡ true)
  refused_14 = (λ e. either (row14 s) (λ p. p) (λ p. absurd (look_not_14 _ name (sym (passed_is p) ∙ e))), faulty_is)

  -- 15 exactly when none does, and no entry bears the name
  pub refused_15 : (entitlement s name ≡ Refused 15) ↔ ((row14 s ≡ false) × ((v : ℤ) → Holds (entries_of s) (entry name v) → ⊥))
  refused_15 = (
    λ e. either (row14 s)
        (λ p. let f = sym (faulty_is p) ∙ e in let z : ◌≡◌ {A = ℕ} 14 15 = cc in absurd (omega arith))
        (λ p. (p, λ v. look_missing _ name v (sym (passed_is p) ∙ e))),
    λ h. passed_is h.0 ∙ look_none _ name h.1,
  )

  -- v exactly when no record meets 14, and an entry bears the name, with v
  pub found : (v : ℤ) → (entitlement s name ≡ Found v) ↔ ((row14 s ≡ false) × Holds (entries_of s) (entry name v))
  found v = (
    λ e. either (row14 s)
        (λ p. absurd (found_not_refused (sym e ∙ faulty_is p)))
        (λ p. (p, look_found _ name v (sym (passed_is p) ∙ e))),
    λ h. passed_is h.0 ∙ look_kept name v (pass_from [] 0 s h.0) h.1,
  )

  -- a missing entitlement is not read as zero
  pub missing_not_zero : ((v : ℤ) → Holds (entries_of s) (entry name v) → ⊥) → entitlement s name ≡ Found (pos 0) → ⊥
  missing_not_zero h e = h (pos 0) ((found (pos 0)).0 e).1

  -- the name has one value
  pub one_value : (v w : ℤ) → row14 s ≡ false → Holds (entries_of s) (entry name v) → Holds (entries_of s) (entry name w) → v ≡ w
  one_value v w e m n =
      let p = (found v).1 (e, m) in
      let q = (found w).1 (e, n) in
      cc

  pub value_within : (v : ℤ) → entitlement s name ≡ Found v → nat_abs v ≤ most_value
  value_within v e = let h = (found v).0 e in (sound (pass_from [] 0 s h.0) h.1).range

-- an empty list passes row 14, and has no entry
pub empty_list_15 : (name : List ℕ) → entitlement [] name ≡ Refused 15
unfolding entitlement any_fault entries_from look_up
empty_list_15 name = refl

-- the first n bytes of a file are enough, where n is more than 2,500 records have
pub first_bytes_enough : (s name : List ℕ) (n : ℕ) → record_length * most_records < n → entitlement (take n s) name ≡ entitlement s name
first_bytes_enough s name n h =
    below_or n (length s)
    (λ l.
    let e : length (take n s) ≡ n = length-take-le n s (omega arith) in
    faulty_is (take n s) name (too_long (take n s) (omega arith)) ∙ sym (faulty_is s name (too_long s (omega arith))))
    (λ l. rw (take_all n s l))
