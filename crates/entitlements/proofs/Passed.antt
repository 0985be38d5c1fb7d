-- What row 14 leaves of a list: each record passes, names differ, values are in range, and there are no more bytes than 2,500 records have.
use Prim.Native.Nat.{ℕ, zero, suc, ◌+◌, ◌*◌, ◌≤◌, ◌<◌}
use mathlib.Core.Path.{◌≡◌, refl, sym, ap, ◌∙◌}
use mathlib.Core.Bool.{true, false, true≢false}
use mathlib.Core.List.Memᴰ
use mathlib.Core.List.{List, [], ◌∷◌, Memᴰ}
use mathlib.Core.Logic.{◌↔◌, ⊎_elim}
use native.Mathlib.Nat.{mul-suc}
use native.Mathlib.Numerals.{add-one}
use native.Mathlib.Omega.{arith}
use lib.IntN.{nat_abs}
use lib.ListN.{length, drop, get_or}
use Rattle.integers.proofs.Cases.{below_or}
use Rattle.names.specs.Names.{same_list, seen_before}
use Rattle.name_index.specs.inner.Index.{names_at}
use Rattle.names.proofs.SameNames.{same_refl}
use Rattle.rows.proofs.NotMet.{neither}
use Rattle.entitlements.specs.Entitlements.{Entry, body_length, record_length, most_records, most_value, entry_of, record_fault, any_fault, row14, entries_of}
use Rattle.entitlements.specs.inner.Steps.{first_names}
use Rattle.entitlements.proofs.RecordFault.{Passes, either, passes, no_fault}
use Rattle.entitlements.proofs.ByRecord.{Pass, none, one, pass_from, fault_on, fault_none, fault_end, first_next}

-- one of the entries es is e
abbrev pub Holds : List Entry → Entry → Type 0
Holds es e = Memᴰ e es

-- a list passes row 14 exactly when each record that begins in it does, behind the entries before
abbrev PassesAt : List ℕ → ℕ → Type 0
PassesAt s i = Passes (first_names s i) (get_or s (record_length * i) 0) (drop (record_length * i + 1) s)

next_record : (s : List ℕ) (i : ℕ) → record_length * i < length s → record_fault (first_names s i) (get_or s (record_length * i) 0) (drop (record_length * i + 1) s) ≡ false →
    any_fault (first_names s i) 0 (drop (record_length * i) s) ≡ any_fault (first_names s (suc i)) 0 (drop (record_length * suc i) s)
next_record s i h e =
    let n : first_names s (suc i) ≡ (entry_of (drop (record_length * i + 1) s)).name ∷ first_names s i = rw (← add-one i) (first_next s (record_length * i) i refl) in
    rw (mul-suc, n) (fault_on s (record_length * i) h (first_names s i) e)

each_passes : (s : List ℕ) → row14 s ≡ false → (i : ℕ) → record_length * i < length s → any_fault (first_names s i) 0 (drop (record_length * i) s) ≡ false
unfolding names_at
each_passes s e zero h = e
each_passes s e (suc i) h =
    let g : record_length * i < length s = omega arith in
    let p = each_passes s e i g in
    sym (next_record s i g (fault_none s (record_length * i) g (first_names s i) p)) ∙ p

all_pass : (s : List ℕ) (n i : ℕ) → length s ≤ record_length * i + n → ((j : ℕ) → record_length * j < length s → PassesAt s j) → any_fault (first_names s i) 0 (drop (record_length * i) s) ≡ false
all_pass s zero i h f = fault_end _ s (record_length * i) (omega arith)
all_pass s (suc n) i h f =
    below_or (record_length * i) (length s)
    (λ l. next_record s i l (no_fault _ _ _ (f i l)) ∙ all_pass s n (suc i) (omega arith) f)
    (λ l. fault_end _ s (record_length * i) l)

pub passes_14 : (s : List ℕ) → (row14 s ≡ false) ↔ ((i : ℕ) → record_length * i < length s → PassesAt s i)
unfolding names_at
passes_14 s = (
  λ e i h. passes _ _ _ (fault_none s (record_length * i) h (first_names s i) (each_passes s e i h)),
  λ f. all_pass s (length s) 0 (omega arith) f,
)

-- each entry that passes has its value in range, and a name that none before it has
pub record Sound (es : List (List ℕ)) (e : Entry) : Type 0 where
  pub range : nat_abs e.value ≤ most_value
  pub new : seen_before es e.name ≡ false

pub sound : {es : List (List ℕ)} {fs : List Entry} {f : Entry} → Pass es fs → Holds fs f → Sound es f
unfolding seen_before
sound none m = absurd (Memᴰ.not-nil m)
sound {es} {f = f} (one {fs = fs} {e = e} k p) m =
    ⊎_elim
    (λ (q : f ≡ e). rw q (record { range = k.range; new = k.new }))
    (λ (n : Holds fs f). let s = sound p n in record { range = s.range; new = (neither (same_list e.name f.name) _ s.new).1 })
    (Memᴰ.cases_cons m)

pub first_differs : {es : List (List ℕ)} {fs : List Entry} {name : List ℕ} {f : Entry} → Pass (name ∷ es) fs → Holds fs f → same_list name f.name ≡ false
unfolding seen_before
first_differs {name = name} {f = f} p m = (neither (same_list name f.name) _ (sound p m).new).0

-- no two entries of a list that passes bear the same name
held_at : (es : List Entry) (d : Entry) (i : ℕ) → i < length es → Holds es (get_or es i d)
held_at [] d i h = absurd (omega arith)
held_at (e ∷ es) d zero h = Memᴰ.head refl
held_at (e ∷ es) d (suc i) h = Memᴰ.tail (held_at es d i (omega arith))

differ_from : {es : List (List ℕ)} {fs : List Entry} (d : Entry) (i j : ℕ) → Pass es fs → i < j → j < length fs → (get_or fs i d).name ≡ (get_or fs j d).name → ⊥
differ_from d i j none h g e = omega arith
differ_from d i zero (one k p) h g e = omega arith
differ_from d zero (suc j) (one {fs = fs} {e = f} k p) h g e =
    true≢false (sym (same_refl f.name) ∙ ap (same_list f.name) e ∙ first_differs p (held_at fs d j (omega arith)))
differ_from d (suc i) (suc j) (one k p) h g e = differ_from d i j p (omega arith) (omega arith) e

pub names_differ : (s : List ℕ) (d : Entry) (i j : ℕ) → row14 s ≡ false → i < j → j < length (entries_of s) → (get_or (entries_of s) i d).name ≡ (get_or (entries_of s) j d).name → ⊥
names_differ s d i j h = differ_from d i j (pass_from [] 0 s h)

-- more bytes than 2,500 records have meet row 14
long_from : (es : List (List ℕ)) (skip : ℕ) (l : List ℕ) → length es ≤ most_records → record_length * most_records + skip < length l + record_length * length es → any_fault es skip l ≡ true
unfolding any_fault
long_from es skip [] f h = absurd (omega arith)
long_from es (suc skip) (b ∷ r) f h = long_from es skip r f (omega arith)
long_from es zero (k ∷ r) f h =
    either (record_fault es k r)
    (λ p. rw p)
    (λ p.
    let a = (passes es k r p).kept.room in
    rw p (long_from ((entry_of r).name ∷ es) body_length r a (omega arith)))

pub too_long : (s : List ℕ) → record_length * most_records < length s → row14 s ≡ true
too_long s h = long_from [] 0 s (omega arith) (omega arith)
