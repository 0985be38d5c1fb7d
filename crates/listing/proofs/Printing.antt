-- The three ends of printing: refused before, refused by row 23, and printed.
use mathlib.Core.Path.{◌≡◌, refl}
use mathlib.Core.Bool.{and-false}
use mathlib.Core.List.{List}
use Prim.Native.Nat.{ℕ, ◌≤◌, ◌<◌}
use borrow.Author.Tests.{eq-eqb, ne_eqb, lt-ltb, le-ltb}
use lib.ListN.{length}
use Rattle.io.specs.Counts.{IsPrefixLen}
use Rattle.statement.specs.declared.Statement.{Statement}
use Rattle.statement.specs.Statement.{refused_as}
use Rattle.writers.specs.inner.Wrote.{Wrote}
use Rattle.writers.proofs.Writing.{none, counted}
use Rattle.listing.specs.declared.Printed.{Printed}
use Rattle.printout.specs.Listing.{listing, refusal_line, shown}
use Rattle.listing.specs.Buffer.{checked, text, printed, buffer}

module _ (s : Statement) (out : List ℕ) where
  -- t and n are what printing returns, and `new` is the buffer that it leaves
  abbrev Ended : Statement → ℕ → List ℕ → Type 0
  Ended t n new = (◌≡◌ {A = Printed} (record { statement = t; length = n }) (printed s out)) × ((new ≡ buffer s out) × IsPrefixLen n new)

  ended : {t : Statement} {bytes new : List ℕ} {n : ℕ} → checked s out ≡ t → text s out ≡ bytes → Wrote bytes out new n → Ended t n new
  ended e f w = (rw (e, f, w.count) refl, (rw f w.left, counted w))

  pub refused_before : (s.refusal ≡ 0 → ⊥) → Ended s 0 out
  unfolding checked text
  refused_before h = let e = ne_eqb s.refusal 0 h in ended (rw e refl) (rw e (rw e refl)) none

  pub too_short : s.refusal ≡ 0 → length out < length (listing s) → Ended (refused_as 23) 0 out
  unfolding checked text
  too_short h room =
      let e = eq-eqb s.refusal 0 h in
      let f = lt-ltb _ _ room in
      ended (rw (e, f) refl) (rw (e, f) refl) none

  -- row 23 is not met where the buffer has room
  pub kept : length (listing s) ≤ length out → checked s out ≡ s
  unfolding checked
  kept room = rw (le-ltb _ _ room, and-false) refl

  pub fits : {new : List ℕ} {n : ℕ} → s.refusal ≡ 0 → length (listing s) ≤ length out → Wrote (listing s) out new n → Ended s n new
  unfolding text
  fits h room w = ended (kept room) (rw (kept room, eq-eqb s.refusal 0 h) refl) w

-- what the program prints, by the statement's number
module _ (s : Statement) where
  pub shown_refused : (s.refusal ≡ 0 → ⊥) → refusal_line s.refusal ≡ shown s
  unfolding shown
  shown_refused h = rw (ne_eqb s.refusal 0 h) refl

  pub shown_accepted : s.refusal ≡ 0 → listing s ≡ shown s
  unfolding shown
  shown_accepted h = rw (eq-eqb s.refusal 0 h) refl
