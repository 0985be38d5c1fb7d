-- Where a part begins and ends.
use Prim.Native.Nat.{ℕ, ◌+◌, ◌≤◌, ◌<◌}
use mathlib.Core.Path.{◌≡◌, refl}
use mathlib.Core.List.{List}
use native.Mathlib.Omega.{arith}
use lib.ListN.{length}
use borrow.Author.Tests.{le-leb, lt-leb}
use Rattle.fields.specs.Fields.{byte_at}
use Rattle.integers.proofs.Cases.{below_or}
use Rattle.record_table.specs.Table.{body_length}
use Rattle.record_table.specs.inner.Sizes.{most_size}
use Rattle.record_table.proofs.ByKind.{size_most}
use Rattle.sheet.specs.inner.Answers.{Refuses}
use Rattle.sheet.proofs.Refusal.{points}
use Rattle.explanation.specs.Explanation.{shown_bytes, part_end}
use Rattle.explanation.specs.Promise.{Part}

module _ (s : List ℕ) (number at : ℕ) where
  abbrev shown : ℕ
  shown = shown_bytes number (byte_at s at)

  -- with the record, where it is whole
  pub ends_whole : at + shown ≤ length s → part_end s number at ≡ at + shown
  unfolding part_end
  ends_whole h = rw (le-leb _ _ h)

  -- else with the sheet
  pub ends_short : length s < at + shown → part_end s number at ≡ length s
  unfolding part_end
  ends_short h = rw (lt-leb _ _ h)

  pub kind_byte : number ≤ 2 → shown ≡ 1
  kind_byte h = rw (le-leb _ _ h)

  pub whole_record : 2 < number → shown ≡ 1 + body_length (byte_at s at)
  whole_record h = rw (lt-leb _ _ h)

  some_bytes : 1 ≤ shown
  some_bytes = below_or 2 number (λ h. omega (arith, whole_record h)) (λ h. omega (arith, kind_byte h))

  -- at the sheet's end the part is empty
  pub ends_empty : at ≡ length s → part_end s number at ≡ length s
  ends_empty h = ends_short (omega (arith, some_bytes))

  pub part_within : at ≤ length s → (at ≤ part_end s number at) × (part_end s number at ≤ length s)
  part_within h =
      below_or (length s) (at + shown)
      (λ b. let e = ends_short b in (omega arith, omega arith))
      (λ b. let e = ends_whole b in (omega arith, omega arith))

  pub shown_most : shown ≤ most_size
  shown_most =
      let m = size_most (byte_at s at) in
      below_or 2 number (λ h. omega (arith, whole_record h)) (λ h. omega (arith, kind_byte h))

  -- no part is longer than a record
  pub part_short : part_end s number at ≤ at + most_size
  part_short =
      let n = shown_most in
      below_or (length s) (at + shown) (λ b. omega (arith, ends_short b)) (λ b. omega (arith, ends_whole b))

  part_some : at < length s → at < part_end s number at
  part_some h =
      below_or (length s) (at + shown) (λ b. omega (arith, ends_short b)) (λ b. omega (arith, ends_whole b, some_bytes))

  first_byte : number ≤ 2 → at < length s → part_end s number at ≡ at + 1
  first_byte g h = let k = kind_byte g in omega (arith, ends_whole (omega arith))

-- of row 1
pub first_part : (s : List ℕ) → Part s 1 0 (part_end s 1 0)
first_part s = record {
  kind_byte = λ g h. first_byte s 1 0 g h;
  cut_short = λ q. absurd (omega arith);
  whole = λ g h. absurd (omega arith);
  behind = λ h. absurd (omega arith);
  some = λ g h l. part_some s 1 0 l;
  empty_sheet = λ z. (omega arith, omega (arith, ends_empty s 1 0 (omega arith)));
}

-- of rows 2 to 13 and 28
pub record_part : (s : List ℕ) (number at : ℕ) → Refuses s number at → Part s number at (part_end s number at)
record_part s number at r =
    let p = points s number at r in
    let w = whole_record s number at in
    record {
      kind_byte = λ g h. first_byte s number at g h;
      cut_short = λ q. ends_short s number at (omega (arith, w (omega arith), p.cut q));
      whole = λ g h. let k = w (omega arith) in omega (arith, ends_whole s number at (omega (arith, p.whole g h)));
      behind = λ h. let e = p.behind h in (e, ends_empty s number at e);
      some = λ g h l. part_some s number at (p.some h);
      empty_sheet = λ z. let e : at ≡ length s = omega (arith, p.within) in (omega arith, omega (arith, ends_empty s number at e));
    }

-- of refusals behind the sheet's own
pub behind_part : (s : List ℕ) (number : ℕ) → 12 ≤ number → Part s number (length s) (length s)
behind_part s number h = record {
  kind_byte = λ g l. absurd (omega arith);
  cut_short = λ q. refl;
  whole = λ g l. absurd (omega arith);
  behind = λ g. (refl, refl);
  some = λ g l z. absurd (omega arith);
  empty_sheet = λ z. (z, z);
}
