-- The search, a record's bytes at a time: what is left of the list answers as the whole list does.
use Prim.Native.Nat.{ℕ, zero, suc, ◌+◌, ◌*◌, ◌<◌}
use mathlib.Core.Path.{◌≡◌, refl, sym, ap, ◌∙◌}
use mathlib.Core.Bool.{true, false}
use mathlib.Core.List.{List, [], ◌∷◌, ◌++◌}
use native.Mathlib.Omega.{arith}
use lib.ListN.{length, drop, get_or, get_or-append, length-append, length-drop}
use lib.Seq.{get_or-append-add, take_all}
use Rattle.std.proofs.Math.Seq.{drop-append_seam}
use Rattle.std.proofs.lemmas.List.{take-append-le, drop-append-le, get_or_past}
use Rattle.integers.proofs.Cases.{below_or}
use Rattle.names.specs.Names.{name_at, same_list}
use Rattle.names.proofs.SameNames.{words_are}
use Rattle.names.specs.inner.Words.{has_words}
use Rattle.fields.specs.inner.Word.{be64}
use Rattle.fields.proofs.Bytes.{Bytes}
use Rattle.entitlements.specs.Entitlements.{record_length, entry_of, row14, entries_from, entries_of, look_up, Found, Refused}
use Rattle.entitlements.proofs.ByRecord.{entries_at, passed_whole}

-- what is left of a list: whole records, which answer as the list
pub record Left (s name rest : List ℕ) : Type 0 where
  pub bytes : Bytes rest
  pub whole : (k : ℕ) × (length rest ≡ record_length * k)
  pub same : look_up (entries_of rest) name ≡ look_up (entries_of s) name

pub left_all : (s name : List ℕ) → Bytes s → row14 s ≡ false → Left s name s
left_all s name b p = record { bytes = b; whole = (length (entries_of s), (passed_whole s p).whole); same = refl }

pub left_none : {s name rest : List ℕ} → Left s name rest → length rest < record_length → look_up (entries_of s) name ≡ Refused 15
unfolding look_up entries_from
left_none {s} {name} {rest} l h = sym l.same ∙ by rest (let w = l.whole.1 in omega arith)
  where
    by : (rest : List ℕ) → length rest ≡ 0 → look_up (entries_of rest) name ≡ Refused 15
    by [] e = refl
    by (b ∷ r) e = absurd (omega arith)

module _ (x t : List ℕ) (z : length x ≡ record_length) where
  behind_kind : drop 1 (x ++ t) ≡ drop 1 x ++ t
  behind_kind = drop-append-le 1 x t (omega arith)

  front_name : name_at (drop 1 (x ++ t)) 0 ≡ name_at (drop 1 x) 0
  front_name = rw (behind_kind, take-append-le 16 (drop 1 x) t (omega (arith, length-drop 1 x)))

  front_byte : (i : ℕ) → i < 20 → get_or (drop 1 (x ++ t)) i 0 ≡ get_or (drop 1 x) i 0
  front_byte i h = rw behind_kind (get_or-append (drop 1 x) t 0 i (omega (arith, length-drop 1 x)))

  front : entry_of (drop 1 (x ++ t)) ≡ entry_of (drop 1 x)
  unfolding entry_of
  front = rw (front_name, front_byte 16 (omega arith), front_byte 17 (omega arith), front_byte 18 (omega arith), front_byte 19 (omega arith))

  seam : drop record_length (x ++ t) ≡ t
  seam = rw (← z) (drop-append_seam x t)

  entries_front : entries_of (x ++ t) ≡ entry_of (drop 1 x) ∷ entries_of t
  entries_front = rw (front, seam) at (entries_at (x ++ t) 0 (omega (arith, length-append x t)))

  bytes_front : Bytes (x ++ t) → Bytes x
  bytes_front b i = below_or i (length x) (λ h. rw (get_or-append x t 0 i h) at (b i)) (λ h. rw (get_or_past x i 0 h) (omega arith))

  bytes_behind : Bytes (x ++ t) → Bytes t
  bytes_behind b i = rw (get_or-append-add x t i 0) at (b (length x + i))

  module _ (s name rest : List ℕ) (l : Left s name rest) (e : rest ≡ x ++ t) (bn : Bytes name) (n : length name ≡ 16) where
    words_found : has_words x 1 (be64 name 0) (be64 name 8) ≡ same_list (entry_of (drop 1 x)).name name
    unfolding entry_of
    words_found =
        let w : name_at name 0 ≡ name = take_all 16 name (omega arith) in
        words_are x name (bytes_front (rw e at l.bytes)) bn 1 0 (omega arith) (omega arith) ∙ rw w

    pub left_here : has_words x 1 (be64 name 0) (be64 name 8) ≡ true → look_up (entries_of s) name ≡ Found (entry_of (drop 1 x)).value
    unfolding look_up
    left_here h = sym l.same ∙ rw (e, entries_front, sym words_found ∙ h)

    pub left_on : has_words x 1 (be64 name 0) (be64 name 8) ≡ false → Left s name t
    unfolding look_up
    left_on h =
        let one : look_up (entries_of (x ++ t)) name ≡ look_up (entries_of t) name = rw (entries_front, sym words_found ∙ h) in
        record {
          bytes = bytes_behind (rw e at l.bytes);
          whole = fewer (l.whole.0) (ap length e ∙ length-append x t) l.whole.1;
          same = sym one ∙ rw e at l.same;
        }
      where
        fewer : (k : ℕ) → length rest ≡ length x + length t → length rest ≡ record_length * k → (j : ℕ) × (length t ≡ record_length * j)
        fewer zero p q = absurd (omega (arith, z))
        fewer (suc k) p q = (k, omega (arith, z))
