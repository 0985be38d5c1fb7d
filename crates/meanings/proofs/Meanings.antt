-- The tables of words: no text has a zero byte, and how long they are.
use Prim.Native.Nat.{ℕ, zero, suc, ◌≤◌, ◌<◌}
use mathlib.Core.Path.{◌≡◌, refl, sym, ◌∙◌}
use mathlib.Core.Bool.{Bool, true, ◌&&◌}
use mathlib.Core.List.{List, [], ◌∷◌}
use native.Mathlib.Omega.{arith}
use borrow.Author.Tests.{le-leb, lt-leb, leb-true}
use lib.Dec.{leb}
use lib.ListN.{length, get_or, get_or-eq_default}
use Rattle.integers.proofs.Cases.{below_or}
use Rattle.rows.proofs.NotMet.{both}
use Rattle.writers.specs.Text.{ascii}
use Rattle.texts.specs.inner.Texts.{packed, text_of}
use Rattle.texts.proofs.Texts.{text_is}
use Rattle.meanings.specs.Meanings.{meanings, meaning, kind_words, kind_word}
use Rattle.meanings.specs.inner.Tables.{meaning_room, word_room, word_of}

-- a test of lengths over a table, computed
abbrev within : ℕ → List (List ℕ) → Bool
within room [] = true
within room (t ∷ ts) = leb (length t) room && within room ts

entry_within : (room : ℕ) (ts : List (List ℕ)) (none : List ℕ) → within room ts ≡ true → length none ≤ room → (n : ℕ) → length (get_or ts n none) ≤ room
entry_within room [] none p h n = h
entry_within room (t ∷ ts) none p h zero = leb-true _ _ (both (leb (length t) room) (within room ts) p).0
entry_within room (t ∷ ts) none p h (suc n) = entry_within room ts none (both (leb (length t) room) (within room ts) p).1 h n

-- within the table it does not matter what stands for an entry behind it
same_default : (ts : List (List ℕ)) (n : ℕ) (a b : List ℕ) → n < length ts → get_or ts n a ≡ get_or ts n b
same_default [] n a b h = absurd (omega arith)
same_default (t ∷ ts) zero a b h = refl
same_default (t ∷ ts) (suc n) a b h = same_default ts n a b (omega arith)

pub meaning_is : (n : ℕ) → text_of n (packed meanings) ≡ meaning n
unfolding meaning ascii
meaning_is n = text_is meanings refl n

pub meaning_most : (n : ℕ) → length (meaning n) ≤ meaning_room
unfolding meaning ascii
meaning_most n = entry_within meaning_room meanings [] refl (omega arith) n

pub word_most : (n : ℕ) → length (kind_word n) ≤ word_room
unfolding kind_word ascii
word_most n = entry_within word_room kind_words (ascii "unknown") refl (omega arith) n

pub word_is : (kind : ℕ) → text_of (word_of kind) (packed kind_words) ≡ kind_word kind
unfolding kind_word ascii
word_is kind =
    below_or 8 kind
    (λ h. rw (lt-leb kind 8 h) (text_is kind_words refl 0 ∙ sym (get_or-eq_default kind_words (ascii "unknown") h)))
    (λ h. rw (le-leb kind 8 h) (text_is kind_words refl kind ∙ same_default kind_words kind [] (ascii "unknown") (omega arith)))
