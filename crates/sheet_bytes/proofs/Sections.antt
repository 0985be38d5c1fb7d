-- One more record: of the first ones of an array, of those of which a fact holds, and of their bytes.
use Prim.Native.Nat.{ℕ, ◌+◌, ◌<◌}
use mathlib.Core.Path.{◌≡◌, sym}
use mathlib.Core.List.{List, [], ◌∷◌, ◌++◌, append-nil, append_assoc}
use native.Mathlib.Numerals.{add-one}
use lib.ListN.{length, take, get_or}
use lib.Seq.{take-suc}
use Rattle.sheet_bytes.specs.SheetBytes.{all}
use Rattle.sheet_bytes.specs.inner.Returns.{Each}

-- one more of an array's first elements
pub taken : {A : Type 0} (l : List A) (i : ℕ) (d : A) → i < length l → take (i + 1) l ≡ take i l ++ (get_or l i d ∷ [])
taken l i d h = rw add-one (take-suc l i d h)

pub each_more : {A : Type 0} (P : A → Type 0) (l : List A) {a : A} → Each P l → P a → Each P (l ++ (a ∷ []))
each_more P [] e p = (p, tt)
each_more P (b ∷ l) e p = (e.0, each_more P l e.1 p)

pub all_more : {A : Type 0} (kind : ℕ) (body : A → List ℕ) (l : List A) (a : A) → all kind body (l ++ (a ∷ [])) ≡ all kind body l ++ (kind ∷ body a)
unfolding all
all_more kind body [] a = append-nil (kind ∷ body a)
all_more kind body (b ∷ l) a = rw (all_more kind body l a) (sym (append_assoc (kind ∷ body b) (all kind body l) (kind ∷ body a)))
