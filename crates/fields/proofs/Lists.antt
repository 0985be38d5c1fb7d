-- Laws of lists: what stands behind a part, and a list that is given by its elements.
use Prim.Native.Nat.{ℕ, zero, suc, ◌+◌, ◌-◌, ◌≤◌, ◌<◌}
use mathlib.Core.Path.{◌≡◌, refl, ◌∙◌}
use mathlib.Core.List.{List, [], ◌∷◌, ◌++◌, map, map-append}
use native.Mathlib.Omega.{arith}
use lib.ListN.{length, take, drop, get_or, length-append, length-drop, get_or-append}
use lib.Seq.{get_or-append-add, get_or-append_seam, take-length}
use Rattle.fields.specs.Lists.{tab}
use Rattle.integers.proofs.Cases.{below_or}

pub get_or_behind : {A : Type 0} (l r : List A) (i : ℕ) (d : A) → length l ≤ i → get_or (l ++ r) i d ≡ get_or r (i - length l) d
get_or_behind l r i d h =
    let e : length l + (i - length l) ≡ i = omega arith in
    rw e at (get_or-append-add l r (i - length l) d)

-- all that is left behind a place
pub tail_is : {A : Type 0} (s : List A) (from : ℕ) → take (length s - from) (drop from s) ≡ drop from s
tail_is s from = rw (← length-drop from s, take-length (drop from s))

pub length_tab : {A : Type 0} (f : ℕ → A) (n : ℕ) → length (tab f n) ≡ n
unfolding tab
length_tab f zero = refl
length_tab f (suc n) = rw (length-append (tab f n) (f n ∷ [])) (omega (arith, length_tab f n))

pub get_or_tab : {A : Type 0} (f : ℕ → A) (n i : ℕ) (d : A) → i < n → get_or (tab f n) i d ≡ f i
unfolding tab
get_or_tab f zero i d h = absurd (omega arith)
get_or_tab f (suc n) i d h =
    below_or i n
    (λ a. get_or-append (tab f n) (f n ∷ []) d i (rw (length_tab f n) a) ∙ get_or_tab f n i d a)
    (λ b.
    let e : i ≡ length (tab f n) = omega (arith, length_tab f n) in
    rw e (get_or-append_seam (tab f n) (f n) [] d ∙ rw (length_tab f n)))

pub map_tab : {A B : Type 0} (f : A → B) (g : ℕ → A) (n : ℕ) → map f (tab g n) ≡ tab (λ i. f (g i)) n
unfolding tab
map_tab f g zero = refl
map_tab f g (suc n) = map-append f (tab g n) (g n ∷ []) ∙ rw (map_tab f g n)

pub tab_same : {A : Type 0} (f g : ℕ → A) (n : ℕ) → ((i : ℕ) → f i ≡ g i) → tab f n ≡ tab g n
unfolding tab
tab_same f g zero h = refl
tab_same f g (suc n) h = rw (tab_same f g n h, h n)
