-- Laws of decimal texts: their digits one by one, and how many there are.
use mathlib.Core.Path.{◌≡◌, refl, ap}
use mathlib.Core.Bool.{cond}
use mathlib.Core.List.{List, [], ◌∷◌, ◌++◌, append_assoc}
use Prim.Native.Nat.{ℕ, zero, suc, ◌+◌, ◌/◌, ◌%◌, ◌^◌, ◌≤◌, ◌<◌}
use native.Mathlib.Decide.{dec_lt}
use native.Mathlib.Nat.{div-lt_iff_lt-mul, mul_comm, pow-succ'}
use native.Mathlib.Omega.{arith}
use borrow.Author.Tests.{lt-ltb, le-ltb}
use lib.Dec.{T, ltb, lit<, ltb→lt}
use lib.ListN.{length, length-append}
use Rattle.writers.specs.Text.{digit, digits, natural}

fewer : (k n : ℕ) → n < 10 ^ suc (suc k) → n / 10 < 10 ^ suc k
fewer k n h = (div-lt_iff_lt-mul (lit< tt)).1 (rw (mul_comm (10 ^ suc k) 10, ← pow-succ') h)

below_power : (n : ℕ) → n < 10 ^ suc n
below_power zero = lit< tt
below_power (suc n) = rw pow-succ' (omega (arith, below_power n))

-- any two bounds on the number of digits give the same digits
enough : (f g n : ℕ) → n < 10 ^ suc f → n < 10 ^ suc g → digits f n ≡ digits g n
unfolding digits
enough zero zero n h k = refl
enough zero (suc g) n h k = rw (lt-ltb n 10 h) refl
enough (suc f) zero n h k = rw (lt-ltb n 10 k) refl
enough (suc f) (suc g) n h k =
    ap (λ (l : List ℕ). cond (ltb n 10) (digit n ∷ []) (l ++ (digit (n % 10) ∷ []))) (enough f g (n / 10) (fewer f n h) (fewer g n k))

-- with the bound 20, antt computes the text of any u64 at once
pub natural_computed : (n : ℕ) → T (ltb n (10 ^ 20)) → natural n ≡ digits 19 n
unfolding natural
natural_computed n h = enough n 19 n (below_power n) (ltb→lt n (10 ^ 20) h)

pub natural_digit : (n : ℕ) → n < 10 → natural n ≡ digit n ∷ []
unfolding digits natural
natural_digit zero h = refl
natural_digit (suc n) h = rw (lt-ltb (suc n) 10 h) refl

pub natural_more : (n : ℕ) → 10 ≤ n → natural n ≡ natural (n / 10) ++ (digit (n % 10) ∷ [])
unfolding digits natural
natural_more zero h = absurd (omega arith)
natural_more (suc n) h =
    rw (le-ltb (suc n) 10 h)
    (ap (λ (l : List ℕ). l ++ (digit (suc n % 10) ∷ []))
    (enough n (suc n / 10) (suc n / 10) (fewer n (suc n) (below_power (suc n))) (below_power (suc n / 10))))

pub one_digit : (n : ℕ) → n < 10 → length (natural n) ≡ 1
one_digit n h = rw (natural_digit n h) refl

pub one_more : (n : ℕ) → 10 ≤ n → length (natural n) ≡ length (natural (n / 10)) + 1
one_more n h = rw (natural_more n h, length-append) refl

-- a number below the (k + 1)-th power of ten has at most k + 1 digits
pub natural_length : (k n : ℕ) → n < 10 ^ suc k → length (natural n) ≤ suc k
natural_length zero n h = omega (arith, one_digit n h)
natural_length (suc k) n h =
    elim (dec_lt n 10) [
      | yes s ↦ omega (arith, one_digit n s)
      | no b ↦ let g : 10 ≤ n = omega arith in omega (arith, one_more n g, natural_length k (n / 10) (fewer k n h))
    ]

-- the two digits of a number below 100
abbrev pub two : ℕ → List ℕ
two n = digit (n / 10) ∷ digit (n % 10) ∷ []

pub natural_two : (n : ℕ) → 10 ≤ n → n < 100 → natural n ≡ two (n % 100)
natural_two n h k =
    let e : n % 100 ≡ n = omega arith in
    rw (natural_more n h, natural_digit (n / 10) (omega arith), e) refl

-- all digits but the last two, and then these
pub natural_behind : (n : ℕ) → 100 ≤ n → natural n ≡ natural (n / 100) ++ two (n % 100)
natural_behind n h =
    let e : n / 10 / 10 ≡ n / 100 = omega arith in
    let f : n / 10 % 10 ≡ n % 100 / 10 = omega arith in
    let g : n % 10 ≡ n % 100 % 10 = omega arith in
    rw (natural_more n (omega arith), natural_more (n / 10) (omega arith), append_assoc, e, f, g) refl

pub two_more : (n : ℕ) → 100 ≤ n → length (natural n) ≡ length (natural (n / 100)) + 2
two_more n h = rw (natural_behind n h, length-append) refl

pub two_at_least : (n : ℕ) → 10 ≤ n → 2 ≤ length (natural n)
two_at_least n h =
    elim (dec_lt n 100) [
      | yes s ↦ rw (natural_two n h s) (omega arith)
      | no b ↦ omega (arith, two_more n (omega arith))
    ]
