-- Equal fields have equal bytes, and the other way.
use Prim.Native.Nat.{ℕ, ◌+◌, ◌*◌, ◌-◌, ◌/◌, ◌<◌, ◌≤◌}
use mathlib.Core.Path.{◌≡◌, sym, ap, ap₂, ◌∙◌}
use native.Mathlib.Nat.{add_assoc, div-eq_of_lt-le}
use mathlib.Core.List.{List}
use native.Mathlib.Omega.{arith}
use lib.ListN.{get_or}
use Rattle.integers.proofs.Cases.{below_or}
use Rattle.fields.specs.Fields.{byte_at, be16, be32}
use Rattle.fields.specs.inner.Word.{be64}

-- a list of bytes
abbrev pub Bytes : List ℕ → Type 0
Bytes s = (i : ℕ) → get_or s i 0 < 256

pub be16_small : (s : List ℕ) → Bytes s → (at : ℕ) → be16 s at < 65536
be16_small s b at = omega (arith, b at, b (at + 1))

pub be32_small : (s : List ℕ) → Bytes s → (at : ℕ) → be32 s at < 4294967296
be32_small s b at = omega (arith, be16_small s b at, be16_small s b (at + 2))

-- an index past n, counted from n
moved : (i k n : ℕ) → n ≤ k → i + k ≡ i + n + (k - n)
moved i k n h = omega arith

-- two numbers over a base have the same parts
parts : (B x y m n : ℕ) → m < B → n < B → x * B + m ≡ y * B + n → (x ≡ y) × (m ≡ n)
parts B x y m n h g e =
    let z : 0 < B = omega arith in
    let q : x ≡ y = sym (quotient x m h) ∙ ap (λ (v : ℕ). v / B) e ∙ quotient y n g in
    (q, omega (arith, ap (λ (v : ℕ). v * B) q))
  where
    quotient : (u v : ℕ) → v < B → (u * B + v) / B ≡ u
    quotient u v h = div-eq_of_lt-le {k = u} B {m = u * B + v} (omega arith) (omega arith)

-- n bytes of s from i, and of t from j, are the same
abbrev pub Agree : List ℕ → ℕ → List ℕ → ℕ → ℕ → Type 0
Agree s i t j n = (k : ℕ) → k < n → get_or s (i + k) 0 ≡ get_or t (j + k) 0

-- each width by the one below
module _ (s t : List ℕ) where
  agree_one : (i j : ℕ) → byte_at s i ≡ byte_at t j → Agree s i t j 1
  agree_one i j e k h =
      let z : k ≡ 0 = omega arith in
      let p : i + 0 ≡ i = omega arith in
      let q : j + 0 ≡ j = omega arith in
      rw (z, p, q) e

  one_agrees : (i j n : ℕ) → 0 < n → Agree s i t j n → byte_at s i ≡ byte_at t j
  one_agrees i j n h a =
      let p : i + 0 ≡ i = omega arith in
      let q : j + 0 ≡ j = omega arith in
      rw (p, q) at (a 0 h)

  -- n bytes and m behind them
  join : (i j n m : ℕ) → Agree s i t j n → Agree s (i + n) t (j + n) m → Agree s i t j (n + m)
  join i j n m a b k h = below_or k n (λ l. a k l) (λ l. rw (moved i k n l, moved j k n l) (b (k - n) (omega arith)))

  behind : (i j n m : ℕ) → Agree s i t j (n + m) → Agree s (i + n) t (j + n) m
  behind i j n m a k h = rw (add_assoc i n k, add_assoc j n k) (a (n + k) (omega arith))

  before : (i j n m : ℕ) → Agree s i t j (n + m) → Agree s i t j n
  before i j n m a k h = a k (omega arith)

  module _ (bs : Bytes s) (bt : Bytes t) where
    agree16 : (i j : ℕ) → be16 s i ≡ be16 t j → Agree s i t j 2
    agree16 i j e =
        let h = parts 256 (byte_at s i) (byte_at t j) (byte_at s (i + 1)) (byte_at t (j + 1)) (bs (i + 1)) (bt (j + 1)) e in
        join i j 1 1 (agree_one i j h.0) (agree_one (i + 1) (j + 1) h.1)

    agree32 : (i j : ℕ) → be32 s i ≡ be32 t j → Agree s i t j 4
    agree32 i j e =
        let h = parts 65536 (be16 s i) (be16 t j) (be16 s (i + 2)) (be16 t (j + 2)) (be16_small s bs (i + 2)) (be16_small t bt (j + 2)) e in
        join i j 2 2 (agree16 i j h.0) (agree16 (i + 2) (j + 2) h.1)

    agree64 : (i j : ℕ) → be64 s i ≡ be64 t j → Agree s i t j 8
    agree64 i j e =
        let h = parts 4294967296 (be32 s i) (be32 t j) (be32 s (i + 4)) (be32 t (j + 4)) (be32_small s bs (i + 4)) (be32_small t bt (j + 4)) e in
        join i j 4 4 (agree32 i j h.0) (agree32 (i + 4) (j + 4) h.1)

    -- two words side by side
    pub agree128 : (i j : ℕ) → be64 s i ≡ be64 t j → be64 s (i + 8) ≡ be64 t (j + 8) → Agree s i t j 16
    agree128 i j e f = join i j 8 8 (agree64 i j e) (agree64 (i + 8) (j + 8) f)

  agrees16 : (i j : ℕ) → Agree s i t j 2 → be16 s i ≡ be16 t j
  agrees16 i j a = rw (one_agrees i j 2 (omega arith) a, one_agrees (i + 1) (j + 1) 1 (omega arith) (behind i j 1 1 a))

  agrees32 : (i j : ℕ) → Agree s i t j 4 → be32 s i ≡ be32 t j
  agrees32 i j a = ap₂ (λ (x y : ℕ). x * 65536 + y) (agrees16 i j (before i j 2 2 a)) (agrees16 (i + 2) (j + 2) (behind i j 2 2 a))

  agrees64 : (i j : ℕ) → Agree s i t j 8 → be64 s i ≡ be64 t j
  agrees64 i j a = ap₂ (λ (x y : ℕ). x * 4294967296 + y) (agrees32 i j (before i j 4 4 a)) (agrees32 (i + 4) (j + 4) (behind i j 4 4 a))

  pub agrees128 : (i j : ℕ) → Agree s i t j 16 → (be64 s i ≡ be64 t j) × (be64 s (i + 8) ≡ be64 t (j + 8))
  agrees128 i j a = (agrees64 i j (before i j 8 8 a), agrees64 (i + 8) (j + 8) (behind i j 8 8 a))
