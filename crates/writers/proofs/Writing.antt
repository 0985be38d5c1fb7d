-- Laws of what is written to a buffer's front.
use mathlib.Core.Path.{◌≡◌, refl, sym, subst}
use mathlib.Core.List.{List, [], ◌++◌, append-nil, append_assoc}
use Prim.Native.Nat.{ℕ, ◌+◌, ◌-◌, ◌≤◌}
use native.Mathlib.Omega.{arith}
use lib.ListN.{length, take, drop, length-append, length-drop, drop_of_length-le}
use Rattle.std.proofs.Common.{take-append-drop}
use lib.Seq.{length-take-le, take-length, take_all, take_at, drop_at, drop-drop}
use Rattle.io.specs.Counts.{IsPrefixLen}
use Rattle.io.proofs.Counting.{prefix_len_of_le}
use Rattle.writers.specs.Written.{written}
use Rattle.writers.specs.inner.Wrote.{Wrote}

-- nothing is written
pub none : {xs : List ℕ} → Wrote [] xs xs 0
unfolding written
none = record { left = refl; count = refl }

-- all of a slice is copied
pub copied : {p xs ys : List ℕ} {n : ℕ} → n ≡ length p → ys ≡ take (length p) p ++ drop (length p) xs → Wrote p xs ys n
unfolding written
copied {p} e f = record { left = rw (take-length p) at f; count = e }

-- what stands in front may stay
pub kept : (n : ℕ) (xs : List ℕ) → n ≤ length xs → Wrote (take n xs) xs xs n
unfolding written
kept n xs h = let e = length-take-le n xs h in record { left = rw (e, take-append-drop) refl; count = sym e }

-- the bytes stand in front
pub stored : {p xs ys : List ℕ} {n : ℕ} → n ≡ length p → ys ≡ p ++ drop (length p) xs → Wrote p xs ys n
unfolding written
stored e f = record { left = f; count = e }

-- the bytes are the buffer's front, and behind them it is as before
module _ {p xs ys : List ℕ} {n : ℕ} (f : Wrote p xs ys n) where
  pub front : take n ys ≡ p
  unfolding written
  front = rw f.left (take_at p _ n (sym f.count))

  pub behind : drop n ys ≡ drop (length p) xs
  unfolding written
  behind = rw f.left (drop_at p _ n (sym f.count))

  pub within : n ≤ length ys
  unfolding written
  within = rw (f.left, length-append) (omega (arith, f.count))

  -- so is what is lent to the next writer
  pub left_room : length (take (length ys - n) (drop n ys)) ≡ length xs - n
  left_room = rw (take_all (length ys - n) (drop n ys) (omega (arith, length-drop n ys)), behind, length-drop, f.count) refl

-- one writer filled n bytes, and another the front of `&mut out[n..]`
pub next : {p xs ys q zs : List ℕ} {n m : ℕ} → Wrote p xs ys n → Wrote q (take (length ys - n) (drop n ys)) zs m
    → Wrote (p ++ q) xs (take n ys ++ (zs ++ drop (length ys - n) (drop n ys))) (n + m)
unfolding written
next {p} {xs} {ys} {q} {zs} {n} {m} f g =
    let rest : length (drop n ys) ≡ length ys - n = length-drop n ys in
    let all : take (length ys - n) (drop n ys) ≡ drop n ys = take_all (length ys - n) (drop n ys) (omega arith) in
    let nothing : drop (length ys - n) (drop n ys) ≡ [] = drop_of_length-le (drop n ys) {i = length ys - n} (omega arith) in
    record {
      left = rw (g.left, all, nothing, append-nil, front f, behind f, drop-drop, append_assoc, length-append) refl;
      count = rw (f.count, g.count, length-append) refl;
    }

-- the bytes under another name
pub renamed : {p q xs ys : List ℕ} {n : ℕ} → p ≡ q → Wrote p xs ys n → Wrote q xs ys n
renamed {xs = xs} {ys = ys} {n = n} e f = subst (λ (bytes : List ℕ). Wrote bytes xs ys n) e f

-- the bytes lie within the buffer
pub counted : {p xs ys : List ℕ} {n : ℕ} → Wrote p xs ys n → IsPrefixLen n ys
counted {ys = ys} {n = n} f = prefix_len_of_le n ys (within f)
