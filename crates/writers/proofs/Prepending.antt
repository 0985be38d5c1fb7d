-- Laws of writers that put their bytes before those that stand there, or behind them.
use mathlib.Core.Path.{◌≡◌, refl}
use mathlib.Core.List.{List, ◌++◌, append-nil, append_assoc}
use Prim.Native.Nat.{ℕ, ◌-◌, ◌≤◌}
use native.Mathlib.Omega.{arith}
use lib.ListN.{length, take, drop, length-append, drop_of_length-le}
use lib.Seq.{take_all}
use Rattle.writers.specs.inner.Prepended.{Prepended}

-- one writer behind the other: what the second puts stands before what the first put
pub ahead : {p q xs ys zs : List ℕ} {a b c : ℕ} → Prepended p xs a ys b → Prepended q ys b zs c → Prepended (q ++ p) xs a zs c
ahead {p} {q} f g =
    record {
      left = rw (g.left, f.left, append_assoc) refl;
      count = let m = f.count in let n = g.count in omega (arith, length-append q p);
    }

-- a text that ends where the buffer does, `&out[from..]`
pub whole : {p xs ys : List ℕ} {a b : ℕ} → Prepended p xs a ys b → length xs ≤ a → take (a - b) (drop b ys) ≡ p
whole {p} {xs} {ys} {a} {b} f short =
    let n = f.count in
    rw (f.left, drop_of_length-le xs {i = a} short, append-nil) (take_all (a - b) p (omega arith))

-- of a text that grows at its end: what the second puts stands behind what the first put
pub behind : (xs p q : List ℕ) {ys zs : List ℕ} → ys ≡ xs ++ p → zs ≡ ys ++ q → zs ≡ xs ++ (p ++ q)
behind xs p q f g = rw (g, f, append_assoc) refl
