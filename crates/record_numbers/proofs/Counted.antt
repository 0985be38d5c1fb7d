-- Records counted one after the other.
use Prim.Native.Nat.{ℕ, zero, suc, ◌+◌, ◌≤◌, ◌<◌}
use mathlib.Core.Path.{◌≡◌, refl, ◌∙◌}
use mathlib.Core.Bool.{Bool, true, false, cond}
use mathlib.Core.List.{List, [], ◌∷◌}
use native.Mathlib.Omega.{arith}
use borrow.Author.Tests.{le-leb, lt-leb}
use mir.Val.{bool_byte}
use lib.Dec.{eqb}
use lib.ListN.{length, get_or, take, drop, drop_of_length-le}
use lib.Seq.{drop-drop, get_or-take, length-take-le}
use Rattle.fields.specs.Fields.{byte_at}
use Rattle.record_table.specs.Table.{body_length}
use Rattle.record_numbers.specs.RecordNumbers.{records_of, record_number}

records_skip : (kind skip : ℕ) (bs : List ℕ) → records_of kind skip bs ≡ records_of kind 0 (drop skip bs)
unfolding records_of
records_skip kind zero bs = refl
records_skip kind (suc skip) [] = refl
records_skip kind (suc skip) (b ∷ bs) = records_skip kind skip bs

drop_here : (from : ℕ) (bs : List ℕ) → from < length bs → drop from bs ≡ get_or bs from 0 ∷ drop (from + 1) bs
drop_here zero [] h = absurd (omega arith)
drop_here zero (b ∷ bs) h = refl
drop_here (suc from) [] h = absurd (omega arith)
drop_here (suc from) (b ∷ bs) h = let e : suc from + 1 ≡ suc (from + 1) = omega arith in rw e (drop_here from bs (omega arith))

-- how many records of a kind begin from a place on
abbrev pub remaining : ℕ → List ℕ → ℕ → ℕ
remaining kind bs from = records_of kind 0 (drop from bs)

pub remaining_none : (kind from : ℕ) (bs : List ℕ) → length bs ≤ from → remaining kind bs from ≡ 0
unfolding records_of
remaining_none kind from bs h = rw (drop_of_length-le bs {i = from} h) refl

-- the record at a place, and those behind it
pub remaining_next : (kind from : ℕ) (bs : List ℕ) → from < length bs →
    remaining kind bs from ≡ cond (eqb (byte_at bs from) kind) 1 0 + remaining kind bs (from + 1 + body_length (byte_at bs from))
unfolding records_of
remaining_next kind from bs h =
    rw (drop_here from bs h, records_skip kind (body_length (byte_at bs from)) (drop (from + 1) bs), drop-drop (body_length (byte_at bs from)) (from + 1) bs) refl

-- at the sheet's end
pub none_there : (sheet : List ℕ) (at : ℕ) → length sheet ≤ at → 0 ≡ record_number sheet at
unfolding record_number
none_there sheet at h = rw (le-leb (length sheet) at h) refl

one_is : (b : Bool) → (bool_byte b ≡ cond b 1 0) × (bool_byte b ≤ 1)
one_is true = (refl, omega arith)
one_is false = (refl, omega arith)

-- the loop: of the records before a place those before `from` are counted
pub record Counting (sheet : List ℕ) (at kind number from : ℕ) : Type 0 where
  pub within : at < length sheet
  pub kind_is : kind ≡ byte_at sheet at
  pub most : number ≤ from + 1
  pub sum : number + remaining kind (take at sheet) from ≡ 1 + remaining kind (take at sheet) 0

module _ (sheet : List ℕ) (at kind : ℕ) where
  pub begun : at < length sheet → kind ≡ byte_at sheet at → Counting sheet at kind 1 0
  begun h e = record { within = h; kind_is = e; most = omega arith; sum = refl }

  module _ (number from : ℕ) (c : Counting sheet at kind number from) where
    -- the record at `from` is counted
    pub next : from < at → (one body : ℕ) → one ≡ bool_byte (eqb (byte_at sheet from) kind) → body ≡ body_length (byte_at sheet from) → Counting sheet at kind (number + one) (from + (1 + body))
    next h one body t q =
        let b = one_is (eqb (byte_at sheet from) kind) in
        let p = t ∙ b.0 in
        let a : from + (1 + body) ≡ from + 1 + body = omega arith in
        let n = c.sum in
        let l = length-take-le at sheet (omega (arith, c.within)) in
        let e : byte_at (take at sheet) from ≡ byte_at sheet from = get_or-take at sheet from 0 h in
        let r = rw (e, ← p, ← q) at (remaining_next kind from (take at sheet) (omega arith)) in
        rw a (record { within = c.within; kind_is = c.kind_is; most = omega (arith, c.most, t, b.1); sum = omega arith })

    -- all are counted
    pub done : at ≤ from → number ≡ record_number sheet at
    unfolding record_number
    done h =
        let l = length-take-le at sheet (omega (arith, c.within)) in
        let z = remaining_none kind from (take at sheet) (omega arith) in
        rw (lt-leb (length sheet) at c.within, ← c.kind_is) (omega (arith, c.sum))
