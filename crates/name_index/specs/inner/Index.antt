-- An index of names by their hashes: for each hash the latest name that has it, and for each name the latest before it that has the same.
use Rattle.std.specs.Prelude.{ℕ, zero, suc, ◌+◌, ◌*◌, ◌-◌, ◌%◌, ◌≤◌, ◌<◌, ◌≡◌, cond, List, [], ◌∷◌, eqb, length, get_or, set}
use Rattle.std.specs.Int.Bits.{bit_and}
use Rattle.fields.specs.inner.Word.{be64}
use Rattle.names.specs.Names.{name_at}
use Rattle.name_index.specs.declared.Run.{Run}

-- of n names, at `first` and each `stride` bytes behind the one before, all, the latest first
unfoldable pub names_at : List ℕ → ℕ → ℕ → ℕ → List (List ℕ)
names_at s first stride zero = []
names_at s first stride (suc n) = name_at s (first + stride * n) ∷ names_at s first stride n

-- two primes, so that each of the eight bytes of a word moves the hash
abbrev pub high_modulus : ℕ
high_modulus = 65521

abbrev pub low_modulus : ℕ
low_modulus = 65519

-- the hash of a name, from its two words of eight bytes: a number up to `mask`
unfoldable pub hash_of : ℕ → ℕ → ℕ → ℕ
hash_of mask high low = bit_and (high % high_modulus + low % low_modulus) mask

unfoldable pub hash_at : ℕ → List ℕ → ℕ → ℕ
hash_at mask s at = hash_of mask (be64 s at) (be64 s (at + 8))

-- of n names, at `first` and each `stride` bytes behind the one before, the latest whose hash is h, counted from 1; 0 if none is
unfoldable pub latest : ℕ → List ℕ → ℕ → ℕ → ℕ → ℕ → ℕ
latest mask s first stride h zero = 0
latest mask s first stride h (suc n) = cond (eqb (hash_at mask s (first + stride * n)) h) (suc n) (latest mask s first stride h n)

-- where the name behind the first i of a run stands
abbrev pub place_of : Run → ℕ → ℕ
place_of run i = run.first + run.stride * i

-- the run with the name behind it
abbrev pub longer : Run → Run
longer run = record { first = run.first; stride = run.stride; count = run.count + 1; base = run.base; mask = run.mask }

-- the table holds the names of the run, behind `base` others that no longer count: for each hash the latest name, then for each name the latest before it
pub record Indexed (s : List ℕ) (run : Run) (table : List ℕ) : Type 0 where
  pub room : run.mask + 1 + run.base + run.count ≤ length table
  pub heads : (h : ℕ) → h ≤ run.mask → get_or table h 0 - run.base ≡ latest run.mask s run.first run.stride h run.count
  pub links : (j : ℕ) → j < run.count → get_or table (run.mask + 1 + run.base + j) 0 - run.base ≡ latest run.mask s run.first run.stride (hash_at run.mask s (place_of run j)) j

-- the table with one name more, whose hash is h, behind `count` others of any hash: it is linked to the latest of its hash, and is then the latest
unfoldable pub with_hash : List ℕ → ℕ → ℕ → ℕ → List ℕ
with_hash table mask h count = set (set table (mask + 1 + count) (get_or table h 0)) h (count + 1)

-- the table with the name behind the run
unfoldable pub with_next : List ℕ → Run → List ℕ → List ℕ
with_next s run table = with_hash table run.mask (hash_at run.mask s (place_of run run.count)) (run.base + run.count)
