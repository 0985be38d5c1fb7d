-- Laws of the index: a table with nothing in it, with one name more, and what the names of one hash say of all before.
use Prim.Native.Nat.{ℕ, zero, suc, ◌+◌, ◌*◌, ◌-◌, ◌%◌, ◌≤◌, ◌<◌}
use mathlib.Core.Path.{◌≡◌, refl, sym, ap, ◌∙◌}
use mathlib.Core.Bool.{Bool, true, false}
use mathlib.Core.List.{List}
use native.Mathlib.Nat.{add_assoc, mul-le-mul_left}
use native.Mathlib.Numerals.{add-one}
use native.Mathlib.Omega.{arith}
use borrow.Author.Tests.{eq-eqb, ne_eqb}
use lib.Bits.{and_le_r}
use lib.ListN.{length, get_or, set, replicate, length-set, length-replicate}
use lib.Seq.{get_or-set_same, get_or-set_other}
use Rattle.fields.specs.inner.Word.{be64}
use Rattle.integers.proofs.Cases.{equal_or}
use Rattle.names.specs.Names.{name_at, same_list, seen_before}
use Rattle.names.specs.inner.Words.{has_words}
use Rattle.fields.proofs.Bytes.{Bytes}
use Rattle.names.proofs.SameNames.{same_words, words_are}
use Rattle.name_index.specs.declared.Run.{Run}
use Rattle.name_index.specs.inner.Index.{high_modulus, low_modulus, hash_of, hash_at, names_at, latest, place_of, longer, Indexed, with_hash, with_next}

pub hash_small : (mask : ℕ) (s : List ℕ) (at : ℕ) → hash_at mask s at ≤ mask
unfolding hash_at hash_of
hash_small mask s at = and_le_r (be64 s at % high_modulus + be64 s (at + 8) % low_modulus) mask

same_hash : (mask : ℕ) (s : List ℕ) (i j : ℕ) → same_list (name_at s i) (name_at s j) ≡ true → hash_at mask s i ≡ hash_at mask s j
unfolding hash_at
same_hash mask s i j e = let w = same_words s s i j e in rw (w.0, w.1)

other_name : (mask : ℕ) (s : List ℕ) (i j : ℕ) → (hash_at mask s i ≡ hash_at mask s j → ⊥) → same_list (name_at s i) (name_at s j) ≡ false
other_name mask s i j e = go (same_list (name_at s i) (name_at s j)) refl
  where
    go : (b : Bool) → same_list (name_at s i) (name_at s j) ≡ b → b ≡ false
    go true q = absurd (e (same_hash mask s i j q))
    go false q = refl

-- whether the name at `at` is one of the first n of a run
abbrev pub seen : List ℕ → Run → ℕ → ℕ → Bool
seen s run at n = seen_before (names_at s run.first run.stride n) (name_at s at)

module _ (s : List ℕ) (run : Run) where
  abbrev hash : ℕ → ℕ
  hash at = hash_at run.mask s at

  -- the latest name of a hash among the first n
  abbrev last_of : ℕ → ℕ → ℕ
  last_of h n = latest run.mask s run.first run.stride h n

  seen_this : (at n : ℕ) → same_list (name_at s (place_of run n)) (name_at s at) ≡ true → seen s run at (suc n) ≡ true
  unfolding seen_before names_at
  seen_this at n e = rw e

  seen_next : (at n : ℕ) → same_list (name_at s (place_of run n)) (name_at s at) ≡ false → seen s run at (suc n) ≡ seen s run at n
  unfolding seen_before names_at
  seen_next at n e = rw e

  latest_here : (h n : ℕ) → hash (place_of run n) ≡ h → last_of h (suc n) ≡ suc n
  unfolding latest
  latest_here h n e = rw (eq-eqb _ _ e)

  latest_on : (h n : ℕ) → (hash (place_of run n) ≡ h → ⊥) → last_of h (suc n) ≡ last_of h n
  unfolding latest
  latest_on h n e = rw (ne_eqb _ _ e)

  latest_le : (h n : ℕ) → last_of h n ≤ n
  unfolding latest
  latest_le h zero = omega arith
  latest_le h (suc n) =
      equal_or (hash (place_of run n)) h
      (λ e. omega (arith, latest_here h n e))
      (λ e. omega (arith, latest_on h n e, latest_le h n))

  latest_again : (h n : ℕ) → last_of h (last_of h n) ≡ last_of h n
  unfolding latest
  latest_again h zero = refl
  latest_again h (suc n) =
      equal_or (hash (place_of run n)) h
      (λ e. rw (latest_here h n e) (latest_here h n e))
      (λ e. rw (latest_on h n e) (latest_again h n))

  latest_hash : (h n : ℕ) → last_of h (suc n) ≡ suc n → hash (place_of run n) ≡ h
  latest_hash h n e =
      equal_or (hash (place_of run n)) h
      (λ q. q)
      (λ q. absurd (omega (arith, latest_on h n q, latest_le h n)))

  -- a name that is among others is among those up to the latest of its hash
  seen_latest : (at n : ℕ) → seen s run at (last_of (hash at) n) ≡ seen s run at n
  unfolding latest
  seen_latest at zero = refl
  seen_latest at (suc n) =
      equal_or (hash (place_of run n)) (hash at)
      (λ e. rw (latest_here (hash at) n e))
      (λ e. rw (latest_on (hash at) n e) (seen_latest at n) ∙ sym (seen_next at n (other_name run.mask s (place_of run n) at e)))

  -- A search for the name at `at` has come to the first k names: the last of them has its hash, and it is among them exactly when it is among all
  pub record Reached (at k : ℕ) : Type 0 where
    pub few : k ≤ run.count
    pub own : last_of (hash at) k ≡ k
    pub whole : seen s run at k ≡ seen s run at run.count

  -- The name that the search has come to: it stands before the one sought, and either is that one or the search goes on at the link
  pub record Looked (at : ℕ) (t : List ℕ) (last : ℕ) : Type 0 where
    pub room : run.mask + last < length t
    pub place : place_of run (last - run.base - 1) ≤ place_of run run.count
    pub less : get_or t (run.mask + last) 0 < last
    pub found : same_list (name_at s (place_of run (last - run.base - 1))) (name_at s at) ≡ true → seen s run at run.count ≡ true
    pub next : same_list (name_at s (place_of run (last - run.base - 1))) (name_at s at) ≡ false → Reached at (get_or t (run.mask + last) 0 - run.base)

  module _ (at : ℕ) where
    reached : (k : ℕ) → k ≤ run.count → seen s run at k ≡ seen s run at run.count → Reached at (last_of (hash at) k)
    reached k h e = record {
      few = omega (arith, latest_le (hash at) k);
      own = latest_again (hash at) k;
      whole = seen_latest at k ∙ e;
    }

    next-reached : (k : ℕ) → Reached at (suc k) → same_list (name_at s (place_of run k)) (name_at s at) ≡ false → Reached at (last_of (hash at) k)
    next-reached k r e =
        let l = r.few in
        reached k (omega arith) (sym (seen_next at k e) ∙ r.whole)

    name-reached : (k : ℕ) → Reached at (suc k) → same_list (name_at s (place_of run k)) (name_at s at) ≡ true → seen s run at run.count ≡ true
    name-reached k r e = sym r.whole ∙ seen_this at k e

    -- from the table
    module _ (t : List ℕ) (x : Indexed s run t) where
      pub search-first : Reached at (get_or t (hash at) 0 - run.base)
      search-first = rw (x.heads (hash at) (hash_small run.mask s at)) (reached run.count (omega arith) refl)

      pub search-end : (last : ℕ) → last ≤ run.base → Reached at (last - run.base) → seen s run at run.count ≡ false
      unfolding seen_before names_at
      search-end last h r = let e : last - run.base ≡ 0 = omega arith in sym (rw e at r.whole)

      module _ (last : ℕ) (h : run.base < last) (r : Reached at (last - run.base)) where
        counted : last - run.base ≡ suc (last - run.base - 1)
        counted = omega arith

        here : Reached at (suc (last - run.base - 1))
        here = rw counted at r

        linked : get_or t (run.mask + last) 0 - run.base ≡ last_of (hash at) (last - run.base - 1)
        linked =
            let k = last - run.base - 1 in
            let e : run.mask + last ≡ run.mask + 1 + run.base + k = omega arith in
            let l = r.few in
            rw (e, x.links k (omega arith), latest_hash (hash at) k here.own)

        placed : place_of run (last - run.base - 1) ≤ place_of run run.count
        placed =
            let l = r.few in
            let m : run.stride * (last - run.base - 1) ≤ run.stride * run.count = mul-le-mul_left run.stride (omega arith) in
            omega arith

        pub search-on : Looked at t last
        search-on =
            let m = x.room in
            let l = r.few in
            record {
              room = omega arith;
              place = placed;
              less = omega (arith, linked, latest_le (hash at) (last - run.base - 1));
              found = name-reached (last - run.base - 1) here;
              next = λ e. rw linked (next-reached (last - run.base - 1) here e);
            }

  -- the name at hand, by its words
  pub same_name_here : (at last : ℕ) {t : List ℕ} → Bytes s → at + 16 ≤ length s → Looked at t last → at ≡ place_of run run.count →
      has_words s (place_of run (last - run.base - 1)) (be64 s at) (be64 s (at + 8)) ≡ same_list (name_at s (place_of run (last - run.base - 1))) (name_at s at)
  same_name_here at last b h k e = words_are s s b b _ at (omega (arith, k.place)) h

  -- a table of zeros holds no name
  pub none_indexed : (size : ℕ) → run.count ≡ 0 → run.mask + 1 + run.base ≤ size → Indexed s run (replicate size 0)
  unfolding latest
  none_indexed size e h = record {
    room = omega (arith, length-replicate {A = ℕ} size 0);
    heads = λ k l. rw (zero-at size k, e) (omega arith);
    links = λ j l. absurd (omega arith);
  }
    where
      zero-at : (n i : ℕ) → ◌≡◌ {A = ℕ} (get_or {A = ℕ} (replicate n 0) i 0) 0
      zero-at zero i = refl
      zero-at (suc n) zero = refl
      zero-at (suc n) (suc i) = zero-at n i

  -- the names of a run no longer count once another begins
  pub begun_indexed : (t : List ℕ) → Indexed s run t → (other : Run) → other.count ≡ 0 → other.base ≡ run.base + run.count → other.mask ≡ run.mask → Indexed s other t
  unfolding latest
  begun_indexed t x other e b m =
      let r = x.room in
      record {
        room = omega arith;
        heads = λ h l. rw e (omega (arith, x.heads h (omega arith), latest_le h run.count));
        links = λ j l. absurd (omega arith);
      }

  -- one name more
  module _ (t : List ℕ) (x : Indexed s run t) (free : run.mask + 1 + (run.base + run.count) < length t) where
    abbrev n : ℕ
    n = run.count

    abbrev h : ℕ
    h = hash (place_of run n)

    abbrev behind : ℕ
    behind = run.mask + 1 + (run.base + n)

    link : List ℕ
    link = set t behind (get_or t h 0)

    grown : List ℕ
    grown = set link h (run.base + n + 1)

    small : h ≤ run.mask
    small = hash_small run.mask s (place_of run n)

    grown-length : length grown ≡ length t
    unfolding grown link
    grown-length = simp length-set

    head_at : get_or grown h 0 ≡ run.base + n + 1
    unfolding grown link
    head_at = get_or-set_same (set t behind (get_or t h 0)) h (run.base + n + 1) 0 (simp length-set (omega (arith, small)))

    link_at : get_or grown behind 0 ≡ get_or t h 0
    unfolding grown link
    link_at =
        get_or-set_other (set t behind (get_or t h 0)) h behind (run.base + n + 1) 0 (λ q. omega (arith, small))
        ∙ get_or-set_same t behind (get_or t h 0) 0 free

    other_at : (i : ℕ) → (i ≡ h → ⊥) → (i ≡ behind → ⊥) → get_or grown i 0 ≡ get_or t i 0
    unfolding grown link
    other_at i p q =
        get_or-set_other (set t behind (get_or t h 0)) h i (run.base + n + 1) 0 p
        ∙ get_or-set_other t behind i (get_or t h 0) 0 q

    head-now : (k : ℕ) → k ≤ run.mask → get_or grown k 0 - run.base ≡ last_of k (suc n)
    head-now k l =
        equal_or k h
        (λ q. omega (arith, ap (λ (i : ℕ). get_or grown i 0) q, head_at, latest_here k n (sym q)))
        (λ q. omega (arith, other_at k q (λ r. omega arith), x.heads k l, latest_on k n (λ r. q (sym r))))

    link-now : (j : ℕ) → j < suc n → get_or grown (run.mask + 1 + run.base + j) 0 - run.base ≡ last_of (hash (place_of run j)) j
    link-now j l =
        equal_or j n
        (λ q. rw (q, add_assoc (run.mask + 1) run.base n) (omega (arith, link_at, x.heads h small)))
        (λ q. omega (arith, other_at (run.mask + 1 + run.base + j) (λ r. omega (arith, small)) (λ r. omega arith), x.links j (omega arith)))

    pub next-indexed : Indexed s (longer run) (with_next s run t)
    unfolding with_next with_hash grown link
    next-indexed = record { room = omega (arith, grown-length); heads = λ k l. rw (add-one n) (head-now k l); links = λ j l. link-now j (omega arith) }

pub ruleset searching = (hash_small, search-first, search-on, search-end)
