-- The list of what is due, run by run: lengths, and what stands at a place.
use Prim.Native.Nat.{ℕ, zero, suc, ◌+◌, ◌*◌, ◌-◌, ◌≤◌, ◌<◌}
use mathlib.Core.Path.{◌≡◌, ◌∙◌}
use mathlib.Core.List.{List, ◌++◌}
use native.Mathlib.Nat.{mul-le-mul, mul-le-mul_right}
use native.Mathlib.Omega.{arith}
use lib.ListN.{length, get_or, length-append, get_or-append}
use Rattle.integers.proofs.Cases.{below_or}
use Rattle.fields.proofs.Lists.{get_or_behind, length_tab, get_or_tab}
use Rattle.due_factors.specs.declared.Counts.{Counts}
use Rattle.due_factors.specs.declared.Due.{Due}
use Rattle.due_factors.specs.Due.{key, run, each, flowgate, per_par, due_list, no_due}
use Rattle.due_factors.specs.inner.Places.{Few, every}

module _ (n : Counts) where
  abbrev zones : ℕ
  zones = n.zones

  abbrev units : ℕ
  units = n.units

  abbrev points : ℕ
  points = n.points

  -- a target's factors, if so many PARs have one on it
  abbrev pub whole : ℕ → ℕ → List Due
  whole target pars = each n target ++ run target 4 pars

  pub length_each : (t : ℕ) → length (each n t) ≡ every n
  unfolding each
  length_each t = simp (length-append, length_tab) (omega arith)

  pub length_whole : (t pars : ℕ) → length (whole t pars) ≡ every n + pars
  length_whole t pars = rw (length-append (each n t) (run t 4 pars)) (omega (arith, length_each t, length_tab (key t 4) pars))

  pub length_per : (p : ℕ) → length (per_par n p) ≡ p * every n
  unfolding per_par
  length_per zero = omega arith
  length_per (suc p) = simp (length-append, length_each, length_per p) (omega arith)

  pub length_due : length (due_list n) ≡ every n + n.pars + n.pars * every n
  unfolding due_list flowgate
  length_due = rw (length-append (whole 0 n.pars) (per_par n n.pars)) (omega (arith, length_whole 0 n.pars, length_per n.pars))

  pub per_most : Few n → n.pars * every n ≤ 2560
  per_most f =
      let g : every n ≤ 320 = omega (arith, f.zones_most, f.units_most, f.points_most) in
      mul-le-mul f.pars_most g

  -- the four runs of one target
  module _ (t pars i : ℕ) where
    pub in-each : i < every n → get_or (whole t pars) i no_due ≡ get_or (each n t) i no_due
    in-each h = get_or-append (each n t) (run t 4 pars) no_due i (rw (length_each t) h)

    pub in-units : i < units → get_or (whole t pars) i no_due ≡ key t 1 i
    unfolding each
    in-units h =
        in-each (omega arith)
        ∙ get_or-append (run t 1 units) (run t 2 zones ++ run t 3 points) no_due i (rw (length_tab (key t 1) units) h)
        ∙ get_or_tab (key t 1) units i no_due h

    behind-units : units ≤ i → i < every n → get_or (whole t pars) i no_due ≡ get_or (run t 2 zones ++ run t 3 points) (i - units) no_due
    unfolding each
    behind-units g h =
        in-each h
        ∙ get_or_behind (run t 1 units) (run t 2 zones ++ run t 3 points) i no_due (rw (length_tab (key t 1) units) g)
        ∙ rw (length_tab (key t 1) units)

    pub in-zones : units ≤ i → i - units < zones → get_or (whole t pars) i no_due ≡ key t 2 (i - units)
    in-zones g h =
        behind-units g (omega arith)
        ∙ get_or-append (run t 2 zones) (run t 3 points) no_due (i - units) (rw (length_tab (key t 2) zones) h)
        ∙ get_or_tab (key t 2) zones (i - units) no_due h

    pub in-points : units ≤ i → zones ≤ i - units → i - units - zones < points → get_or (whole t pars) i no_due ≡ key t 3 (i - units - zones)
    in-points g f h =
        behind-units g (omega arith)
        ∙ get_or_behind (run t 2 zones) (run t 3 points) (i - units) no_due (rw (length_tab (key t 2) zones) f)
        ∙ rw (length_tab (key t 2) zones) (get_or_tab (key t 3) points (i - units - zones) no_due h)

    pub in-pars : every n ≤ i → i - units - zones - points < pars → get_or (whole t pars) i no_due ≡ key t 4 (i - units - zones - points)
    in-pars g h =
        let e : i - every n ≡ i - units - zones - points = omega arith in
        get_or_behind (each n t) (run t 4 pars) i no_due (rw (length_each t) g)
        ∙ rw (length_each t, e) (get_or_tab (key t 4) pars (i - units - zones - points) no_due h)

  -- on the flowgate
  pub due_flowgate : (i : ℕ) → i < every n + n.pars → get_or (due_list n) i no_due ≡ get_or (whole 0 n.pars) i no_due
  unfolding due_list flowgate
  due_flowgate i h = get_or-append (whole 0 n.pars) (per_par n n.pars) no_due i (rw (length_whole 0 n.pars) h)

  -- on a PAR, among those of the first p
  per_in : (p t i : ℕ) → t < p → i < every n → get_or (per_par n p) (t * every n + i) no_due ≡ get_or (each n (suc t)) i no_due
  unfolding per_par
  per_in zero t i h g = absurd (omega arith)
  per_in (suc p) t i h g =
      let q = every n in
      let lp = length_per p in
      below_or t p
      (λ a. get_or-append (per_par n p) (each n (suc p)) no_due (t * q + i) (rw lp (room q t p i a g)) ∙ per_in p t i a g)
      (λ b.
      let e : t ≡ p = omega arith in
      let d : p * q + i - p * q ≡ i = omega arith in
      rw e (get_or_behind (per_par n p) (each n (suc p)) (p * q + i) no_due (rw lp (omega arith)) ∙ rw (lp, d)))
    where
      room : (q t p r : ℕ) → t < p → r < q → t * q + r < p * q
      room q t p r a g = let h : (t + 1) * q ≤ p * q = mul-le-mul_right q (omega arith) in omega arith

  -- and among all that is due
  pub due_par : (t i : ℕ) → t < n.pars → i < every n → get_or (due_list n) (every n + n.pars + t * every n + i) no_due ≡ get_or (each n (suc t)) i no_due
  unfolding due_list flowgate
  due_par t i h g =
      let q = every n in
      let p = n.pars in
      let z : q + p + t * q + i - (q + p) ≡ t * q + i = omega arith in
      let lw = length_whole 0 p in
      get_or_behind (whole 0 p) (per_par n p) (q + p + t * q + i) no_due (rw lw (omega arith))
      ∙ rw (lw, z) (per_in p t i h g)
