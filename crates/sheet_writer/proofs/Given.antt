-- The records that a draft gives: how many there are, and their bytes.
use Prim.Native.Nat.{ℕ, ◌+◌, ◌*◌, ◌≤◌}
use mathlib.Core.Path.{◌≡◌, refl, sym, ◌∙◌}
use mathlib.Core.List.{List, ◌∷◌, ◌++◌, map, append-nil, append_assoc}
use native.Mathlib.Omega.{arith}
use lib.ListN.{length, take, length-map}
use lib.Seq.{take_all, length-take-le}
use borrow.Author.Tests.{lt-ltb, le-ltb}
use Rattle.integers.proofs.Cases.{below_or}
use Rattle.record_table.specs.inner.Sizes.{size}
use Rattle.layout.specs.Layout.{layout_of}
use Rattle.layout.specs.inner.Places.{extent}
use Rattle.layout.proofs.Places.{extent_is}
use Rattle.drafts.specs.declared.Draft.{Draft}
use Rattle.drafts.specs.Draft.{point_given, given}
use Rattle.records.specs.Bodies.{head_of, zone_of, unit_of, point_of, par_of, factor_of, path_of, circulation_of}
use Rattle.sheet_bytes.specs.SheetBytes.{head_body, zone_body, unit_body, point_body, par_body, factor_body, path_body, circulation_body, all, sheet_bytes}
use Rattle.sheet_bytes.specs.inner.Marked.{marked_point, marked}
use Rattle.sheet_bytes.specs.inner.Returns.{Returns, Each, Returned}
use Rattle.sheet_writer.specs.inner.Given.{at_most, most_given}

module _ (d : Draft) where
  -- how many bytes the records that are given have
  pub given_room : extent (layout_of (given d)) ≡ size 1 + size 2 * length (take d.zone_count d.zones) + size 3 * length (take d.unit_count d.units)
      + size 4 * length (take d.point_count d.points) + size 5 * length (take d.par_count d.pars) + size 6 * length (take d.factor_count d.factors)
      + size 7 * length (take d.path_count d.paths) + size 8 * length (take d.circulation_count d.circulations)
  unfolding layout_of
  given_room = omega (arith, extent_is (layout_of (given d)), length-map (take d.point_count d.points) point_given)

  -- part by part, as they are written
  pub content_bytes : (1 ∷ head_body d.head) ++ all 2 zone_body (marked (given d)).zones ++ all 3 unit_body (marked (given d)).units
      ++ (all 4 point_body (marked (given d)).points ++ all 5 par_body (marked (given d)).pars ++ all 6 factor_body (marked (given d)).factors)
      ++ (all 7 path_body (marked (given d)).paths ++ all 8 circulation_body (marked (given d)).circulations)
      ≡ sheet_bytes (marked (given d))
  unfolding sheet_bytes all
  content_bytes =
      let c = marked (given d) in
      let head : List ℕ = 1 ∷ head_body d.head in
      let zones = all 2 zone_body c.zones in
      let units = all 3 unit_body c.units in
      let points = all 4 point_body c.points in
      let pars = all 5 par_body c.pars in
      let factors = all 6 factor_body c.factors in
      let lake = all 7 path_body c.paths ++ all 8 circulation_body c.circulations in
      rw (
        append-nil (head_body d.head),
        append_assoc (head ++ zones ++ units) (points ++ pars ++ factors) lake,
        append_assoc (points ++ pars) factors lake,
        append_assoc points pars (factors ++ lake),
        append_assoc (head ++ zones) units (points ++ (pars ++ (factors ++ lake))),
        append_assoc head zones (units ++ (points ++ (pars ++ (factors ++ lake)))),
      )
      refl

-- an array of `most` cells, and n, its count or all of them
pub record Part {A : Type 0} (l : List A) (most count n : ℕ) : Type 0 where
  pub full : length l ≡ most
  pub is : n ≡ at_most count most

module _ {A : Type 0} {l : List A} {most count n : ℕ} (h : Part l most count n) where
  pub part_taken : take n l ≡ take count l
  part_taken =
      below_or count most
      (λ g. rw (h.is, lt-ltb count most g) refl)
      (λ g. rw (h.is, le-ltb count most g) (take_all most l (omega (arith, h.full)) ∙ sym (take_all count l (omega (arith, h.full)))))

  pub part_most : n ≤ most
  part_most = below_or count most (λ g. rw (h.is, lt-ltb count most g) (omega arith)) (λ g. rw (h.is, le-ltb count most g) (omega arith))

  pub part_length : length (take count l) ≡ n
  part_length = rw (← part_taken) (length-take-le n l (omega (arith, part_most, h.full)))

pub record Parts (d : Draft) (z u p a f q k : ℕ) : Type 0 where
  pub zones : Part d.zones 33 d.zone_count z
  pub units : Part d.units 257 d.unit_count u
  pub points : Part d.points 33 d.point_count p
  pub pars : Part d.pars 9 d.par_count a
  pub factors : Part d.factors 2889 d.factor_count f
  pub paths : Part d.paths 5 d.path_count q
  pub circulations : Part d.circulations 2 d.circulation_count k

module _ {d : Draft} {z u p a f q k : ℕ} (h : Parts d z u p a f q k) where
  pub given_extent : extent (layout_of (given d)) ≡ size 1 + size 2 * z + size 3 * u + size 4 * p + size 5 * a + size 6 * f + size 7 * q + size 8 * k
  given_extent =
      omega (
        arith,
        given_room d,
        part_length h.zones,
        part_length h.units,
        part_length h.points,
        part_length h.pars,
        part_length h.factors,
        part_length h.paths,
        part_length h.circulations,
      )

  pub given_most : extent (layout_of (given d)) ≤ most_given
  given_most = omega (arith, given_extent, part_most h.zones, part_most h.units, part_most h.points, part_most h.pars, part_most h.factors, part_most h.paths, part_most h.circulations)

  pub few_zones : length (given d).zones ≤ 33
  few_zones = omega (arith, part_length h.zones, part_most h.zones)

  pub given_bytes : (1 ∷ head_body d.head) ++ all 2 zone_body (take z d.zones) ++ all 3 unit_body (take u d.units)
      ++ (all 4 point_body (map marked_point (map point_given (take p d.points))) ++ all 5 par_body (take a d.pars) ++ all 6 factor_body (take f d.factors))
      ++ (all 7 path_body (take q d.paths) ++ all 8 circulation_body (take k d.circulations))
      ≡ sheet_bytes (marked (given d))
  given_bytes =
      rw (
        part_taken h.zones,
        part_taken h.units,
        part_taken h.points,
        part_taken h.pars,
        part_taken h.factors,
        part_taken h.paths,
        part_taken h.circulations,
      )
      (content_bytes d)

  -- what each writer says of its records, of all that are given
  pub given_returned : Returns 1 head_body head_of d.head × Each (Returns 2 zone_body zone_of) (take z d.zones) × Each (Returns 3 unit_body unit_of) (take u d.units) →
      Each (Returns 4 point_body point_of) (map marked_point (map point_given (take p d.points))) × Each (Returns 5 par_body par_of) (take a d.pars) × Each (Returns 6 factor_body factor_of) (take f d.factors) →
      Each (Returns 7 path_body path_of) (take q d.paths) × Each (Returns 8 circulation_body circulation_of) (take k d.circulations) →
      Returned (marked (given d))
  given_returned grid flows lake = record {
    heads = (grid.0, tt);
    zones = rw (part_taken h.zones) at grid.1;
    units = rw (part_taken h.units) at grid.2;
    points = rw (part_taken h.points) at flows.0;
    pars = rw (part_taken h.pars) at flows.1;
    factors = rw (part_taken h.factors) at flows.2;
    paths = rw (part_taken h.paths) at lake.0;
    circulations = rw (part_taken h.circulations) at lake.1;
  }
