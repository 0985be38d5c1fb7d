-- A content's draft gives the content.
use Prim.Native.Nat.{ℕ, ◌-◌}
use mathlib.Core.Path.{◌≡◌, refl, sym, ap, ap₂, ◌∙◌}
use mathlib.Core.List.{List, [], ◌∷◌, map}
use lib.ListN.{length, take, replicate, length-map}
use lib.Seq.{take_at}
use Rattle.records.specs.declared.Place.{Place}
use Rattle.records.specs.declared.Place.TheVariants.{Proxy, Line}
use Rattle.records.specs.declared.Point.{Point}
use Rattle.records.specs.Content.{Content, no_zone, no_unit, no_par, no_factor, no_path, no_circulation, head}
use Rattle.records.specs.inner.Places.{at_place}
use Rattle.drafts.specs.Draft.{place_given, point_given, given, drafted, no_draft_point, cells, draft_of}

-- the cells before the zeros
cells_taken : {A : Type 0} (most n : ℕ) (none : A) (l : List A) → length l ≡ n → take n (cells most none l) ≡ l
cells_taken most n none l e = take_at l (replicate (most - length l) none) n e

place_back : (p : Point) (q : Place) → p.place ≡ q → place_given (drafted p) ≡ q
place_back p Proxy e = rw e refl
place_back p (Line n) e = rw e refl

point_back : (p : Point) → point_given (drafted p) ≡ p
point_back p = ap (at_place p) (place_back p p.place refl)

points_back : (l : List Point) → map point_given (map drafted l) ≡ l
points_back [] = refl
points_back (p ∷ l) = ap₂ (λ (q : Point) (m : List Point). q ∷ m) (point_back p) (points_back l)

pub given_back : (c : Content) → c.heads ≡ head c ∷ [] → given (draft_of c) ≡ c
unfolding draft_of
given_back c one = λ j. record {
  heads = sym one j;
  zones = cells_taken 33 (length c.zones) no_zone c.zones refl j;
  units = cells_taken 257 (length c.units) no_unit c.units refl j;
  points = (ap (map point_given) (cells_taken 33 (length c.points) no_draft_point (map drafted c.points) (length-map c.points drafted)) ∙ points_back c.points) j;
  pars = cells_taken 9 (length c.pars) no_par c.pars refl j;
  factors = cells_taken 2889 (length c.factors) no_factor c.factors refl j;
  paths = cells_taken 5 (length c.paths) no_path c.paths refl j;
  circulations = cells_taken 2 (length c.circulations) no_circulation c.circulations refl j;
}
