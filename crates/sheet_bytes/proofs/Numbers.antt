-- The numbers that content can meet: 0, one from 5 to 13, or 28.
use Prim.Native.Nat.{ℕ, ◌≤◌}
use mathlib.Core.Path.{◌≡◌, refl}
use mathlib.Core.Bool.{Bool, true, false, ◌||◌, cond}
use mathlib.Core.Logic.{◌⊎◌, inl, inr}
use mathlib.Core.List.{List, [], ◌∷◌, ◌++◌, map}
use native.Mathlib.Omega.{arith}
use lib.Dec.{eqb}
use lib.ListN.{length}
use Rattle.rows.specs.Rows.{row}
use Rattle.names.specs.Names.{bad_name, seen_before}
use Rattle.records.specs.declared.Head.{Head}
use Rattle.records.specs.declared.Zone.{Zone}
use Rattle.records.specs.declared.Unit.{Unit}
use Rattle.records.specs.declared.Point.{Point}
use Rattle.records.specs.declared.Par.{Par}
use Rattle.records.specs.declared.Factor.{Factor}
use Rattle.records.specs.declared.Path.{Path}
use Rattle.records.specs.declared.Circulation.{Circulation}
use Rattle.records.specs.Content.{Content}
use Rattle.due_factors.specs.declared.Due.{Due}
use Rattle.due_factors.specs.Due.{counts_of, due}
use Rattle.field_rows.specs.FieldRows.{no_rto, no_type, no_zone_of, place_unknown, head_outside, zone_outside, unit_outside, point_outside, par_outside, factor_outside, path_outside, circulation_outside, path_factor_outside}
use Rattle.record_rows.specs.Rows.{one_too_many, not_due, head_row, zone_row, unit_row, point_row, par_row, factor_row, path_row, circulation_row, no_zone_or_unit, still_due, lake_in_part, end_row, last_row}
use Rattle.sheet_bytes.specs.ContentRow.{then_row, in_turn, named_row, circulation_behind, content_row}

-- no row, or one of the writer's
abbrev pub OfContent : ℕ → Type 0
OfContent n = (n ≡ 0) ⊎ (((5 ≤ n) × (n ≤ 13)) ⊎ (n ≡ 28))

none : OfContent 0
none = inl refl

one : (number : ℕ) → 5 ≤ number → number ≤ 13 → (met : Bool) (below : ℕ) → OfContent below → OfContent (row number met below)
one number g h true below b = inr (inl (g, h))
one number g h false below b = b

-- rows 6 to 9 of a record with a name, and the pairs
names : (a b c d : Bool) (below : ℕ) → OfContent below → OfContent (row 6 a (row 7 b (row 8 c (row 9 d below))))
names a b c d below h =
    one 6 (omega arith) (omega arith) a (row 7 b (row 8 c (row 9 d below)))
    (one 7 (omega arith) (omega arith) b (row 8 c (row 9 d below))
    (one 8 (omega arith) (omega arith) c (row 9 d below)
    (one 9 (omega arith) (omega arith) d below h)))

two : (n m : ℕ) → 5 ≤ n → n ≤ 13 → 5 ≤ m → m ≤ 13 → (a b : Bool) (below : ℕ) → OfContent below → OfContent (row n a (row m b below))
two n m g h g' h' a b below k = one n g h a (row m b below) (one m g' h' b below k)

lake : (met : Bool) → OfContent (row 28 met 0)
lake true = inr (inr refl)
lake false = none

named : {A : Type 0} (kind : ℕ) (name_of : A → List ℕ) (row_of : Bool → A → ℕ) → ((repeated : Bool) (a : A) → OfContent (row_of repeated a)) →
    (before : List A) (a : A) → OfContent (named_row kind name_of row_of before a)
named kind name_of row_of f before a =
    let repeated = seen_before (map name_of before) (name_of a) in
    one 5 (omega arith) (omega arith) (one_too_many kind (length before)) (row_of repeated a) (f repeated a)

then_number : (number later : ℕ) → OfContent number → OfContent later → OfContent (then_row number later)
then_number number later a b = pick (eqb number 0)
  where
    pick : (t : Bool) → OfContent (cond t later number)
    pick true = b
    pick false = a

turn_number : {A : Type 0} (row_of : List A → A → ℕ) → ((before : List A) (a : A) → OfContent (row_of before a)) → (l before : List A) (later : ℕ) → OfContent later → OfContent (in_turn row_of before l later)
unfolding in_turn
turn_number row_of f [] before later b = b
turn_number row_of f (a ∷ l) before later b = then_number (row_of before a) _ (f before a) (turn_number row_of f l (before ++ (a ∷ [])) later b)

head_number : (h : Head) → OfContent (head_row h)
unfolding head_row
head_number h = names (bad_name h.name) false (no_rto h.monitoring_rto) (head_outside h) 0 none

zone_number : (repeated : Bool) (z : Zone) → OfContent (zone_row repeated z)
unfolding zone_row
zone_number repeated z = names (bad_name z.name) repeated false (zone_outside z) 0 none

unit_number : (zones : ℕ) (repeated : Bool) (u : Unit) → OfContent (unit_row zones repeated u)
unfolding unit_row
unit_number zones repeated u = names (bad_name u.name) repeated (no_zone_of zones u.zone) (unit_outside u) 0 none

point_number : (zones : ℕ) (repeated : Bool) (p : Point) → OfContent (point_row zones repeated p)
unfolding point_row
point_number zones repeated p = names (bad_name p.name) repeated (no_type p.sort || place_unknown zones p.place) (point_outside p) 0 none

par_number : (repeated : Bool) (p : Par) → OfContent (par_row repeated p)
unfolding par_row
par_number repeated p = names (bad_name p.name) repeated (no_type p.class) (par_outside p) 0 none

factor_number : (list : List Due) (earlier : ℕ) (f : Factor) → OfContent (factor_row list earlier f)
unfolding factor_row
factor_number list earlier f = two 10 11 (omega arith) (omega arith) (omega arith) (omega arith) (not_due list earlier f) (factor_outside f) 0 none

path_number : (repeated : Bool) (p : Path) → OfContent (path_row repeated p)
unfolding path_row
path_number repeated p =
    names (bad_name p.name) repeated false (path_outside p) (row 11 (path_factor_outside p) 0) (one 11 (omega arith) (omega arith) (path_factor_outside p) 0 none)

circulation_number : (before : List Circulation) (c : Circulation) → OfContent (circulation_behind before c)
unfolding circulation_row
circulation_number before c = two 5 9 (omega arith) (omega arith) (omega arith) (omega arith) (one_too_many 8 (length before)) (circulation_outside c) 0 none

last_number : (c : Content) → OfContent (last_row c)
unfolding last_row end_row
last_number c = two 12 13 (omega arith) (omega arith) (omega arith) (omega arith) (no_zone_or_unit (counts_of c)) (still_due (counts_of c) (length c.factors)) _ (lake (lake_in_part (length c.paths) (length c.circulations)))

pub numbers : (c : Content) → OfContent (content_row c)
unfolding content_row
numbers c =
    turn_number _ (λ before h. head_number h) c.heads [] _
    (turn_number _ (named 2 (λ (z : Zone). z.name) zone_row zone_number) c.zones [] _
    (turn_number _ (named 3 (λ (u : Unit). u.name) (unit_row (length c.zones)) (unit_number (length c.zones))) c.units [] _
    (turn_number _ (named 4 (λ (p : Point). p.name) (point_row (length c.zones)) (point_number (length c.zones))) c.points [] _
    (turn_number _ (named 5 (λ (p : Par). p.name) par_row par_number) c.pars [] _
    (turn_number _ (λ before f. factor_number (due c) (length before) f) c.factors [] _
    (turn_number _ (named 7 (λ (p : Path). p.name) path_row path_number) c.paths [] _
    (turn_number _ circulation_number c.circulations [] _ (last_number c))))))))
