-- A draft is a content's, part by part.
use mathlib.Core.Path.{◌≡◌}
use mathlib.Core.List.{List, map}
use Rattle.records.specs.declared.Head.{Head}
use Rattle.records.specs.declared.Zone.{Zone}
use Rattle.records.specs.declared.Unit.{Unit}
use Rattle.records.specs.declared.Par.{Par}
use Rattle.records.specs.declared.Factor.{Factor}
use Rattle.records.specs.declared.Path.{Path}
use Rattle.records.specs.declared.Circulation.{Circulation}
use Rattle.records.specs.Content.{Content, no_zone, no_unit, no_par, no_factor, no_path, no_circulation, head}
use Rattle.drafts.specs.declared.DraftPoint.{DraftPoint}
use Rattle.drafts.specs.declared.Draft.{Draft}
use Rattle.drafts.specs.Draft.{cells, drafted, no_draft_point, draft_of}
use Rattle.layout.specs.declared.Layout.{Layout}
use Rattle.sheet.proofs.Accepted.{Counts}

-- the parts of a draft, with counts as in a layout
abbrev pub parts : Head → Layout → List Zone → List Unit → List DraftPoint → List Par → List Factor → List Path → List Circulation → Draft
parts h n z u p a f q k = record {
  head = h;
  zone_count = n.zones;
  zones = z;
  unit_count = n.units;
  units = u;
  point_count = n.points;
  points = p;
  par_count = n.pars;
  pars = a;
  factor_count = n.factors;
  factors = f;
  path_count = n.paths;
  paths = q;
  circulation_count = n.circulations;
  circulations = k;
}

pub joined : (c : Content) {h : Head} {n : Layout} {z : List Zone} {u : List Unit} {p : List DraftPoint} {a : List Par} {f : List Factor} {q : List Path} {k : List Circulation}
    → Counts n c → h ≡ head c → z ≡ cells 33 no_zone c.zones → u ≡ cells 257 no_unit c.units → p ≡ cells 33 no_draft_point (map drafted c.points)
    → a ≡ cells 9 no_par c.pars → f ≡ cells 2889 no_factor c.factors → q ≡ cells 5 no_path c.paths → k ≡ cells 2 no_circulation c.circulations
    → parts h n z u p a f q k ≡ draft_of c
unfolding draft_of
joined c n eh ez eu ep ea ef eq ek = λ j. record {
  head = eh j;
  zone_count = n.zones j;
  zones = ez j;
  unit_count = n.units j;
  units = eu j;
  point_count = n.points j;
  points = ep j;
  par_count = n.pars j;
  pars = ea j;
  factor_count = n.factors j;
  factors = ef j;
  path_count = n.paths j;
  paths = eq j;
  circulation_count = n.circulations j;
  circulations = ek j;
}
