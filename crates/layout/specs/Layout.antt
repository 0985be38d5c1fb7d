-- How many records of each kind a sheet has: all that the reader keeps of it.
use Rattle.std.specs.Prelude.{length}
use Rattle.records.specs.Content.{Content}
use Rattle.layout.specs.declared.Layout.{Layout}

unfoldable pub layout_of : Content → Layout
layout_of c = record {
  heads = length c.heads;
  zones = length c.zones;
  units = length c.units;
  points = length c.points;
  pars = length c.pars;
  factors = length c.factors;
  paths = length c.paths;
  circulations = length c.circulations;
}
