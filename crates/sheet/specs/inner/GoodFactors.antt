-- Which factors pass in a run.
use Rattle.std.specs.Prelude.{ℕ, ◌+◌, ◌*◌, ◌≤◌, ◌<◌, ◌≡◌, false, List, length}
use Rattle.fields.specs.Fields.{byte_at, be32, sbe16}
use Rattle.due_factors.specs.declared.Due.{Due}
use Rattle.rows.specs.Rows.{beyond}
use Rattle.layout.specs.declared.Layout.{Layout}
use Rattle.record_table.specs.inner.Sizes.{size}

-- target, subject and index as one number, as they stand in a record
abbrev pub key_of : Due → ℕ
key_of d = d.target * 16777216 + d.subject * 65536 + d.index

-- a whole factor stands at a place, with this key and in range
pub record Good (s : List ℕ) (at key : ℕ) : Type 0 where
  pub bytes : (i : ℕ) → byte_at s i < 256
  pub whole : at + size 6 ≤ length s
  pub kind : byte_at s at ≡ 6
  pub bears : be32 s (at + 1) ≡ key
  pub range : beyond 10000 (sbe16 s (at + 5)) ≡ false

-- r factors more
abbrev pub with_factors : Layout → ℕ → Layout
with_factors l r = record { heads = l.heads; zones = l.zones; units = l.units; points = l.points; pars = l.pars; factors = l.factors + r; paths = l.paths; circulations = l.circulations }
