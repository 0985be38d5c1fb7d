-- The index of names while a sheet is read: it holds the names of the last record's kind.
use Rattle.std.specs.Prelude.{ℕ, ◌+◌, ◌-◌, ◌≡◌, cond, List, length}
use Rattle.record_table.specs.Table.{head_kind, zone_kind, unit_kind, point_kind, par_kind, path_kind, kind_of}
use Rattle.name_index.specs.declared.Run.{Run}
use Rattle.name_index.specs.inner.Index.{Indexed}
use Rattle.layout.specs.declared.Layout.{Layout}
use Rattle.record_table.specs.inner.Sizes.{size}
use Rattle.layout.specs.inner.Places.{count, first_of}

-- how many records have a name: all but the factors and the circulation
abbrev pub named : Layout → ℕ
named l = l.heads + l.zones + l.units + l.points + l.pars + l.paths

-- how many names of a kind there are
abbrev pub names_in : Layout → ℕ → ℕ
names_in l kind = cond (kind_of kind).named (count l kind) 0

-- the greatest hash
abbrev pub mask : ℕ
mask = 511

-- how many names a sheet may have
abbrev pub most_named : ℕ
most_named = head_kind.most + zone_kind.most + unit_kind.most + point_kind.most + par_kind.most + path_kind.most

-- a place for each hash, for each name that is allowed, and for one too many
abbrev pub table_size : ℕ
table_size = mask + 1 + most_named + 1

-- the names of a kind's records, behind those of the kinds below
abbrev pub run_of : Layout → ℕ → Run
run_of l kind = record { first = first_of l kind + 1; stride = size kind; count = names_in l kind; base = named l - names_in l kind; mask = mask }

-- the table holds the names of a kind's records
pub record Listed (s : List ℕ) (l : Layout) (kind : ℕ) (table : List ℕ) : Type 0 where
  pub full : length table ≡ table_size
  pub holds : Indexed s (run_of l kind) table
