-- The table of records (document 01, 'The interval sheet'): the body and the number of each kind.
use Rattle.std.specs.Prelude.{ℕ, ◌+◌, Bool, true, false, List, [], ◌∷◌, length, take, get_or}

-- a kind's row: how many bytes each of its fields has, in their order; whether the first is a name; how many records of the kind there may be
pub record KindRow : Type 0 where
  pub fields : List ℕ
  pub named : Bool
  pub most : ℕ

-- 1: flowgate name; Monitoring RTO; seconds; Monitoring price; Non-Monitoring price
abbrev pub head_kind : KindRow
head_kind = record { fields = 16 ∷ 1 ∷ 2 ∷ 4 ∷ 4 ∷ []; named = true; most = 1 }

-- 2: name; load; losses
abbrev pub zone_kind : KindRow
zone_kind = record { fields = 16 ∷ 4 ∷ 4 ∷ []; named = true; most = 32 }

-- 3: name; zone number; output
abbrev pub unit_kind : KindRow
unit_kind = record { fields = 16 ∷ 1 ∷ 4 ∷ []; named = true; most = 256 }

-- 4: name; type; place; import; export; wheel in; wheel out (document 02, request 5)
abbrev pub point_kind : KindRow
point_kind = record { fields = 16 ∷ 1 ∷ 1 ∷ 4 ∷ 4 ∷ 4 ∷ 4 ∷ []; named = true; most = 32 }

-- 5: name; class; actual; target
abbrev pub par_kind : KindRow
par_kind = record { fields = 16 ∷ 1 ∷ 4 ∷ 4 ∷ []; named = true; most = 8 }

-- 6: target; subject; index; factor. How many there are is for the list of those due to say, and for no limit
abbrev pub factor_kind : KindRow
factor_kind = record { fields = 1 ∷ 1 ∷ 2 ∷ 2 ∷ []; named = false; most = 0 }

-- 7: name; path market flow; factor (document 02, request 6)
abbrev pub path_kind : KindRow
path_kind = record { fields = 16 ∷ 4 ∷ 2 ∷ []; named = true; most = 4 }

-- 8: Lake Erie circulation (document 02, request 6)
abbrev pub circulation_kind : KindRow
circulation_kind = record { fields = 4 ∷ []; named = false; most = 1 }

abbrev pub kind_rows : List KindRow
kind_rows = head_kind ∷ zone_kind ∷ unit_kind ∷ point_kind ∷ par_kind ∷ factor_kind ∷ path_kind ∷ circulation_kind ∷ []

abbrev pub last_kind : ℕ
last_kind = length kind_rows

-- the entry of a kind in a list with one for each from 1 on; `none` of any other kind
abbrev pub by_kind : {A : Type 0} → ℕ → A → List A → A
by_kind kind none entries = get_or (none ∷ entries) kind none

abbrev pub no_kind : KindRow
no_kind = record { fields = []; named = false; most = 0 }

abbrev pub kind_of : ℕ → KindRow
kind_of kind = by_kind kind no_kind kind_rows

abbrev pub total : List ℕ → ℕ
total [] = 0
total (n ∷ ns) = n + total ns

abbrev pub body_length : ℕ → ℕ
body_length kind = total (kind_of kind).fields

-- the body of a record: as many of the bytes r behind its kind byte as the kind fixes
abbrev pub body_in : ℕ → List ℕ → List ℕ
body_in kind r = take (body_length kind) r

-- where a field begins in the body, the first being 0: behind those before it
abbrev pub field_at : KindRow → ℕ → ℕ
field_at k field = total (take field k.fields)
