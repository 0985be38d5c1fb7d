-- The kinds by their bytes (document 01, 'The interval sheet').
use Rattle.std.specs.Prelude.{ℕ, ◌≡◌, true, Result, Ok, MatchResult}
use Rattle.rows.specs.Rows.{outside}
use Rattle.rows.specs.declared.Refusal.{Refusal}
use Rattle.rows.specs.declared.Refusal.TheVariants.{UnknownKind}
use Rattle.record_table.specs.Table.{last_kind}
use Rattle.record_table.specs.declared.kind.Kind.{Kind}
use Rattle.record_table.specs.declared.kind.Kind.TheVariants as kind

abbrev pub code : Kind → ℕ
code kind.Head = 1
code kind.Zone = 2
code kind.Unit = 3
code kind.Point = 4
code kind.Par = 5
code kind.Factor = 6
code kind.Path = 7
code kind.Circulation = 8

-- the kind that a byte names, or row 2 of a byte that names none
abbrev pub Decodes : ℕ → Result Kind Refusal → Type 0
Decodes byte r = MatchResult r (λ known. code known ≡ byte) (λ refusal. (refusal ≡ UnknownKind) × (outside 1 byte last_kind ≡ true))

-- a kind in an answer is the one that the byte names
abbrev pub Named : ℕ → Result Kind Refusal → Type 0
Named byte answer = (kind : Kind) → answer ≡ Ok kind → code kind ≡ byte
