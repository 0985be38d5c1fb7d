-- The settlement flow: the market flow without the lake's circulation (document 02, request 6; source 002, 'Determining the Settlement Market Flow'). Flows are watts.
use Rattle.std.specs.Prelude.{Bool, cond, ℕ, leb, ℤ, pos, ◌+ℤ◌, ◌-ℤ◌, ◌*ℤ◌, length}
use Rattle.std.specs.Int.Signed.{le_z}
use Rattle.integers.specs.Sum.{sum_to}
use Rattle.quotient.specs.Rounded.{quotient}
use Rattle.records.specs.Content.{Content, path, circulation}
use Rattle.figures.specs.Flow.{market_flow}

-- whether a sheet has paths: then it has four, and the circulation
unfoldable pub has_paths : Content → Bool
has_paths c = leb 1 (length c.paths)

-- (4 × path flow − circulation) × factor × 10
unfoldable pub path_term : Content → ℕ → ℤ
path_term c i = (pos 4 *ℤ (path c i).flow -ℤ (circulation c).flow) *ℤ (path c i).factor *ℤ pos 10

unfoldable pub path_sum : Content → ℤ
path_sum c = sum_to (path_term c) (length c.paths)

unfoldable pub impact : Content → ℤ
impact c = quotient (path_sum c) (pos 4)

unfoldable pub adjusted_flow : Content → ℤ
adjusted_flow c = market_flow c +ℤ impact c

-- the lesser, the greater and the middle one, where `leq` says of two whether the first is at most the second
abbrev pub lesser : {A : Type 0} → (A → A → Bool) → A → A → A
lesser leq x y = cond (leq x y) x y

abbrev pub greater : {A : Type 0} → (A → A → Bool) → A → A → A
greater leq x y = cond (leq x y) y x

abbrev pub middle : {A : Type 0} → (A → A → Bool) → A → A → A → A
middle leq x y z = greater leq (lesser leq x y) (lesser leq (greater leq x y) z)

-- at an entitlement in watts; without paths it is the market flow
unfoldable pub settlement_flow : Content → ℤ → ℤ
settlement_flow c watts = cond (has_paths c) (middle le_z (market_flow c) (adjusted_flow c) watts) (market_flow c)
