-- One side of the balance, loads or generation: what its two arrays hold, and what is made of them.
use Prim.Native.Nat.{ℕ, ◌+◌, ◌<◌, ◌≤◌}
use native.Mathlib.Omega.{arith}
use mathlib.Core.Path.{◌≡◌, refl, ap₂, ◌∙◌}
use mathlib.Core.List.{List}
use lib.Dec.{lit<}
use lib.IntN.{ℤ, pos, ◌-ℤ◌}
use lib.ListN.{get_or}
use mir.Syntax.{w64}
use mir.Val.{to_z, SFits}
use Rattle.integers.specs.Sum.{sum_to}
use Rattle.integers.proofs.Machine.{Num, Op, rd, num_is, num_u, sub}
use Rattle.integers.proofs.Sums.{sum_same, sum_abs}
use Rattle.layout.specs.declared.Layout.{Layout}
use Rattle.records.specs.declared.Place.TheVariants.{Proxy, Line}
use Rattle.record_rows.specs.inner.Valid.{Valid}
use Rattle.sheet.specs.Sheet.{Accepted, read_sheet, content_of}
use Rattle.sheet.proofs.Accepted.{valid, counts}
use Rattle.figures.specs.Balance.{imports, exports, total_load, zone_load, zone_output, zone_generation}
use Rattle.zone_sums.specs.inner.Ledger.{Ledger, Loads, Outputs, Imports, Exports}
use Rattle.zone_sums.specs.ByZone.{cells}
use Rattle.zone_sums.specs.inner.Ledger.{sum_at, Sums, Small, amount_at, net_at, total, Held, figure_at}
use Rattle.zone_sums.proofs.Cells.{cell_at, cells_same, cells_held}
use Rattle.zone_sums.proofs.Laws.{outputs_are, imports_are, exports_are, loads_are, proxy_imports_are, proxy_exports_are, net_at_most, total_num}
use Rattle.zone_sums.proofs.Bookings.{small_of}

-- what is made of two arrays of sums, p and m: xs the figures of the zones, x their sum, as the calls returned them
module _ {p m : List ℕ} {zones : ℕ} (few : zones ≤ 32) (sp : Small p) (sm : Small m) {xs : List ℤ} (exs : xs ≡ cells (net_at p m) zones) where
  pub held : Held xs
  held = rw exs (cells_held (net_at p m) zones few (λ z l. net_at_most p m sp sm z (omega arith)))

  net_num : {x : ℤ} → x ≡ sum_to (figure_at xs) zones → Num (rd x) (sum_to (figure_at xs) zones) 65536000000
  net_num {x = x} ex = num_is x (sum_to (figure_at xs) zones) 65536000000 ex (omega (arith, sum_abs (figure_at xs) 2048000000 zones (λ z l. held.most z (omega arith)))) (lit< tt)

  final_op : {x : ℤ} → x ≡ sum_to (figure_at xs) zones → Op (rd x -ℤ to_z w64 (get_or m 0 0)) (sum_to (figure_at xs) zones -ℤ pos (get_or m 0 0)) 66560000000
  final_op ex = sub (net_num ex) (num_u (get_or m 0 0) 1024000000 (sm.most 0 (omega arith)) (lit< tt)) (lit< tt)

  pub final_fits : {x : ℤ} → x ≡ sum_to (figure_at xs) zones → SFits w64 (rd x -ℤ to_z w64 (get_or m 0 0))
  final_fits ex = (final_op ex).fits

-- one side: at each zone g before anything is taken off and f after it; and what the proxies take off
pub record Side (p m : List ℕ) (zones : ℕ) (g f : ℕ → ℤ) (proxies : ℤ) : Type 0 where
  pub few : zones ≤ 32
  pub plus_small : Small p
  pub minus_small : Small m
  pub gross_at : (z : ℕ) → z < zones → amount_at p z ≡ g z
  pub net_at : (z : ℕ) → z < zones → net_at p m z ≡ f z
  pub at_proxies : pos (get_or m 0 0) ≡ proxies

module _ {p m : List ℕ} {zones : ℕ} {g f : ℕ → ℤ} {proxies : ℤ} (d : Side p m zones g f proxies) where
  pub gross_is : {t : ℤ} → t ≡ total p zones → rd t ≡ sum_to g zones
  unfolding total
  gross_is {t = t} et = (total_num p d.plus_small zones d.few t et).is ∙ sum_same (amount_at p) g zones d.gross_at

  module _ {xs : List ℤ} (exs : xs ≡ cells (net_at p m) zones) where
    pub cells_are : xs ≡ cells f zones
    cells_are = exs ∙ cells_same (net_at p m) f zones d.net_at

    sum_is : sum_to (figure_at xs) zones ≡ sum_to f zones
    sum_is = sum_same (figure_at xs) f zones (λ z l. rw cells_are (cell_at f zones z d.few l))

    module _ {x : ℤ} (ex : x ≡ sum_to (figure_at xs) zones) where
      pub net-is : rd x ≡ sum_to f zones
      net-is = (net_num d.few d.plus_small d.minus_small exs ex).is ∙ sum_is

      pub final-is : rd (rd x -ℤ to_z w64 (get_or m 0 0)) ≡ sum_to f zones -ℤ proxies
      final-is = (final_op d.few d.plus_small d.minus_small exs ex).num.is ∙ rw (sum_is, d.at_proxies)

-- of an accepted sheet
module _ (s : List ℕ) (l : Layout) (e : read_sheet s ≡ Accepted l) where
  is_valid : Valid (content_of s)
  is_valid = valid s l e

  pub few_zones : l.zones ≤ 32
  few_zones = omega (arith, (counts s l e).zones, is_valid.zones_most)

  pub small : (ledger : Ledger) (sums : List ℕ) → Sums (content_of s) ledger sums → Small sums
  small = small_of (content_of s) is_valid

  module _ (p m : List ℕ) where
    -- what is taken off at each zone stands in the second ledger
    side : {plus minus : Ledger} (g f taken : ℕ → ℤ) {proxies : ℤ} → Sums (content_of s) plus p → Sums (content_of s) minus m →
        ((z : ℕ) → z < l.zones → sum_at (content_of s) plus (z + 1) ≡ g z) →
        ((z : ℕ) → sum_at (content_of s) minus (z + 1) ≡ taken z) →
        sum_at (content_of s) minus 0 ≡ proxies →
        ((z : ℕ) → g z -ℤ taken z ≡ f z) →
        Side p m l.zones g f proxies
    unfolding amount_at net_at
    side {plus = plus} {minus = minus} g f taken hp hm plus-is minus_is proxies-are less =
        let number : (z : ℕ) → z < l.zones → z + 1 < 33 = λ z k. omega (arith, few_zones) in
        let gross_at : (z : ℕ) → z < l.zones → pos (get_or p (z + 1) 0) ≡ g z = λ z k. hp.sum (z + 1) (number z k) ∙ plus-is z k in
        record {
          few = few_zones;
          plus_small = small plus p hp;
          minus_small = small minus m hm;
          gross_at = gross_at;
          net_at = λ z k. ap₂ (λ (x y : ℤ). x -ℤ y) (gross_at z k) (hm.sum (z + 1) (number z k) ∙ minus_is z) ∙ less z;
          at_proxies = hm.sum 0 (omega arith) ∙ proxies-are;
        }

    pub load_side : Sums (content_of s) Loads p → Sums (content_of s) Imports m → Side p m l.zones (total_load (content_of s)) (zone_load (content_of s)) (imports (content_of s) Proxy)
    unfolding zone_load
    load_side hp hm =
        let c = content_of s in
        side (total_load c) (zone_load c) (λ z. imports c (Line (z + 1))) hp hm (λ z k. loads_are c z (omega (arith, (counts s l e).zones))) (imports_are c) (proxy_imports_are c is_valid) (λ z. refl)

    pub generation-side : Sums (content_of s) Outputs p → Sums (content_of s) Exports m → Side p m l.zones (zone_output (content_of s)) (zone_generation (content_of s)) (exports (content_of s) Proxy)
    unfolding zone_generation
    generation-side hp hm =
        let c = content_of s in
        side (zone_output c) (zone_generation c) (λ z. exports c (Line (z + 1))) hp hm (λ z k. outputs_are c z) (exports_are c) (proxy_exports_are c is_valid) (λ z. refl)
