-- What document 01 prints: the listing of sheet S, and a refusal's line.
use mathlib.Core.Path.{◌≡◌}
use Prim.Native.Nat.{ℕ}
use mathlib.Core.Bool.{Bool, true, false}
use mathlib.Core.List.{List, [], ◌∷◌, ◌++◌}
use lib.IntN.{ℤ, pos, negsuc}
use Rattle.statement.specs.declared.Statement.{Statement}
use Rattle.statement.specs.Statement.{refused_as}
use Rattle.writers.specs.Text.{ascii, digits, decimal, unfilled, hexadecimal}
use Rattle.writers.proofs.Decimal.{natural_computed}
use Rattle.printout.specs.Lines.{joined, figure, line, flowgate_line, gtl_line, flow_lines, settled_lines, amount_lines, payment_lines}
use Rattle.printout.specs.Listing.{listing, refusal_line, shown}

-- sheet S's figures, where the sheet has paths or not, and its settlement flow
unfoldable pub like_s : Bool → ℤ → Statement
like_s paths settled =
    record {
      refusal = 0;
      name = 65 ∷ 92 ∷ 66 ∷ 0 ∷ 0 ∷ 0 ∷ 0 ∷ 0 ∷ 0 ∷ 0 ∷ 0 ∷ 0 ∷ 0 ∷ 0 ∷ 0 ∷ 0 ∷ [];
      has_paths = paths;
      gtl = pos 12600000;
      first_remainder = pos 0;
      second_remainder = pos 0;
      parallel = pos 5000000;
      shadow = pos 400000;
      common = pos 4812500;
      noncommon = pos 0;
      market = pos 13187500;
      settled = settled;
      entitlement = pos 10000000;
      price = pos 5000;
      amount = pos 1328125;
      nyiso = negsuc 1328124;
      pjm = pos 1328125;
    }

unfoldable pub statement_s : Statement
statement_s = like_s false (pos 13187500)

-- the lines before and behind the line `settled`
abbrev front : List ℕ
front =
    ascii "flowgate 415c42\n"
    ++ ascii "gtl 12600000 0 0\n"
    ++ ascii "parallel 5000000\n"
    ++ ascii "shadow 400000\n"
    ++ ascii "common 4812500\n"
    ++ ascii "noncommon 0\n"
    ++ ascii "market 13187500\n"

abbrev back : List ℕ
back =
    ascii "entitlement 10000000\n"
    ++ ascii "price 5000\n"
    ++ ascii "amount 1328125\n"
    ++ ascii "NYISO -1328125\n"
    ++ ascii "PJM 1328125\n"

pub listing_S : listing statement_s ≡ front ++ back
unfolding ascii digits decimal unfilled hexadecimal joined figure line flowgate_line gtl_line flow_lines settled_lines amount_lines payment_lines listing statement_s like_s
listing_S =
    simp (
      natural_computed 12600000 tt,
      natural_computed 0 tt,
      natural_computed 5000000 tt,
      natural_computed 400000 tt,
      natural_computed 4812500 tt,
      natural_computed 13187500 tt,
      natural_computed 10000000 tt,
      natural_computed 5000 tt,
      natural_computed 1328125 tt,
    )

-- the same with paths, even where they change nothing (document 02, request 6)
pub listing_with_paths : listing (like_s true (pos 13187500)) ≡ front ++ ascii "settled 13187500\n" ++ back
unfolding ascii digits decimal unfilled hexadecimal joined figure line flowgate_line gtl_line flow_lines settled_lines amount_lines payment_lines listing like_s
listing_with_paths =
    simp (
      natural_computed 12600000 tt,
      natural_computed 0 tt,
      natural_computed 5000000 tt,
      natural_computed 400000 tt,
      natural_computed 4812500 tt,
      natural_computed 13187500 tt,
      natural_computed 10000000 tt,
      natural_computed 5000 tt,
      natural_computed 1328125 tt,
    )

pub shown_15 : shown (refused_as 15) ≡ ascii "refused 15\n"
unfolding ascii digits decimal figure line refusal_line shown
shown_15 = simp (natural_computed 15 tt)

pub shown_1 : shown (refused_as 1) ≡ ascii "refused 1\n"
unfolding ascii digits decimal figure line refusal_line shown
shown_1 = simp (natural_computed 1 tt)
