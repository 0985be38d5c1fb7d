-- What a refused statement is (document 01, 'Where each refusal is checked').
use Rattle.std.specs.Prelude.{ℕ, false, pos, replicate}
use Rattle.statement.specs.declared.Statement.{Statement}

-- the number and zeros everywhere else, the name's 16 bytes too
abbrev pub refused_as : ℕ → Statement
refused_as n =
    record {
      refusal = n;
      name = replicate 16 0;
      has_paths = false;
      gtl = pos 0;
      first_remainder = pos 0;
      second_remainder = pos 0;
      parallel = pos 0;
      shadow = pos 0;
      common = pos 0;
      noncommon = pos 0;
      market = pos 0;
      settled = pos 0;
      entitlement = pos 0;
      price = pos 0;
      amount = pos 0;
      nyiso = pos 0;
      pjm = pos 0;
    }
