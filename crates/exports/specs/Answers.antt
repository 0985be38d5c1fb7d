-- The answers of the reader, of the list and of an explanation as numbers, for callers that have no enums.
use Rattle.std.specs.Prelude.{ℕ, pos}
use Rattle.sheet.specs.Sheet.{Outcome}
use Rattle.sheet.specs.Sheet as outcome
use Rattle.entitlements.specs.Entitlements.{Entitlement}
use Rattle.entitlements.specs.Entitlements as found
use Rattle.exports.specs.declared.ReadAnswer.{ReadAnswer}
use Rattle.explanation.specs.Explanation.{Reason, None, Above, Below, At, Finding}
use Rattle.exports.specs.declared.EntitlementAnswer.{EntitlementAnswer}
use Rattle.exports.specs.declared.ExplanationAnswer.{ExplanationAnswer}

abbrev pub read_answer : Outcome → ReadAnswer
read_answer (outcome.Accepted l) = record { refusal = 0; place = 0; zones = l.zones; units = l.units; points = l.points; pars = l.pars; factors = l.factors; paths = l.paths; circulations = l.circulations }
read_answer (outcome.Refused row place) = record { refusal = row; place = place; zones = 0; units = 0; points = 0; pars = 0; factors = 0; paths = 0; circulations = 0 }

abbrev pub entitlement_answer : Entitlement → EntitlementAnswer
entitlement_answer (found.Found value) = record { refusal = 0; value = value }
entitlement_answer (found.Refused row) = record { refusal = row; value = pos 0 }

abbrev pub reason_code : Reason → ℕ
reason_code None = 0
reason_code Above = 1
reason_code Below = 2
reason_code At = 3

abbrev pub explanation_answer : Finding → ExplanationAnswer
explanation_answer f = record { refusal = f.refusal; reason = reason_code f.reason; from = f.from; to = f.to }
