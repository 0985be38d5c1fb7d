-- Laws of the steps of a transfer.
use mathlib.Core.Path.{◌≡◌, refl, sym, ap, subst, ◌∙◌}
use mathlib.Core.List.{List, [], ◌∷◌, ◌++◌, append_assoc}
use Prim.Native.Nat.{ℕ, ◌-◌, ◌≤◌, min}
use native.Mathlib.Omega.{arith}
use lib.ListN.{length, take, drop, length-take, length-drop}
use Rattle.std.specs.Prelude.{Err}
use Rattle.std.specs.declared.ops.ControlFlow.TheVariants.{Continue, Break}
use Rattle.transfers.specs.declared.Errno.{Errno}
use Rattle.transfers.specs.declared.CallError.TheVariants.{Failed}
use Rattle.transfers.specs.Transfer.{Answer, Outcome, Step, failed_by, next, transfer, bytes_of, Transferred}
use Rattle.transfers.specs.inner.Steps.{Moves, Answered, Leads}

itself : (n : ℕ) → min n n ≡ n
itself n = omega arith

-- a call that is handed a part of the room
pub of_part : (xs : List ℕ) (done : ℕ) (answer : Answer) → Moves (length (take (length xs - done) (drop done xs))) answer → Moves (length xs - done) answer
of_part xs done answer h =
    subst
    (λ (n : ℕ). Moves n answer)
    (length-take (length xs - done) (drop done xs) ∙ ap (min (length xs - done)) (length-drop done xs) ∙ itself (length xs - done))
    h

-- the answers so far, which lead from no byte to these
pub record Led (none : ℕ → Outcome) (room done : ℕ) : Type 0 where
  pub within : done ≤ room
  pub answers : List Answer
  pub onward : (later : List Answer) → transfer none room (answers ++ later) 0 ≡ transfer none room later done

pub begun : (none : ℕ → Outcome) (room : ℕ) → Led none room 0
begun none room = record { within = omega arith; answers = []; onward = λ later. refl }

pub onward : {none : ℕ → Outcome} {room done more : ℕ} {step : Step} → Led none room done → Answered none done room step → Leads room step → step ≡ Continue more
    → Led none room more
unfolding transfer
onward {none} {room} l a h e =
    record {
      within = subst (Leads room) e h;
      answers = l.answers ++ (a.answer ∷ []);
      onward = λ later.
          ap (λ (all : List Answer). transfer none room all 0) (append_assoc l.answers (a.answer ∷ []) later)
          ∙ l.onward (a.answer ∷ later)
          ∙ ap (λ (s : Step). next s (transfer none room later)) (sym a.step ∙ e);
    }

pub over : {none : ℕ → Outcome} {room done : ℕ} {outcome : Outcome} {step : Step} → Led none room done → Answered none done room step → Leads room step
    → step ≡ Break outcome → Transferred none room outcome
unfolding transfer
over {none} {room} l a h e =
    record {
      answers = l.answers ++ (a.answer ∷ []);
      outcome = sym (l.onward (a.answer ∷ []) ∙ ap (λ (s : Step). next s (transfer none room [])) (sym a.step ∙ e));
      within = subst (Leads room) e h;
    }

-- the calls were interrupted without end
pub given_up : {none : ℕ → Outcome} {room done : ℕ} → Led none room done → Transferred none room (failed_by 4)
unfolding transfer
given_up l = record { answers = l.answers ++ []; outcome = sym (l.onward []); within = omega arith }

-- an error at whatever byte: what was moved before does not count
pub partial_bytes_do_not_count : {none : ℕ → Outcome} {room done : ℕ} (l : Led none room done) (error : Errno) (later : List Answer)
    → bytes_of (transfer none room (l.answers ++ (Err (Failed error) ∷ later)) 0) ≡ 0
unfolding transfer
partial_bytes_do_not_count l error later = ap bytes_of (l.onward (Err (Failed error) ∷ later))
