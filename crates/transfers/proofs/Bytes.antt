-- Laws of the bytes that the steps of a transfer move.
use Rattle.std.proofs.Common.{◌≡◌, ℕ, ◌+◌, ◌-◌, ◌≤◌, ◌<◌, Bool, true, false, cond, List, ◌++◌, length, take, drop, refl, sym, ap, subst, ◌∙◌, arith, Option, Ok, Err, Continue, Break, length-take, length-drop, length-take-le, append-nil}
use Rattle.std.proofs.lemmas.List.{take-append-le, take_all}
use Rattle.std.proofs.Math.Seq.{take-append-add}
use Rattle.std.proofs.KnownBytes.{Consumes-trans, Consumes-kept, Appends-trans, Appends-kept}
use Rattle.std.specs.Io.KnownBytes.{Appends, Consumes, IsAtEnd, ReadConsumes, WriteAppends}
use borrow.Author.Tests.{ltb-true, ltb-false, eqb-true}
use borrow.Rule.Slice.PartMut.{put_mid, post_of, same_len_mid}
use lib.Dec.{eqb, ltb}
use lib.Seq.{take-add}
use Rattle.transfers.specs.declared.CallError.TheVariants.{Interrupted, Failed}
use Rattle.transfers.specs.Transfer.{Answer, after, failed_by, WroteOn}
use Rattle.transfers.specs.inner.Steps.{Moves, ReadOn, ReadLeads, WriteLeads}

-- what a call put into the part stands behind the bytes before it
front : (buf part : List ℕ) (done n : ℕ) → done ≤ length buf → n ≤ length part → take done buf ++ take n part ≡ take (done + n) (put_mid done (length buf - done) buf part)
front buf part done n within fits =
    let after_part = post_of done (length buf - done) buf in
    ap (λ l. take done buf ++ l) (sym (take-append-le n part after_part fits))
    ∙ sym (take-append-add (take done buf) (part ++ after_part) n)
    ∙ ap (λ m. take (m + n) (put_mid done (length buf - done) buf part)) (length-take-le done buf within)

moved_reads : (first new : Option (List ℕ)) (all : List ℕ) (n done : ℕ) (b e : Bool) → ltb n (length all - done) ≡ b → eqb n 0 ≡ e
    → n ≤ length all - done → done ≤ length all → Consumes first new (take (done + n) all) → (n ≡ 0 → n < length all - done → IsAtEnd new)
    → ReadLeads first new all (cond b (cond e (Break (Ok done)) (Continue (done + n))) (Break (Ok (length all))))
moved_reads first new all n done true true t u fits within h end =
    let none : n ≡ 0 = eqb-true n 0 u in
    let less : n < length all - done = ltb-true _ _ t in
    let same : done + n ≡ done = omega arith in
    (subst (λ m. Consumes first new (take m all)) same h, λ _. end none less)
moved_reads first new all n done true false t u fits within h end = h
moved_reads first new all n done false e t u fits within h end =
    let far : length all - done ≤ n = ltb-false _ _ t in
    let same : done + n ≡ length all = omega arith in
    (subst (λ m. Consumes first new (take m all)) same h, λ short. absurd (omega arith))

pub reads : (first old new : Option (List ℕ)) (buf part : List ℕ) (done : ℕ) (answer : Answer) → done ≤ length buf
    → length part ≡ length (take (length buf - done) (drop done buf)) → Moves (length buf - done) answer → ReadConsumes old new answer part → ReadOn first old buf done
    → ReadLeads first new (put_mid done (length buf - done) buf part) (after answer done (length buf) (Ok done))
reads first old new buf part done (Ok n) within handed moves gives on =
    let all = put_mid done (length buf - done) buf part in
    let same : length all ≡ length buf = same_len_mid _ _ _ _ handed in
    let left : length part ≡ length buf - done = omega (arith, handed, length-take (length buf - done) (drop done buf), length-drop done buf) in
    let h : Consumes first new (take (done + n) all) = subst (Consumes first new) (front buf part done n within (omega arith)) (Consumes-trans _ _ _ _ _ on gives.0) in
    subst (λ room. ReadLeads first new all (cond (ltb n (room - done)) (cond (eqb n 0) (Break (Ok done)) (Continue (done + n))) (Break (Ok room)))) same
    (moved_reads first new all n done _ _ refl refl (omega arith) (omega arith) h (λ none less. gives.1 none (omega arith)))
reads first old new buf part done (Err Interrupted) within handed moves gives on =
    subst (Consumes first new) (sym (append-nil (take done buf)) ∙ front buf part done 0 within (omega arith) ∙ ap (λ m. take m (put_mid done (length buf - done) buf part)) (omega arith))
    (Consumes-kept _ _ _ _ on gives)
reads first old new buf part done (Err (Failed error)) within handed moves gives on = tt

moved_writes : (first new : Option (List ℕ)) (bytes : List ℕ) (n done error : ℕ) (b e : Bool) → ltb n (length bytes - done) ≡ b → eqb n 0 ≡ e
    → n ≤ length bytes - done → done ≤ length bytes → Appends first new (take (done + n) bytes) → (0 < length bytes → done < length bytes)
    → WriteLeads first new bytes (cond b (cond e (Break (failed_by error)) (Continue (done + n))) (Break (Ok (length bytes))))
moved_writes first new bytes n done error true true t u fits within h short =
    let none : n ≡ 0 = eqb-true n 0 u in
    let same : done + n ≡ done = omega arith in
    (done, (subst (λ m. Appends first new (take m bytes)) same h, short))
moved_writes first new bytes n done error true false t u fits within h short =
    let less : n < length bytes - done = ltb-true _ _ t in
    (h, λ some. omega arith)
moved_writes first new bytes n done error false e t u fits within h short =
    let far : length bytes - done ≤ n = ltb-false _ _ t in
    (subst (Appends first new) (take_all (done + n) bytes (omega arith)) h, refl)

pub writes : (first old new : Option (List ℕ)) (bytes part : List ℕ) (done error : ℕ) (answer : Answer) → done ≤ length bytes
    → part ≡ drop done bytes → Moves (length bytes - done) answer → WriteAppends old new answer part → WroteOn first old bytes done
    → WriteLeads first new bytes (after answer done (length bytes) (failed_by error))
writes first old new bytes part done error (Ok n) within is moves takes on =
    let h : Appends first new (take (done + n) bytes) = subst (Appends first new) (ap (λ l. take done bytes ++ take n l) is ∙ sym (take-add done n bytes)) (Appends-trans _ _ _ _ _ on.0 takes) in
    moved_writes first new bytes n done error _ _ refl refl moves within h on.1
writes first old new bytes part done error (Err Interrupted) within is moves takes on = (Appends-kept _ _ _ _ on.0 takes, on.1)
writes first old new bytes part done error (Err (Failed number)) within is moves takes on = (done, (Appends-kept _ _ _ _ on.0 takes, on.1))
