-- Records that pass are their content's bytes, and each of them is had back from its own.
use Prim.Native.Nat.{ℕ, zero, suc, ◌+◌, ◌-◌, ◌<◌}
use mathlib.Core.Path.{◌≡◌, refl, sym, ap, ◌∙◌}
use mathlib.Core.List.{List, [], ◌∷◌, ◌++◌}
use native.Mathlib.Numerals.{add-one}
use native.Mathlib.Omega.{arith}
use lib.ListN.{length, take, drop, length-drop}
use lib.Seq.{take-add, take-suc, length-take-le, get_or-drop, append_snoc}
use Rattle.fields.specs.Fields.{byte_at}
use Rattle.fields.proofs.Bytes.{Bytes}
use Rattle.record_table.specs.Table.{body_length, body_in}
use Rattle.records.specs.Content.{Content, count_of}
use Rattle.record_rows.specs.Rows.{record_row}
use Rattle.record_rows.proofs.FrontRows.{Fronted}
use Rattle.sheet.specs.Passed.{Passed, none, more}
use Rattle.sheet.proofs.Passing.{fronted, passed_laid}
use Rattle.sheet_bytes.specs.SheetBytes.{all, sheet_bytes}
use Rattle.sheet_bytes.specs.inner.Returns.{Returned}
use Rattle.sheet_bytes.proofs.Growing.{grows, returned_more}

bytes_take : (n : ℕ) (l : List ℕ) → Bytes l → Bytes (take n l)
bytes_take zero l h i = omega arith
bytes_take (suc n) [] h i = omega arith
bytes_take (suc n) (x ∷ l) h zero = h 0
bytes_take (suc n) (x ∷ l) h (suc i) = bytes_take n l (λ j. h (suc j)) i

module _ (s : List ℕ) (h : Bytes s) where
  module _ (at last : ℕ) (c : Content) (below : at < length s) (row : record_row c last (byte_at s at) (drop (at + 1) s) ≡ 0) where
    abbrev kind : ℕ
    kind = byte_at s at

    abbrev body : List ℕ
    body = body_in kind (drop (at + 1) s)

    front : Fronted last kind (count_of c kind) (length s - (at + 1))
    front = fronted s at last c below row

    body_bytes : Bytes body
    body_bytes = bytes_take (body_length kind) (drop (at + 1) s) (λ i. rw (get_or-drop (at + 1) s i 0) (h (at + 1 + i)))

    body-long : length body ≡ body_length kind
    body-long = length-take-le (body_length kind) (drop (at + 1) s) (omega (arith, length-drop (at + 1) s, front.fits))

    taken : take (at + 1) s ≡ take at s ++ (kind ∷ [])
    taken = rw (add-one at) (take-suc s at 0 below)

    more-taken : take (at + 1 + body_length kind) s ≡ take at s ++ (kind ∷ body)
    more-taken = take-add (at + 1) (body_length kind) s ∙ ap (λ (x : List ℕ). x ++ body) taken ∙ append_snoc (take at s) kind body

  -- what has passed is its content's bytes
  pub passed_bytes : {at last : ℕ} {c : Content} → Passed s at last c → sheet_bytes c ≡ take at s
  unfolding sheet_bytes all
  passed_bytes none = refl
  passed_bytes (more {at} {last} {c} p below e) =
      let f = front at last c below e in
      grows c (byte_at s at) (body at last c below e) (body_bytes at last c below e) (body-long at last c below e) f.low f.high (λ j g m. (passed_laid s p).above j (omega (arith, f.order)) m)
      ∙ ap (λ (x : List ℕ). x ++ (byte_at s at ∷ body at last c below e)) (passed_bytes p)
      ∙ sym (more-taken at last c below e)

  pub passed_returned : {at last : ℕ} {c : Content} → Passed s at last c → Returned c
  passed_returned none = record { heads = tt; zones = tt; units = tt; points = tt; pars = tt; factors = tt; paths = tt; circulations = tt }
  passed_returned (more {at} {last} {c} p below e) =
      returned_more c (byte_at s at) (body at last c below e) (body_bytes at last c below e) (body-long at last c below e) (passed_returned p)
