-- Records that are written as others: a draft's points as the points that it gives.
use Prim.Native.Nat.{ℕ}
use mathlib.Core.Path.{◌≡◌, refl, ap, ◌∙◌}
use mathlib.Core.List.{List, [], ◌∷◌, ◌++◌, map}
use Rattle.records.specs.Bodies.{point_of}
use Rattle.drafts.specs.declared.DraftPoint.{DraftPoint}
use Rattle.drafts.specs.Draft.{point_given}
use Rattle.sheet_bytes.specs.SheetBytes.{point_body, all}
use Rattle.sheet_bytes.specs.inner.Marked.{marked_point}
use Rattle.sheet_bytes.specs.inner.Returns.{Returns, Each}

module _ {A B : Type 0} (f : A → B) where
  all_mapped : (kind : ℕ) (body : B → List ℕ) (l : List A) → all kind (λ a. body (f a)) l ≡ all kind body (map f l)
  unfolding all
  all_mapped kind body [] = refl
  all_mapped kind body (a ∷ l) = ap (λ (bytes : List ℕ). (kind ∷ body (f a)) ++ bytes) (all_mapped kind body l)

  each_mapped : (P : B → Type 0) (l : List A) → Each (λ a. P (f a)) l → Each P (map f l)
  each_mapped P [] e = e
  each_mapped P (a ∷ l) e = (e.0, each_mapped P l e.1)

module _ (l : List DraftPoint) where
  pub all_given : all 4 (λ p. point_body (marked_point (point_given p))) l ≡ all 4 point_body (map marked_point (map point_given l))
  all_given = all_mapped point_given 4 (λ p. point_body (marked_point p)) l ∙ all_mapped marked_point 4 point_body (map point_given l)

  pub each_given : Each (λ p. Returns 4 point_body point_of (marked_point (point_given p))) l → Each (Returns 4 point_body point_of) (map marked_point (map point_given l))
  each_given e =
      each_mapped marked_point (Returns 4 point_body point_of) (map point_given l)
      (each_mapped point_given (λ p. Returns 4 point_body point_of (marked_point p)) l e)
