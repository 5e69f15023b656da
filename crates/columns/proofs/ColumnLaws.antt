-- Columns, piece by piece.
use mathlib.Core.Path.{◌≡◌, refl, sym, ap, ◌∙◌}
use mathlib.Core.List.{List, [], ◌∷◌, ◌++◌, append_assoc, append-nil}
use Prim.Native.Nat.{ℕ, ◌+◌, ◌-◌, ◌<◌, ◌≤◌}
use native.Mathlib.Omega.{arith}
use Rattle.std.specs.Prelude.{map}
use Rattle.std.proofs.lemmas.List.{map_more, take_all}
use borrow.Author.Tests.{eq-eqb, ne_eqb}
use lib.ListN.{length, take, drop, get_or}
use Rattle.scan.specs.Byte.{ascii}
use Rattle.scan.specs.declared.Error.{Error}
use Rattle.blocks.specs.IdentityText.{identity_text}
use Rattle.blocks.specs.declared.Row.{Row}
use Rattle.origins.specs.Letter.{letter_of}
use Rattle.description.specs.Shape.{array_dims}
use Rattle.description.specs.declared.Description.{Description}
use Rattle.columns.specs.Columns.{number, after, identity_of, dims_text, marked, words_columns, numbers_columns, array_columns, error_columns}

-- ---- Pieces after a separator

module _ (b : ℕ) where
  pub after_both : (xs ys : List (List ℕ)) → after b xs ++ after b ys ≡ after b (xs ++ ys)
  unfolding after
  after_both [] ys = refl
  after_both (x ∷ xs) ys =
      append_assoc (b ∷ x) (after b xs) (after b ys) ∙ ap (λ (l : List ℕ). (b ∷ x) ++ l) (after_both xs ys)

  module _ (x y : List ℕ) where
    pub after_two : (b ∷ x) ++ (b ∷ y) ≡ after b (x ∷ y ∷ [])
    unfolding after
    after_two = simp append-nil

    pub after_three : (z : List ℕ) → ((b ∷ x) ++ (b ∷ y)) ++ (b ∷ z) ≡ after b (x ∷ y ∷ z ∷ [])
    unfolding after
    after_three z = simp (append_assoc, append-nil)

-- ---- The columns of an array

-- The next dimension.
pub after_more : (i : ℕ) (ds : List ℕ) → i < length ds
    → after 120 (map number (take i ds)) ++ (120 ∷ number (get_or ds i 0)) ≡ after 120 (map number (take (i + 1) ds))
unfolding after
after_more i ds h =
    ap (λ (l : List ℕ). after 120 (map number (take i ds)) ++ l) (sym (append-nil (120 ∷ number (get_or ds i 0))))
    ∙ after_both 120 (map number (take i ds)) (number (get_or ds i 0) ∷ []) ∙ ap (after 120) (sym (map_more number ds i 0 h))

-- Dim_1, and all the others.
pub dims_joined : (k : ℕ) (ds : List ℕ) → 1 ≤ length ds → length ds ≤ k + 1
    → (32 ∷ number (get_or ds 0 0)) ++ after 120 (map number (take k (take (length ds - 1) (drop 1 ds)))) ≡ 32 ∷ dims_text ds
unfolding dims_text
dims_joined k [] h l = absurd (omega (arith, h))
dims_joined k (d ∷ ds) h l =
    ap (λ (r : List ℕ). (32 ∷ number d) ++ after 120 (map number r))
    (ap (take k) (take_all _ ds (omega arith)) ∙ take_all k ds (omega (arith, l)))

pub array_is : (d : Description)
    → ((after 32 (words_columns d) ++ (32 ∷ dims_text (array_dims d))) ++ (letter_of d.origins.dims ∷ [])) ++ after 32 (numbers_columns d)
    ≡ after 32 (array_columns d)
unfolding array_columns after
array_is d =
    let dims = marked (dims_text (array_dims d)) d.origins.dims in
    ap (λ (l : List ℕ). l ++ after 32 (numbers_columns d))
    (append_assoc (after 32 (words_columns d)) (32 ∷ dims_text (array_dims d)) (letter_of d.origins.dims ∷ []))
    ∙ append_assoc (after 32 (words_columns d)) (32 ∷ dims) (after 32 (numbers_columns d))
    ∙ after_both 32 (words_columns d) (dims ∷ numbers_columns d)

-- ---- The columns of a row and of an error

pub error_is : (e : Error) → (32 ∷ number e.code) ++ (32 ∷ number e.position) ≡ after 32 (error_columns e)
unfolding error_columns
error_is e = after_two 32 (number e.code) (number e.position)

module _ (row : Row) where
  pub name_general : row.kind ≡ 0 → ascii "general" ≡ identity_of row
  unfolding identity_of
  name_general e = rw (eq-eqb row.kind 0 e)

  module _ (k : row.kind ≡ 0 → ⊥) where
    pub name_none : row.instance ≡ 0 → ascii "-" ≡ identity_of row
    unfolding identity_of
    name_none e = rw (ne_eqb row.kind 0 k, eq-eqb row.instance 0 e)

    pub name_identity : (row.instance ≡ 0 → ⊥) → identity_text row.sequence row.instance row.memory ≡ identity_of row
    unfolding identity_of
    name_identity e = rw (ne_eqb row.kind 0 k, ne_eqb row.instance 0 e)
