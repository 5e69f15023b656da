-- The lines of a header, piece by piece.
use mathlib.Core.Path.{◌≡◌, refl, sym, ap, ◌∙◌}
use mathlib.Core.List.{List, [], ◌∷◌, ◌++◌, append_assoc, append-nil}
use Prim.Native.Nat.{ℕ, zero, suc, ◌+◌, ◌<◌}
use native.Mathlib.Omega.{arith}
use lib.IntN.{pos}
use lib.ListN.{length, take, get_or, length-append}
use Rattle.scan.specs.Byte.{ascii}
use Rattle.text.specs.Decimal.{decimal, digits_of}
use Rattle.rendering.specs.Render.{Keyword, keyword, dim_keywords, line, lines, opening}

module _ (k v : List ℕ) where
  pub line_is : ((k ++ ascii " = ") ++ v) ++ ascii " ;\r\n" ≡ line (keyword k v)
  unfolding line
  line_is = append_assoc (k ++ ascii " = ") v (ascii " ;\r\n") ∙ append_assoc k (ascii " = ") (v ++ ascii " ;\r\n")

  pub line-length : length (line (keyword k v)) ≡ length k + length v + 7
  unfolding line
  line-length = simp length-append (omega arith)

pub lines-append : (ks js : List Keyword) → lines (ks ++ js) ≡ lines ks ++ lines js
unfolding lines
lines-append [] js = refl
lines-append (k ∷ ks) js = ap (λ (l : List ℕ). line k ++ l) (lines-append ks js) ∙ sym (append_assoc (line k) (lines ks) (lines js))

pub opening-length : (ks : List Keyword) → length (opening ks) ≡ 3 + length (lines ks)
unfolding opening
opening-length ks = omega arith

-- ---- The Dims

pub dim_key : (i : ℕ) → i < 3 → get_or (ascii "Dim_1" ∷ ascii "Dim_2" ∷ ascii "Dim_3" ∷ []) i [] ≡ ascii "Dim_" ++ decimal (pos (1 + i))
unfolding decimal digits_of
dim_key zero h = refl
dim_key (suc zero) h = refl
dim_key (suc (suc zero)) h = refl
dim_key (suc (suc (suc i))) h = absurd (omega (arith, h))

pub key_short : (i : ℕ) → i < 3 → length (ascii "Dim_" ++ decimal (pos (1 + i))) ≡ 5
unfolding decimal digits_of
key_short zero h = refl
key_short (suc zero) h = refl
key_short (suc (suc zero)) h = refl
key_short (suc (suc (suc i))) h = absurd (omega (arith, h))

abbrev dim_line : ℕ → ℕ → List ℕ
dim_line k d = line (keyword (ascii "Dim_" ++ decimal (pos k)) (decimal (pos d)))

-- The line of the next dimension.
dims_suc : (k i : ℕ) (ds : List ℕ) → i < length ds
    → lines (dim_keywords k (take i ds)) ++ dim_line (k + i) (get_or ds i 0)
    ≡ lines (dim_keywords k (take (suc i) ds))
unfolding dim_keywords lines
dims_suc k i [] h = absurd (omega (arith, h))
dims_suc k zero (d ∷ ds) h = let e : k + 0 ≡ k = omega arith in rw e (sym (append-nil (dim_line k d)))
dims_suc k (suc i) (d ∷ ds) h =
    let e : k + suc i ≡ suc k + i = omega arith in
    append_assoc (dim_line k d) (lines (dim_keywords (suc k) (take i ds))) (dim_line (k + suc i) (get_or ds i 0))
    ∙ ap (λ (l : List ℕ). dim_line k d ++ l)
    (ap (λ (j : ℕ). lines (dim_keywords (suc k) (take i ds)) ++ dim_line j (get_or ds i 0)) e ∙ dims_suc (suc k) i ds (omega (arith, h)))

pub dims_more : (i : ℕ) (ds : List ℕ) → i < length ds
    → lines (dim_keywords 1 (take i ds)) ++ dim_line (1 + i) (get_or ds i 0) ≡ lines (dim_keywords 1 (take (i + 1) ds))
dims_more i ds h = let e : i + 1 ≡ suc i = omega arith in rw e (dims_suc 1 i ds h)
