-- A text has one parse: any two have the same pieces.
use Rattle.std.specs.Prelude.{Option}
use mathlib.Core.Path.{◌≡◌, refl, sym, ap, ◌∙◌}
use mathlib.Core.Bool.{Bool}
use mathlib.Core.List.{List, ◌∷◌, ◌++◌, tail-eq_of_cons-eq, head-eq_of_cons-eq}
use Prim.Native.Nat.{ℕ}
use native.Mathlib.Omega.{arith}
use borrow.Author.Tests.{eq-eqb}
use lib.Dec.{eqb}
use Rattle.scan.specs.Search.{first_from, is}
use Rattle.scan.proofs.Cases.{clash}
use Rattle.text.proofs.Parts.{each_head}
use Rattle.reals.specs.Cut.{before, after}
use Rattle.reals.specs.Form.{IsSign, Pieces, Parse}
use Rattle.reals.specs.Form as form
use Rattle.reals.specs.Numeral.{Numeral}
use Rattle.reals.proofs.FormComplete.{exponent_tail, measure_tail, digits_plus_free, digits_minus_free, front_free, measure_front_free, cut}
use Rattle.reals.proofs.FreeLaws.{FreeOf}
use Rattle.reals.proofs.SplitLaws.{from, split-before, split_after}

-- Two ways to cut a text at the first byte of a kind.
one_split : (b : ℕ) {k l : List ℕ} (o p : Option (List ℕ)) → FreeOf b k → FreeOf b l → k ++ from b o ≡ l ++ from b p
    → (k ≡ l) × (from b o ≡ from b p)
one_split b {k} {l} o p f g e = (
  sym (split-before b k f o) ∙ ap (λ (s : List ℕ). before (first_from (is b) s 0) s) e ∙ split-before b l g p,
  ap (from b) (sym (split_after b k f o) ∙ ap (λ (s : List ℕ). after (first_from (is b) s 0) s) e ∙ split_after b l g p),
)

-- A sign is no byte of the digits.
no_sign : (b : ℕ) {d e : List ℕ} → FreeOf b d → d ≡ b ∷ e → ⊥
no_sign b {d} {e} f q = let g : FreeOf b (b ∷ e) = rw q at f in clash (eqb b b) (eq-eqb b b refl) (each_head g)

module _ {d e : List ℕ} (d-plus : FreeOf 43 d) (d-minus : FreeOf 45 d) (e-plus : FreeOf 43 e) (e-minus : FreeOf 45 e) where
  one_sign : {s r : List ℕ} {m n : Bool} → IsSign s m → IsSign r n → s ++ d ≡ r ++ e → (s ≡ r) × (d ≡ e)
  one_sign form.none form.none q = (refl, q)
  one_sign form.none form.plus q = absurd (no_sign 43 d-plus q)
  one_sign form.none form.minus q = absurd (no_sign 45 d-minus q)
  one_sign form.plus form.none q = absurd (no_sign 43 e-plus (sym q))
  one_sign form.plus form.plus q = (refl, tail-eq_of_cons-eq q)
  one_sign form.plus form.minus q = absurd (omega (arith, head-eq_of_cons-eq q))
  one_sign form.minus form.none q = absurd (no_sign 45 e-minus (sym q))
  one_sign form.minus form.plus q = absurd (omega (arith, head-eq_of_cons-eq q))
  one_sign form.minus form.minus q = (refl, tail-eq_of_cons-eq q)

abbrev pieces : List ℕ → List ℕ → List ℕ → List ℕ → Pieces
pieces s d e t = record { sign = s; digits = d; exponent = e; measure = t }

pub one_parse : {l : List ℕ} {p q : Pieces} {x y : Numeral} → Parse l p x → Parse l q y → p ≡ q
one_parse {l} {p} {q} a b =
    let t = measure_tail a.measure_is in
    let u = measure_tail b.measure_is in
    let e = exponent_tail a.exponent_is in
    let f = exponent_tail b.exponent_is in
    let both = sym (cut a) ∙ cut b in
    let last = one_split 95 t.0 u.0 (measure_front_free a) (measure_front_free b) (rw (t.1, u.1) at both) in
    let next = one_split 101 e.0 f.0 (front_free a) (front_free b) (rw (e.1, f.1) at last.0) in
    let first = one_sign (digits_plus_free a) (digits_minus_free a) (digits_plus_free b) (digits_minus_free b) a.sign_is b.sign_is next.0 in
    let m : p.measure ≡ q.measure = t.1 ∙ last.1 ∙ sym u.1 in
    let z : p.exponent ≡ q.exponent = e.1 ∙ next.1 ∙ sym f.1 in
    ap (λ (k : List ℕ). pieces k p.digits p.exponent p.measure) first.0
    ∙ ap (λ (k : List ℕ). pieces q.sign k p.exponent p.measure) first.1
    ∙ ap (λ (k : List ℕ). pieces q.sign q.digits k p.measure) z
    ∙ ap (pieces q.sign q.digits q.exponent) m
