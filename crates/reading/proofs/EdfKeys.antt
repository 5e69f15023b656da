-- Whether a key starts with `edf_`, one visible byte after another.
use Rattle.std.specs.Prelude.{Some, None}
use mathlib.Core.Path.{◌≡◌, refl}
use mathlib.Core.Bool.{Bool, true, false}
use mathlib.Core.List.{List}
use Prim.Native.Nat.{ℕ, suc, ◌+◌, ◌-◌, ◌≤◌, ◌<◌}
use native.Mathlib.Numerals.{add-one}
use native.Mathlib.Omega.{arith}
use borrow.Author.Tests.{eq-eqb, ne_eqb}
use lib.ListN.{take, drop, drop_of_length-le}
use lib.Seq.{drop-cons}
use Rattle.scan.specs.Byte.{byte, ascii, same}
use Rattle.scan.specs.Search.{first_from}
use Rattle.text.specs.Fold.{fold}
use Rattle.text.specs.Key.{key_of}
use Rattle.text.specs.Whitespace.{visible}
use Rattle.text.proofs.KeySteps.{key_from, key_none, key_next}
use Rattle.blocks.specs.Counting.{is_edf_key}

abbrev edf : List ℕ
edf = ascii "edf_"

-- Whether what is left of a key starts with what is left of `edf_`, after n of its characters.
unfoldable pub edf_from : List ℕ → ℕ → ℕ → Bool
edf_from k i n = same (take (4 - n) (key_from k i)) (drop n edf)

module _ (k : List ℕ) where
  pub edf_start : is_edf_key (key_of k) ≡ edf_from k 0 0
  unfolding is_edf_key edf_from key_from
  edf_start = refl

  module _ (i n : ℕ) where
    pub edf_end : 4 ≤ n → edf_from k i n ≡ true
    unfolding edf_from same
    edf_end h = let e : 4 - n ≡ 0 = omega arith in rw (e, drop_of_length-le edf {i = n} h)

    module _ (h : n < 4) where
      more : 4 - n ≡ suc (3 - n)
      more = omega arith

      pub edf_none : first_from visible k i ≡ None → edf_from k i n ≡ false
      unfolding edf_from same
      edf_none e = rw (more, key_none k i e, drop-cons edf n 0 h)

      pub edf_other : {x : ℕ} → first_from visible k i ≡ Some x → (fold (byte k x) ≡ byte edf n → ⊥) → edf_from k i n ≡ false
      unfolding edf_from same
      edf_other {x} e d =
          rw (more, key_next k i x e, drop-cons edf n 0 h, ne_eqb (fold (byte k x)) (byte edf n) d)

      pub edf_next : {x : ℕ} → first_from visible k i ≡ Some x → fold (byte k x) ≡ byte edf n
          → edf_from k i n ≡ edf_from k (x + 1) (n + 1)
      unfolding edf_from same
      edf_next {x} e d =
          let less : 4 - suc n ≡ 3 - n = omega arith in
          rw (add-one n, less, more, key_next k i x e, drop-cons edf n 0 h, eq-eqb (fold (byte k x)) (byte edf n) d)
