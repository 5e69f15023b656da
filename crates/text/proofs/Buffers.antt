-- A buffer that is filled from its front.
use Rattle.std.specs.Prelude.{Ok}
use Rattle.scan.specs.Outcome.{Outcome, refused}
use mathlib.Core.Path.{◌≡◌, refl, sym, ap, subst, ◌∙◌}
use mathlib.Core.List.{List, [], ◌∷◌, ◌++◌}
use Prim.Native.Nat.{ℕ, zero, suc, ◌+◌, ◌≤◌, ◌<◌}
use native.Mathlib.Nat.{not-suc-le-zero, le_of_suc-le-suc}
use native.Mathlib.Numerals.{add-one}
use native.Mathlib.Omega.{arith}
use borrow.Author.Tests.{le-leb, lt-leb}
use lib.ListN.{length, take, drop, set, get_or, length-set}
use lib.Seq.{drop-cons, drop-drop, take-length}
use Rattle.scan.specs.Buffer.{over, length_written, buffer_after}

-- The list from an offset on: the code's `i + 1`.
pub drop_next : (s : List ℕ) (i : ℕ) → i < length s → drop i s ≡ get_or s i 0 ∷ drop (i + 1) s
drop_next s i h = drop-cons s i 0 h ∙ ap (λ (n : ℕ). get_or s i 0 ∷ drop n s) (sym (add-one i))

-- ---- Filling

-- Of the bytes w that d is to hold in front, `count` stand in `out`, and `rest` is what is left of them.
pub record Left (w d out : List ℕ) (count : ℕ) (rest : List ℕ) : Type 0 where
  pub same : length out ≡ length d
  pub have : out ≡ take count w ++ drop count d
  pub left : drop count w ≡ rest
  pub room : count + length rest ≡ length w

put_step : (w d r : List ℕ) (o v : ℕ) → drop o w ≡ v ∷ r → o < length w → o < length d
    → set (take o w ++ drop o d) o v ≡ take (suc o) w ++ drop (suc o) d
put_step [] d r o v e h k = absurd (not-suc-le-zero h)
put_step (x ∷ w) [] r o v e h k = absurd (not-suc-le-zero k)
put_step (x ∷ w) (y ∷ d) r zero v e h k = cc
put_step (x ∷ w) (y ∷ d) r (suc o) v e h k =
    ap (λ (l : List ℕ). x ∷ l) (put_step w d r o v e (le_of_suc-le-suc h) (le_of_suc-le-suc k))

-- A store of the next byte of what is left.
pub left_put : {w d out r : List ℕ} {o v : ℕ} → length w ≤ length d → Left w d out o (v ∷ r) → Left w d (set out o v) (o + 1) r
left_put {w} {d} {out} {r} {o} {v} fits L =
    let h : o < length w = omega (arith, L.room) in
    record {
      same = simp length-set L.same;
      have = ap (λ (l : List ℕ). set l o v) L.have ∙ rw add-one (put_step w d r o v L.left h (omega arith));
      left = sym (drop-drop 1 o w) ∙ ap (λ (l : List ℕ). drop 1 l) L.left;
      room = omega (arith, L.room);
    }

-- Nothing is left.
pub left_done : {w d out : List ℕ} {o : ℕ} → Left w d out o [] → out ≡ over w d
left_done {w} {d} {out} {o} L =
    let e : o ≡ length w = omega (arith, L.room) in
    L.have ∙ ap (λ (n : ℕ). take n w ++ drop n d) e ∙ ap (λ (l : List ℕ). l ++ drop (length w) d) (take-length w)

-- The same at an equal count, as the code has it.
pub left_at : {w d out r : List ℕ} {o q : ℕ} → o ≡ q → Left w d out o r → Left w d out q r
left_at {w} {d} {out} {r} e L = subst (λ (n : ℕ). Left w d out n r) e L

-- ---- Answers

-- The bytes fit and are written, or they do not and the buffer is as it was.
pub fits : (w d : List ℕ) {out : List ℕ} {n : ℕ} → n ≡ length w → n ≤ length d → out ≡ over w d
    → (Ok n ≡ length_written (Ok w) d) × (out ≡ buffer_after (Ok w) d)
unfolding length_written buffer_after
fits w d {out} {n} e h k = let t = le-leb (length w) (length d) (omega arith) in (simp t (ap Ok e), simp t k)

pub short : (w d : List ℕ) {n : ℕ} → n ≡ length w → length d < n
    → (refused 22 0 ≡ length_written (Ok w) d) × (d ≡ buffer_after (Ok w) d)
unfolding length_written buffer_after
short w d {n} e h = let t = lt-leb (length w) (length d) (omega arith) in (simp t, simp t)

-- The same of what is equal, and the answer in an error.
pub of_equal : {r : Outcome ℕ} {out : List ℕ} (d : List ℕ) (o p : Outcome (List ℕ)) → o ≡ p
    → (r ≡ length_written o d) × (out ≡ buffer_after o d) → (r ≡ length_written p d) × (out ≡ buffer_after p d)
of_equal d o p e h =
    (h.0 ∙ ap (λ (q : Outcome (List ℕ)). length_written q d) e, h.1 ∙ ap (λ (q : Outcome (List ℕ)). buffer_after q d) e)

pub refuses : {r : Outcome ℕ} (code : ℕ) (d : List ℕ) (o : Outcome (List ℕ)) → r ≡ refused code 0 → o ≡ refused code 0
    → (r ≡ length_written o d) × (d ≡ buffer_after o d)
unfolding length_written buffer_after
refuses code d o e f = of_equal d (refused code 0) o (sym f) (e, refl)
