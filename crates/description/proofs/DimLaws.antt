-- Dims read one after the other.
use Rattle.std.specs.Prelude.{Option, None, Some, Ok, Err}
use Rattle.std.proofs.lemmas.Option.{same_Some}
use Rattle.scan.specs.Outcome.{Outcome, refused, error_at, present, require, ◌>>=◌, ◌>>◌}
use mathlib.Core.Path.{◌≡◌, refl, sym, ◌∙◌}
use mathlib.Core.Bool.{not}
use mathlib.Core.List.{List, [], ◌∷◌, ◌++◌}
use Prim.Native.Nat.{ℕ, zero, suc, ◌≤◌}
use native.Mathlib.Omega.{arith}
use borrow.Author.Tests.{leb-true}
use lib.Dec.{eqb, leb}
use lib.IntN.{ℤ, pos, negsuc}
use lib.ListN.{length}
use Rattle.scan.specs.Byte.{ascii}
use Rattle.scan.specs.declared.Error.{Error}
use Rattle.scan.proofs.Cases.{by_test, by_option, by_outcome, none_some, ok-failed}
use Rattle.text.specs.Number.{whole_number}
use Rattle.description.specs.Describe.{Values, dim_values, dims_of}
use Rattle.description.specs.Fields.{in_range, found_first, dims_from, or_empty}
use Rattle.description.specs.Limits.{most_dims, dim_limit}
use Rattle.description.specs.Parts.{dim_read, dims_after, SmallDims}

abbrev read : List ℕ → Option ℕ
read v = in_range 1 dim_limit (whole_number v)

-- ---- One Dim

pub dim_absent : {o : Option (List ℕ)} → o ≡ None → Ok None ≡ dim_read o
unfolding dim_read
dim_absent e = rw e

-- The value is w, and the code holds it as v.
module _ {o : Option (List ℕ)} {w : List ℕ} (there : o ≡ Some w) (v : List ℕ) (is : v ≡ w) where
  pub dim_failed : {x : Error} → Err x ≡ present (read v) 18 4 → Err x ≡ dim_read o
  unfolding dim_read
  dim_failed q = rw (there, ← is, ← q)

  pub dim_there : {d : ℕ} → Ok d ≡ present (read v) 18 4 → Ok (Some d) ≡ dim_read o
  unfolding dim_read
  dim_there q = rw (there, ← is, ← q)

-- ---- The Dims after those that were read

module _ (front : List ℕ) where
  pub no_more : {o : Option (List ℕ)} (rest : List (Option (List ℕ))) → o ≡ None → Ok (or_empty front) ≡ dims_after front (o ∷ rest)
  unfolding dims_after
  no_more rest e = rw e

  pub too_many : {o : Option (List ℕ)} {w : List ℕ} → o ≡ Some w → refused 19 0 ≡ dims_after front (o ∷ [])
  unfolding dims_after
  too_many e = rw e

  pub last_dim : (o : Option (List ℕ)) (rest : List (Option (List ℕ))) → Ok None ≡ dim_read o → Ok (or_empty front) ≡ dims_after front (o ∷ rest)
  unfolding dim_read
  last_dim None rest q = no_more rest refl
  last_dim (Some v) rest q = by_option (read v) (λ e. absurd (ok-failed (rw e at q))) (λ d e. let p = rw e at q in cc)

  module _ (o next : Option (List ℕ)) (rest : List (Option (List ℕ))) where
    pub bad_dim : {x : Error} → Err x ≡ dim_read o → Err x ≡ dims_after front (o ∷ next ∷ rest)
    unfolding dims_after dim_read
    bad_dim {x} q =
        by_option o
        (λ n. absurd (ok-failed (sym (rw n at q))))
        (λ v s. let q : Err x ≡ dim_read (Some v) = rw s at q in
        by_option (read v) (λ e. let p : x ≡ error_at 18 4 = cc (rw e at q) in rw (s, e, p)) (λ d e. absurd (ok-failed (sym (rw e at q)))))

    pub next_dim : {d : ℕ} → Ok (Some d) ≡ dim_read o → {x : Outcome (List ℕ)} → x ≡ dims_after (front ++ (d ∷ [])) (next ∷ rest)
        → x ≡ dims_after front (o ∷ next ∷ rest)
    unfolding dims_after dim_read
    next_dim {d} q {x} r =
        by_option o
        (λ n. let p : Ok (Some d) ≡ dim_read None = rw n at q in let none : None ≡ Some d = cc in absurd (none_some none))
        (λ v s. let q : Ok (Some d) ≡ dim_read (Some v) = rw s at q in
        by_option (read v) (λ e. absurd (ok-failed (rw e at q)))
        (λ n e. let p : d ≡ n = cc (rw e at q) in rw (s, e, ← p) r))

-- ---- All of them

-- By what stands for Dim_1 to Dim_4.
abbrev pub dims_by : Option (List ℕ) → Option (List ℕ) → Option (List ℕ) → Option (List ℕ) → Outcome (List ℕ)
dims_by o p q r = do
  ds ← dims_from (found_first (o ∷ p ∷ q ∷ []))
  require (not (eqb (length (found_first (o ∷ p ∷ q ∷ r ∷ []))) (suc most_dims))) 19 0
  Ok (or_empty ds)

one_by_one : (o p q r : Option (List ℕ)) → dims_after [] (o ∷ p ∷ q ∷ r ∷ []) ≡ dims_by o p q r
unfolding dims_after dims_from found_first
one_by_one None p q r = refl
one_by_one (Some u) None q r = by_option (read u) (λ e. rw e) (λ a e. rw e)
one_by_one (Some u) (Some v) None r =
    by_option (read u) (λ e. rw e) (λ a e. by_option (read v) (λ f. rw (e, f)) (λ b f. rw (e, f)))
one_by_one (Some u) (Some v) (Some w) None =
    by_option (read u) (λ e. rw e)
    (λ a e. by_option (read v) (λ f. rw (e, f)) (λ b f. by_option (read w) (λ g. rw (e, f, g)) (λ c g. rw (e, f, g))))
one_by_one (Some u) (Some v) (Some w) (Some x) =
    by_option (read u) (λ e. rw e)
    (λ a e. by_option (read v) (λ f. rw (e, f)) (λ b f. by_option (read w) (λ g. rw (e, f, g)) (λ c g. rw (e, f, g))))

pub dims_from_none : (look : Values) {x : Outcome (List ℕ)}
    → x ≡ dims_after [] (look (ascii "Dim_1") ∷ look (ascii "Dim_2") ∷ look (ascii "Dim_3") ∷ look (ascii "Dim_4") ∷ [])
    → x ≡ dims_of look
unfolding dims_of
dims_from_none look q = q ∙ one_by_one (look (ascii "Dim_1")) (look (ascii "Dim_2")) (look (ascii "Dim_3")) (look (ascii "Dim_4"))

-- ---- Their size

in_range_most : (most : ℕ) (o : Option ℤ) {d : ℕ} → in_range 1 most o ≡ Some d → d ≤ most
in_range_most most None e = absurd (none_some e)
in_range_most most (Some (pos n)) {d} e =
    by_test (leb 1 n)
    (λ s. by_test (leb n most)
    (λ t. let q : n ≡ d = same_Some n d (rw (s, t) at e) in omega (arith, leb-true n most t))
    (λ t. absurd (none_some (rw (s, t) at e))))
    (λ s. absurd (none_some (rw s at e)))
in_range_most most (Some (negsuc n)) e = absurd (none_some e)

small_nil : SmallDims []
small_nil i = omega arith

small_cons : {d : ℕ} (ds : List ℕ) → d ≤ dim_limit → SmallDims ds → SmallDims (d ∷ ds)
small_cons ds h k zero = h
small_cons ds h k (suc i) = k i

from_small : (vs : List (List ℕ)) {ds : List ℕ} → dims_from vs ≡ Ok ds → SmallDims ds
unfolding dims_from
from_small [] {ds} e = let q : [] ≡ ds = cc in rw (← q) small_nil
from_small (v ∷ vs) {ds} e =
    by_option (read v) (λ n. absurd (ok-failed (sym (rw n at e))))
    (λ d q. by_outcome (dims_from vs)
    (λ rest r. let p : d ∷ rest ≡ ds = cc (rw (q, r) at e) in
    rw (← p) (small_cons rest (in_range_most dim_limit (whole_number v) q) (from_small vs r)))
    (λ x r. absurd (ok-failed (sym (rw (q, r) at e)))))

or_empty_small : (ds : List ℕ) → SmallDims ds → SmallDims (or_empty ds)
or_empty_small [] h = small_cons [] (omega arith) small_nil
or_empty_small (d ∷ ds) h = h

-- The Dims of an array are within the limit.
pub dims_small : (look : Values) {ds : List ℕ} → dims_of look ≡ Ok ds → SmallDims ds
unfolding dims_of
dims_small look {ds} e =
    by_outcome (dims_from (found_first (dim_values look)))
    (λ l q. by_test (not (eqb (length (found_first (dim_values look ++ (look (ascii "Dim_4") ∷ [])))) (suc most_dims)))
    (λ t. let p : or_empty l ≡ ds = cc (rw (q, t) at e) in rw (← p) (or_empty_small l (from_small (found_first (dim_values look)) q)))
    (λ t. absurd (ok-failed (sym (rw (q, t) at e)))))
    (λ x q. absurd (ok-failed (sym (rw q at e))))
