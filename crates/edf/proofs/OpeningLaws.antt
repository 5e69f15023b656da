-- The answer of `opened_into`, with the table that it asks for, keeps what opening promises by the grammar.
use Rattle.std.specs.Prelude.{Ok, Err, ℕ}
use Rattle.scan.specs.Outcome.{Outcome, refused}
use mathlib.Core.Path.{◌≡◌, refl, sym, ap, ◌∙◌}
use mathlib.Core.Logic.{◌↔◌}
use mathlib.Core.List.{List, [], map}
use Prim.Native.Nat.{ℕ, ◌≤◌, ◌<◌}
use native.Mathlib.Omega.{arith}
use borrow.Author.Tests.{le-leb, lt-leb}
use lib.ListN.{length, length-map}
use Rattle.scan.specs.declared.Error.{Error}
use Rattle.scan.proofs.Cases.{by_order, ok-failed}
use Rattle.blocks.specs.Cases.{FileError}
use Rattle.blocks.specs.Grammar.{Block, Cut, block_of}
use Rattle.blocks.specs.Limits.{file_limit, block_limit}
use Rattle.blocks.specs.Opening.{opened, opened_into, count_of, table_after}
use Rattle.blocks.specs.declared.Row.{Row}
use Rattle.blocks.proofs.Main.{one_partition, one_cut, one_parse, has_parse, accepts, errors, error_inside}
use Rattle.opening.proofs.TableLaws.{over_limit, few_rows, as_opened}
use Rattle.edf.specs.Calls.{Open}
use Rattle.edf.specs.Opening.{Allowed, Opens, OpensAs}

-- ---- An outcome and its count

pub counts_failed : (o : Outcome (List Row)) {e : Error} → count_of o ≡ Err e → o ≡ Err e
counts_failed (Ok rows) q = absurd (ok-failed q)
counts_failed (Err x) q = cc

counts_ok : (o : Outcome (List Row)) {n : ℕ} → count_of o ≡ Ok n → (rows : List Row) × (o ≡ Ok rows)
counts_ok (Ok rows) q = (rows, refl)
counts_ok (Err x) q = absurd (ok-failed (sym q))

-- The code of an error, or 0.
abbrev code_in : Outcome (List Row) → ℕ
code_in (Ok rows) = 0
code_in (Err e) = e.code

map-length : (rows : List Row) → length (map block_of rows) ≡ length rows
map-length rows = length-map rows block_of

-- ---- The outcome by the grammar

module _ (s : List ℕ) (room : ℕ) where
  -- Where neither 1 nor 2 is due.
  judged : Allowed s room → opened_into room s ≡ opened s
  judged a = as_opened s room (le-leb (length s) file_limit a.file) a.table

  too_large : file_limit < length s → opened_into room s ≡ refused 1 0
  too_large h = over_limit s room (lt-leb (length s) file_limit h)

  too_few : length s ≤ file_limit → room < block_limit → opened_into room s ≡ refused 2 0
  too_few h l = few_rows s room (le-leb (length s) file_limit h) l

  allowed_error : Allowed s room → {e : Error} → opened_into room s ≡ Err e → FileError s e
  allowed_error a q = (errors s).0 (sym (judged a) ∙ q)

  -- No block gives 1 or 2.
  later_code : Allowed s room → {code position : ℕ} → opened_into room s ≡ refused code position → 3 ≤ code
  later_code a q = (error_inside s (allowed_error a q)).least

  only_large : opened_into room s ≡ refused 1 0 → file_limit < length s
  only_large q =
      by_order (length s) file_limit
      (λ h. by_order block_limit room
      (λ l. absurd (omega (arith, later_code (record { file = h; table = l }) q)))
      (λ l. absurd (omega (arith, ap code_in (sym q ∙ too_few h l)))))
      (λ h. h)

  only_few : opened_into room s ≡ refused 2 0 → (length s ≤ file_limit) × (room < block_limit)
  only_few q =
      by_order (length s) file_limit
      (λ h. by_order block_limit room
      (λ l. absurd (omega (arith, later_code (record { file = h; table = l }) q)))
      (λ l. (h, l)))
      (λ h. absurd (omega (arith, ap code_in (sym q ∙ too_large h))))

  -- Every error has a code above 0.
  pub some_code : {e : Error} → opened_into room s ≡ Err e → 1 ≤ e.code
  some_code q =
      by_order (length s) file_limit
      (λ h. by_order block_limit room
      (λ l. omega (arith, (error_inside s (allowed_error (record { file = h; table = l }) q)).least))
      (λ l. omega (arith, ap code_in (sym q ∙ too_few h l))))
      (λ h. omega (arith, ap code_in (sym q ∙ too_large h)))

  cut_opens : Allowed s room → {blocks : List Block} (c : Cut s blocks) → opened_into room s ≡ Ok c.rows
  cut_opens a c = judged a ∙ (accepts s).1 c.partition

  opens_cut : Allowed s room → {rows : List Row} → opened_into room s ≡ Ok rows → Cut s (map block_of rows)
  opens_cut a {rows} q = record { rows = rows; partition = (accepts s).0 (sym (judged a) ∙ q); are = refl }

  -- ---- What a call promises, by what it says of the outcome

  module _ {Answers : ℕ → Type 0} {Fails : Error → Type 0} {Holds : List Row → Type 0}
      (answers : (n : ℕ) → Answers n ↔ (count_of (opened_into room s) ≡ Ok n))
      (fails : (e : Error) → Fails e ↔ (opened_into room s ≡ Err e))
      (holds : (rows : List Row) → opened_into room s ≡ Ok rows → Holds rows)
      (keeps : (e : Error) → opened_into room s ≡ Err e → Holds []) where
    counts : Allowed s room → (blocks : List Block) → Cut s blocks → Answers (length blocks)
    counts a blocks c =
        (answers (length blocks)).1
        (ap count_of (cut_opens a c) ∙ ap Ok (sym (map-length c.rows) ∙ ap length (sym c.are)))

    has_cut : Allowed s room → (n : ℕ) × Answers n → (blocks : List Block) × Cut s blocks
    has_cut a (n, q) =
        let o = counts_ok (opened_into room s) ((answers n).0 q) in
        (map block_of o.0, opens_cut a o.1)

    pub opens : Opens s room Answers Fails Holds
    opens = record {
      accepted = λ a. (has_cut a, λ c. (length c.0, counts a c.0 c.1));
      count = counts;
      rows = λ a blocks c. holds c.rows (cut_opens a c);
      one_cut = λ blocks others. one_cut s;
      one_table = λ blocks others c d. one_partition s c.partition d.partition;
      parsed = λ blocks c b m. has_parse s c m;
      one_parse = λ h ts us. one_parse s;
      over_limit = (λ f. only_large ((fails _).0 f), λ h. (fails _).1 (too_large h));
      few_rows = (λ f. only_few ((fails _).0 f), λ h. (fails _).1 (too_few h.0 h.1));
      errors = λ a e. (λ f. allowed_error a ((fails e).0 f), λ x. (fails e).1 (judged a ∙ (errors s).1 x));
      untouched = λ e f. keeps e ((fails e).0 f);
    }

-- ---- `open`

module _ (s : List ℕ) (before : List Row) (r : Outcome ℕ) (after : List Row)
    (answers : r ≡ count_of (opened_into (length before) s))
    (leaves : after ≡ table_after (opened_into (length before) s) before) where
  pub opens_as : OpensAs s before r after
  unfolding table_after
  opens_as =
      opens s (length before)
      (λ n. ((λ q. sym answers ∙ q), (λ q. answers ∙ q)))
      (λ e. ((λ q. counts_failed (opened_into (length before) s) (sym answers ∙ q)), (λ q. answers ∙ ap count_of q)))
      (λ rows q. leaves ∙ rw q)
      (λ e q. leaves ∙ rw q)

-- So every call of `open` keeps it.
pub promised : {s : List ℕ} {before after : List Row} {r : Outcome ℕ} → Open s before r after → OpensAs s before r after
promised {s} {before} {after} {r} c = opens_as s before r after c.answers c.leaves
