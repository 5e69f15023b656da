-- The call that opens a file keeps demand 3, by the equations of its answer.
use Rattle.std.specs.Prelude.{Ok, Err}
use Rattle.scan.specs.Outcome.{Outcome}
use mathlib.Core.Path.{◌≡◌, sym, ap, ◌∙◌}
use mathlib.Core.List.{List}
use Prim.Native.Nat.{ℕ, ◌/◌}
use native.Mathlib.Omega.{arith}
use lib.ListN.{length}
use Rattle.scan.specs.declared.Error.{Error}
use Rattle.scan.proofs.Cases.{by_outcome}
use Rattle.blocks.specs.Opening.{opened_into, count_of}
use Rattle.blocks.specs.declared.Row.{Row}
use Rattle.edf.proofs.OpeningLaws.{some_code}
use Rattle.edf.proofs.OpeningLaws as laws
use Rattle.records.specs.Table.{all_numbers}
use Rattle.edf_c.specs.Opening.{OpensNumbers}
use Rattle.edf_c.proofs.Tabling.{OpenedAs}

module _ (s before after : List ℕ) (v p code count position : ℕ)
    (h : OpenedAs (opened_into (length before / 7) s) before v p code count position after) where
  abbrev outcome : Outcome (List Row)
  outcome = opened_into (length before / 7) s

  -- What the numbers are, by the outcome.
  opened_numbers : {rows : List Row} → outcome ≡ Ok rows → (code ≡ 0) × (count ≡ length rows)
  opened_numbers q = (rw q at h.0, rw q at h.1.0)

  failed_numbers : {e : Error} → outcome ≡ Err e → (code ≡ e.code) × (position ≡ e.position)
  failed_numbers q = (rw q at h.0, rw q at h.1.1.0)

  answered : (n : ℕ) → (code ≡ 0) × (count ≡ n) → count_of outcome ≡ Ok n
  answered n a =
      by_outcome outcome
      (λ rows q. ap count_of q ∙ ap Ok (sym (opened_numbers q).1 ∙ a.1))
      (λ e q. absurd (omega (arith, some_code s (length before / 7) q, (failed_numbers q).0, a.0)))

  answers : (n : ℕ) → count_of outcome ≡ Ok n → (code ≡ 0) × (count ≡ n)
  answers n q = (rw q at h.0, rw q at h.1.0)

  refused : (e : Error) → (code ≡ 0 → ⊥) × ((code ≡ e.code) × (position ≡ e.position)) → outcome ≡ Err e
  refused e a =
      by_outcome outcome
      (λ rows q. absurd (a.0 (opened_numbers q).0))
      (λ x q. let f = failed_numbers q in
      let c : x.code ≡ e.code = sym f.0 ∙ a.1.0 in
      let d : x.position ≡ e.position = sym f.1 ∙ a.1.1 in
      q ∙ (λ i. Err (record { code = c i; position = d i })))

  refuses : (e : Error) → outcome ≡ Err e → (code ≡ 0 → ⊥) × ((code ≡ e.code) × (position ≡ e.position))
  refuses e q =
      let f = failed_numbers q in
      ((λ z. omega (arith, some_code s (length before / 7) q, f.0)), f)

  pub opens_numbers : OpensNumbers s before code count position after
  unfolding all_numbers
  opens_numbers =
      laws.opens s (length before / 7)
      (λ n. (answered n, answers n))
      (λ e. (refused e, refuses e))
      (λ rows q. rw q at h.1.1.1)
      (λ e q. rw q at h.1.1.1)
