-- Calls on a block that two files share: the same answers, by the definitions that their contracts cite.
use Rattle.std.specs.Prelude.{None, Ok, Err, ℕ}
use Rattle.scan.specs.Outcome.{Outcome}
use mathlib.Core.Path.{◌≡◌, refl, sym, ap, subst, ◌∙◌}
use mathlib.Core.List.{List, ◌++◌}
use Prim.Native.Nat.{ℕ}
use lib.ListN.{length, take, drop, length-map}
use lib.Seq.{take_at}
use Rattle.scan.specs.declared.Error.{Error}
use Rattle.scan.specs.declared.Span.{Span}
use Rattle.blocks.specs.Grammar.{Partition, block_of}
use Rattle.blocks.specs.declared.Row.{Row}
use Rattle.locality.specs.Blocks.{AcceptedFile, general_header}
use Rattle.locality.specs.Moved.{moved_span, moved_from, moved_row, map_outcome}
use Rattle.keyword.specs.Keyword.{found}
use Rattle.keyword.specs.Shared.{SharedBlock}
use Rattle.keyword.proofs.SharedValues.{value_shared, number_shared, text_shared, found_moved_from, found_moved, found-same, same_moved}
use Rattle.stored.specs.Stored.{stored_array}
use Rattle.stored.specs.declared.StoredArray.{StoredArray}
use Rattle.independence.specs.Moved.{moved_located, moved_located_from, moved_array, moved_stored}
use Rattle.independence.proofs.Arrays.{delivered_shared, pixel_shared, stored_moved, stored_same}
use Rattle.independence.proofs.Descriptions.{description_shared, real_shared}
use Rattle.edf.specs.Calls.{IntoBuffer, Open}
use Rattle.edf.specs.Independence.{Answers, SameAnswers, MovedAnswersFrom, MovedAnswers}
use Rattle.edf.specs.Opening.{Allowed}
use Rattle.edf.proofs.CallLaws.{same_written}
use Rattle.edf.proofs.OpeningLaws.{promised}

-- Writing the same into the same.
written_same : {o p : Outcome (List ℕ)} → p ≡ o → {room : List ℕ} {r q : Outcome ℕ} {after left : List ℕ} → IntoBuffer o room r after
    → IntoBuffer p room q left → (q ≡ r) × (left ≡ after)
written_same e {room} {q = q} {left = left} c d = same_written (subst (λ (x : Outcome (List ℕ)). IntoBuffer x room q left) e d) c

-- The answers that have a span, by those of the definitions.
module _ {s t : List ℕ} {k j : ℕ} {row : Row} (n : ℕ) (b : SharedBlock s t k j row (moved_row n row)) (moveLocated : Outcome Span → Outcome Span) (moveStored : Outcome StoredArray → Outcome StoredArray)
    (finds : (key : List ℕ) → found t j key ≡ moveLocated (found s k key))
    (stored : (order : ℕ) → stored_array t j order ≡ moveStored (stored_array s k order)) where
  answers : Answers s t k j moveLocated moveStored
  answers = record {
    find = λ {key} {r} {q} c d. d.answers ∙ finds key ∙ ap moveLocated (sym c.answers);
    value = λ {key} c d. d.bytes ∙ value_shared n b key ∙ sym c.bytes;
    whole_number = λ {key} {r} {q} c d. d.answers ∙ number_shared n b key ∙ sym c.answers;
    real = λ {key} {r} {q} c d. d.answers ∙ real_shared n b key ∙ sym c.answers;
    text = λ key c d. written_same (text_shared n b key) c d;
    describe = λ {r} {q} c d. d.answers ∙ description_shared n b ∙ sym c.answers;
    stored_array = λ {order} {r} {q} c d. d.answers ∙ stored order ∙ ap moveStored (sym c.answers);
    read_array = λ order c d. written_same (delivered_shared n b order) c d;
    read_pixel = λ {i1} {i2} {i3} {r} {q} c d. d.answers ∙ pixel_shared n b i1 i2 i3 ∙ sym c.answers;
  }

pub same_answers : {s t : List ℕ} {k j : ℕ} {row : Row} → SharedBlock s t k j row row → SameAnswers s t k j
same_answers b =
    answers 0 (same_moved b) (λ r. r) (λ r. r) (λ key. found-same b key) (λ order. stored_same b order)

-- The variant of an outcome that is mapped.
located_map : (f : Span → Span) (g : Outcome Span → Outcome Span) → ((p : Span) → g (Ok p) ≡ Ok (f p)) → ((e : Error) → g (Err e) ≡ Err e)
    → (o : Outcome Span) → map_outcome f o ≡ g o
located_map f g at fails (Ok p) = sym (at p)
located_map f g at fails (Err e) = sym (fails e)

stored_map : (n : ℕ) (o : Outcome StoredArray) → map_outcome (moved_array n) o ≡ moved_stored n o
stored_map n (Ok a) = refl
stored_map n (Err e) = refl

module _ (n : ℕ) {s t : List ℕ} {k j : ℕ} {row : Row} (b : SharedBlock s t k j row (moved_row n row)) where
  stored_answer : (order : ℕ) → stored_array t j order ≡ moved_stored n (stored_array s k order)
  stored_answer order = stored_moved n b order ∙ stored_map n (stored_array s k order)

  pub moved_answers_from : MovedAnswersFrom row.start n s t k j
  moved_answers_from =
      let start = row.start in
      answers n b (moved_located_from start n) (moved_stored n)
      (λ key. found_moved_from n b key
      ∙ located_map (moved_from start n) (moved_located_from start n) (λ p. refl) (λ e. refl) (found s k key))
      stored_answer

  pub moved_answers : general_header s b.rows ≡ None → MovedAnswers n s t k j
  moved_answers g =
      answers n b (moved_located n) (moved_stored n)
      (λ key. found_moved n b key g ∙ located_map (moved_span n) (moved_located n) (λ p. refl) (λ e. refl) (found s k key))
      stored_answer

-- ---- What `open` accepts

pub opened_accepted : {s : List ℕ} {before after : List Row} {n : ℕ} → Allowed s (length before) → Open s before (Ok n) after
    → AcceptedFile s (take n after)
opened_accepted {s} {before} {after} {n} allowed call =
    let found = ((promised call).accepted allowed).0 (n, refl) in
    let cut = found.1 in
    let count : Ok n ≡ Ok (length found.0) = (promised call).count allowed found.0 cut in
    let same : n ≡ length found.0 = cc in
    let many : length cut.rows ≡ n = sym (length-map cut.rows block_of) ∙ ap length (sym cut.are) ∙ sym same in
    let held : after ≡ cut.rows ++ drop (length cut.rows) before = (promised call).rows allowed found.0 cut in
    let front : take n after ≡ cut.rows = ap (take n) held ∙ take_at cut.rows (drop (length cut.rows) before) n many in
    record { small = allowed.file; partition = subst (Partition s) (sym front) cut.partition }
