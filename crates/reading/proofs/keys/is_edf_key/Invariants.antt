-- `reading::keys::is_edf_key` meets its contract. The invariant: what is left of the key starts with what is left of `edf_`
-- just when the key starts with `edf_`.
use Rattle.std.proofs.Common.{◌≡◌}
use Rattle.text.specs.Key.{key_of}
use Rattle.blocks.specs.Counting.{is_edf_key}
use Rattle.reading.proofs.EdfKeys.{edf_from}
use Rattle.reading.proofs.keys.is_edf_key.Given as goal

abbrev pub invariant-loop-letter : goal.invariant-loop-letter
invariant-loop-letter l = is_edf_key (key_of l.k) ≡ edf_from l.k l.at l.letter-index
