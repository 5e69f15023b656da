-- `reading::keys::find_counting` meets its contract. The invariant: what is found from where the walk stands is what is found.
use Rattle.std.proofs.Common.{◌≡◌}
use Rattle.text.specs.Key.{key_of}
use Rattle.reading.proofs.CountingLaws.{counting_from}
use Rattle.reading.proofs.keys.find_counting.Given as goal

abbrev pub invariant-loop-next : goal.invariant-loop-next
invariant-loop-next l = record {
  bytes : l.next-iterator.s.now ≡ l.s;
  found : counting_from l.s (key_of l.sought) l.from ≡ counting_from l.s (key_of l.sought) l.next-iterator.at;
}
