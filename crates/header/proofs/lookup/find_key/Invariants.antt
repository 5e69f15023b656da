-- `header::lookup::find_key` meets its contract. The invariant: what is found from where the walk stands is what is found.
use Rattle.std.proofs.Common.{◌≡◌}
use Rattle.text.specs.Key.{key_of}
use Rattle.header.specs.Lookup.{first_statement}
use Rattle.header.specs.Statements.{leading_statements}
use Rattle.header.proofs.lookup.find_key.Given as goal

abbrev pub invariant-loop-next : goal.invariant-loop-next
invariant-loop-next l = record {
  bytes : l.next-iterator.s.now ≡ l.s;
  found : first_statement l.s (key_of l.sought) (leading_statements l.s l.from)
      ≡ first_statement l.s (key_of l.sought) (leading_statements l.s l.next-iterator.at);
}
