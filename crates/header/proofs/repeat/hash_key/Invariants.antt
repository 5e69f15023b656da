-- `header::repeat::hash_key` meets its contract. The invariant: the hash of the key is that of what is left of it, from `h` on.
use Rattle.std.proofs.Common.{◌≡◌, drop}
use Rattle.text.specs.Key.{key_of}
use Rattle.header.specs.Hash.{hash_from}
use Rattle.header.proofs.repeat.hash_key.Given as goal

abbrev pub invariant-loop-b : goal.invariant-loop-b
invariant-loop-b l = hash_from 1 (key_of l.k) ≡ hash_from l.h (key_of (drop l.b-index l.k))
