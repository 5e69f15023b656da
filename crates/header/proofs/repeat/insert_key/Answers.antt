-- `header::repeat::insert_key` meets its contract.
use mathlib.Core.Path.{subst}
use Rattle.header.specs.Hash.{Inserted}
use Rattle.header.proofs.RepeatLaws.{key_new, key_looked_up}
use Rattle.header.proofs.repeat.insert_key.Goals as goal

pub returns-then-insert : goal.returns-then-insert
returns-then-insert c =
    key_looked_up _ _ _ _ _ _ _ c.hash_key-h.ensures c.slot_of.ensures c.insert.ensures
    c.is_earlier.ensures

pub returns-else-insert : goal.returns-else-insert
returns-else-insert c =
    rw c.if-insert.false
    (key_new _ _ _ _ _ _ _ c.hash_key-h.ensures c.slot_of.ensures (subst (Inserted _ _ _ _) c.if-insert.false c.insert.ensures))
