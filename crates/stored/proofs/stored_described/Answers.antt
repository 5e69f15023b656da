-- `stored::stored_described` meets its contract.
use Rattle.std.specs.Prelude.{Ok}
use mathlib.Core.Path.{refl, sym, ◌∙◌}
use Rattle.stored.specs.Stored.{stored_with}
use Rattle.stored.proofs.stored_described.Goals as goal

pub returns-then-not-is_order : goal.returns-then-not-is_order
unfolding stored_with
returns-then-not-is_order c = rw (sym c.is_order.ensures ∙ c.if-not-is_order.true) refl

pub returns : goal.returns
unfolding stored_with
returns c =
    rw (sym c.is_order.ensures ∙ c.if-not-is_order.false)
    (λ j. Ok (record {
      description = c.args.d;
      span = record { offset = c.args.offset; length = c.array_length.ensures j };
      delivered = c.as_delivered.ensures j;
    }))
