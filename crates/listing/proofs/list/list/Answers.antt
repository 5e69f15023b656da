-- `listing::list::list` meets its contract.
use Rattle.std.specs.Prelude.{Ok}
use mathlib.Core.Path.{ap, ◌∙◌}
use mathlib.Core.List.{List}
use Prim.Native.Nat.{ℕ}
use native.Mathlib.Omega.{arith}
use Rattle.scan.specs.Buffer.{length_written, buffer_after}
use Rattle.append.proofs.Appending.{front_is}
use Rattle.listing.proofs.list.list.Goals as goal

pub returns-clause-result_value : goal.returns-clause-result_value
returns-clause-result_value c = (
  c.write_bytes.ensures.result_value ∙ ap (λ (l : List ℕ). length_written (Ok l) c.args.out.now) (front_is c.put_listing-n.ensures),
  omega (arith, c.put_listing-n.ensures.next_is, c.put_listing-n.ensures.room),
)

pub returns-clause-out_after : goal.returns-clause-out_after
returns-clause-out_after c =
    c.write_bytes.ensures.out_after ∙ ap (λ (l : List ℕ). buffer_after (Ok l) c.args.out.now) (front_is c.put_listing-n.ensures)
