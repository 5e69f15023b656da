use Prim.Native.Nat.{ℕ}
use mathlib.Core.Path.{sym, ap, ◌∙◌}
use Rattle.header.specs.Hash.{hash_of, mixed}
use Rattle.header.proofs.HashLaws.{hash_end, hash_more}
use Rattle.header.proofs.repeat.hash_key.Goals as goal

pub loop-b-preserved : goal.loop-b-preserved
loop-b-preserved c =
    c.loop-b.invariant ∙ hash_more _ _ _ _ c.loop-b-test.true c.mix_key_byte-h.ensures

pub returns : goal.returns
unfolding hash_of
returns c =
    c.mix.ensures
    ∙ ap (λ (x : ℕ). mixed x 0) (sym (hash_end c.args.k.now _ _ c.loop-b-test.false) ∙ sym c.loop-b.invariant)
