use Rattle.std.proofs.Common.{inl, arith}
use Rattle.text.proofs.KeySteps.{key-length}
use Rattle.text.proofs.key.key_length.Goals as goal

pub count-requires-clause-fits : goal.count-requires-clause-fits
count-requires-clause-fits c = inl (omega (arith, key-length c.args.k.now))
