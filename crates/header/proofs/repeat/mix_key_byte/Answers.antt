-- `header::repeat::mix_key_byte` meets its contract: above the space no byte is whitespace, up to it none is a capital letter.
use mathlib.Core.Path.{◌≡◌, sym, ◌∙◌}
use mathlib.Core.Bool.{false, and-false}
use Prim.Native.Nat.{ℕ, ◌<◌}
use native.Mathlib.Omega.{arith}
use borrow.Author.Tests.{ne_eqb, lt-leb}
use lib.Dec.{leb}
use Rattle.text.specs.Whitespace.{whitespace}
use Rattle.text.proofs.Folds.{fold_low}
use Rattle.header.specs.Hash.{mixed_key_byte}
use Rattle.header.proofs.repeat.mix_key_byte.Goals as goal

above-space : (b : ℕ) → 32 < b → whitespace b ≡ false
unfolding whitespace
above-space b h = rw (ne_eqb b 32 (λ e. omega (arith, e)), lt-leb b 13 (omega arith)) (and-false (leb 9 b))

pub returns-then-b-gt32 : goal.returns-then-b-gt32
unfolding mixed_key_byte
returns-then-b-gt32 c =
    rw (above-space c.args.b c.if-b-gt32.true, sym c.fold_byte.ensures) c.mix.ensures

pub returns-then-is_whitespace : goal.returns-then-is_whitespace
unfolding mixed_key_byte
returns-then-is_whitespace c = rw (sym c.is_whitespace.ensures ∙ c.if-is_whitespace.true)

pub returns-else-is_whitespace : goal.returns-else-is_whitespace
unfolding mixed_key_byte
returns-else-is_whitespace c =
    rw (sym c.is_whitespace.ensures ∙ c.if-is_whitespace.false, sym (fold_low c.args.b (omega arith))) c.mix-else-is_whitespace.ensures
