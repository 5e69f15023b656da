-- `reading::identity::identity_of` meets its contract: it finds the parts of an identity.
use Rattle.std.proofs.Common.{◌≡◌, Some, take, drop, sym, ap, ◌∙◌, rules}
use Rattle.scan.specs.Byte.{ascii}
use Rattle.text.specs.Number.{whole_number}
use Rattle.blocks.specs.Reading.{after_prefix, identity_of}
use Rattle.reading.proofs.IdentitySteps.{prefix_there}
use Rattle.reading.proofs.identity.identity_of.Goals as goal

pub returns : goal.returns
unfolding identity_of
returns c =
    let v = c.args.v.now in
    let point = sym c.in_ok-point.ensures in
    let sequence : whole_number (take c.in_ok-point.point v) ≡ Some c.in_ok-whole_number.field-0 =
    ap whole_number (sym c.split_at.ensures.front) ∙ sym c.in_ok-whole_number.ensures in
    let there : after_prefix (ascii ".Image.") (drop c.in_ok-point.point v) ≡ Some c.in_ok-strip_prefix.field-0.now =
    ap (after_prefix (ascii ".Image.")) (sym c.split_at.ensures.back)
    ∙ prefix_there (ascii ".Image.") _ c.in_ok-strip_prefix.ensures.cases.0
    ∙ ap Some (sym c.in_ok-strip_prefix.ensures.cases.1) in
    rw (point, sequence, there) (search rules)
