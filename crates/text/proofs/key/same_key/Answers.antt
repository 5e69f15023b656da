use Rattle.std.proofs.Common.{◌≡◌, ◌∙◌, drop, refl}
use Rattle.std.proofs.lemmas.Iterator.Consumers.{YieldsList-from_first, YieldsList-at}
use Rattle.scan.proofs.Equals.{pointwise-same}
use Rattle.text.specs.Key.{key_of}
use Rattle.text.proofs.Comparing.{eq_from_yields_List}
use Rattle.text.proofs.key.same_key.Goals as goal

pub returns : goal.returns
returns c =
    let a = c.args.a.now in
    let b = c.args.b.now in
    eq_from_yields_List (λ x y. y ≡ x) _ _ c.eq.ensures.ran
    (YieldsList-from_first _ (λ s. key_of (drop s.at s.bytes.now)) (key_of a) refl)
    (λ it e. YieldsList-at e (YieldsList-from_first _ (λ s. key_of (drop s.at s.bytes.now)) (key_of b) refl))
    ∙ pointwise-same (key_of a) (key_of b)
