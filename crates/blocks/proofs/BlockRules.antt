-- The rules that a block is judged by.
use Rattle.std.specs.Prelude.{Some}
use mathlib.Core.Path.{◌≡◌, refl, sym, ap}
use mathlib.Core.Bool.{Bool, true, false}
use mathlib.Core.List.{List}
use Prim.Native.Nat.{ℕ}
use Rattle.header.specs.Entry.{Entry}
use Rattle.blocks.specs.Grammar.{Rules, Declares, FirstHeader}
use Rattle.blocks.specs.Judging.{rules_for}
use Rattle.blocks.specs.declared.FileRules.{FileRules}
use Rattle.blocks.proofs.Coded.{coded, Asking}
use Rattle.blocks.proofs.Declarations.{rules-sound, rules-complete, declares_asking}
use Rattle.blocks.proofs.PlaceLaws.{DistinctKeys}

-- The first header gives them, the others keep those that are given.
abbrev pub RulesAre : Rules → Bool → List Entry → Rules → Type 0
RulesAre given true es r = Declares es r
RulesAre given false es r = r ≡ given

-- The rules that are read, as the code holds them.
pub record RulesRead (given : Rules) (b : Bool) (es : List Entry) (r : FileRules) : Type 0 where
  pub rules : Rules
  pub are : RulesAre given b es rules
  pub coded_are : coded rules ≡ r

pub rules_for_sound : (given : Rules) (b : Bool) {es : List Entry} {r : FileRules} → DistinctKeys es → rules_for (coded given) b es ≡ Some r
    → RulesRead given b es r
rules_for_sound given true d e =
    let x = rules-sound d e in
    record { rules = x.rules; are = x.declares; coded_are = x.are }
rules_for_sound given false d e = record { rules = given; are = refl; coded_are = cc }

pub rules_for_complete : (given : Rules) (b : Bool) {es : List Entry} (r : Rules) → DistinctKeys es → RulesAre given b es r
    → rules_for (coded given) b es ≡ Some (coded r)
rules_for_complete given true r d x = rules-complete d x
rules_for_complete given false r d e = ap (λ (x : Rules). Some (coded x)) (sym e)

pub rules_asking : (given : Rules) (b : Bool) (es : List Entry) {r : Rules} → Asking given → RulesAre given b es r → Asking r
rules_asking given true es k d = declares_asking d
rules_asking given false es k e = rw e k

-- The rules of an accepted block: those of the first header, or those given.
abbrev pub RulesFrom : List ℕ → Rules → Bool → Rules → Type 0
RulesFrom s given true r = FirstHeader s r
RulesFrom s given false r = r ≡ given
