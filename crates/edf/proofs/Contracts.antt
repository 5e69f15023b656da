-- The relations of specs/Calls are the contracts of the calls: what the `ensures` of a call says of its answer r and of its lent memory at
-- the end e, the relation of that name says. `a` are the call's arguments, in order.
use seplogic.Ra.Ura.{Ura}
use base.Logic.{SProp, ent, sep, fst∗, snd∗}
use prog.Memory.{Memory}
use prog.Routine.{Routine}
use types.Logic.{Logic}
use contract.Lifetimes.{Lfts}
use contract.Monad.{Fun, fact, fact_i, fact_mono, fact_use}
use denote.Triple.Clauses.{Ended, AtExit, Clauses}
use denote.Triple.Entry.{Args, Res}
use Rattle.edf.specs.Calls.{Open, Find, Part, WholeNumber, ReadReal, Text, Escape, Unescape, Describe, ReadArray, Stores, ReadPixel, Write, Lists}
use Rattle.edf.specs.contracts.open as open'
use Rattle.edf.specs.contracts.find as find
use Rattle.edf.specs.contracts.part as part
use Rattle.edf.specs.contracts.whole_number as whole_number
use Rattle.edf.specs.contracts.real as real
use Rattle.edf.specs.contracts.text as text
use Rattle.edf.specs.contracts.escape as escape
use Rattle.edf.specs.contracts.unescape as unescape
use Rattle.edf.specs.contracts.describe as describe
use Rattle.edf.specs.contracts.read_array as read_array
use Rattle.edf.specs.contracts.stored_array as stored_array
use Rattle.edf.specs.contracts.read_pixel as read_pixel
use Rattle.edf.specs.contracts.write as write
use Rattle.edf.specs.contracts.list as list

-- Two facts give a third.
both : {M : Type 1} (𝓤 : Ura M) {φ ψ χ : Type 0} → (φ → ψ → χ) → ent 𝓤 (sep 𝓤 (fact 𝓤 φ) (fact 𝓤 ψ)) (fact 𝓤 χ)
both 𝓤 {φ} {ψ} {χ} f =
    let P = sep 𝓤 (fact 𝓤 φ) (fact 𝓤 ψ) in
    fact_use 𝓤 φ (fst∗ 𝓤 (fact 𝓤 φ) (fact 𝓤 ψ)) (λ x. fact_use 𝓤 ψ (snd∗ 𝓤 (fact 𝓤 φ) (fact 𝓤 ψ)) (λ y. fact_i 𝓤 χ P (f x y)))

module _ {M : Type 1} {𝓤 : Ura M} (𝓛 : Logic 𝓤) (mem : Memory → SProp 𝓤) (run : Routine → Fun 𝓤) where
  -- The `ensures` of a contract give a relation.
  abbrev Gives : (T : Ended) → Clauses 𝓤 T
      → ((κs : Lfts T.signature.lifetimes) → Args T.signature κs → Res T.signature κs → AtExit T κs → Type 0) → Type 1
  Gives T c R =
      (κs : Lfts T.signature.lifetimes) (a : Args T.signature κs) (g : (c κs a).ghost) (r : Res T.signature κs) (e : AtExit T κs)
      → ent 𝓤 ((c κs a).ensures g r e) (fact 𝓤 (R κs a r e))

  pub opens : Gives open'.ended (open'.clauses 𝓛 mem run) (λ κs a r e. Open a.0.now a.1.0.now r e.1.0.now)
  opens κs a g r e = both 𝓤 (λ x y. record { answers = x.0; leaves = x.1 })

  pub finds : Gives find.ended (find.clauses 𝓛 mem run) (λ κs a r e. Find a.0.now a.1.0 a.1.1.0.now r)
  finds κs a g r e = both 𝓤 (λ x y. record { answers = x; bytes = y })

  pub parts : Gives part.ended (part.clauses 𝓛 mem run) (λ κs a r e. Part a.0.now a.1.0 r.now)
  parts κs a g r e = fact_mono 𝓤 _ _ (λ x. record { answers = x })

  pub numbers : Gives whole_number.ended (whole_number.clauses 𝓛 mem run)
      (λ κs a r e. WholeNumber a.0.now a.1.0 a.1.1.0.now r)
  numbers κs a g r e = fact_mono 𝓤 _ _ (λ x. record { answers = x })

  pub reals : Gives real.ended (real.clauses 𝓛 mem run) (λ κs a r e. ReadReal a.0.now a.1.0 a.1.1.0.now r)
  reals κs a g r e = fact_mono 𝓤 _ _ (λ x. record { answers = x })

  pub texts : Gives text.ended (text.clauses 𝓛 mem run)
      (λ κs a r e. Text a.0.now a.1.0 a.1.1.0.now a.1.1.1.0.now r e.1.1.1.0.now)
  texts κs a g r e = both 𝓤 (λ x y. record { answers = x; leaves = y })

  pub escapes : Gives escape.ended (escape.clauses 𝓛 mem run) (λ κs a r e. Escape a.0.now a.1.0.now r e.1.0.now)
  escapes κs a g r e = both 𝓤 (λ x y. record { answers = x; leaves = y })

  pub unescapes : Gives unescape.ended (unescape.clauses 𝓛 mem run) (λ κs a r e. Unescape a.0.now a.1.0.now r e.1.0.now)
  unescapes κs a g r e = both 𝓤 (λ x y. record { answers = x; leaves = y })

  pub describes : Gives describe.ended (describe.clauses 𝓛 mem run) (λ κs a r e. Describe a.0.now a.1.0 r)
  describes κs a g r e = fact_mono 𝓤 _ _ (λ x. record { answers = x })

  pub arrays : Gives read_array.ended (read_array.clauses 𝓛 mem run)
      (λ κs a r e. ReadArray a.0.now a.1.0 a.1.1.0 a.1.1.1.0.now r e.1.1.1.0.now)
  arrays κs a g r e = both 𝓤 (λ x y. record { answers = x; leaves = y })

  pub stores : Gives stored_array.ended (stored_array.clauses 𝓛 mem run) (λ κs a r e. Stores a.0.now a.1.0 a.1.1.0 r)
  stores κs a g r e = both 𝓤 (λ x y. record { answers = x; delivers = y })

  pub pixels : Gives read_pixel.ended (read_pixel.clauses 𝓛 mem run)
      (λ κs a r e. ReadPixel a.0.now a.1.0 a.1.1.0 a.1.1.1.0 a.1.1.1.1.0 r)
  pixels κs a g r e = fact_mono 𝓤 _ _ (λ x. record { answers = x.0; octets = x.1 })

  pub writes : Gives write.ended (write.clauses 𝓛 mem run)
      (λ κs a r e. Write a.0 a.1.0.now a.1.1.0.now a.1.1.1.0.now r e.1.1.1.0.now)
  writes κs a g r e =
      both 𝓤
      (λ x y. record { writes = record { answers = x.0; leaves = x.1 }; sequence = y.0; memory = y.1; octets = y.2; fits = y.3 })

  pub lists : Gives list.ended (list.clauses 𝓛 mem run) (λ κs a r e. Lists a.0.now a.1.0.now r e.1.0.now)
  lists κs a g r e = both 𝓤 (λ x y. record { writes = record { answers = x.0; leaves = y }; fits = x.1 })
