use Rattle.std.proofs.Common.{◌-◌, refl, length, rules, tests}
use Rattle.std.proofs.lemmas.Iterator.{YieldsList-from_range}
use Rattle.std.proofs.lemmas.Iterator.Search.{find_from_yields_List}
use Rattle.scan.specs.Byte.{byte}
use Rattle.scan.specs.Search.{is}
use Rattle.scan.proofs.Searches.{found_offset}
use Rattle.scan.proofs.find.Goals as goal

pub returns : goal.returns
returns c =
    let s = c.args.s.now in
    let from = c.args.from in
    found_offset (is c.args.b) s from c.find.result
    (find_from_yields_List (λ i. is c.args.b (byte s i)) _ _ c.find.result c.find.ensures.ran (YieldsList-from_range from (length s) (length s - from) refl refl) (λ x r q k. search (rules, tests)))
