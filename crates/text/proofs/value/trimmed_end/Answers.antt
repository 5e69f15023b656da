use Rattle.std.proofs.Common.{◌≡◌, ◌+◌, rules}
use Rattle.std.specs.Prelude.{MatchOption}
use Rattle.std.proofs.iter.runs.Made.{chains}
use Rattle.text.proofs.Trims.{LastVisible, end_by_last}
use Rattle.text.proofs.value.trimmed_end.Goals as goal

pub returns : goal.returns
returns c =
    let last : LastVisible c.args.l.now c.rposition.result = search (rules, chains) in
    let next : MatchOption c.rposition.result (c.map_or.result ≡ 0) (λ i. c.map_or.result ≡ i + 1) = search rules in
    end_by_last _ _ _ last next
