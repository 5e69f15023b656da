-- `judging::rules::rules_of` meets its contract.
use Rattle.std.proofs.Common.{sym, ap, Some, ◌∙◌}
use Rattle.blocks.specs.Counting.{is_edf_key}
use Rattle.blocks.specs.Keys.{VersionKey, BlockIDKey}
use Rattle.reading.proofs.SoughtLaws.{folded}
use Rattle.judging.proofs.FirstLaws.{key_is, rules_empty, rules_plain, rules_version, rules_id, rules_other}
use Rattle.judging.proofs.rules.rules_of.Goals as goal
use Rattle.judging.proofs.rules.rules_of.Goals.{in_default-via-in-Some+else-is_edf_key, in_default-via-in_default}

pub returns-then-same_key : goal.returns-then-same_key
returns-then-same_key c =
    let f = c.in-Some.ensures in
    let edf = ap is_edf_key (sym f.key) ∙ sym c.is_edf_key.ensures ∙ c.if-is_edf_key.true in
    rules_version f.entries edf (key_is _ VersionKey _ f.key folded.version c.same_key.ensures c.if-same_key.true) c.general_rules.ensures

pub returns-then-same_key-2 : goal.returns-then-same_key-2
returns-then-same_key-2 c =
    let f = c.in-Some.ensures in
    let edf = ap is_edf_key (sym f.key) ∙ sym c.is_edf_key.ensures ∙ c.if-is_edf_key.true in
    rules_id f.entries edf (key_is _ VersionKey _ f.key folded.version c.same_key.ensures c.if-same_key.false)
    (key_is _ BlockIDKey _ f.key folded.block_id c.same_key-else-same_key.ensures c.if-same_key-2.true) (ap Some c.plain_rules.ensures)

pub returns-else-same_key-2 : goal.returns-else-same_key-2
returns-else-same_key-2 c =
    let f = c.in-Some.ensures in
    let edf = ap is_edf_key (sym f.key) ∙ sym c.is_edf_key.ensures ∙ c.if-is_edf_key.true in
    rules_other f.entries edf (key_is _ VersionKey _ f.key folded.version c.same_key.ensures c.if-same_key.false)
    (key_is _ BlockIDKey _ f.key folded.block_id c.same_key-else-same_key.ensures c.if-same_key-2.false)

pub returns-in_default : goal.returns-in_default
returns-in_default c =
    elim c.in_default.branch [
      | in_default-via-in-Some+else-is_edf_key w ↦
          let f = w.in-Some.ensures in
          rules_plain f.entries (ap is_edf_key (sym f.key) ∙ sym w.is_edf_key.ensures ∙ w.if-is_edf_key.false) (ap Some c.plain_rules-in_default.ensures)
      | in_default-via-in_default w ↦ rules_empty w.in_default.ensures (ap Some c.plain_rules-in_default.ensures)
    ]
