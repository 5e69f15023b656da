-- `description::describe::check_array` meets its contract.
use mathlib.Core.Path.{sym, ap, ◌∙◌}
use mir.Syntax.{w64}
use mir.Val.{SFits}
use mir.ValLaws.{to_z-of_z}
use Rattle.raster.proofs.Tables.{type_width_few}
use Rattle.description.specs.Answers.{dim_list}
use Rattle.description.specs.Describe.{offset_allowed}
use Rattle.description.proofs.DescribeLaws.{small_extents, too_short, offset_refused, array_described}
use borrow.Author.Rules.{rules}
use Rattle.description.proofs.describe.check_array.Goals as goal

pub byte_count-requires : goal.byte_count-requires
byte_count-requires c =
    let x = small_extents (dim_list c.args.dims) c.extents_of-e.ensures c.requires in
    (x.0, x.1, x.2, rw c.width_of.ensures (type_width_few _))

pub returns-then-size-byte_count : goal.returns-then-size-byte_count
returns-then-size-byte_count c =
    c.refuse.ensures
    ∙ too_short c.args.words c.args.dims c.args.numbers c.args.origins c.args.size c.extents_of-e.ensures c.width_of.ensures c.byte_count.ensures
    c.if-size-byte_count.true

pub returns-then-not-offset_allowed : goal.returns-then-not-offset_allowed
returns-then-not-offset_allowed c =
    let offset-fits : SFits w64 c.args.numbers.offset = search rules in
    c.refuse-then-not-offset_allowed.ensures
    ∙ offset_refused c.args.words c.args.dims c.args.numbers c.args.origins c.args.size c.extents_of-e.ensures c.width_of.ensures c.byte_count.ensures
    c.if-size-byte_count.false
    (sym (ap (offset_allowed _) (to_z-of_z w64 c.args.numbers.offset offset-fits)) ∙ sym c.offset_allowed.ensures ∙ c.if-not-offset_allowed.true)

pub returns : goal.returns
returns c =
    let offset-fits : SFits w64 c.args.numbers.offset = search rules in
    let held = to_z-of_z w64 c.args.numbers.offset offset-fits in
    array_described c.args.words c.args.dims c.args.numbers c.args.origins c.args.size c.extents_of-e.ensures c.width_of.ensures c.byte_count.ensures
    c.if-size-byte_count.false (sym (ap (offset_allowed _) held) ∙ sym c.offset_allowed.ensures ∙ c.if-not-offset_allowed.false) held
