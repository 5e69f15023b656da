-- Two parts of the judging by a header's first entries that have a function of their own.
use Rattle.std.specs.Prelude.{cond, List, ℕ, Option, None, option_map}
use Rattle.scan.specs.Byte.{same}
use Rattle.header.specs.Entry.{Entry}
use Rattle.blocks.specs.Counting.{first}
use Rattle.blocks.specs.Keys.{DataBlocksKey, BlockIDKey}
use Rattle.blocks.specs.Reading.{asked_for, identity_of}
use Rattle.blocks.specs.declared.Identity.{Identity}
use Rattle.blocks.specs.declared.Role.{Role}

-- How many data blocks the first of some entries asks for, if it is EDF_DataBlocks.
unfoldable pub second_count : List Entry → Option ℕ
second_count es = cond (same (first es).key DataBlocksKey) (asked_for (first es).value) None

-- The role of a data block of kind 2.
unfoldable pub named_role : List Entry → Option Role
named_role es =
    cond (same (first es).key BlockIDKey)
    (option_map (λ (i : Identity). record { kind = 1; identity = i }) (identity_of (first es).value))
    None
