-- Where the value of a keyword came from: "own header, general header, or default" (02, No. 1).
use Rattle.std.specs.Prelude.{cond, List, ℕ, Option, None, Some}
use Rattle.text.specs.Key.{key_of}
use Rattle.header.specs.Entries.{lookup}
use Rattle.header.specs.Entry.{Entry}
use Rattle.blocks.specs.Counting.{is_edf_key}
use Rattle.keyword.specs.Keyword.{View}
use Rattle.keyword.specs.declared.Origin.{Origin}
use Rattle.keyword.specs.declared.Origin.TheVariants as origin

-- By what the own header has, and what the general one has.
abbrev pub origin_by : Option Entry → Option Entry → Origin
origin_by (Some e) other = origin.Own
origin_by None (Some e) = origin.General
origin_by None None = origin.Default

-- Of a keyword in a block: the header in which `lookup_in` finds it.
unfoldable pub origin_in : View → List ℕ → Origin
origin_in b sought =
    let k = key_of sought in origin_by (lookup k b.own) (cond (is_edf_key k) None (lookup k b.general))
