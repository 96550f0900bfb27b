-- The code's tags of a table's fields, and their numbers.
use Rattle.std.specs.Prelude.{ℕ, Option, None, Some, Result, Ok, Err}
use Rattle.table.specs.declared.Refusal.{Refusal}
use Rattle.table.specs.declared.Refusal.TheVariants.{WrongTagOrCount}
use Rattle.tagged_table.specs.declared.tag.Tag.{Tag}
use Rattle.tagged_table.specs.declared.tag.Tag.TheVariants.{Version, Size, Resource, Job, End}
use Rattle.tagged_table.specs.Form.{by_tag}

-- The number of each tag.
abbrev pub number_of_tag : Tag → ℕ
number_of_tag Version = 1
number_of_tag Size = 2
number_of_tag Resource = 3
number_of_tag Job = 4
number_of_tag End = 5

-- The number of the last tag; 0 before the first field.
abbrev pub number_of_last : Option Tag → ℕ
number_of_last None = 0
number_of_last (Some t) = number_of_tag t

-- The tag that a byte is.
abbrev pub tag_answer : ℕ → Result Tag Refusal
tag_answer byte = by_tag byte (Ok Version) (Ok Size) (Ok Resource) (Ok Job) (Ok End) (Err WrongTagOrCount)
