-- Reading from here on is the whole reading, and the bytes left are fewer with each field.
use Rattle.std.proofs.Common.{◌-◌, length}
use Rattle.tagged_table.specs.Tags.{number_of_last}
use Rattle.tagged_table.proofs.Left.{Left}
use Rattle.tagged_table.proofs.read.walk.Given as goal

abbrev pub invariant-walk : goal.invariant-walk
invariant-walk l = Left l.input l.table (number_of_last l.last) l.at

abbrev pub decreases-walk : goal.decreases-walk
decreases-walk l = length l.input - l.at
