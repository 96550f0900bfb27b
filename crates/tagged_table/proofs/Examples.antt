-- The rules' 41 bytes are read and written, stack size 89 is refused with 5 at 41, and the empty input with 1 at 0: both sides compute
-- to the same value.
use Rattle.std.specs.Prelude.{◌≡◌, refl, []}
use Rattle.rules.specs.Choice.{first_bad}
use Rattle.rules.specs.Counting.{max_below, sum_below, none_above}
use Rattle.rules.specs.Table.{worst}
use Rattle.rules.specs.Examples.{station}
use Rattle.field.specs.Field.{framed}
use Rattle.table.specs.Refusals.{refused_at}
use Rattle.tagged_table.specs.Form.{table_bytes, stands, wants, good, grown, judged, took, ended, read_fields, table_reading}
use Rattle.tagged_table.specs.Examples.{station_bytes}

pub station_read : table_reading (station_bytes 90) ≡ took 41 (station 90)
unfolding first_bad max_below sum_below none_above worst framed stands wants good grown judged ended read_fields table_reading
station_read = refl

pub station_written : table_bytes (station 90) ≡ station_bytes 90
station_written = refl

pub station_too_small : table_reading (station_bytes 89) ≡ refused_at 5 41
unfolding first_bad max_below sum_below none_above worst framed stands wants good grown judged ended read_fields table_reading
station_too_small = refl

pub empty_refused : table_reading [] ≡ refused_at 1 0
unfolding first_bad framed judged read_fields table_reading
empty_refused = refl
