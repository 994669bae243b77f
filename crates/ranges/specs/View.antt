-- A checked table, as the rows that it has.
use Rattle.std.specs.Prelude.{List}
use Rattle.ranges.specs.declared.view.Ranges.{Ranges}
use Rattle.ranges.specs.Rows.{Row}
use Rattle.ranges.specs.Tables.{rows}

abbrev pub table_rows : Ranges → List Row
table_rows t = rows t.flat.now t.count
