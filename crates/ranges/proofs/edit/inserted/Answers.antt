-- Malformed, the same table, or the rows that the range meets replaced.
use Rattle.std.proofs.Common.{rules}
use Rattle.ranges.proofs.Writing.{wrote_length, writes_refused}
use Rattle.ranges.proofs.Editing.{inserted_none, inserted_some}
use Rattle.ranges.proofs.edit.inserted.Goals as goal

pub returns-in_err-table : goal.returns-in_err-table
returns-in_err-table c = writes_refused _ c.in_err-table.ensures (search rules) c.copied.auto.out

pub returns-then-e-s : goal.returns-then-e-s
returns-then-e-s c =
    let k = c.in_ok-table.ensures in
    inserted_none c.in_ok-table.table.ruled k.1 k.2 c.if-e-s.true (wrote_length c.copied.auto.out c.splice.ensures)

pub returns : goal.returns
returns c =
    let k = c.in_ok-table.ensures in
    inserted_some c.in_ok-table.table.ruled k.1 k.2 c.if-e-s.false c.start_or-p.ensures c.end_or-q.ensures c.ends_below-i.ensures (c.starts_below-j.ensures.parted_2, c.starts_below-j.ensures.lower_bound) c.min.ensures c.max.ensures (wrote_length c.copied.auto.out c.splice-2.ensures)
