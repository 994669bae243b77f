-- An empty range adds no row, and with any other the rows are those of a union.
use Rattle.ids.specs.Room.{refused}
use Rattle.ids.proofs.Inserting.{nothing_added, from_ok}
use Rattle.ids.proofs.Answering.{err_is}
use Rattle.ids.proofs.edit.inserted.Goals as goal

pub returns-then-end-start-clause-made : goal.returns-then-end-start-clause-made
returns-then-end-start-clause-made c = nothing_added _ _ _ c.if-end-start.true c.captured.ensures.made

pub returns-in_err-table-clause-made : goal.returns-in_err-table-clause-made
returns-in_err-table-clause-made c = refused _ c.in_err-table.was (err_is _ _ c.from_residual.ensures)

pub returns-clause-made : goal.returns-clause-made
returns-clause-made c = from_ok c.in_ok-table.was c.put_in.ensures.made
