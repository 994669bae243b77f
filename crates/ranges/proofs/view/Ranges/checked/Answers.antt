-- The rows are a table exactly if they are ruled.
use mathlib.Core.Path.{refl}
use Rattle.tables.proofs.Saying.{says_left, says_taken}
use Rattle.ranges.proofs.Flat.{ruled_table, table_ruled}
use Rattle.ranges.proofs.view.Ranges.checked.Goals as goal

pub returns-then-not-well_formed : goal.returns-then-not-well_formed
returns-then-not-well_formed c = (refl, λ t. says_taken c.well_formed-2.ensures c.if-not-well_formed.true (table_ruled t))

pub returns : goal.returns
returns c = (ruled_table (says_left c.well_formed-2.ensures c.if-not-well_formed.false), refl, refl)
