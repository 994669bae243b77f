-- The client's row gets the clock; or there is no room and one row more is counted; or the rows behind move up, and the new one stands between.
use native.Mathlib.Omega.{arith}
use mathlib.Core.Path.{refl}
use Prim.Native.Nat.{◌≤◌}
use lib.ListN.{length}
use Rattle.state_vector.proofs.Spanning.{table_climbs}
use Rattle.state_vector.proofs.Finding.{put_over, put_counted, put_opened}
use Rattle.state_vector.proofs.Loops.{opened, opened_none, front_climbs, front_finds, front_stands}
use Rattle.state_vector.proofs.room.put_row.Goals as goal

pub place-i-requires : goal.place-i-requires
place-i-requires c = front_climbs (omega (arith, c.requires.table.few)) (table_climbs c.requires.table)

pub returns-then-stands : goal.returns-then-stands
returns-then-stands c =
    let l : c.args.n ≤ length c.args.clients.now = omega (arith, c.requires.table.few) in
    put_over c.requires.table (front_finds l c.place-i.ensures) _ _ c.requires.n_le_most.1 ((front_stands l c.stands.ensures).right c.if-stands.true)

pub returns-then-most-n : goal.returns-then-most-n
returns-then-most-n c =
    let l : c.args.n ≤ length c.args.clients.now = omega (arith, c.requires.table.few) in
    put_counted c.requires.table (front_finds l c.place-i.ensures) _ _ _ ((front_stands l c.stands.ensures).wrong c.if-stands.false) (omega arith)

pub returns-then-n-i : goal.returns-then-n-i
returns-then-n-i c =
    let l : c.args.n ≤ length c.args.clients.now = omega (arith, c.requires.table.few) in
    put_opened c.requires.table (front_finds l c.place-i.ensures) _ _ _ _ refl refl c.requires.n_le_most.1 (omega arith) ((front_stands l c.stands.ensures).wrong c.if-stands.false)
    (opened_none _ (omega arith)) (opened_none _ (omega arith))

pub returns : goal.returns
returns c =
    let l : c.args.n ≤ length c.args.clients.now = omega (arith, c.requires.table.few) in
    put_opened c.requires.table (front_finds l c.place-i.ensures) _ _ _ _ c.copy_within.auto.self c.copy_within-2.auto.self c.requires.n_le_most.1 (omega arith) ((front_stands l c.stands.ensures).wrong c.if-stands.false)
    (opened c.args.clients.now c.copy_within.new.self c.place-i.result c.args.n c.copy_within.ensures.by_index) (opened c.args.clocks.now c.copy_within-2.new.self c.place-i.result c.args.n c.copy_within-2.ensures.by_index)
