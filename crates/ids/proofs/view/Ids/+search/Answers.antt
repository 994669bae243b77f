-- Each look halves the rows still possible.
use native.Mathlib.Omega.{arith}
use Prim.Native.Nat.{◌-◌, ◌+◌, ◌/◌}
use Rattle.tables.proofs.Saying.{says_yes, says_no}
use Rattle.tables.proofs.Finding.{look_right, look_left, look_at, look_empty}
use Rattle.ids.specs.Places.{number_of}
use Rattle.ids.specs.View.{placed}
use Rattle.ids.proofs.Numbering.{linked}
use Rattle.ids.proofs.view.Ids.+search.Goals as goal

pub returns-then-hi-lo : goal.returns-then-hi-lo
returns-then-hi-lo t c =
    let a = c.args in
    says_no (look_empty (placed a.self.now) a.self.now.count (linked a.self.now) (number_of a.id.client.0 a.id.clock.0) a.lo a.hi c.if-hi-lo.true)

pub returns-then-is_before : goal.returns-then-is_before
returns-then-is_before t c =
    let a = c.args in
    let s = rw c.start_of.ensures at c.is_before.ensures in
    look_left (placed a.self.now) a.self.now.count (linked a.self.now) (number_of a.id.client.0 a.id.clock.0) a.lo ((a.lo + (a.hi - 1)) / 2) a.hi _
    c.requires (omega arith) (omega arith) (s.right c.if-is_before.true) c.search.ensures

pub returns-then-is_before-2 : goal.returns-then-is_before-2
returns-then-is_before-2 t c =
    let a = c.args in
    let s = rw c.start_of.ensures at c.is_before.ensures in
    let e = rw c.end_of.ensures at c.is_before-2.ensures in
    let n = s.wrong c.if-is_before.false in
    says_yes (look_at (placed a.self.now) a.self.now.count (linked a.self.now) (number_of a.id.client.0 a.id.clock.0) a.lo ((a.lo + (a.hi - 1)) / 2) a.hi
    c.requires (omega arith) (omega arith) (omega arith) (e.right c.if-is_before-2.true))

pub returns : goal.returns
returns t c =
    let a = c.args in
    let e = rw c.end_of.ensures at c.is_before-2.ensures in
    let n = e.wrong c.if-is_before-2.false in
    look_right (placed a.self.now) a.self.now.count (linked a.self.now) (number_of a.id.client.0 a.id.clock.0) a.lo ((a.lo + (a.hi - 1)) / 2) a.hi _
    c.requires (omega arith) (omega arith) (omega arith) c.search-2.ensures
