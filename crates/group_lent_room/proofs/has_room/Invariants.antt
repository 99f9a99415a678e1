-- The counts are those of the ledger's list and stops at each step. Assumes nothing.
use Prim.Native.Nat.{◌≤◌, ◌-◌}
use native.Mathlib.Omega.{arith}
use borrow.Author.Rules.{rules}
use Rattle.ledger_spec.specs.Tests.{is_some}
use Rattle.ledger_spec.specs.Groups.{extended}
use Rattle.group_lent.specs.Place.{group_in}
use Rattle.group_lent_room.proofs.Counting.{Counting, count_full, count_begin, count_end, list_full, stops_full, count_turn}
use Rattle.group_lent_room.proofs.has_room.Given as goal

abbrev pub invariant-loop-j : goal.invariant-loop-j
invariant-loop-j l = (l.j ≤ l.m) × ((l.l ≤ 128) × ((l.s ≤ 128) × Counting l.w l.other (is_some (extended (group_in l.w) (group_in l.other))) l.l l.s l.j))
