-- `merged` makes one turn of the pass a turn of its loop: what is left of both groups is told by `Merging`. Assumes nothing.
use Rattle.std.proofs.Common.{◌+◌, ◌-◌, take}
use Rattle.ledger_spec.specs.Groups.{add_stops}
use Rattle.group_merges.proofs.Passes.{Merging}
use Rattle.group_merges.proofs.merged.Given as goal

abbrev pub invariant-loop-j : goal.invariant-loop-j
invariant-loop-j l = Merging l.own l.other l.g.list l.n l.m (add_stops (take l.m l.other) (take l.initial.at l.initial.entries) (take l.n l.own)) l.entries l.out l.at l.i l.j l.k

abbrev pub decreases-loop-j : goal.decreases-loop-j
decreases-loop-j l = (l.n - l.i) + (l.m - l.j)
