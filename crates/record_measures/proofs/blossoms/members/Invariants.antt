-- What is weighed and what is left make the whole (`Weighing`); one member less is left at each turn. Assumes nothing.
use native.Mathlib.Omega.{arith}
use Prim.Native.Nat.{ℕ, ◌+◌, ◌-◌, ◌*◌}
use mathlib.Core.Path.{◌∙◌, sym, ap}
use borrow.Author.Rules.{rules}
use Rattle.record_measures.specs.Measures.{members_at, tried_members}
use Rattle.record_measures.proofs.Measuring.{line-B}
use Rattle.record_measures.proofs.Members.{Weighing, weighing, weigh_on, weigh_bad, weighed, members_many, none_tried, bad_tried, long_tried, good_tried}
use Rattle.record_measures.proofs.blossoms.members.Given as goal

abbrev pub invariant-loop-i : goal.invariant-loop-i
invariant-loop-i l = Weighing l.t l.count l.q (l.q + 12 * l.i) (l.count - l.i) l.line l.own
