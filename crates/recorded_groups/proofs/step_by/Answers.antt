-- The word of the length is the growth. Assumes nothing.
use mathlib.Core.Path.{◌∙◌, ap}
use mathlib.Core.Bool.{Bool, cond}
use native.Mathlib.Omega.{arith}
use borrow.Author.Tests.{lt-ltb, le-ltb}
use lib.IntN.{pos}
use lib.ListN.{get_or}
use Rattle.ledger_spec.specs.Groups.{smaller}
use Rattle.recorded_groups.proofs.Positions.{going}
use Rattle.recorded_groups.proofs.step_by.Goals as goal

pub bounds-w-1 : goal.bounds-w-1
bounds-w-1 c = omega (arith, (going c.args.w.now c.requires.0).long)

pub returns-then-most-left : goal.returns-then-most-left
returns-then-most-left c = ap (smaller (pos c.args.left)) (going c.args.w.now c.requires.0).is ∙ ap (λ (t : Bool). cond t (pos (get_or c.args.w.now 1 0)) (pos c.args.left)) (lt-ltb (get_or c.args.w.now 1 0) c.args.left c.if-most-left.true)

pub returns : goal.returns
returns c = ap (smaller (pos c.args.left)) (going c.args.w.now c.requires.0).is ∙ ap (λ (t : Bool). cond t (pos (get_or c.args.w.now 1 0)) (pos c.args.left)) (le-ltb (get_or c.args.w.now 1 0) c.args.left c.if-most-left.false)
