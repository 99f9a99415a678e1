-- Fewer words, a growth, sound conflicts, anything else. Assumes nothing.
use Rattle.std.specs.Prelude.{Option}
use mathlib.Core.Path.{sym, ◌∙◌, ap}
use native.Mathlib.Omega.{arith}
use Rattle.ledger_spec.specs.Tests.{first}
use Rattle.ledger_spec.specs.Groups.{Group}
use Rattle.recorded_spec.specs.Recorded.{group_tests}
use Rattle.recorded_groups.proofs.Positions.{stuck_number, played_short, played_growth, played_listed, played_broken}
use borrow.Author.Rules.{rules}
use Rattle.recorded_groups.proofs.group_number.Goals as goal

pub returns-then-w-ne-GROUP : goal.returns-then-w-ne-GROUP
returns-then-w-ne-GROUP c = sym (stuck_number _ (played_short c.args.w.now c.if-w-ne-GROUP.true))

pub returns-then-w-eq1 : goal.returns-then-w-eq1
returns-then-w-eq1 c = c.growth_number.ensures ∙ ap (λ (g : Option Group). first (group_tests g)) (sym (played_growth c.args.w.now (omega arith) c.if-w-eq1.true))

pub returns-then-is_sound : goal.returns-then-is_sound
returns-then-is_sound c = sym (played_listed c.args.w.now (omega arith) c.if-w-eq1.false (sym c.is_sound.ensures ∙ c.if-is_sound.true))

pub returns : goal.returns
returns c = sym (stuck_number _ (played_broken c.args.w.now (sym c.is_sound.ensures ∙ c.if-is_sound.false)))
