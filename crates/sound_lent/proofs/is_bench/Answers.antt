-- The test's answer is its definition, and on words of the bench's length that says that they hold a sound one. Assumes nothing.
use mathlib.Core.Path.{sym, ◌∙◌}
use borrow.Author.Rules.{rules}
use Rattle.sound_bench.proofs.Theorem.{sound_says}
use Rattle.sound_lent.proofs.is_bench.Goals as goal

pub returns : goal.returns
returns c =
    let b = c.args.b.now in
    record { is = c.is_sound.ensures; says = λ t. sound_says b c.full.ensures (sym c.is_sound.ensures ∙ t) }
