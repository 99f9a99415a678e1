-- Each state in turn. Assumes nothing.
use mathlib.Core.Path.{◌≡◌, sym, ap}
use Rattle.kinds.specs.declared.GrowState.TheVariants.{Grow, Stay, Shrink}
use Rattle.record_spec.specs.Numbers.{complement}
use Rattle.record_gets.specs.Gets.{state_word}
use borrow.Author.Rules.{rules}
use Rattle.record_gets.proofs.words.state_word.Goals as goal

pub returns-in-Grow : goal.returns-in-Grow
unfolding complement
returns-in-Grow c = let q : c.args.state ≡ Grow = cc in sym (ap state_word q)

pub returns-in-Stay : goal.returns-in-Stay
unfolding complement
returns-in-Stay c = let q : c.args.state ≡ Stay = cc in sym (ap state_word q)

pub returns-in-Shrink : goal.returns-in-Shrink
unfolding complement
returns-in-Shrink c = let q : c.args.state ≡ Shrink = cc in sym (ap state_word q)
