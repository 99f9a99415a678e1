-- By the state. Assumes nothing.
use mathlib.Core.Path.{◌≡◌}
use Rattle.kinds.specs.declared.GrowState.TheVariants.{Grow, Stay, Shrink}
use Rattle.picture_pieces.proofs.Drawing.{same_text}
use Rattle.picture_names.proofs.Words.{state_grows, state_stays, state_shrinks}
use borrow.Author.Rules.{rules}
use Rattle.picture_names.proofs.put_state.Goals as goal

pub returns-in-Grow : goal.returns-in-Grow
returns-in-Grow c = let e : c.args.state ≡ Grow = cc in same_text (state_grows c.args.state e) c.put.ensures

pub returns-in-Stay : goal.returns-in-Stay
returns-in-Stay c = let e : c.args.state ≡ Stay = cc in same_text (state_stays c.args.state e) c.put-in-Stay.ensures

pub returns-in-Shrink : goal.returns-in-Shrink
returns-in-Shrink c = let e : c.args.state ≡ Shrink = cc in same_text (state_shrinks c.args.state e) c.put-in-Shrink.ensures
