-- By cases of the state; the range of T keeps the sums in 64 bits. Assumes nothing.
use mathlib.Core.Path.{sym, ◌∙◌, ap}
use Rattle.kinds.specs.declared.GrowState.{GrowState}
use Rattle.sound_floors.specs.Floors.{high_test}
use Rattle.sound_floors.proofs.Rows.{high_grow, high_shrink}
use Rattle.sound_floors.proofs.is_high.Goals as goal

pub returns-in-Grow : goal.returns-in-Grow
returns-in-Grow c = let a = c.args in high_grow a.bias a.t c.requires ∙ ap (λ (x : GrowState). high_test x a.bias a.t) (sym c.in-Grow.is)

pub returns-in-Stay : goal.returns-in-Stay
returns-in-Stay c = let a = c.args in ap (λ (x : GrowState). high_test x a.bias a.t) (sym c.in-Stay.is)

pub returns-in-Shrink : goal.returns-in-Shrink
returns-in-Shrink c = let a = c.args in high_shrink a.bias a.t ∙ ap (λ (x : GrowState). high_test x a.bias a.t) (sym c.in-Shrink.is)
