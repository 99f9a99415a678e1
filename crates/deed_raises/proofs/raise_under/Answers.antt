-- By the test of the top. Assumes nothing.
use mathlib.Core.Path.{refl, sym, ◌∙◌}
use native.Mathlib.Omega.{arith}
use Rattle.deed_raises.proofs.raise_under.Goals as goal

pub climb-up-requires : goal.climb-up-requires
climb-up-requires c = record { unit_bound = c.requires.unit_bound; steady = c.requires.steady }

pub returns-then-up-top : goal.returns-then-up-top
returns-then-up-top c = record { taken = λ e. absurd (c.if-up-top.true (c.climb-up.ensures.top ∙ e)); left = λ ne. refl }

pub raise_interface-requires : goal.raise_interface-requires
raise_interface-requires c = record { unit_bound = c.requires.unit_bound; steady = c.requires.steady; coded = c.requires.coded; all_movable = c.requires.all_movable }

pub returns : goal.returns
returns c = record { taken = λ e. c.raise_interface.ensures; left = λ ne. absurd (ne (sym c.climb-up.ensures.top ∙ (omega (arith, c.if-up-top.false)))) }
