-- The one test holds or not. Assumes nothing.
use mathlib.Core.Path.{sym, ◌∙◌}
use mathlib.Core.List.{[]}
use lib.Dec.{leb}
use borrow.Author.Tests.{le-leb, lt-leb}
use Rattle.read_sound.proofs.Numbers.{first_yes, first_no, first_none}
use Rattle.read_present.proofs.past.Goals as goal

pub returns-then-count-index : goal.returns-then-count-index
returns-then-count-index c = let a = c.args in sym (first_yes (leb a.count a.index) 18 [] (le-leb a.count a.index c.if-count-index.true))

pub returns : goal.returns
returns c = let a = c.args in sym (first_no (leb a.count a.index) 18 [] (lt-leb a.count a.index c.if-count-index.false) ∙ first_none)
