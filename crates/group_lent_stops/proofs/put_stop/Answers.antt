-- The vertex, then the five words. Assumes nothing.
use mathlib.Core.Path.{◌∙◌}
use native.Mathlib.Numerals.{add-one}
use Rattle.group_lent_stops.proofs.put_stop.Goals as goal

pub returns : goal.returns
returns c = c.put_five.ensures ∙ rw (add-one c.args.at)
