-- The shares of the slots before s are added up. Assumes nothing.
use Rattle.sound_tops.specs.Tops.{rate_in}
use Rattle.sound_tops.proofs.Pacing.{Adding}
use Rattle.sound_tops.proofs.rates.Given as goal

abbrev pub invariant-loop-s : goal.invariant-loop-s
invariant-loop-s l = Adding (rate_in l.b l.u) 2 l.used l.total l.s
