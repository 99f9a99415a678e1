-- The shares of those before u are added up. Assumes nothing.
use Rattle.sound_tops.specs.Tops.{pace_under}
use Rattle.sound_tops.proofs.Pacing.{Adding}
use Rattle.sound_tops.proofs.pace.Given as goal

abbrev pub invariant-loop-u : goal.invariant-loop-u
invariant-loop-u l = Adding (pace_under l.b l.top) 192 8 l.total l.u
