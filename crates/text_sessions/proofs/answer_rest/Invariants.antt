-- The lines passed are answered, and what is left of the chunk is to come. Assumes nothing.
use Prim.Native.Nat.{◌-◌}
use mathlib.Core.Path.{refl, sym, ◌∙◌}
use native.Mathlib.Omega.{arith}
use lib.ListN.{length, take, drop}
use lib.Seq.{length-take-le}
use Rattle.text_chunks.proofs.Going.{going_start, going_long, going_room, going_line, going_part, going_end}
use Rattle.bench_views.specs.View.{view}
use Rattle.text_sessions.proofs.Session.{Working}
use Rattle.text_sessions.proofs.answer_rest.Given as goal

abbrev pub invariant-loop-at : goal.invariant-loop-at
invariant-loop-at l =
    Working l.initial.b l.chunk (drop l.from l.chunk) (take l.before l.initial.buf) l.initial.out l.written l.initial.serials l.b l.buf l.out l.serials l.held l.wrote l.at

abbrev pub decreases-loop-at : goal.decreases-loop-at
decreases-loop-at l =
    length l.chunk - l.at
