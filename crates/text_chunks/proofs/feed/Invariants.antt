-- Held bytes and the chunk's rest keep saying the same lines (`Feeding`). Assumes nothing.
use Prim.Native.Nat.{◌-◌}
use native.Mathlib.Omega.{arith}
use mathlib.Core.Path.{sym, ◌∙◌}
use lib.ListN.{length, take, drop}
use Rattle.text_chunks.proofs.Feeding.{Feeding, feed_start, feed_turn, feed_line, feed_part}
use Rattle.text_chunks.proofs.feed.Given as goal

abbrev pub invariant-loop-i : goal.invariant-loop-i
invariant-loop-i l = Feeding l.at (drop l.at l.chunk) (take l.held l.initial.buf) l.chunk l.buf l.n l.i
