-- A node that is loaded, or past the last. Assumes nothing.
use mathlib.Core.Path.{ap}
use Rattle.bench_words.specs.declared.Node.{Node}
use Rattle.sound_seats.proofs.Seating.{past_last}
use Rattle.sound_seats.proofs.next_of.Goals as goal

pub returns-then-p-ge512 : goal.returns-then-p-ge512
returns-then-p-ge512 c = past_last c.args.b.now c.args.p c.requires.len c.if-p-ge512.true

pub returns : goal.returns
returns c = ap (λ (x : Node). x.next) c.load_node-n.ensures
