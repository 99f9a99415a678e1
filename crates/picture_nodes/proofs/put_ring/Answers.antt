-- The members, what they touch by, and no vertex, with their keys, in turn. Assumes nothing.
use mathlib.Core.List.{map}
use Rattle.bench_words.specs.Store.{node_at}
use Rattle.bench_views.specs.View.{view, circle_of}
use Rattle.picture_spec.specs.Sketch.{linked, index_of}
use Rattle.picture_pieces.proofs.Drawing.{chain, same_text}
use Rattle.picture_nodes.proofs.Texts.{ring_text}
use Rattle.picture_nodes.proofs.put_ring.Goals as goal

pub returns : goal.returns
returns c =
    same_text (ring_text (map (linked (index_of (view c.args.b.now) c.args.unit)) (circle_of (node_at c.args.b.now) c.args.p)) c.args.short)
    (chain c.put_either-q.ensures (chain c.put_circle-r.ensures (chain c.put_either-s.ensures (chain c.put_circle-t.ensures c.put_either.ensures))))
