-- Seven pieces in turn. Assumes nothing.
use Rattle.ledger_spec.specs.Named.{state_named, parent_named}
use Rattle.bench_views.specs.View.{view}
use Rattle.picture_spec.specs.Sketch.{indexed, index_of}
use Rattle.picture_pieces.proofs.Drawing.{chain, same_text}
use Rattle.picture_nodes.proofs.Texts.{rest_text_lem}
use Rattle.picture_nodes.proofs.put_rest.Goals as goal

pub shape_of-out : goal.shape_of-out
shape_of-out c =
    let w = (chain c.put_either-p.ensures (chain c.put_state-q.ensures (chain c.put_either-r.ensures (chain c.put_growth-s.ensures (chain c.put_either-t.ensures (chain c.put_parent-u.ensures c.put.ensures)))))) in
    w.long

pub returns : goal.returns
returns c =
    same_text (rest_text_lem (state_named c.args.state) (indexed (index_of (view c.args.b.now) c.args.unit) (parent_named c.args.parent)) c.args.short)
    (chain c.put_either-p.ensures (chain c.put_state-q.ensures (chain c.put_either-r.ensures (chain c.put_growth-s.ensures (chain c.put_either-t.ensures (chain c.put_parent-u.ensures c.put.ensures))))))
