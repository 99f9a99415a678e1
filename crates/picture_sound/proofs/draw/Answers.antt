-- Seven pieces in turn. Assumes nothing.
use mathlib.Core.Path.{◌∙◌}
use mir.Facts.{to_z-of_z}
use Rattle.text_decimals.proofs.Signs.{again}
use Rattle.bench_views.specs.View.{view}
use Rattle.picture_pieces.proofs.Drawing.{chain, same_text}
use Rattle.picture_sound.proofs.Texts.{picture_text}
use borrow.Author.Rules.{rules}
use mir.Syntax.{w64}
use Rattle.picture_sound.proofs.draw.Goals as goal

pub put_slots-u-requires : goal.put_slots-u-requires
put_slots-u-requires c = record { fit = c.requires.fit; places = c.requires.places; indices = c.requires.indices }

pub shape_of-out : goal.shape_of-out
shape_of-out c =
    let w = (chain c.put_either-p.ensures (chain c.put_signed-q.ensures (chain c.put_either-r.ensures (chain c.put_signed-s.ensures (chain c.put-t.ensures (chain c.put_slots-u.ensures c.put.ensures)))))) in w.long

pub returns : goal.returns
returns c =
    same_text (picture_text (view c.args.b.now) c.args.unit c.args.short (again c.speed-speed.result) (again c.sum-sum.result) (to_z-of_z {w = w64} (record { sfits = c.speed-speed.type_inv }) ∙ c.speed-speed.ensures) (to_z-of_z {w = w64} (record { sfits = c.sum-sum.type_inv }) ∙ c.sum-sum.ensures))
    (chain c.put_either-p.ensures (chain c.put_signed-q.ensures (chain c.put_either-r.ensures (chain c.put_signed-s.ensures (chain c.put-t.ensures (chain c.put_slots-u.ensures c.put.ensures))))))
