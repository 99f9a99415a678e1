-- Refused, nothing was stored; else the work's own contract is the reply. Assumes nothing.
use mathlib.Core.Path.{sym, ◌∙◌}
use borrow.Author.Rules.{rules}
use Rattle.bench_views.proofs.Fits.{fit_of}
use Rattle.call_sound_blossom.proofs.Replies.{reply_refused, reply_done}
use Rattle.call_sound_blossom.proofs.create_blossom.Goals as goal

pub returns-then-number-ne0 : goal.returns-then-number-ne0
returns-then-number-ne0 c = reply_refused c.args.b.now c.requires c.args.unit c.args.members.now c.args.touching.now c.blossom_number-number.result c.blossom_number-number.ensures c.if-number-ne0.true c.refused.result c.refused.ensures

pub add_blossom-node-requires : goal.add_blossom-node-requires
add_blossom-node-requires c = (fit_of c.args.b.now c.requires, sym c.blossom_number-number.ensures ∙ c.if-number-ne0.false)

pub returns : goal.returns
returns c = reply_done c.args.b.now c.requires c.args.unit c.args.members.now c.args.touching.now c.blossom_number-number.result c.blossom_number-number.ensures c.if-number-ne0.false
    c.add_blossom-node.new.b c.add_blossom-node.result c.add_blossom-node.ensures.0 c.add_blossom-node.ensures.1
