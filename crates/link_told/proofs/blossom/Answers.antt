-- Heads, members, ends and circle, one after the other. Assumes nothing.
use Rattle.ledger_spec.specs.Named.{handle_named}
use Rattle.link_told.proofs.Writing.{made_steps}
use Rattle.link_told.proofs.blossom.Goals as goal

pub returns : goal.returns
returns c =
    made_steps c.args.members.now c.args.out.now (handle_named c.args.q) c.node_word-w.ensures c.put_heads.ensures c.put_stays.ensures c.put_added.ensures c.put_circle.ensures
