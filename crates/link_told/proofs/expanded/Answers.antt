-- The blossom's circle is followed for as many members as it has, each at a slot. Assumes nothing.
use mathlib.Core.Path.{◌≡◌, ap, sym, ◌∙◌}
use native.Mathlib.Omega.{arith}
use Rattle.bench_words.specs.Store.{node_at}
use Rattle.bench_words.specs.declared.Node.{Node}
use Rattle.ledger_spec.specs.Deeds.{members}
use Rattle.ledger_spec.specs.Knit.{nodes}
use Rattle.ledger_spec.specs.Look as look
use Rattle.ledger_spec.specs.Named.{handle_named}
use Rattle.bench_views.specs.View.{view, follow}
use Rattle.outcome_notices.proofs.Reaching.{low, few, members_seen}
use Rattle.link_told.proofs.Writing.{walked, gone_steps}
use Rattle.link_told.proofs.expanded.Goals as goal

pub load_node-n-requires : goal.load_node-n-requires
load_node-n-requires c = low c.args.b.now (handle_named c.args.h) c.requires.0 c.requires.1

pub overflow_add-n : goal.overflow_add-n
overflow_add-n c = omega (arith, few c.args.b.now (handle_named c.args.h) c.requires.0 c.requires.1, ap (λ (x : Node). x.count) c.load_node-n.ensures)

pub put_grows-requires : goal.put_grows-requires
put_grows-requires c = walked c.args.b.now (handle_named c.args.h) c.requires.0 c.requires.1 c.load_node-n.result c.load_node-n.ensures

pub returns : goal.returns
returns c =
    let b = c.args.b.now in
    let h = handle_named c.args.h in
    let n = c.load_node-n in
    let seen : members (look.node_named (view b) h) ≡ nodes (follow n.result.count (node_at b) n.result.first)
    = members_seen b h c.requires.0 c.requires.1 ∙ ap (λ (x : Node). nodes (follow x.count (node_at b) x.first)) (sym n.ensures) in
    gone_steps b n.result.first n.result.count h c.args.out.now (members (look.node_named (view b) h)) seen c.node_word-w.ensures c.put_heads.ensures c.put_grows.ensures
