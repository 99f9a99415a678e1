-- The loop follows the circle's links from the blossom's first member, and tells each member to grow. Assumes nothing.
use Prim.Native.Nat.{◌≤◌, ◌<◌}
use mathlib.Core.Path.{◌≡◌, ap, sym, ◌∙◌}
use native.Mathlib.Omega.{arith}
use Rattle.bench_words.specs.Store.{node_at}
use Rattle.bench_words.specs.declared.Node.{Node}
use Rattle.ledger_spec.specs.Named.{handle_named}
use Rattle.ledger_spec.specs.Look as look
use Rattle.ledger_spec.specs.Deeds.{members}
use Rattle.ledger_spec.specs.Knit.{nodes}
use Rattle.bench_views.specs.View.{view, follow}
use Rattle.outcome_notices.proofs.Telling.{walk_none, walk_more, grow_head, grow_begins, grow_more, grow_ends}
use Rattle.outcome_notices.proofs.Reaching.{low, few, members_low, members_seen}
use Rattle.outcome_notices.proofs.expand.Goals as goal
use Rattle.outcome_notices.proofs.expand.Goals.{After-load_node-n, In-loop-i}

-- a member's position, and how many there may be
counted : (c : After-load_node-n) → c.load_node-n.result.count ≤ 64
counted c = omega (arith, few c.args.b.now (handle_named c.args.h) c.requires.0 c.requires.1, ap (λ (x : Node). x.count) c.load_node-n.ensures)

reached : (c : In-loop-i) → c.loop-i.at < 512
reached c =
    let n = c.load_node-n in
    let same = ap (λ (x : Node). x.count) n.ensures in
    let h = handle_named c.args.h in
    rw (c.loop-i.invariant.0, n.ensures) (members_low c.args.b.now h c.requires.0 c.requires.1 c.loop-i.i (omega (arith, same, c.loop-i-test.true)))

pub load_node-n-requires : goal.load_node-n-requires
load_node-n-requires c = low c.args.b.now (handle_named c.args.h) c.requires.0 c.requires.1

pub loop-i-init : goal.loop-i-init
loop-i-init c =
    let A = node_at c.args.b.now in
    let f = c.load_node-n.result.first in
    (walk_none A f, grow_begins c.none-r.result c.args.h A f c.none-r.ensures)

pub load_node-m-requires : goal.load_node-m-requires
load_node-m-requires c = reached (goal.at.load_node-m-requires c).In-loop-i

pub overflow_cast-g : goal.overflow_cast-g
overflow_cast-g c = omega (arith, reached (goal.at.overflow_cast-g c).In-loop-i)

pub offset_bounds-r-i : goal.offset_bounds-r-i
offset_bounds-r-i c = omega (arith, counted (goal.at.offset_bounds-r-i c).After-load_node-n)

pub bounds-r-i : goal.bounds-r-i
bounds-r-i c = omega (arith, counted (goal.at.bounds-r-i c).After-load_node-n)

pub loop-i-preserved : goal.loop-i-preserved
loop-i-preserved c =
    let A = node_at c.args.b.now in
    let f = c.load_node-n.result.first in
    let l = c.loop-i in
    let m = c.load_node-m in
    let few : l.i < 64 = omega (arith, counted (goal.at.loop-i-preserved c).After-load_node-n) in (
      walk_more A f l.i l.at m.result l.invariant.0 m.ensures,
      grow_more l.r _ A f l.i l.at m.result few l.invariant.1 l.invariant.0 m.ensures,
    )

pub overflow_add-r : goal.overflow_add-r
overflow_add-r c = omega (arith, counted (goal.at.overflow_add-r c).After-load_node-n)

pub returns : goal.returns
returns c =
    let b = c.args.b.now in
    let h = c.args.h in
    let n = c.load_node-n.result in
    let l = c.loop-i in
    let ms = members (look.node_named (view b) (handle_named h)) in
    let last : l.i ≡ n.count = omega arith in
    grow_ends l.r _ h (node_at b) n.first l.i n.count ms l.invariant.1 (grow_head c.none-r.result h c.none-r.ensures) last
    (members_seen b (handle_named h) c.requires.0 c.requires.1 ∙ ap (λ (x : Node). nodes (follow x.count (node_at b) x.first)) (sym c.load_node-n.ensures))
