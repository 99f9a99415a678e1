-- Only a stop has a vertex, the first of its node. Assumes nothing.
use Prim.Native.Nat.{ℕ}
use mathlib.Core.Path.{ap, ◌∙◌}
use native.Mathlib.Omega.{arith}
use borrow.Author.Rules.{rules}
use Rattle.kinds.specs.declared.Handle.{Handle}
use Rattle.ledger_spec.specs.Named.{handle_named}
use Rattle.ledger_spec.specs.Walk.{first_vertex}
use Rattle.bench_views.specs.View.{view}
use Rattle.group_lent_nodes.proofs.Named.{vertex_stop, vertex_none}
use Rattle.group_lent_nodes.proofs.vertex_of.Goals as goal

pub returns-then-f-lt5 : goal.returns-then-f-lt5
returns-then-f-lt5 c = (vertex_none (view c.args.b.now) c.args.f.kind c.args.f.a c.args.f.b c.args.f.c c.args.f.d c.if-f-lt5.true, omega arith)

pub returns : goal.returns
returns c =
    let b = view c.args.b.now in
    (ap (λ (p : ℕ × ℕ). p.1) c.get_representative_vertex-r.ensures ∙ ap (λ (h : Handle). (first_vertex b (handle_named h)).1) c.hand_of.ensures ∙ vertex_stop c.args.f b c.requires.f_value c.if-f-lt5.false, search rules)
