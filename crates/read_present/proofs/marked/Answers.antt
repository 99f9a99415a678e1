-- The map counts the slots that hold a node. Assumes nothing.
use mathlib.Core.Path.{sym, ◌∙◌, subst}
use Prim.Native.Nat.{ℕ, ◌≤◌}
use Rattle.bench_words.specs.Store.{node_at}
use Rattle.bench_views.specs.Canon.{held_in}
use Rattle.read_present.proofs.Presence.{count_is, count_small}
use Rattle.read_present.proofs.marked.Goals as goal

pub returns : goal.returns
returns c =
    let e = c.count.ensures ∙ count_is c.args.b.now c.requires.fit c.args.u c.requires.u_bound c.load_map-map.result c.load_map-map.ensures in
    (e, subst (λ (n : ℕ). n ≤ 64) (sym e) (count_small (held_in (node_at c.args.b.now) c.args.u) 64))
