-- Past the last slot there is none; else the map finds it. Assumes nothing.
use Prim.Native.Nat.{◌-◌}
use mathlib.Core.Path.{sym, ◌∙◌}
use native.Mathlib.Omega.{arith}
use Rattle.slot_map.proofs.Firsts.{first_none}
use Rattle.bench_words.specs.Store.{node_at}
use Rattle.bench_views.specs.Canon.{held_in}
use Rattle.read_present.proofs.Presence.{first_is}
use Rattle.read_present.proofs.next_in.Goals as goal

pub returns-then-from-ge64 : goal.returns-then-from-ge64
returns-then-from-ge64 c = let a = c.args in sym (first_none (held_in (node_at a.b.now) a.u) (64 - a.from) a.from (λ j l m. absurd (omega (arith, c.if-from-ge64.true, l, m))))

pub returns : goal.returns
returns c = c.next_from.ensures ∙ first_is c.args.b.now c.requires.fit c.args.u c.requires.u_bound c.load_map-map.result c.args.from c.load_map-map.ensures
