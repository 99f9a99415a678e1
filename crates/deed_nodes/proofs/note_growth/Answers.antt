-- The room that is asked for keeps every sum below 2^64. Assumes nothing.
use Prim.Native.Nat.{ℕ, ◌+◌, ◌-◌, ◌*◌}
use mathlib.Core.Path.{◌≡◌, ap, ◌∙◌}
use native.Mathlib.Omega.{arith}
use Rattle.bench_words.specs.Store.{store_interface}
use Rattle.bench_words.specs.declared.Interface.{Interface}
use Rattle.bench_views.specs.Records.{with_growth}
use Rattle.deed_nodes.specs.Steps.{noted, Room}
use Rattle.deed_nodes.proofs.note_growth.Goals as goal

of-loaded : {f g : Interface} {l : ℕ} → f ≡ g → Room g l → Room f l
of-loaded e r = rw e r

pub load_interface-f-requires : goal.load_interface-f-requires
load_interface-f-requires c = c.requires.unit_bound

-- the interface that is loaded has the room
pub overflow_add-f : goal.overflow_add-f
overflow_add-f c = let r = of-loaded c.load_interface-f.ensures c.requires.room in omega (arith, r.progress)

pub overflow_mul-f : goal.overflow_mul-f
overflow_mul-f c = let r = of-loaded c.load_interface-f.ensures c.requires.room in omega (arith, r.product)

pub overflow_add-f-2 : goal.overflow_add-f-2
overflow_add-f-2 c = let r = of-loaded c.load_interface-f.ensures c.requires.room in omega (arith, r.product, r.high)

pub overflow_mul-f-2 : goal.overflow_mul-f-2
overflow_mul-f-2 c = let r = of-loaded c.load_interface-f.ensures c.requires.room in omega (arith, r.progress)

pub overflow_sub-f : goal.overflow_sub-f
overflow_sub-f c = let r = of-loaded c.load_interface-f.ensures c.requires.room in omega (arith, r.progress, r.product, r.low, r.high)

pub store_interface-requires : goal.store_interface-requires
store_interface-requires c = c.requires.unit_bound

pub returns : goal.returns
unfolding noted
returns c =
    let a = c.args in
    c.store_interface.ensures ∙ ap (λ (f : Interface). store_interface a.b.now a.unit (with_growth f (f.progress + a.length) (f.sum + a.length * f.speed - a.length * 1024))) c.load_interface-f.ensures
