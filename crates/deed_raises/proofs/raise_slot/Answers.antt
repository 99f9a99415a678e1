-- State and bias are read, and the bias is written. Assumes nothing.
use Prim.Native.Nat.{ℕ}
use mathlib.Core.Path.{◌≡◌, ap, ap₂, ◌∙◌}
use Rattle.kinds.specs.declared.GrowState.{GrowState}
use Rattle.bench_words.specs.Store.{store_bias}
use Rattle.bench_views.specs.View.{value_by}
use Rattle.deed_raises.specs.Raises.{Movable}
use Rattle.deed_raises.proofs.raise_slot.Goals as goal

like : {g h : GrowState} {v w l : ℕ} → g ≡ h → v ≡ w → Movable h w l → Movable g v l
like p q m = rw (p, q) m

pub moved-requires : goal.moved-requires
moved-requires c = like c.load_state-g.ensures c.load_bias-value.ensures c.requires.movable

pub returns : goal.returns
returns c =
    let a = c.args in
    c.store_bias.ensures ∙ ap (store_bias a.b.now a.k) (c.moved.ensures ∙ ap₂ (λ (g : GrowState) (v : ℕ). value_by g v a.length) c.load_state-g.ensures c.load_bias-value.ensures)
