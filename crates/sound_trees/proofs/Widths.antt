-- W by tops is the ledger's W down the halves. Assumes nothing.
use Rattle.std.specs.Prelude.{None}
use Prim.Native.Nat.{ℕ, zero, suc, ◌<◌}
use mathlib.Core.Path.{◌≡◌, refl, sym, ◌∙◌, ap, ap₂}
use mathlib.Core.Bool.{Bool, true, false}
use mathlib.Core.List.{List}
use lib.Dec.{eqb}
use lib.ListN.{get_or}
use lib.IntN.{ℤ, pos, nat_abs, ◌+ℤ◌}
use Rattle.bench_words.specs.Codec.{pick}
use Rattle.bench_words.specs.Store.{node_at, interface_at}
use Rattle.ledger_spec.specs.Bench as plain
use Rattle.ledger_spec.specs.Look.{interface, top}
use Rattle.ledger_spec.specs.Account.{Σ, gate}
use Rattle.ledger_spec.specs.Frame.{Frame}
use Rattle.ledger_spec.specs.Facts.{W}
use Rattle.ledger_spec.proofs.Sums.{Σ_same}
use Rattle.ledger_spec.proofs.Bounds.{progress_in, W-under}
use Rattle.bench_views.specs.View.{view}
use Rattle.bench_views.proofs.Views.{interface_in_lem}
use Rattle.sound_trees.specs.Below.{sum_to}
use Rattle.sound_trees.specs.Width.{width_of}

gate_pos : (c : Bool) (n : ℕ) → gate c (pos n) ≡ pos (pick c n 0)
unfolding gate
gate_pos true n = refl
gate_pos false n = refl

sum_pos : (c : ℕ → Bool) (f : ℕ → ℕ) (n : ℕ) → Σ n (λ u. gate (c u) (pos (f u))) ≡ pos (sum_to (λ u. pick (c u) (f u) 0) n)
unfolding Σ sum_to
sum_pos c f zero = refl
sum_pos c f (suc n) = ap₂ (λ (x y : ℤ). x +ℤ y) (sum_pos c f n) (gate_pos (c n) (f n))

pub width_is : (b : List ℕ) → Frame (view b) → (i : ℕ) → i < 8 → (interface (view b) i).parent ≡ None → width_of b i ≡ W (view b) i
unfolding width_of
width_is b F i l free = ap nat_abs (sym (W-under (view b) F i l free
    ∙ Σ_same 8 (λ u. gate (eqb (top (view b) u) i) (pos (interface_at b u).progress)) (λ u. gate (eqb (top (view b) u) i) (progress_in (view b) u))
    (λ u lu. ap (λ (f : plain.Interface). gate (eqb (top (view b) u) i) (pos (nat_abs f.progress))) (interface_in_lem (get_or b 0 0) (interface_at b) (node_at b) u lu))
    ∙ sum_pos (λ u. eqb (top (view b) u) i) (λ u. (interface_at b u).progress) 8))
