-- The code's sums and tests, put together as the definitions have them. Assumes nothing.
use Rattle.std.specs.Prelude.{None, Option, Some}
use Prim.Native.Nat.{ℕ, ◌+◌, ◌-◌, ◌*◌, ◌<◌, ◌≤◌}
use mathlib.Core.Path.{◌≡◌, sym, ◌∙◌, ap, ap₂}
use mathlib.Core.Bool.{true, ◌&&◌}
use mathlib.Core.List.{List}
use native.Mathlib.Omega.{arith}
use lib.Dec.{eqb, leb}
use borrow.Author.Tests.{eq-eqb, ne_eqb}
use Rattle.bench_words.specs.Store.{node_at, interface_at}
use Rattle.bench_words.specs.declared.Interface.{Interface}
use Rattle.bench_words.specs.declared.Node.{Node}
use Rattle.ledger_spec.specs.Look.{climb, top}
use Rattle.bench_views.specs.Records.{rate_of, Steady}
use Rattle.bench_views.specs.View.{over, view}
use Rattle.sound_trees.specs.Below.{sum_to, between}
use Rattle.sound_trees.proofs.Belows.{sum_none, sum_more}
use Rattle.sound_trees.specs.Width.{width_of}
use Rattle.sound_tops.specs.Tops.{rate_in, pace_under, pace_of, top_in, top_test}

-- ---- a sum over a loop, each term at most m
pub record Adding (f : ℕ → ℕ) (m end total i : ℕ) : Type 0 where
  pub sum : total ≡ sum_to f i
  pub low : i ≤ end
  pub small : total ≤ i * m

pub adding_none : (f : ℕ → ℕ) (m end : ℕ) → Adding f m end 0 0
adding_none f m end = record { sum = sym (sum_none f); low = omega arith; small = omega arith }

pub adding_more : (f : ℕ → ℕ) (m end total i p : ℕ) → Adding f m end total i → i < end → p ≡ f i → p ≤ m → (i + 1) * m ≡ i * m + m → Adding f m end (total + p) (i + 1)
adding_more f m end total i p A l e k d = record { sum = ap₂ ◌+◌ A.sum e ∙ sym (sum_more f i); low = omega arith; small = omega (arith, A.small, k, d) }

pub adding_done : (f : ℕ → ℕ) (m end total i : ℕ) → Adding f m end total i → end ≤ i → (total ≡ sum_to f end) × (total ≤ i * m)
adding_done f m end total i A l = let e : i ≡ end = omega (arith, A.low) in (A.sum ∙ ap (sum_to f) e, A.small)

pub rate_known : (b : List ℕ) (u s : ℕ) (n : Node) (r : ℕ) → n ≡ node_at b (u * 64 + s) → r ≡ rate_of n.state → r ≡ rate_in b u s
rate_known b u s n r e h = h ∙ ap (λ (x : Node). rate_of x.state) e

-- ---- one interface
module _ (b : List ℕ) (i u t : ℕ) (C : t ≡ top (view b) u) where
  pub pace_else : (t ≡ i → ⊥) → (64 ≡ pace_under b i u) × (64 ≤ 192)
  unfolding pace_under
  pace_else ne = (rw (ne_eqb (climb 8 (view b) u) i (λ e. ne (C ∙ e))), omega arith)

  pub pace_here : t ≡ i → (f : Interface) → f ≡ interface_at b u → (r : ℕ) → (r ≡ sum_to (rate_in b u) f.used) × (r ≤ 128) → (r + (64 - f.used) ≡ pace_under b i u) × (r + (64 - f.used) ≤ 192)
  unfolding pace_under
  pace_here e f q r h =
      (ap (λ (x : ℕ). x + (64 - f.used)) h.0 ∙ ap (λ (x : Interface). sum_to (rate_in b u) x.used + (64 - x.used)) q ∙ rw (eq-eqb (climb 8 (view b) u) i (sym C ∙ e)), omega (arith, h.1))

pub used_few : (b : List ℕ) (u : ℕ) (f : Interface) → Steady b → u < 8 → f ≡ interface_at b u → f.used ≤ 64
used_few b u f st l e = omega (arith, ap (λ (x : Interface). x.used) e, st.slots u l)

pub paced : (b : List ℕ) (i total : ℕ) → (total ≡ sum_to (pace_under b i) 8) → total ≡ pace_of b i
unfolding pace_of
paced b i total e = e

-- ---- a top
module _ (b : List ℕ) (i : ℕ) (f : Interface) (e : f ≡ interface_at b i) where
  pub top_under : (p : ℕ) → f.parent ≡ Some p → true ≡ top_test b i
  unfolding top_in
  top_under p q = sym (ap (λ (x : Option ℕ). over x (between 4611686018427387904 (width_of b i * 512) f.sum && eqb f.speed (512 + pace_of b i)) (λ p. true)) q) ∙ ap (top_in b i) e

  pub top_row : f.parent ≡ None → (w p : ℕ) → (w ≡ width_of b i) × (w ≤ 8796093022208) → (p ≡ pace_of b i) × (p ≤ 1536)
      → ((leb (4611686018427387904 - w * 512) f.sum && leb f.sum (4611686018427387904 + w * 512)) && eqb f.speed (512 + p)) ≡ top_test b i
  unfolding top_in
  top_row q w p x y =
      ap₂ (λ (a c : ℕ). between 4611686018427387904 (a * 512) f.sum && eqb f.speed (512 + c)) x.0 y.0
      ∙ sym (ap (λ (z : Option ℕ). over z (between 4611686018427387904 (width_of b i * 512) f.sum && eqb f.speed (512 + pace_of b i)) (λ p. true)) q) ∙ ap (top_in b i) e
