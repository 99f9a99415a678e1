-- One turn of the climb: at an interface without a parent it ends, and else it goes on at the parent with one step less. Assumes nothing.
use Rattle.std.specs.Prelude.{None, Option, Some}
use Prim.Native.Nat.{ℕ, suc, ◌+◌, ◌-◌, ◌*◌, ◌<◌, ◌≤◌}
use mathlib.Core.Path.{◌≡◌, refl, ap, sym, ◌∙◌}
use mathlib.Core.List.{List}
use native.Mathlib.Omega.{arith}
use lib.ListN.{get_or}
use Rattle.bench_words.specs.Store.{node_at, interface_at}
use Rattle.bench_words.specs.declared.Interface.{Interface}
use Rattle.ledger_spec.specs.Look.{interface, climb}
use Rattle.ledger_spec.proofs.Tops.{climb_none, climb_some}
use Rattle.bench_views.specs.View.{sum_up, lag_of, view, up_seen}
use Rattle.bench_views.specs.Records.{Steady}
use Rattle.bench_views.proofs.Sums.{sum_up_none, lag_le, bounded, under_eight, ends, goes_on}
use Rattle.bench_views.proofs.Views.{view_parent}
use Rattle.bench_trees.specs.Climb.{Climbs}

-- ---- to the top

-- what holds at each turn: at interface u, with n steps left
pub record Rising (b : List ℕ) (unit u n : ℕ) : Type 0 where
  pub low : u < 8
  pub left : n ≤ 8
  pub top : climb n (view b) u ≡ climb 8 (view b) unit

module _ (b : List ℕ) (unit u n : ℕ) (R : Rising b unit u n) (f : Interface) (e : f ≡ interface_at b u) where
  seen : {p : Option ℕ} → f.parent ≡ p → (interface (view b) u).parent ≡ up_seen p
  seen q = view_parent (get_or b 0 0) (interface_at b) (node_at b) u R.low ∙ ap (λ (x : Interface). up_seen x.parent) (sym e) ∙ ap up_seen q

  pub rising_ends : f.parent ≡ None → u ≡ climb 8 (view b) unit
  rising_ends q = sym (climb_none n (view b) u (seen q)) ∙ R.top

  pub rising_on : (m : ℕ) → suc m ≡ n → (p : ℕ) → f.parent ≡ Some p → Rising b unit p m
  rising_on m back p q =
      record { low = under_eight b u e q; left = omega (arith, R.left); top = sym (climb_some m (view b) u p (seen q)) ∙ ap (λ (k : ℕ). climb k (view b) u) back ∙ R.top }

pub rising_starts : (b : List ℕ) (unit : ℕ) → unit < 8 → Rising b unit unit 8
rising_starts b unit l = record { low = l; left = omega arith; top = refl }

pub rising_spent : (b : List ℕ) (unit u n : ℕ) → Rising b unit u n → n ≡ 0 → u ≡ climb 8 (view b) unit
unfolding climb
rising_spent b unit u n R z = sym (ap (λ (k : ℕ). climb k (view b) u) z) ∙ R.top

-- ---- with T

-- t so far
pub record Going (b : List ℕ) (unit t u n : ℕ) : Type 0 where
  pub rising : Rising b unit u n
  pub small : t + n * 1099511627776 ≤ 8796093022208
  pub sum : t + sum_up n (interface_at b) u ≡ sum_up 8 (interface_at b) unit
  pub steady : Steady b

module _ (b : List ℕ) (unit t u n : ℕ) (G : Going b unit t u n) (more : 0 < n) (f : Interface) (e : f ≡ interface_at b u) where
  pub little : lag_of f ≤ 1099511627776
  little = omega (arith, bounded u G.steady G.rising.low e, lag_le f)

  pub going_ends : {x : ℕ} → x ≡ lag_of f → f.parent ≡ None → Climbs b unit u (t + x)
  going_ends {x} ex q =
      let m = little in
      record {
        top = rising_ends b unit u n G.rising f e q;
        low = G.rising.low;
        total = ap (λ (y : ℕ). t + y) ex ∙ ends n t u (interface_at b) G.sum more e q;
        small = omega (arith, G.small, m, ex, more);
      }

  pub going_on : {x : ℕ} → x ≡ lag_of f → (m : ℕ) → suc m ≡ n → (p : ℕ) → f.parent ≡ Some p → Going b unit (t + x) p m
  going_on {x} ex m back p q =
      let d = little in
      let one : m ≡ n - 1 = omega arith in
      record {
        rising = rising_on b unit u n G.rising f e m back p q;
        small = omega (arith, G.small, d, ex, back);
        sum = rw (ex, one) (goes_on n t u (interface_at b) G.sum more e q);
        steady = G.steady;
      }

pub going_starts : (b : List ℕ) (unit : ℕ) → unit < 8 → Steady b → Going b unit 0 unit 8
going_starts b unit l s = record { rising = rising_starts b unit l; small = omega arith; sum = omega arith; steady = s }

pub going_spent : (b : List ℕ) (unit t u n : ℕ) → Going b unit t u n → n ≡ 0 → Climbs b unit u t
going_spent b unit t u n G z = record {
  top = rising_spent b unit u n G.rising z;
  low = G.rising.low;
  total = omega (arith, G.sum, sum_up_none (interface_at b) u, ap (λ (k : ℕ). sum_up k (interface_at b) u) z);
  small = omega (arith, G.small);
}
