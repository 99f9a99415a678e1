-- The progress above a unit, step by step, and how large it is. Assumes nothing.
use Rattle.std.specs.Prelude.{None, Option, Some}
use Prim.Native.Nat.{ℕ, zero, suc, ◌+◌, ◌-◌, ◌*◌, ◌<◌, ◌≤◌}
use mathlib.Core.Path.{◌≡◌, refl, ap, ◌∙◌}
use native.Mathlib.Omega.{arith}
use mathlib.Core.List.{List}
use Rattle.bench_words.proofs.Laws.{GoodUp, good_interface}
use Rattle.bench_words.specs.Store.{interface_at}
use Rattle.bench_views.specs.Records.{Steady}
use Rattle.bench_words.specs.declared.Interface.{Interface}
use mathlib.Core.Bool.{Bool, true, false}
use Rattle.bench_words.specs.Codec.{pick}
use Rattle.bench_views.specs.View.{sum_up, over, lag_of}

pub sum_up_step : (n : ℕ) (A : ℕ → Interface) (u : ℕ) → 0 < n → sum_up n A u ≡ lag_of (A u) + over (A u).parent 0 (sum_up (n - 1) A)
unfolding sum_up
sum_up_step zero A u l = omega arith
sum_up_step (suc n) A u l =
    let e : suc n - 1 ≡ n = omega arith in
    rw e

pub sum_up_none : (A : ℕ → Interface) (u : ℕ) → sum_up 0 A u ≡ 0
unfolding sum_up
sum_up_none A u = refl

lag_pick : (c : Bool) (p : ℕ) → pick c 0 p ≤ p
lag_pick true p = omega arith
lag_pick false p = omega arith

pub lag_le : (f : Interface) → lag_of f ≤ f.progress
lag_le f = lag_pick f.marks.plain f.progress

-- ---- one turn of the loop that adds the progress up

pub bounded : {b : List ℕ} (u : ℕ) {r : Interface} → Steady b → u < 8 → r ≡ interface_at b u → r.progress ≤ 1099511627776
bounded {b} u c l e = rw e (c.progress u l)

pub under_eight : (b : List ℕ) (u : ℕ) {p : ℕ} {r : Interface} → r ≡ interface_at b u → r.parent ≡ Some p → p < 8
under_eight b u {p} {r} e q =
    let g : GoodUp (interface_at b u).parent = good_interface b u in
    let s : (interface_at b u).parent ≡ Some p = cc in
    rw s at g

pub ends : (n t u : ℕ) (A : ℕ → Interface) {s : ℕ} {r : Interface} → t + sum_up n A u ≡ s → 0 < n → r ≡ A u → r.parent ≡ None → t + lag_of r ≡ s
ends n t u A {s} {r} i l e q =
    let p : (A u).parent ≡ None = cc in
    let st : sum_up n A u ≡ lag_of (A u) + 0 = sum_up_step n A u l ∙ rw p in
    rw e (omega arith)

pub goes_on : (n t u : ℕ) (A : ℕ → Interface) {s p : ℕ} {r : Interface} → t + sum_up n A u ≡ s → 0 < n → r ≡ A u → r.parent ≡ Some p → t + lag_of r + sum_up (n - 1) A p ≡ s
goes_on n t u A {s} {p} {r} i l e q =
    let q2 : (A u).parent ≡ Some p = cc in
    let st : sum_up n A u ≡ lag_of (A u) + sum_up (n - 1) A p = sum_up_step n A u l ∙ rw q2 in
    rw e (omega arith)

-- ---- what the sums depend on

over_same : {A : Type 0} (p : Option ℕ) (a : A) (f g : ℕ → A) → GoodUp p → ((q : ℕ) → q < 8 → f q ≡ g q) → over p a f ≡ over p a g
over_same None a f g h e = refl
over_same (Some q) a f g h e = e q h

module _ (A A' : ℕ → Interface) (good : (v : ℕ) → v < 8 → GoodUp (A v).parent) (parents : (v : ℕ) → v < 8 → (A' v).parent ≡ (A v).parent) where
  pub sum_up_same : ((v : ℕ) → v < 8 → lag_of (A' v) ≡ lag_of (A v)) → (n u : ℕ) → u < 8 → sum_up n A' u ≡ sum_up n A u
  unfolding sum_up
  sum_up_same same zero u l = refl
  sum_up_same same (suc n) u l =
      rw (parents u l, same u l)
      (ap (λ (x : ℕ). lag_of (A u) + x) (over_same (A u).parent 0 (sum_up n A') (sum_up n A) (good u l) (λ q lq. sum_up_same same n q lq)))

-- ---- how large the sums are

pub over_le : (p : Option ℕ) (f : ℕ → ℕ) (m : ℕ) → GoodUp p → ((q : ℕ) → q < 8 → f q ≤ m) → over p 0 f ≤ m
over_le None f m g h = omega arith
over_le (Some q) f m g h = h q g

pub sum_up_le : (b : List ℕ) → Steady b → (n u : ℕ) → u < 8 → sum_up n (interface_at b) u ≤ n * 1099511627776
unfolding sum_up
sum_up_le b c zero u l = omega arith
sum_up_le b c (suc n) u l =
    omega (
      arith,
      c.progress u l,
      lag_le (interface_at b u),
      over_le (interface_at b u).parent (sum_up n (interface_at b)) (n * 1099511627776) (good_interface b u) (λ q lq. sum_up_le b c n q lq),
    )
