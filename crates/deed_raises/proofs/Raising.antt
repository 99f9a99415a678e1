-- Slot by slot and interface by interface: each node of the tree is raised once and no other is touched. Assumes nothing.
use Prim.Native.Nat.{ℕ, ◌+◌, ◌-◌, ◌*◌, ◌/◌, ◌<◌, ◌≤◌}
use mathlib.Core.Path.{◌≡◌, refl, ap, sym, ◌∙◌, subst}
use mathlib.Core.Logic.{by_cases}
use mathlib.Core.Bool.{Bool, true, false}
use mathlib.Core.List.{List}
use native.Mathlib.Decide.{ℕ_discrete, dec_lt}
use native.Mathlib.Omega.{arith}
use lib.Dec.{eqb}
use borrow.Author.Tests.{eq-eqb, ne_eqb}
use lib.ListN.{get_or}
use Rattle.bench_words.specs.Codec.{pick}
use Rattle.bench_words.specs.Store.{node_at, interface_at, store_node, store_bias}
use Rattle.bench_words.proofs.Laws.{Good, good_node, store_out, load_same, load_other, store_node_interface}
use Rattle.bench_words.proofs.Maps.{store_node_map}
use Rattle.bench_words.specs.declared.Node.{Node}
use Rattle.bench_words.specs.declared.Interface.{Interface}
use Rattle.ledger_spec.specs.Look.{climb}
use Rattle.bench_views.specs.Records.{Steady, no_node}
use Rattle.bench_views.specs.View.{view, value_by, raised}
use Rattle.bench_views.specs.Canon.{Coded}
use Rattle.bench_views.proofs.Codes.{coded_node, bias_stored}
use Rattle.deed_raises.proofs.Kept.{node_steady, climb_in}
use Rattle.deed_raises.specs.Raises.{Movable, AllMovable, Bare, RaisedIn, RaisedUnder, Raised}

-- ---- one slot
good_raised : (l : ℕ) (n : Node) → Good n → Good (raised l n)
good_raised l n g = record { serial = g.serial; class = g.class; parent = g.parent; left = g.left; right = g.right }

pub raised_none : (b : List ℕ) (v l : ℕ) → Steady b → Coded b → RaisedIn b v l b 0
raised_none b v l st co = record { steady = st; coded = co; next = refl; interfaces = λ w lw. refl; maps = λ w lw. refl; done = λ s ls. absurd (omega arith); kept = λ k o. refl }

module _ (b : List ℕ) (v l : ℕ) (lv : v < 8) (b₁ : List ℕ) (n : ℕ) (R : RaisedIn b v l b₁ n) (ln : n < 64) where
  abbrev k₁ : ℕ
  k₁ = v * 64 + n

  here : node_at b₁ k₁ ≡ node_at b k₁
  here = R.kept k₁ (λ s ls e. omega arith)

  pub movable_now : Movable (node_at b k₁).state (node_at b k₁).bias l → Movable (node_at b₁ k₁).state (node_at b₁ k₁).bias l
  movable_now m = rw here m

  abbrev m₁ : Node
  m₁ = raised l (node_at b₁ k₁)

  stored : RaisedIn b v l (store_node b₁ k₁ m₁) (n + 1)
  stored =
      let g = good_raised l (node_at b₁ k₁) (good_node b₁ k₁) in
      let len = R.steady.len in
      let lk : k₁ < 512 = omega arith in
      record {
        steady = node_steady b₁ k₁ m₁ lk R.steady;
        coded = coded_node b₁ k₁ m₁ len lk g R.coded;
        next = store_out b₁ k₁ m₁ len lk 0 (λ i li e. omega arith) ∙ R.next;
        interfaces = λ w lw. store_node_interface b₁ k₁ m₁ len lk w lw ∙ R.interfaces w lw;
        maps = λ w lw. store_node_map b₁ k₁ m₁ len lk w lw ∙ R.maps w lw;
        done = λ s ls. by_cases (ℕ_discrete s n)
            (λ (z : s ≡ n). rw z (load_same b₁ k₁ m₁ len lk g ∙ ap (raised l) here))
            (λ (ne : s ≡ n → ⊥). load_other b₁ k₁ m₁ len lk (v * 64 + s) (λ e. ne (omega arith)) ∙ R.done s (omega (arith, ne)));
        kept = λ k o. load_other b₁ k₁ m₁ len lk k (λ e. o n (omega arith) e) ∙ R.kept k (λ s ls e. o s (omega arith) e);
      }

  pub raised_more : {b₂ : List ℕ} → b₂ ≡ store_bias b₁ k₁ (value_by (node_at b₁ k₁).state (node_at b₁ k₁).bias l) → RaisedIn b v l b₂ (n + 1)
  raised_more e = rw (e ∙ bias_stored b₁ k₁ _ R.steady.len (omega arith) R.coded) stored

-- ---- one interface
pub begun : (b : List ℕ) (u l : ℕ) → Steady b → Coded b → Raised b u l b 0
begun b u l st co = record { steady = st; coded = co; next = refl; interfaces = λ v lv. refl; maps = λ v lv. refl; done = λ k lk. absurd (omega arith); kept = λ k lk. refl }

module _ (b : List ℕ) (u l : ℕ) (bare : Bare b) (b₁ : List ℕ) (v : ℕ) (R : Raised b u l b₁ (v * 64)) (lv : v < 8) where
  pub still_movable : AllMovable b l v → AllMovable b₁ l v
  still_movable m i li =
      let i2 : i < (interface_at b v).used = subst (λ (f : Interface). i < f.used) (R.interfaces v lv) li in
      rw (R.kept (v * 64 + i) (omega arith)) (m i i2)

  found : climb 8 (view b₁) v ≡ climb 8 (view b) v
  found = climb_in (get_or b 0 0) (get_or b₁ 0 0) (interface_at b) (interface_at b₁) (node_at b) (node_at b₁) (λ w lw. ap (λ (f : Interface). f.parent) (R.interfaces w lw)) 8 v

  at_home : (k : ℕ) → v * 64 ≤ k → k < v * 64 + 64 → (c : Bool) → eqb (climb 8 (view b) v) u ≡ c → eqb (climb 8 (view b) (k / 64)) u ≡ c
  at_home k lo hi c e = let z : k / 64 ≡ v = omega arith in rw z e

  passed_by : (climb 8 (view b) v ≡ u → ⊥) → Raised b u l b₁ ((v + 1) * 64)
  passed_by ne =
      record {
        steady = R.steady;
        coded = R.coded;
        next = R.next;
        interfaces = R.interfaces;
        maps = R.maps;
        done = λ k lk. by_cases (dec_lt k (v * 64))
            (λ (h : k < v * 64). R.done k h)
            (λ (h : k < v * 64 → ⊥).
            let e = at_home k (omega (arith, h)) (omega arith) false (ne_eqb _ u ne) in
            R.kept k (omega (arith, h)) ∙ sym (ap (λ (x : Bool). pick x (raised l (node_at b k)) (node_at b k)) e));
        kept = λ k lk. R.kept k (omega arith);
      }

  taken_in : {b₂ : List ℕ} → climb 8 (view b) v ≡ u → RaisedIn b₁ v l b₂ (interface_at b₁ v).used → Raised b u l b₂ ((v + 1) * 64)
  taken_in {b₂} e I =
      record {
        steady = I.steady;
        coded = I.coded;
        next = I.next ∙ R.next;
        interfaces = λ w lw. I.interfaces w lw ∙ R.interfaces w lw;
        maps = λ w lw. I.maps w lw ∙ R.maps w lw;
        done = λ k lk. by_cases (dec_lt k (v * 64))
            (λ (h : k < v * 64). I.kept k (λ s ls q. omega arith) ∙ R.done k h)
            (λ (h : k < v * 64 → ⊥). now (k - v * 64) k (omega (arith, h)) (omega (arith, h)));
        kept = λ k lk. I.kept k (λ s ls q. omega (arith, R.steady.slots v lv)) ∙ R.kept k (omega arith);
      }
    where
      now : (s k : ℕ) → k ≡ v * 64 + s → s < 64 → node_at b₂ k ≡ pick (eqb (climb 8 (view b) (k / 64)) u) (raised l (node_at b k)) (node_at b k)
      now s k q ls =
          let p = at_home k (omega arith) (omega arith) true (eq-eqb _ u e) in
          let z : node_at b₁ k ≡ node_at b k = R.kept k (omega arith) in
          by_cases (dec_lt s (interface_at b₁ v).used)
          (λ (h : s < (interface_at b₁ v).used).
          ap (node_at b₂) q ∙ I.done s h ∙ ap (λ (x : ℕ). raised l (node_at b₁ x)) (sym q) ∙ ap (raised l) z)
          (λ (h : s < (interface_at b₁ v).used → ⊥).
          let used : (interface_at b v).used ≤ s = omega (arith, h, ap (λ (f : Interface). f.used) (R.interfaces v lv)) in
          let none : node_at b k ≡ no_node = ap (node_at b) q ∙ bare v s lv ls used in
          I.kept k (λ i li w. omega (arith, h)) ∙ z ∙ none ∙ sym (ap (raised l) none))
          ∙ sym (ap (λ (x : Bool). pick x (raised l (node_at b k)) (node_at b k)) p)

  pub one_more : {b₂ : List ℕ} → RaisedUnder b₁ u v l b₂ → Raised b u l b₂ ((v + 1) * 64)
  one_more D = by_cases (ℕ_discrete (climb 8 (view b) v) u)
      (λ (e : climb 8 (view b) v ≡ u). taken_in e (D.taken (found ∙ e)))
      (λ (ne : climb 8 (view b) v ≡ u → ⊥). rw (D.left (λ e. ne (sym found ∙ e))) (passed_by ne))

pub tree_done : {b : List ℕ} {u l : ℕ} {b₁ : List ℕ} {n m : ℕ} → Raised b u l b₁ n → n ≡ m → Raised b u l b₁ m
tree_done R e = rw (← e) R
