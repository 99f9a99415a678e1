-- Numbers near another in words and in ℤ, and the speed of a tree added up in words. Assumes nothing.
use Rattle.std.specs.Prelude.{Option}
use Prim.Native.Nat.{ℕ, zero, suc, ◌+◌, ◌-◌, ◌*◌, ◌<◌, ◌≤◌}
use mathlib.Core.Path.{◌≡◌, refl, sym, ◌∙◌, ap, ap₂}
use mathlib.Core.Bool.{Bool, true, false, cond}
use mathlib.Core.List.{List}
use native.Mathlib.Omega.{arith}
use lib.Dec.{eqb, ltb}
use borrow.Author.Tests.{ltb-true, ltb-false}
use lib.ListN.{get_or}
use lib.IntN.{ℤ, pos, negsuc, nat_abs, neg_ℤ, ◌+ℤ◌, +ℤ_idl, +ℤ_idr, -ℤ-+ℤ_cancel}
use Rattle.kinds.specs.declared.GrowState.{GrowState}
use Rattle.kinds.specs.declared.GrowState.TheVariants.{Grow, Stay, Shrink}
use Rattle.kinds.specs.declared.Class.{Class}
use Rattle.kinds.specs.declared.Class.TheVariants.{Absent, Blossom, Defect}
use Rattle.bench_words.specs.Codec.{pick}
use Rattle.bench_words.specs.Store.{node_at, interface_at}
use Rattle.bench_words.specs.declared.Node.{Node}
use Rattle.ledger_spec.specs.Bench.{Member, rate}
use Rattle.ledger_spec.specs.Bench as plain
use Rattle.ledger_spec.specs.Look.{climb}
use Rattle.ledger_spec.specs.Change.{share}
use Rattle.ledger_spec.specs.Account.{Σ, gate, slot_sum, tree_sum, rates_in}
use Rattle.ledger_spec.specs.Named.{state_named}
use Rattle.ledger_spec.proofs.Ints.{swap_mid}
use Rattle.ledger_spec.proofs.Sums.{Σ_same}
use Rattle.bench_views.specs.Records.{rate_of, no_node}
use Rattle.bench_views.specs.Tab.{tab}
use Rattle.bench_views.specs.View.{off, slot_seen, slot_in, view}
use Rattle.ledger_spec.proofs.Interfaces.{over_snoc}
use Rattle.bench_views.proofs.Offsets.{off_zero}
use Rattle.bench_views.proofs.Tabs.{tab_snoc}
use Rattle.bench_views.proofs.Views.{interface_in_lem}
use Rattle.sound_trees.specs.Below.{sum_to}
use Rattle.sound_tops.specs.Tops.{rate_in, pace_under, pace_of}

-- ---- near
pub range_off : (c x m : ℕ) → suc c - m ≤ x → x ≤ suc c + m → nat_abs (off (suc c) x) ≤ m
unfolding off
range_off c x m lo hi = go (ltb x (suc c)) refl
  where
    go : (t : Bool) → ltb x (suc c) ≡ t → nat_abs (cond t (negsuc (suc c - suc x)) (pos (x - suc c))) ≤ m
    go true e = let l = ltb-true x (suc c) e in omega arith
    go false e = let l = ltb-false x (suc c) e in omega arith

-- ---- offsets added
pos_inj : {m n : ℕ} → pos m ≡ pos n → m ≡ n
pos_inj e = ap nat_abs e

pub off_inj : (c m n : ℕ) → off c m ≡ off c n → m ≡ n
unfolding off
off_inj c m n e = pos_inj (sym (-ℤ-+ℤ_cancel (pos m) (pos c)) ∙ ap (λ (z : ℤ). z +ℤ pos c) e ∙ -ℤ-+ℤ_cancel (pos n) (pos c))

neg_add : (a b : ℕ) → neg_ℤ (pos (a + b)) ≡ neg_ℤ (pos a) +ℤ neg_ℤ (pos b)
neg_add a zero = let e : a + 0 ≡ a = omega arith in ap (λ (x : ℕ). neg_ℤ (pos x)) e ∙ sym (+ℤ_idr (neg_ℤ (pos a)))
neg_add zero (suc b) = let e : 0 + suc b ≡ suc b = omega arith in ap (λ (x : ℕ). neg_ℤ (pos x)) e ∙ sym (+ℤ_idl (neg_ℤ (pos (suc b))))
neg_add (suc a) (suc b) = let e : suc a + suc b ≡ suc (suc (a + b)) = omega arith in ap (λ (x : ℕ). neg_ℤ (pos x)) e

off_sum : (a b x y : ℕ) → off a x +ℤ off b y ≡ off (a + b) (x + y)
unfolding off
off_sum a b x y = swap_mid (pos x) (neg_ℤ (pos a)) (pos y) (neg_ℤ (pos b)) ∙ ap (λ (z : ℤ). pos (x + y) +ℤ z) (sym (neg_add a b))

pub off_both_sides : (a b x : ℕ) → off (a + b) (x + b) ≡ off a x
off_both_sides a b x = sym (off_sum a b x b) ∙ ap (λ (z : ℤ). off a x +ℤ z) (off_zero b) ∙ +ℤ_idr (off a x)

-- ---- the speed of a tree
rate_off : (g : GrowState) → rate (state_named g) ≡ off 1 (rate_of g)
unfolding off
rate_off Grow = refl
rate_off Stay = refl
rate_off Shrink = refl

share_off : (n : Node) (t : ℕ) (ms : List Member) → (n.class ≡ Absent → n ≡ no_node) → share (slot_seen n t ms) ≡ off 1 (rate_of n.state)
unfolding slot_seen off
share_off n t ms e = go n.class refl
  where
    go : (c : Class) → n.class ≡ c → share (slot_seen n t ms) ≡ off 1 (rate_of n.state)
    go Absent q = rw q (sym (ap (λ (x : Node). off 1 (rate_of x.state)) (e q)))
    go Blossom q = rw q (rate_off n.state)
    go (Defect v) q = rw q (rate_off n.state)

rates_tab : (f : ℕ → Option plain.Node) (r : ℕ → ℕ) (n : ℕ) → ((s : ℕ) → s < n → share (f s) ≡ off 1 (r s)) → slot_sum share (tab f 0 n) ≡ off n (sum_to r n)
unfolding tab slot_sum sum_to
rates_tab f r zero h = sym (off_zero 0)
rates_tab f r (suc n) h =
    let e : n + 1 ≡ suc n = omega arith in
    ap (slot_sum share) (tab_snoc f n) ∙ over_snoc share (tab f 0 n) (f n) ∙ ap₂ (λ (x y : ℤ). x +ℤ y) (rates_tab f r n (λ s l. h s (omega arith))) (h n (omega arith)) ∙ off_sum n 1 (sum_to r n) (r n) ∙ ap (λ (k : ℕ). off k (sum_to r n + r n)) e

sum_off : (f : ℕ → ℕ) (n : ℕ) → Σ n (λ u. off 64 (f u)) ≡ off (n * 64) (sum_to f n)
unfolding Σ sum_to
sum_off f zero = sym (off_zero 0)
sum_off f (suc n) = let e : n * 64 + 64 ≡ suc n * 64 = omega arith in
    ap (λ (x : ℤ). x +ℤ off 64 (f n)) (sum_off f n) ∙ off_sum (n * 64) 64 (sum_to f n) (f n) ∙ ap (λ (k : ℕ). off k (sum_to f n + f n)) e

module _ (b : List ℕ) (few : (u : ℕ) → u < 8 → (interface_at b u).used ≤ 64) (empty : (k : ℕ) → k < 512 → (node_at b k).class ≡ Absent → node_at b k ≡ no_node) where
  rates_in_lem : (u : ℕ) → u < 8 → rates_in (view b) u ≡ off (interface_at b u).used (sum_to (rate_in b u) (interface_at b u).used)
  rates_in_lem u lu = ap (λ (f : plain.Interface). slot_sum share f.slots) (interface_in_lem (get_or b 0 0) (interface_at b) (node_at b) u lu)
      ∙ rates_tab (slot_in (interface_at b) (node_at b) u) (rate_in b u) (interface_at b u).used (λ s l. share_off (node_at b (u * 64 + s)) _ _ (empty (u * 64 + s) (omega (arith, few u lu))))

  term : (i u : ℕ) → u < 8 → gate (eqb (climb 8 (view b) u) i) (rates_in (view b) u) ≡ off 64 (pace_under b i u)
  unfolding pace_under gate
  term i u lu = go (eqb (climb 8 (view b) u) i)
    where
      go : (c : Bool) → gate c (rates_in (view b) u) ≡ off 64 (pick c (sum_to (rate_in b u) (interface_at b u).used + (64 - (interface_at b u).used)) 64)
      go true = let e : (interface_at b u).used + (64 - (interface_at b u).used) ≡ 64 = omega (arith, few u lu) in
          rates_in_lem u lu ∙ sym (off_both_sides (interface_at b u).used (64 - (interface_at b u).used) (sum_to (rate_in b u) (interface_at b u).used)) ∙ ap (λ (k : ℕ). off k (sum_to (rate_in b u) (interface_at b u).used + (64 - (interface_at b u).used))) e
      go false = sym (off_zero 64)

  pub under_pace : (i : ℕ) → tree_sum (climb 8 (view b)) (rates_in (view b)) i ≡ off 512 (pace_of b i)
  unfolding pace_of
  under_pace i = Σ_same 8 (λ u. off 64 (pace_under b i u)) (λ u. gate (eqb (climb 8 (view b) u) i) (rates_in (view b) u)) (term i) ∙ sum_off (pace_under b i) 8
