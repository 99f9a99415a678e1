-- Bounds of a sound bench, which keep the ledger's weights within an `i64`: a speed is no larger than the slots of its tree, W is no larger than
-- eight progresses, and a value, a sum and what a growth adds to it follow. Assumes nothing.
use Rattle.std.specs.Prelude.{None, Option, Some}
use Prim.Native.Nat.{ℕ, zero, suc, ◌+◌, ◌*◌, ◌≤◌, ◌<◌, ◌^◌}
use mathlib.Core.Path.{◌≡◌, refl, sym, ◌∙◌, ap, subst}
use mathlib.Core.Bool.{Bool, true, false}
use mathlib.Core.List.{List, [], ◌∷◌}
use native.Mathlib.Omega.{arith}
use native.Mathlib.Nat.{mul-le-mul}
use lib.Dec.{eqb}
use lib.ListN.{length}
use lib.IntN.{ℤ, pos, ◌+ℤ◌, ◌*ℤ◌, nat_abs}
use Rattle.ledger_spec.specs.Bench.{Node, Bench}
use Rattle.ledger_spec.specs.Look.{interface, slot_of, top, tree}
use Rattle.ledger_spec.specs.Change.{share}
use Rattle.ledger_spec.specs.Reads.{slots_of}
use Rattle.ledger_spec.specs.SoundTree.{reach}
use Rattle.ledger_spec.specs.Sound.{rates}
use Rattle.ledger_spec.specs.Account.{Σ, gate, slot_sum, tree_sum, rates_in}
use Rattle.ledger_spec.specs.Frame.{Frame}
use Rattle.ledger_spec.specs.Facts.{W, Sound}
use Rattle.ledger_spec.proofs.Range.{abs_add, abs_mul, abs_rate}
use Rattle.ledger_spec.proofs.Tops.{top_root, below}
use Rattle.ledger_spec.proofs.Trees.{along, tree_sum_lem, gather_rates}
use Rattle.ledger_spec.proofs.Gathered.{held_unit}

share_bound : (o : Option Node) → nat_abs (share o) ≤ 1
share_bound None = omega arith
share_bound (Some n) = abs_rate n.state

pub rates_bound : (l : List (Option Node)) → nat_abs (slot_sum share l) ≤ length l
unfolding slot_sum
rates_bound [] = omega arith
rates_bound (x ∷ xs) = omega (arith, abs_add (share x) (slot_sum share xs), share_bound x, rates_bound xs)

pub Σ_bound : (n m : ℕ) (f : ℕ → ℤ) → ((w : ℕ) → nat_abs (f w) ≤ m) → nat_abs (Σ n f) ≤ n * m
unfolding Σ
Σ_bound zero m f h = omega arith
Σ_bound (suc n) m f h = omega (arith, abs_add (Σ n f) (f n), h n, Σ_bound n m f h)

gate_bound : (c : Bool) (x : ℤ) (m : ℕ) → nat_abs x ≤ m → nat_abs (gate c x) ≤ m
unfolding gate
gate_bound true x m h = h
gate_bound false x m h = omega arith

pub under_bound : (tp : ℕ → ℕ) (v : ℕ → ℤ) (m i : ℕ) → ((w : ℕ) → nat_abs (v w) ≤ m) → nat_abs (tree_sum tp v i) ≤ 8 * m
under_bound tp v m i h = Σ_bound 8 m (λ u. gate (eqb (tp u) i) (v u)) (λ w. gate_bound (eqb (tp w) i) (v w) m (h w))

-- ---- W, by tops
abbrev pub progress_in : Bench → ℕ → ℤ
progress_in b u = pos (nat_abs (interface b u).progress)

reach_along : (b : Bench) (us : List ℕ) → pos (reach b us) ≡ along (progress_in b) us
unfolding reach along
reach_along b [] = refl
reach_along b (u ∷ us) = ap (λ (z : ℤ). progress_in b u +ℤ z) (reach_along b us)

pub W-under : (b : Bench) → Frame b → (i : ℕ) → i < 8 → (interface b i).parent ≡ None → pos (W b i) ≡ tree_sum (top b) (progress_in b) i
W-under b F i h free = reach_along b (tree 8 b i) ∙ tree_sum_lem b F (progress_in b) i h free

-- ---- growth: within 512 times the reach, before and after
pub grown_sum : (s v l : ℤ) (w m : ℕ) → nat_abs s ≤ 512 * w → nat_abs v ≤ 512 → nat_abs l ≤ m → nat_abs (s +ℤ l *ℤ v) ≤ 512 * (w + m)
grown_sum s v l w m hs hv hl = omega (arith, abs_add s (l *ℤ v), abs_mul l v, mul-le-mul hl hv, hs)

module _ (b : Bench) (S : Sound b) where
  -- the speed of a top, in the order of the index, as the check adds up
  pub speed_along : (i : ℕ) → i < 8 → (interface b i).parent ≡ None → (interface b i).speed ≡ along (rates_in b) (tree 8 b i)
  speed_along i h free = S.speeds i h free ∙ sym (tree_sum_lem b S.frame (rates_in b) i h free)

  pub speed_listed : (i : ℕ) → i < 8 → (interface b i).parent ≡ None → (interface b i).speed ≡ rates (slots_of b i)
  speed_listed i h free = speed_along i h free ∙ sym (gather_rates b (tree 8 b i))

  -- at most 64 slots each: a speed within 512
  pub speed_bound : (i : ℕ) → i < 8 → (interface b i).parent ≡ None → nat_abs (interface b i).speed ≤ 512
  speed_bound i h free = subst (λ (z : ℤ). nat_abs z ≤ 512) (sym (S.speeds i h free))
      (under_bound (top b) (rates_in b) 64 i (λ w. omega (arith, S.few w, rates_bound (interface b w).slots)))

  pub W-bound : (i : ℕ) → i < 8 → (interface b i).parent ≡ None → W b i ≤ 8 * 2 ^ 40
  W-bound i h free = subst (λ (z : ℤ). nat_abs z ≤ 8 * 2 ^ 40) (sym (W-under b S.frame i h free)) (under_bound (top b) (progress_in b) (2 ^ 40) i (λ w. S.limit w))

  pub value_bound : (u s : ℕ) (n : Node) → slot_of b u s ≡ Some n → nat_abs n.value ≤ 8 * 2 ^ 40
  value_bound u s n e = omega (arith, S.values u s n e, W-bound (top b u) (below b S.frame 8 u (held_unit b S.frame u s n e)) (top_root b S.frame u))

  pub sum_bound : (i : ℕ) → i < 8 → (interface b i).parent ≡ None → nat_abs (interface b i).sum ≤ 2 ^ 52
  sum_bound i h free = omega (arith, S.sums i h free, W-bound i h free)
