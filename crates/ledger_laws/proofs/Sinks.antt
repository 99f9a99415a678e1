-- One slot against a floor: what does not sink stays afloat when it grows, and sinking by a length is sinking by its parts; what sinks by s after a growth by c sank by c + s. Assumes nothing.
use Rattle.std.specs.Prelude.{None, Option, Some}
use Prim.Native.Nat.{ℕ, zero, suc, ◌+◌, ◌*◌, ◌-◌, ◌≤◌, ◌<◌}
use mathlib.Core.Path.{◌≡◌, refl, sym, ◌∙◌, ap}
use mathlib.Core.Bool.{Bool, true, false, ◌&&◌, cond, true≢false}
use mathlib.Core.Logic.{by_cases}
use native.Mathlib.Decide.{dec_lt}
use native.Mathlib.Omega.{arith}
use borrow.Author.Tests.{le-leb, lt-ltb, le-ltb, ltb-false}
use lib.IntN.{ℤ, pos, negsuc, neg_ℤ, ◌+ℤ◌, ◌*ℤ◌, +ℤ_idr}
use lib.Signed.{lt_z, le_z}
use Rattle.ledger_spec.specs.Bench.{State, grows, stays, shrinks, rate, Node}
use Rattle.ledger_spec.specs.Tests.{is_shrink, sinks}
use Rattle.ledger_spec.specs.Sound.{afloat}
use Rattle.ledger_spec.specs.Deeds.{grow_slot}

-- a value that falls by no more than it is
fall : (m k : ℕ) → k ≤ m → pos m +ℤ pos k *ℤ negsuc 0 ≡ pos (m - k)
fall m zero h = ap pos (omega arith)
fall m (suc k) h = ap (λ (z : ℕ). pos m +ℤ neg_ℤ (pos z)) one
    ∙ ap (λ (c : Bool). cond c (negsuc (suc k - suc m)) (pos (m - suc k))) (le-ltb m (suc k) h)
  where
    one : suc k * 1 ≡ suc k
    one = omega arith

-- of a value v, a state s and lengths that are not negative
rise : (v l : ℤ) (s : State) → lt_z l (pos 0) ≡ false → le_z (pos 0) v ≡ true → (is_shrink s && lt_z v l) ≡ false → le_z (pos 0) (v +ℤ l *ℤ rate s) ≡ true
rise v (negsuc c) s h a k = absurd (true≢false h)
rise (negsuc m) (pos c) s h a k = absurd (true≢false (sym a))
rise (pos m) (pos c) grows h a k = le-leb 0 (m + c * 1) (omega arith)
rise (pos m) (pos c) stays h a k = le-leb 0 (m + c * 0) (omega arith)
rise (pos m) (pos c) shrinks h a k = ap (le_z (pos 0)) (fall m c (ltb-false m c k)) ∙ le-leb 0 (m - c) (omega arith)

both : (v a c : ℤ) (s : State) → lt_z a (pos 0) ≡ false → lt_z c (pos 0) ≡ false → (is_shrink s && lt_z v a) ≡ false → (is_shrink s && lt_z (v +ℤ a *ℤ rate s) c) ≡ false → (is_shrink s && lt_z v (a +ℤ c)) ≡ false
both v a c grows h k x y = refl
both v a c stays h k x y = refl
both v (negsuc a) c shrinks h k x y = absurd (true≢false h)
both v (pos a) (negsuc c) shrinks h k x y = absurd (true≢false k)
both (negsuc m) (pos a) (pos c) shrinks h k x y = absurd (true≢false x)
both (pos m) (pos a) (pos c) shrinks h k x y = le-ltb m (a + c) (omega (arith, ltb-false m a x, ltb-false (m - a) c (ap (λ (z : ℤ). lt_z z (pos c)) (sym (fall m a (ltb-false m a x))) ∙ y)))

parts : (v a c : ℤ) (s : State) → lt_z a (pos 0) ≡ false → lt_z c (pos 0) ≡ false → (is_shrink s && lt_z v (a +ℤ c)) ≡ false → ((is_shrink s && lt_z v a) ≡ false) × ((is_shrink s && lt_z (v +ℤ a *ℤ rate s) c) ≡ false)
parts v a c grows h k x = (refl, refl)
parts v a c stays h k x = (refl, refl)
parts v (negsuc a) c shrinks h k x = absurd (true≢false h)
parts v (pos a) (negsuc c) shrinks h k x = absurd (true≢false k)
parts (negsuc m) (pos a) (pos c) shrinks h k x = absurd (true≢false x)
parts (pos m) (pos a) (pos c) shrinks h k x = let q : a + c ≤ m = ltb-false m (a + c) x in
    (le-ltb m a (omega arith), ap (λ (z : ℤ). lt_z z (pos c)) (fall m a (omega arith)) ∙ le-ltb (m - a) c (omega arith))

-- a value that has fallen by c is below s exactly where it was below c + s
drop : (m k : ℕ) → m < k → (z : ℕ) × (pos m +ℤ pos k *ℤ negsuc 0 ≡ negsuc z)
drop m zero h = absurd (omega arith)
drop m (suc k) h = (suc k - suc m, ap (λ (z : ℕ). pos m +ℤ neg_ℤ (pos z)) one ∙ ap (λ (c : Bool). cond c (negsuc (suc k - suc m)) (pos (m - suc k))) (lt-ltb m (suc k) h))
  where
    one : suc k * 1 ≡ suc k
    one = omega arith

deep : (m k s : ℕ) → lt_z (negsuc m +ℤ pos k *ℤ negsuc 0) (pos s) ≡ true
deep m zero s = ap (λ (z : ℤ). lt_z z (pos s)) (+ℤ_idr (negsuc m))
deep m (suc k) s = ap (λ (z : ℕ). lt_z (negsuc m +ℤ neg_ℤ (pos z)) (pos s)) one
  where
    one : suc k * 1 ≡ suc k
    one = omega arith

moved : (v : ℤ) (c s : ℕ) → lt_z (v +ℤ pos c *ℤ negsuc 0) (pos s) ≡ lt_z v (pos (c + s))
moved (negsuc m) c s = deep m c s
moved (pos m) c s = by_cases (dec_lt m c)
    (λ (h : m < c). let d = drop m c h in ap (λ (z : ℤ). lt_z z (pos s)) d.1 ∙ sym (lt-ltb m (c + s) (omega arith)))
    (λ (h : m < c → ⊥). ap (λ (z : ℤ). lt_z z (pos s)) (fall m c (omega (arith, h))) ∙ by_cases (dec_lt m (c + s))
    (λ (k : m < c + s). lt-ltb (m - c) s (omega (arith, h, k)) ∙ sym (lt-ltb m (c + s) k))
    (λ (k : m < c + s → ⊥). le-ltb (m - c) s (omega (arith, h, k)) ∙ sym (le-ltb m (c + s) (omega (arith, k)))))

sunk : (v c s : ℤ) (t : State) → lt_z c (pos 0) ≡ false → lt_z s (pos 0) ≡ false → (is_shrink t && lt_z (v +ℤ c *ℤ rate t) s) ≡ (is_shrink t && lt_z v (c +ℤ s))
sunk v c s grows h k = refl
sunk v c s stays h k = refl
sunk v (negsuc c) s shrinks h k = absurd (true≢false h)
sunk v (pos c) (negsuc s) shrinks h k = absurd (true≢false k)
sunk v (pos c) (pos s) shrinks h k = moved v c s

-- ---- the same of a slot
pub sinks_grown : (c s : ℤ) → lt_z c (pos 0) ≡ false → lt_z s (pos 0) ≡ false → (o : Option Node) → sinks s (grow_slot c o) ≡ sinks (c +ℤ s) o
unfolding grow_slot
sinks_grown c s h k None = refl
sinks_grown c s h k (Some n) = sunk n.value c s n.state h k

pub grown_afloat : (l : ℤ) (o : Option Node) → lt_z l (pos 0) ≡ false → afloat o ≡ true → sinks l o ≡ false → afloat (grow_slot l o) ≡ true
unfolding grow_slot
grown_afloat l None h a k = refl
grown_afloat l (Some n) h a k = rise n.value l n.state h a k

module _ (a c : ℤ) (ha : lt_z a (pos 0) ≡ false) (hc : lt_z c (pos 0) ≡ false) where
  pub sinks_whole : (o : Option Node) → sinks a o ≡ false → sinks c (grow_slot a o) ≡ false → sinks (a +ℤ c) o ≡ false
  unfolding grow_slot
  sinks_whole None x y = refl
  sinks_whole (Some n) x y = both n.value a c n.state ha hc x y

  pub sinks_parts : (o : Option Node) → sinks (a +ℤ c) o ≡ false → (sinks a o ≡ false) × (sinks c (grow_slot a o) ≡ false)
  unfolding grow_slot
  sinks_parts None x = (refl, refl)
  sinks_parts (Some n) x = parts n.value a c n.state ha hc x
