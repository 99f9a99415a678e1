-- A circle has no finding exactly where each of its members passes the weak test. Assumes nothing.
use Rattle.std.specs.Prelude.{None, Option, Some}
use Prim.Native.Nat.{ℕ, zero, suc}
use mathlib.Core.Path.{◌≡◌, refl, sym, ◌∙◌, ap, ap₂}
use mathlib.Core.Logic.{◌⊎◌, inl, inr}
use mathlib.Core.Bool.{Bool, true, false, not, ◌&&◌, ◌||◌, true≢false}
use mathlib.Core.List.{List, [], ◌∷◌}
use native.Mathlib.Omega.{arith}
use Rattle.ledger_spec.specs.Bench.{Handle, Member, Node, Bench}
use Rattle.ledger_spec.specs.Look.{node_named, same_handle}
use Rattle.ledger_spec.specs.Tests.{stale, is_some, is_defect}
use Rattle.ledger_spec.specs.Walk.{outermost}
use Rattle.ledger_spec.specs.Check.{member_verdict, circle_verdict}
use Rattle.ledger_spec.specs.Knit.{In, here, there}
use Rattle.ledger_spec.proofs.Lists.{and_true, both_true, or_false, not_in_nil, in_cases}
use Rattle.ledger_spec.proofs.Knit.{same_handle_lem, same_self}
use Rattle.ledger_laws.specs.Clean.{Near, Weak}
use Rattle.ledger_laws.proofs.Steps.{member_defect, member_two, member_four, member_three, member_near, near_both, circle_on, circle_bad, circle_none}

-- ---- a handle that names no node
module _ (b : Bench) (t : Handle) where
  pub present : stale b t ≡ false → (n : Node) × (node_named b t ≡ Some n)
  present e = go (node_named b t) refl
    where
      go : (o : Option Node) → node_named b t ≡ o → (n : Node) × (node_named b t ≡ Some n)
      go None q = absurd (true≢false (sym (ap (λ (x : Option Node). not (is_some x)) q) ∙ e))
      go (Some n) q = (n, q)

  not_stale : (n : Node) → node_named b t ≡ Some n → stale b t ≡ false
  not_stale n q = ap (λ (x : Option Node). not (is_some x)) q

same_of : {g h : Handle} → g ≡ h → same_handle g h ≡ true
same_of {g} {h} e = ap (λ (x : Handle). same_handle x h) e ∙ same_self h

-- ---- a member
module _ (b : Bench) (m : Member) where
  abbrev own : Bool
  own = same_handle m.touch.0 m.node && same_handle m.touch.1 m.node

  abbrev gone : Bool
  gone = stale b m.touch.0 || stale b m.touch.1

  near_of : (t : Handle) → stale b t ≡ false → same_handle (outermost b t) (outermost b m.node) ≡ true → Near b m.node t
  near_of t e s = let p = present b t e in record { node = p.0; present = p.1; outer = same_handle_lem (outermost b t) (outermost b m.node) s }

  zero_weak : member_verdict b m ≡ 0 → Weak b m
  zero_weak z = record { defect = λ d. own_of d own refl; blossom = λ d. near_both_lem d gone refl (near_both b m) refl }
    where
      own_of : is_defect (node_named b m.node) ≡ true → (c : Bool) → own ≡ c → (m.touch.0 ≡ m.node) × (m.touch.1 ≡ m.node)
      own_of d true e = let s = and_true (same_handle m.touch.0 m.node) (same_handle m.touch.1 m.node) e in (same_handle_lem m.touch.0 m.node s.0, same_handle_lem m.touch.1 m.node s.1)
      own_of d false e = absurd (omega (arith, z, member_two b m d e))

      near_both_lem : is_defect (node_named b m.node) ≡ false → (c : Bool) → gone ≡ c → (n : Bool) → near_both b m ≡ n → Near b m.node m.touch.0 × Near b m.node m.touch.1
      near_both_lem d true e n f = absurd (omega (arith, z, member_four b m d e))
      near_both_lem d false e false f = absurd (omega (arith, z, member_three b m d e f))
      near_both_lem d false e true f =
          let g = or_false (stale b m.touch.0) (stale b m.touch.1) e in
          let s = and_true (same_handle (outermost b m.touch.0) (outermost b m.node)) (same_handle (outermost b m.touch.1) (outermost b m.node)) f in
          (near_of m.touch.0 g.0 s.0, near_of m.touch.1 g.1 s.1)

  weak_zero : Weak b m → member_verdict b m ≡ 0
  weak_zero W = go (is_defect (node_named b m.node)) refl
    where
      go : (c : Bool) → is_defect (node_named b m.node) ≡ c → member_verdict b m ≡ 0
      go true d = let w = W.defect d in member_defect b m d (both_true (same_of w.0) (same_of w.1))
      go false d =
          let w = W.blossom d in
          member_near b m d (ap₂ ◌||◌ (not_stale b m.touch.0 w.0.node w.0.present) (not_stale b m.touch.1 w.1.node w.1.present))
          (both_true (same_of w.0.outer) (same_of w.1.outer))

-- ---- a circle
module _ (b : Bench) where
  pub ring_weak : (ms : List Member) → (circle_verdict b ms).0 ≡ 0 → (m : Member) → In m ms → Weak b m
  ring_weak [] z m i = absurd (not_in_nil i)
  ring_weak (x ∷ ms) z m i = go (member_verdict b x) refl (ring_weak ms)
    where
      go : (k : ℕ) → member_verdict b x ≡ k → ((circle_verdict b ms).0 ≡ 0 → (m : Member) → In m ms → Weak b m) → Weak b m
      go (suc k) e ih = absurd (omega (arith, z, ap (λ (c : ℕ × Handle). c.0) (circle_bad b x ms k e)))
      go zero e ih = one (in_cases i)
        where
          one : (m ≡ x) ⊎ In m ms → Weak b m
          one (inl q) = rw q (zero_weak b x e)
          one (inr j) = ih (sym (ap (λ (c : ℕ × Handle). c.0) (circle_on b x ms e)) ∙ z) m j

  pub weak_ring : (ms : List Member) → ((m : Member) → In m ms → Weak b m) → (circle_verdict b ms).0 ≡ 0
  weak_ring [] W = circle_none b
  weak_ring (x ∷ ms) W = ap (λ (c : ℕ × Handle). c.0) (circle_on b x ms (weak_zero b x (W x (here refl)))) ∙ weak_ring ms (λ m i. W m (there i))
