-- A member's verdict is the larger of its two handles'. Assumes nothing.
use Rattle.std.specs.Prelude.{None, Option, Some}
use Prim.Native.Nat.{ℕ}
use mathlib.Core.Path.{◌≡◌, refl, ap, sym, ◌∙◌}
use mathlib.Core.Bool.{Bool, true, false, not, ◌&&◌, ◌||◌}
use lib.Dec.{eqb}
use Rattle.kinds.specs.declared.Handle.{Handle as Code}
use Rattle.kinds.specs.Names.{same_code}
use Rattle.ledger_spec.specs.Bench.{Handle, Member, Node, Bench}
use Rattle.ledger_spec.specs.Look.{node_named, same_handle}
use Rattle.ledger_spec.specs.Named.{handle_named}
use Rattle.ledger_spec.specs.Tests.{stale, is_some, is_defect}
use Rattle.ledger_spec.specs.Walk.{outermost}
use Rattle.ledger_spec.specs.Check.{member_verdict, is_under}
use Rattle.ledger_laws.proofs.Steps.{member_defect, member_two, strict_defect, strict_blossom}
use Rattle.check_circles.specs.Found.{larger, own_by, touch_verdict, under_verdict, touch_by, member_by}

-- ---- the same handle, in code and in the ledger
and_assoc : (x y z : Bool) → (x && (y && z)) ≡ ((x && y) && z)
and_assoc true y z = refl
and_assoc false y z = refl

pub same_named : (g h : Code) → same_code g h ≡ same_handle (handle_named g) (handle_named h)
same_named g h = and_assoc (eqb g.unit h.unit) (eqb g.slot h.slot) (eqb g.serial.0 h.serial.0)

-- ---- a touching handle
module _ (b : Bench) (o t : Handle) where
  pub touch_gone : node_named b t ≡ None → 4 ≡ touch_verdict b o t
  unfolding touch_verdict
  touch_gone e = rw (ap (λ (x : Option Node). not (is_some x)) e, touch_verdict)

  module _ (n : Node) (e : node_named b t ≡ Some n) where
    pub touch_near : same_handle (outermost b t) o ≡ true → 0 ≡ touch_verdict b o t
    unfolding touch_verdict
    touch_near f = rw (ap (λ (x : Option Node). not (is_some x)) e, f, touch_verdict)

    pub touch_far : same_handle (outermost b t) o ≡ false → 3 ≡ touch_verdict b o t
    unfolding touch_verdict
    touch_far f = rw (ap (λ (x : Option Node). not (is_some x)) e, f, touch_verdict)

-- ---- the larger of two
abbrev six : Bool → ℕ
six c = elim c [ true ↦ 0 | false ↦ 6 ]

sixes : (x y : Bool) → larger (six x) (six y) ≡ six (x && y)
sixes true true = refl
sixes true false = refl
sixes false true = refl
sixes false false = refl

abbrev three : Bool → ℕ
three n = elim n [ true ↦ 0 | false ↦ 3 ]

abbrev four : Bool → ℕ → ℕ
four s k = elim s [ true ↦ 4 | false ↦ k ]

fours : (s t n k : Bool) → larger (four s (three n)) (four t (three k)) ≡ four (s || t) (three (n && k))
fours true true n k = refl
fours true false n true = refl
fours true false n false = refl
fours false true true k = refl
fours false true false k = refl
fours false false true true = refl
fours false false true false = refl
fours false false false true = refl
fours false false false false = refl

-- ---- a member
module _ (b : Bench) (m : Member) where
  pub member_own : is_defect (node_named b m.node) ≡ true → (s : Bool) → own_by s m.node m.touch.0 m.touch.1 ≡ member_by s b m
  unfolding own_by member_by
  member_own d true = sym (ap six (strict_defect b m d))
  member_own d false = go (same_handle m.touch.0 m.node && same_handle m.touch.1 m.node) refl
    where
      go : (c : Bool) → (same_handle m.touch.0 m.node && same_handle m.touch.1 m.node) ≡ c → elim c [ true ↦ 0 | false ↦ 2 ] ≡ member_verdict b m
      go true e = sym (member_defect b m d e)
      go false e = sym (member_two b m d e)

  pub member_larger : is_defect (node_named b m.node) ≡ false → (s : Bool) (o : Handle) → o ≡ outermost b m.node
      → larger (touch_by s b m.node o m.touch.0) (touch_by s b m.node o m.touch.1) ≡ member_by s b m
  unfolding touch_by member_by under_verdict touch_verdict member_verdict
  member_larger d true o e = sixes (is_under b m.touch.0 m.node) (is_under b m.touch.1 m.node) ∙ sym (ap six (strict_blossom b m d))
  member_larger d false o e = ap (λ (x : Handle). larger (touch_verdict b x m.touch.0) (touch_verdict b x m.touch.1)) e
      ∙ fours (stale b m.touch.0) (stale b m.touch.1) (same_handle (outermost b m.touch.0) (outermost b m.node)) (same_handle (outermost b m.touch.1) (outermost b m.node))
      ∙ rw (d, member_verdict)
