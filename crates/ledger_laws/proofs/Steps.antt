-- The check's definitions a step at a time, by what a slot and a member turn out to be. Assumes nothing.
use Rattle.std.specs.Prelude.{None, Some}
use Prim.Native.Nat.{ℕ, suc}
use mathlib.Core.Path.{◌≡◌, refl}
use mathlib.Core.Bool.{Bool, true, false, ◌&&◌, ◌||◌}
use mathlib.Core.List.{List, [], ◌∷◌}
use lib.Dec.{eqb}
use lib.IntN.{pos, ◌+ℤ◌}
use Rattle.ledger_spec.specs.Bench.{Handle, Member, defect, blossom, Node, Bench}
use Rattle.ledger_spec.specs.Look.{node_named, same_handle}
use Rattle.ledger_spec.specs.Change.{worth}
use Rattle.ledger_spec.specs.Tests.{any, stale, is_defect}
use Rattle.ledger_spec.specs.Walk.{outermost}
use Rattle.ledger_spec.specs.Check.{index_in, member_verdict, circle_verdict, finding, total_of, is_under, strict_member, strict_circle, strict_finding}
use Rattle.ledger_laws.specs.Clean.{Entry}

-- ---- a member
module _ (b : Bench) (m : Member) where
  pub member_defect : is_defect (node_named b m.node) ≡ true → (same_handle m.touch.0 m.node && same_handle m.touch.1 m.node) ≡ true → member_verdict b m ≡ 0
  unfolding member_verdict
  member_defect d e = rw (d, e, member_verdict)

  pub member_two : is_defect (node_named b m.node) ≡ true → (same_handle m.touch.0 m.node && same_handle m.touch.1 m.node) ≡ false → member_verdict b m ≡ 2
  unfolding member_verdict
  member_two d e = rw (d, e, member_verdict)

  pub member_four : is_defect (node_named b m.node) ≡ false → (stale b m.touch.0 || stale b m.touch.1) ≡ true → member_verdict b m ≡ 4
  unfolding member_verdict
  member_four d e = rw (d, e, member_verdict)

  abbrev pub near_both : Bool
  near_both = same_handle (outermost b m.touch.0) (outermost b m.node) && same_handle (outermost b m.touch.1) (outermost b m.node)

  pub member_three : is_defect (node_named b m.node) ≡ false → (stale b m.touch.0 || stale b m.touch.1) ≡ false → near_both ≡ false → member_verdict b m ≡ 3
  unfolding member_verdict
  member_three d e f = rw (d, e, f, member_verdict)

  pub member_near : is_defect (node_named b m.node) ≡ false → (stale b m.touch.0 || stale b m.touch.1) ≡ false → near_both ≡ true → member_verdict b m ≡ 0
  unfolding member_verdict
  member_near d e f = rw (d, e, f, member_verdict)

  pub strict_defect : is_defect (node_named b m.node) ≡ true → strict_member b m ≡ true
  unfolding strict_member
  strict_defect d = rw (d, strict_member)

  pub strict_blossom : is_defect (node_named b m.node) ≡ false → strict_member b m ≡ (is_under b m.touch.0 m.node && is_under b m.touch.1 m.node)
  unfolding strict_member
  strict_blossom d = rw (d, strict_member)

-- ---- a circle
module _ (b : Bench) (m : Member) (ms : List Member) where
  pub circle_on : member_verdict b m ≡ 0 → circle_verdict b (m ∷ ms) ≡ circle_verdict b ms
  unfolding circle_verdict
  circle_on e = rw (e, circle_verdict)

  pub circle_bad : (k : ℕ) → member_verdict b m ≡ suc k → circle_verdict b (m ∷ ms) ≡ (suc k, m.node)
  unfolding circle_verdict
  circle_bad k e = rw (e, circle_verdict)

  pub strict_on : strict_member b m ≡ true → strict_circle b (m ∷ ms) ≡ strict_circle b ms
  unfolding strict_circle
  strict_on e = rw (e, strict_circle)

  pub strict_bad : strict_member b m ≡ false → strict_circle b (m ∷ ms) ≡ Some m.node
  unfolding strict_circle
  strict_bad e = rw (e, strict_circle)

-- ---- a slot
module _ (b : Bench) (whole : List Entry) (t : Entry) (ts : List Entry) (seen : List ℕ) (k : ℕ) where
  pub walk_empty : t.2 ≡ None → finding b whole (t ∷ ts) seen k ≡ finding b whole ts seen (suc k)
  unfolding finding
  walk_empty e = rw (e, finding)

  module _ (n : Node) (e : t.2 ≡ Some n) where
    pub walk_again : (v : ℕ) → n.class ≡ defect v → any (eqb v) seen ≡ true → finding b whole (t ∷ ts) seen k ≡ (1, k)
    unfolding finding
    walk_again v c a = rw (e, c, a, finding)

    pub walk_new : (v : ℕ) → n.class ≡ defect v → any (eqb v) seen ≡ false → finding b whole (t ∷ ts) seen k ≡ finding b whole ts (v ∷ seen) (suc k)
    unfolding finding
    walk_new v c a = rw (e, c, a, finding)

    pub walk_ring : (ms : List Member) → n.class ≡ blossom ms → (circle_verdict b ms).0 ≡ 0 → finding b whole (t ∷ ts) seen k ≡ finding b whole ts seen (suc k)
    unfolding finding
    walk_ring ms c z = rw (e, c, z, finding)

    pub walk_bad : (ms : List Member) → n.class ≡ blossom ms → (w : ℕ) → (circle_verdict b ms).0 ≡ suc w → finding b whole (t ∷ ts) seen k ≡ (suc w, index_in whole 0 (circle_verdict b ms).1)
    unfolding finding
    walk_bad ms c w z = rw (e, c, z, finding)

module _ (b : Bench) (whole : List Entry) (t : Entry) (ts : List Entry) where
  pub strict_empty : t.2 ≡ None → strict_finding b whole (t ∷ ts) ≡ strict_finding b whole ts
  unfolding strict_finding
  strict_empty e = rw (e, strict_finding)

  module _ (n : Node) (e : t.2 ≡ Some n) where
    pub strict_vertex : (v : ℕ) → n.class ≡ defect v → strict_finding b whole (t ∷ ts) ≡ strict_finding b whole ts
    unfolding strict_finding
    strict_vertex v c = rw (e, c, strict_finding)

    pub strict_ring : (ms : List Member) → n.class ≡ blossom ms → strict_circle b ms ≡ None → strict_finding b whole (t ∷ ts) ≡ strict_finding b whole ts
    unfolding strict_finding
    strict_ring ms c z = rw (e, c, z, strict_finding)

    pub strict_six : (ms : List Member) → n.class ≡ blossom ms → (h : Handle) → strict_circle b ms ≡ Some h → strict_finding b whole (t ∷ ts) ≡ (6, index_in whole 0 h)
    unfolding strict_finding
    strict_six ms c h z = rw (e, c, z, strict_finding)

pub walk_none : (b : Bench) (whole : List Entry) (seen : List ℕ) (k : ℕ) → finding b whole [] seen k ≡ (0, 0)
unfolding finding
walk_none b whole seen k = refl

pub strict_none : (b : Bench) (whole : List Entry) → strict_finding b whole [] ≡ (0, 0)
unfolding strict_finding
strict_none b whole = refl

pub circle_none : (b : Bench) → (circle_verdict b []).0 ≡ 0
unfolding circle_verdict
circle_none b = refl

pub total_none : total_of [] ≡ pos 0
unfolding total_of
total_none = refl

pub total_more : (t : Entry) (ts : List Entry) → total_of (t ∷ ts) ≡ worth t.2 +ℤ total_of ts
unfolding total_of
total_more t ts = refl
