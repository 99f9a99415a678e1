-- A sound bench passes the test `sound`: each fact makes its part of the test hold. With `Says`, test and facts are one. Assumes nothing.
use Rattle.std.specs.Prelude.{None, Option, Some}
use Prim.Native.Nat.{ℕ, suc, ◌*◌, ◌≤◌, ◌<◌, ◌^◌}
use mathlib.Core.Path.{◌≡◌, refl, sym, ◌∙◌, ap, subst}
use mathlib.Core.Logic.{◌⊎◌, inl, inr}
use mathlib.Core.Bool.{Bool, true, false, not, ◌&&◌, ◌||◌, true≢false, or-true}
use mathlib.Core.List.{List}
use native.Mathlib.Omega.{arith}
use lib.Dec.{eqb}
use borrow.Author.Tests.{le-leb, lt-ltb, eq-eqb, ne_eqb}
use lib.ListN.{length}
use lib.IntN.{ℤ, pos, negsuc, nat_abs, ◌-ℤ◌, pos-ne-negsuc}
use lib.Signed.{le_z}
use Rattle.ledger_spec.specs.Bench.{Handle, Member, Class, defect, blossom, Node, Bench}
use Rattle.ledger_spec.specs.Look.{interface, slot_of, node_named, top, tree, same_handle}
use Rattle.ledger_spec.specs.Tests.{is_some, floored}
use Rattle.ledger_spec.specs.Deeds.{sizes, members}
use Rattle.ledger_spec.specs.Reads.{slots_of}
use Rattle.ledger_spec.specs.SoundTree.{all, units, tally, is_parent, is_half, links_up, links_down, sound_interface}
use Rattle.ledger_spec.specs.Sound.{is_stay, same_parent, sound_touch, sound_class, sound_parent, sound_slot, rates, sound_top, afloat, sound_floor, sound_plain, sound}
use Rattle.ledger_spec.specs.Account.{rates_in}
use Rattle.ledger_spec.specs.Knit.{mk, nodes, In, Up, Down}
use Rattle.ledger_spec.specs.Facts.{W, Touching, Circle, Sound}
use Rattle.ledger_spec.proofs.Ints.{diff_zero}
use Rattle.ledger_spec.proofs.Lists.{both_true, all_of, in_map, slots_all}
use Rattle.ledger_spec.proofs.Knit.{same_self}
use Rattle.ledger_spec.proofs.Tops.{climb_none}
use Rattle.ledger_spec.proofs.Trees.{tree_sum_lem, gather_rates}
use Rattle.ledger_spec.proofs.Passed.{has_node}
use Rattle.ledger_spec.proofs.Accepted.{members_of}
use Rattle.ledger_spec.proofs.Gathered.{units_in, Slot, in_gather, in_tree}
use Rattle.ledger_spec.proofs.Serials.{all_different}
use Rattle.ledger_spec.proofs.SoundParts.{up_none, up_open, down_none, down_open, top_some, top_open, parent_none, parent_open, floor_of}

-- ---- an interface
ahead : (z : ℤ) (m : ℕ) → z ≡ pos (nat_abs z) → nat_abs z ≤ m → (le_z (pos 0) z && le_z z (pos m)) ≡ true
ahead (pos n) m h k = both_true (le-leb 0 n (omega arith)) (le-leb n m k)
ahead (negsuc n) m h k = absurd (pos-ne-negsuc (suc n) n (sym h))

is_parent_lem : (q : Option ℕ) (u : ℕ) → q ≡ Some u → is_parent q u ≡ true
is_parent_lem q u e = ap (λ (o : Option ℕ). is_parent o u) e ∙ eq-eqb u u refl

module _ (b : Bench) (S : Sound b) where
  half_holds : (u p : ℕ) → (interface b u).parent ≡ Some p → is_half (interface b p).halves u ≡ true
  half_holds u p e = go (interface b p).halves refl (S.frame.linked u p e)
    where
      either : (l r : ℕ) → (u ≡ l) ⊎ (u ≡ r) → (eqb l u || eqb r u) ≡ true
      either l r (inl x) = ap (λ (c : Bool). c || eqb r u) (eq-eqb l u (sym x))
      either l r (inr x) = ap (λ (c : Bool). eqb l u || c) (eq-eqb r u (sym x)) ∙ or-true (eqb l u)

      go : (q : Option (ℕ × ℕ)) → (interface b p).halves ≡ q → is_some (interface b p).halves ≡ true → is_half (interface b p).halves u ≡ true
      go None f g = absurd (true≢false (sym g ∙ ap is_some f))
      go (Some lr) f g = ap (λ (o : Option (ℕ × ℕ)). is_half o u) f ∙ either lr.0 lr.1 (S.frame.up u p lr.0 lr.1 e f)

  up_holds : (u : ℕ) → links_up b u ≡ true
  up_holds u = go (interface b u).parent refl
    where
      go : (q : Option ℕ) → (interface b u).parent ≡ q → links_up b u ≡ true
      go None e = up_none b u e
      go (Some p) e = let r : (u < p) × (p < 8) = S.frame.rising u p e in
          up_open b u p e ∙ both_true (lt-ltb u p r.0) (both_true (le-leb p 7 (omega arith)) (half_holds u p e))

  down_holds : (u : ℕ) → links_down b u ≡ true
  down_holds u = go (interface b u).halves refl
    where
      go : (q : Option (ℕ × ℕ)) → (interface b u).halves ≡ q → links_down b u ≡ true
      go None e = down_none b u e
      go (Some lr) e = down_open b u lr e
          ∙ both_true (both_true (ap not (ne_eqb lr.0 lr.1 (S.frame.apart u lr.0 lr.1 e))) (both_true (lt-ltb lr.0 u (S.frame.rising lr.0 u left).0) (lt-ltb lr.1 u (S.frame.rising lr.1 u right).0)))
          (both_true (is_parent_lem (interface b lr.0).parent u left) (is_parent_lem (interface b lr.1).parent u right))
        where
          left : (interface b lr.0).parent ≡ Some u
          left = S.frame.left u lr.0 lr.1 e

          right : (interface b lr.1).parent ≡ Some u
          right = S.frame.right u lr.0 lr.1 e

  interface_holds : (u : ℕ) → sound_interface b u ≡ true
  unfolding sound_interface
  interface_holds u = both_true (both_true (le-leb (length (interface b u).slots) 64 (S.few u)) (ahead (interface b u).progress (2 ^ 40) (S.forward u) (S.limit u))) (both_true (up_holds u) (down_holds u))

  -- ---- a node
  parent_holds : (u s : ℕ) (n : Node) → slot_of b u s ≡ Some n → sound_parent b (mk u s n) n ≡ true
  parent_holds u s n e = go n.parent refl
    where
      go : (q : Option Handle) → n.parent ≡ q → sound_parent b (mk u s n) n ≡ true
      go None f = parent_none b (mk u s n) n f
      go (Some q) f = parent_open b (mk u s n) q n f
          ∙ both_true (both_true (both_true (ap is_stay U.still) (lt-ltb n.serial q.serial U.older)) (eq-eqb (top b q.unit) (top b u) (sym U.near)))
          (eq-eqb (tally (same_handle (mk u s n)) (members (node_named b q))) 1 (ap (tally (same_handle (mk u s n))) (members_of b q U.over (has_node b q U.over U.has) U.ms U.ring) ∙ U.once))
        where
          U : Up (slot_of b) (top b) u s n q
          U = S.sewn.knit.up u s n q e f

  child_holds : (n : Node) (h : Handle) → n.parent ≡ Some h → same_parent (Some n) h ≡ true
  child_holds n h e = ap test e ∙ same_self h
    where
      test : Option Handle → Bool
      test q = elim q [ None ↦ false | Some q ↦ same_handle q h ]

  touch_holds : (t : Handle) → Touching b t → sound_touch b t ≡ true
  touch_holds t T = both_true (both_true (le-leb t.unit 7 T.unit) (le-leb t.slot 63 T.slot)) (lt-ltb t.serial b.next T.serial)

  ring_holds : (u s : ℕ) (n : Node) (ms : List Member) → slot_of b u s ≡ Some n → n.class ≡ blossom ms → sound_class b (mk u s n) (blossom ms) n.size ≡ true
  unfolding sound_class
  ring_holds u s n ms e r = both_true (both_true (both_true (le-leb 1 (length ms) C.least) (le-leb (length ms) 64 C.most)) (eq-eqb n.size (sizes b (nodes ms)) C.size))
      (all_of (λ (m : Member). same_parent (node_named b m.node) (mk u s n) && (sound_touch b m.touch.0 && sound_touch b m.touch.1)) ms member)
    where
      C : Circle b n ms
      C = (S.rings u s n e).circle ms r

      member : (m : Member) → In m ms → (same_parent (node_named b m.node) (mk u s n) && (sound_touch b m.touch.0 && sound_touch b m.touch.1)) ≡ true
      member m i = both_true (ap (λ (o : Option Node). same_parent o (mk u s n)) (has_node b m.node D.node D.has) ∙ child_holds D.node (mk u s n) D.parent)
          (both_true (touch_holds m.touch.0 (C.touching m i).0) (touch_holds m.touch.1 (C.touching m i).1))
        where
          D : Down (slot_of b) m.node (mk u s n)
          D = S.sewn.knit.down u s n ms m.node e r (in_map (λ (m : Member). m.node) i)

  class_holds : (u s : ℕ) (n : Node) → slot_of b u s ≡ Some n → sound_class b (mk u s n) n.class n.size ≡ true
  unfolding sound_class
  class_holds u s n e = go n.class refl
    where
      go : (c : Class) → n.class ≡ c → sound_class b (mk u s n) n.class n.size ≡ true
      go (defect v) r = ap (λ (c : Class). sound_class b (mk u s n) c n.size) r ∙ eq-eqb n.size 1 ((S.rings u s n e).single v r)
      go (blossom ms) r = ap (λ (c : Class). sound_class b (mk u s n) c n.size) r ∙ ring_holds u s n ms e r

  slot_holds : (u s : ℕ) (o : Option Node) → slot_of b u s ≡ o → sound_slot b (W b (top b u)) (u, s, o) ≡ true
  unfolding sound_slot
  slot_holds u s None e = refl
  slot_holds u s (Some n) e = let l = S.sewn.knit.low u s n e in
      both_true (both_true (both_true (le-leb 1 n.serial l.0) (lt-ltb n.serial b.next l.1)) (le-leb (nat_abs n.value) (W b (top b u)) (S.values u s n e))) (both_true (parent_holds u s n e) (class_holds u s n e))

  -- ---- a top
  entry_holds : (i : ℕ) → i < 8 → (interface b i).parent ≡ None → (t : ℕ × ℕ × Option Node) → In t (slots_of b i) → sound_slot b (W b i) t ≡ true
  entry_holds i h free t j = subst (λ (w : ℕ). sound_slot b (W b w) (t.0, t.1, t.2) ≡ true) ((in_tree b S.frame 8 i t.0 h G.unit).1 ∙ climb_none 8 b i free) (slot_holds t.0 t.1 t.2 (sym G.holds))
    where
      G : Slot b (tree 8 b i) t
      G = in_gather b (tree 8 b i) t j

  top_holds : (i : ℕ) → i < 8 → sound_top b i ≡ true
  top_holds i h = go (interface b i).parent refl
    where
      go : (q : Option ℕ) → (interface b i).parent ≡ q → sound_top b i ≡ true
      go (Some p) e = top_some b i p e
      go None e = top_open b i e ∙ both_true (all_of (sound_slot b (W b i)) (slots_of b i) (entry_holds i h e)) (both_true (le-leb (nat_abs (interface b i).sum) (512 * W b i) (S.sums i h e))
          (eq-eqb (nat_abs ((interface b i).speed -ℤ rates (slots_of b i))) 0 (diff_zero (interface b i).speed (rates (slots_of b i)) (S.speeds i h e ∙ sym (gather_rates b (tree 8 b i) ∙ tree_sum_lem b S.frame (rates_in b) i h e)))))

  floor_holds : (u : ℕ) → sound_floor b u ≡ true
  floor_holds u = floor_of b u (S.floors.level u) (go (floored b u) refl)
    where
      go : (c : Bool) → floored b u ≡ c → (not (floored b u) || all afloat (interface b u).slots) ≡ true
      go true e = ap (λ (c : Bool). not c || all afloat (interface b u).slots) e ∙ slots_all afloat (interface b u).slots (λ s. S.floors.values u s e)
      go false e = ap (λ (c : Bool). not c || all afloat (interface b u).slots) e

  plain_holds : sound_plain b ≡ true
  unfolding sound_plain
  plain_holds = both_true (both_true (both_true (le-leb 1 b.next S.sewn.begun) (le-leb b.next (2 ^ 32) S.worn)) (eq-eqb (length b.interfaces) 8 S.frame.eight))
      (both_true (both_true (all_of (sound_interface b) units (λ u i. interface_holds u)) (all_of (sound_top b) units (λ u i. top_holds u (units_in u i)))) (all_different b S.sewn.knit.one))

  pub holds : sound b ≡ true
  unfolding sound
  holds = both_true plain_holds (all_of (sound_floor b) units (λ u i. floor_holds u))
