-- A call leaves every interface of the trees that it does not name as it was, whole, whether it is accepted or not: each step changes a slot's own
-- interface and the top of its tree, and nothing else. Assumes nothing.
use Rattle.std.specs.Prelude.{None, Option, Some}
use Prim.Native.Nat.{ℕ, zero, suc, ◌<◌}
use mathlib.Core.Path.{◌≡◌, refl, sym, ◌∙◌, ap, subst}
use mathlib.Core.Logic.{◌≢◌}
use mathlib.Core.Bool.{false}
use mathlib.Core.List.{List, [], ◌∷◌}
use native.Mathlib.Omega.{arith}
use native.Mathlib.Decide.{dec_lt}
use borrow.Author.Tests.{ne_eqb}
use lib.ListN.{length, get_or-eq_default}
use lib.IntN.{ℤ}
use Rattle.ledger_spec.specs.Bench.{Handle, State, stays, grows, Interface, Bench, fresh}
use Rattle.ledger_spec.specs.Look.{interface, free_slot, slot_of, node_named, climb, top}
use Rattle.ledger_spec.specs.Change.{place, mark, mark_all}
use Rattle.ledger_spec.specs.Tests.{first}
use Rattle.ledger_spec.specs.Deeds.{new_handle, members, add_defect, add_blossom, remove_blossom, grow_by, join, wipe}
use Rattle.ledger_spec.specs.Calls.{Call, Defect, Blossom, Expand, SetState, Grow, Fuse, Clear, Mark}
use Rattle.ledger_spec.specs.Answers.{answer}
use Rattle.ledger_spec.specs.Frame.{Frame}
use Rattle.ledger_spec.specs.Knit.{mk, In, here, there, Down}
use Rattle.ledger_spec.specs.Facts.{Sound}
use Rattle.ledger_spec.proofs.Tops.{climb_none, climb_some, top_parent}
use Rattle.ledger_spec.proofs.Passed.{Open, Fusable, fusable}
use Rattle.ledger_spec.proofs.Accepted.{DefectPassed, defect_passed, BlossomPassed, blossom_passed, ExpandPassed, expand_passed, StatePassed, state_passed, grow_passed, mark_passed}
use Rattle.ledger_spec.proofs.Says.{says}
use Rattle.ledger_spec.proofs.Readings.{place_aside, mark_aside, push_aside}
use Rattle.ledger_spec.proofs.DeedReadings.{defect_node, defect_is, blossom_node, blossom_is, expand_is}
use Rattle.ledger_spec.proofs.TreeReadings.{joins, grow_length, grow_interface, join_else, wipe_else, choose_else}
use Rattle.ledger_laws.proofs.Quiet.{quiet_top, mark_quiet, place_quiet}
use Rattle.ledger_laws.proofs.Answered.{tests_of, deed_of, zero_sound, zero_tests, zero_bench, refused_bench}

-- the interfaces that a call names
abbrev pub named_by : Call → List ℕ
named_by (Defect u v) = u ∷ []
named_by (Blossom u hs ts) = u ∷ []
named_by (Expand u h) = u ∷ []
named_by (SetState u h s) = u ∷ []
named_by (Grow u l) = u ∷ []
named_by (Fuse p l r) = p ∷ l ∷ r ∷ []
named_by (Clear u) = u ∷ []
named_by (Mark u k) = u ∷ []

-- an interface of another tree is neither a slot's of this one nor its top
apart : (b : Bench) (u v w : ℕ) → (interface b u).parent ≡ None → top b v ≡ u → top b w ≢ u → (w ≢ v) × (w ≢ top b v)
apart b u v w free e q = (λ f. q (ap (top b) f ∙ e), λ f. q (ap (top b) (f ∙ e) ∙ climb_none 8 b u free))

pub mark_all_aside : (s : State) (p : Option Handle) (b : Bench) (hs : List Handle) (w : ℕ) → ((h : Handle) → In h hs → (w ≢ h.unit) × (w ≢ top b h.unit)) → interface (mark_all b hs s p) w ≡ interface b w
unfolding mark_all
mark_all_aside s p b [] w off = refl
mark_all_aside s p b (h ∷ hs) w off = mark_all_aside s p (mark b h s p) hs w (λ g i. ((off g (there i)).0, λ e. (off g (there i)).1 (e ∙ quiet_top b (mark b h s p) (mark_quiet b h s p) g.unit)))
    ∙ mark_aside b h s p w (off h (here refl)).0 (off h (here refl)).1

module _ (b : Bench) (S : Sound b) (u w : ℕ) (other : top b w ≢ u) where
  own : (interface b u).parent ≡ None → w ≢ u
  own free e = other (ap (top b) e ∙ climb_none 8 b u free)

  pub defect_untouched : (v : ℕ) → DefectPassed b u → interface (add_defect b u v) w ≡ interface b w
  defect_untouched v P = ap (λ (c : Bench). interface c w) (defect_is b u v) ∙ push_aside b u (free_slot b u) (defect_node b v) w (own P.here.free)

  pub blossom_untouched : (hs : List Handle) (ts : List (Handle × Handle)) → BlossomPassed b u hs ts → interface (add_blossom b u hs ts) w ≡ interface b w
  blossom_untouched hs ts P = ap (λ (c : Bench). interface c w) (blossom_is b u hs ts)
      ∙ push_aside (mark_all b hs stays (Some (new_handle b u))) u (free_slot b u) (blossom_node b hs ts) w (own P.here.free)
      ∙ mark_all_aside stays (Some (new_handle b u)) b hs w (λ h i. apart b u h.unit w P.here.free (P.member h i).near other)

  pub expand_untouched : (h : Handle) → ExpandPassed b u h → interface (remove_blossom b h) w ≡ interface b w
  expand_untouched h P = ap (λ (c : Bench). interface c w) (expand_is b h)
      ∙ mark_all_aside grows None (place b h.unit h.slot None) (members (node_named b h)) w (λ g i. off g i)
      ∙ place_aside b h.unit h.slot None w (at h.unit P.named.near).0 (at h.unit P.named.near).1
    where
      at : (v : ℕ) → top b v ≡ u → (w ≢ v) × (w ≢ top b v)
      at v e = apart b u v w P.here.free e other

      near : (g : Handle) → In g (members (node_named b h)) → top b g.unit ≡ u
      near g i = (S.sewn.knit.up g.unit g.slot D.node (mk h.unit h.slot P.named.node) D.has.stands D.parent).near ∙ P.named.near
        where
          D : Down (slot_of b) g (mk h.unit h.slot P.named.node)
          D = S.sewn.knit.down h.unit h.slot P.named.node P.ms g P.named.has.stands P.ring (subst (In g) P.circle i)

      off : (g : Handle) → In g (members (node_named b h)) → (w ≢ g.unit) × (w ≢ top (place b h.unit h.slot None) g.unit)
      off g i = let a = at g.unit (near g i) in (a.0, λ e. a.1 (e ∙ quiet_top b (place b h.unit h.slot None) (place_quiet b h.unit h.slot None) g.unit))

  pub state_untouched : (h : Handle) (s : State) → StatePassed b u h → interface (mark b h s None) w ≡ interface b w
  state_untouched h s P = let a = apart b u h.unit w P.here.free P.named.near other in mark_aside b h s None w a.0 a.1

  pub grow_untouched : (l : ℤ) → Open b u → interface (grow_by b u l) w ≡ interface b w
  grow_untouched l o = go (dec_lt w (length b.interfaces))
    where
      go : Dec (w < length b.interfaces) → interface (grow_by b u l) w ≡ interface b w
      go (yes h) = grow_interface b u l w h false false (ne_eqb (top b w) u other) (ne_eqb w u (own o.free))
      go (no h) = get_or-eq_default (grow_by b u l).interfaces fresh (omega (arith, h, grow_length b u l)) ∙ sym (get_or-eq_default b.interfaces fresh (omega arith))

  pub clear_untouched : interface (wipe b u) w ≡ interface b w
  clear_untouched = wipe_else b u w other

pub fuse_untouched : (b : Bench) → Sound b → (p l r w : ℕ) → Fusable b p l r → top b w ≢ p → top b w ≢ l → top b w ≢ r → interface (join b p l r) w ≡ interface b w
fuse_untouched b S p l r w f x y z = join_else b p l r (joins S.frame f) w (own b S p w x f.p_none) (own b S l w y f.l_none) (own b S r w z f.r_none)

-- ---- every call, every answer
deed_untouched : (b : Bench) → Sound b → (c : Call) → first (tests_of b c) ≡ 0 → (w : ℕ) → (In (top b w) (named_by c) → ⊥) → interface (deed_of b c) w ≡ interface b w
unfolding tests_of deed_of
deed_untouched b S (Defect u v) e w q = defect_untouched b S u w (λ f. q (here f)) v (defect_passed b u e)
deed_untouched b S (Blossom u hs ts) e w q = blossom_untouched b S u w (λ f. q (here f)) hs ts (blossom_passed b u hs ts e)
deed_untouched b S (Expand u h) e w q = expand_untouched b S u w (λ f. q (here f)) h (expand_passed b u h e)
deed_untouched b S (SetState u h s) e w q = state_untouched b S u w (λ f. q (here f)) h s (state_passed b u h e)
deed_untouched b S (Grow u l) e w q = grow_untouched b S u w (λ f. q (here f)) l (grow_passed b u l e).here
deed_untouched b S (Fuse p l r) e w q = fuse_untouched b S p l r w (fusable b p l r e) (λ f. q (here f)) (λ f. q (there (here f))) (λ f. q (there (there (here f))))
deed_untouched b S (Clear u) e w q = clear_untouched b S u w (λ f. q (here f))
deed_untouched b S (Mark u k) e w q = choose_else b u k w (own b S u w (λ f. q (here f)) (mark_passed b u e).here.free)

-- an interface whose tree the call does not name is as it was
pub untouched : (b : Bench) (c : Call) (w : ℕ) → (In (top b w) (named_by c) → ⊥) → interface (answer b c).bench w ≡ interface b w
untouched b c w q = go (answer b c).number refl
  where
    go : (n : ℕ) → (answer b c).number ≡ n → interface (answer b c).bench w ≡ interface b w
    go zero e = ap (λ (d : Bench). interface d w) (zero_bench b c e) ∙ deed_untouched b (says b (zero_sound b c e)) c (zero_tests b c e) w q
    go (suc n) e = ap (λ (d : Bench). interface d w) (refused_bench b c (λ z. omega (arith, e, z)))

-- and so its tree has the same top
climb_untouched : (b b' : Bench) → Frame b → (ns : List ℕ) → ((w : ℕ) → (In (top b w) ns → ⊥) → interface b' w ≡ interface b w) → (k w : ℕ) → (In (top b w) ns → ⊥) → climb k b' w ≡ climb k b w
unfolding climb
climb_untouched b b' F ns same zero w q = refl
climb_untouched b b' F ns same (suc k) w q = go (interface b w).parent refl (climb_untouched b b' F ns same k)
  where
    now : (interface b' w).parent ≡ (interface b w).parent
    now = ap (λ (f : Interface). f.parent) (same w q)

    go : (o : Option ℕ) → (interface b w).parent ≡ o → ((w : ℕ) → (In (top b w) ns → ⊥) → climb k b' w ≡ climb k b w) → climb (suc k) b' w ≡ climb (suc k) b w
    go None e ih = climb_none (suc k) b' w (now ∙ e) ∙ sym (climb_none (suc k) b w e)
    go (Some p) e ih = climb_some k b' w p (now ∙ e) ∙ ih p (λ i. q (subst (λ (t : ℕ). In t ns) (sym (top_parent b F w p e)) i)) ∙ sym (climb_some k b w p e)

pub untouched_top : (b : Bench) (c : Call) (w : ℕ) → (In (top b w) (named_by c) → ⊥) → top (answer b c).bench w ≡ top b w
untouched_top b c w q = go (answer b c).number refl
  where
    go : (n : ℕ) → (answer b c).number ≡ n → top (answer b c).bench w ≡ top b w
    go zero e = climb_untouched b (answer b c).bench (says b (zero_sound b c e)).frame (named_by c) (untouched b c) 8 w q
    go (suc n) e = ap (λ (d : Bench). top d w) (refused_bench b c (λ z. omega (arith, e, z)))
