-- Floors are kept: every call leaves an interface the mark of its parent, and the values of a floored one not negative. Assumes nothing.
use Rattle.std.specs.Prelude.{None, Option, Some}
use Prim.Native.Nat.{ℕ, zero, suc, ◌<◌}
use mathlib.Core.Path.{◌≡◌, refl, sym, ◌∙◌, ap}
use mathlib.Core.Logic.{◌≢◌, ◌⊎◌, inl, inr}
use mathlib.Core.Bool.{true, true≢false}
use mathlib.Core.List.{List}
use native.Mathlib.Omega.{arith}
use native.Mathlib.Decide.{ℕ_discrete, dec_lt}
use lib.ListN.{get_or}
use lib.IntN.{ℤ, pos, ◌+ℤ◌, +ℤ_idr}
use lib.Signed.{le_z}
use Rattle.ledger_spec.specs.Bench.{Node, Marks, Marking, Interface, Bench, set_up}
use Rattle.ledger_spec.specs.Look.{interface, slot_of, climb, top}
use Rattle.ledger_spec.specs.Tests.{is_some, floored}
use Rattle.ledger_spec.specs.Deeds.{grow_slot, grow_by, join, wipe, choose}
use Rattle.ledger_spec.specs.Frame.{Frame}
use Rattle.ledger_spec.specs.Sound.{afloat}
use Rattle.ledger_spec.specs.Facts.{Floors}
use Rattle.ledger_spec.proofs.Ints.{abs_zero}
use Rattle.ledger_spec.proofs.Knit.{none_some, some_eq}
use Rattle.ledger_spec.proofs.Tops.{climb_none, climb_some, top_parent}
use Rattle.ledger_spec.proofs.Passed.{Fusable}
use Rattle.ledger_spec.proofs.Accepted.{MarkPassed, GrowPassed}
use Rattle.ledger_spec.proofs.Readings.{slot_out}
use Rattle.ledger_spec.proofs.TreeReadings.{joins, grow_parent, grow_marks, grow_at, grow_off, join_slots, join_kept, join_l, join_r, join_p, join_rest, wipe_under, wipe_else, choose_field, choose_else}
use Rattle.ledger_laws.proofs.Linked.{all_fresh}
use Rattle.ledger_laws.proofs.Stems.{Stem, New, Came}
use Rattle.ledger_laws.proofs.Sewn.{choose_slot, opened_empty}
use Rattle.ledger_laws.proofs.Sinks.{grown_afloat}

-- all of a tree bear the mark of its top
climb_level : (b : Bench) → Floors b → (k w : ℕ) → floored b w ≡ floored b (climb k b w)
unfolding climb
climb_level b L zero w = refl
climb_level b L (suc k) w = go (interface b w).parent refl (climb_level b L k)
  where
    go : (q : Option ℕ) → (interface b w).parent ≡ q → ((v : ℕ) → floored b v ≡ floored b (climb k b v)) → floored b w ≡ floored b (climb (suc k) b w)
    go None e ih = ap (floored b) (sym (climb_none (suc k) b w e))
    go (Some p) e ih = L.level w p e ∙ ih p ∙ ap (floored b) (sym (climb_some k b w p e))

pub level_top : (b : Bench) → Floors b → (w : ℕ) → floored b w ≡ floored b (top b w)
level_top b L w = climb_level b L 8 w

-- ---- calls that move no value
module _ (b b' : Bench) (parents : (w : ℕ) → (interface b' w).parent ≡ (interface b w).parent) (marks : (w : ℕ) → (interface b' w).marks ≡ (interface b w).marks) (came : Came b b' (λ u. 0)) where
  abbrev same_mark : (w : ℕ) → floored b' w ≡ floored b w
  same_mark w = ap (λ (m : Marks). m.floored) (marks w)

  pub still_floors : Floors b → Floors b'
  still_floors L = record {
    level = λ u p e. same_mark u ∙ L.level u p (sym (parents u) ∙ e) ∙ sym (same_mark p);
    values = λ u s e. at u s (sym (same_mark u) ∙ e) (slot_of b' u s) refl;
  }
    where
      stem : (u s : ℕ) (x : Node) → floored b u ≡ true → Stem b 0 u s x ⊎ New b b' u s x → le_z (pos 0) x.value ≡ true
      stem u s x e (inl t) = ap (le_z (pos 0)) (t.value ∙ ap (λ (z : ℤ). t.node.value +ℤ z) (abs_zero t.move (omega (arith, t.small))) ∙ +ℤ_idr t.node.value) ∙ ap afloat (sym t.stood) ∙ L.values u s e
      stem u s x e (inr t) = ap (le_z (pos 0)) t.value

      at : (u s : ℕ) → floored b u ≡ true → (o : Option Node) → slot_of b' u s ≡ o → afloat (slot_of b' u s) ≡ true
      at u s e None k = ap afloat k
      at u s e (Some x) k = ap afloat k ∙ stem u s x e (came u s x k)

grown_bare : (l : ℤ) (o : Option Node) → o ≡ None → afloat (grow_slot l o) ≡ true
unfolding grow_slot
grown_bare l None k = refl
grown_bare l (Some n) k = absurd (none_some k refl)

-- ---- growing: a shrinking node has at least the length
pub grow_floors : (b : Bench) → Frame b → Floors b → (u : ℕ) (l : ℤ) → GrowPassed b u l → Floors (grow_by b u l)
grow_floors b F L u l P = record {
  level = λ w p e. same_mark w ∙ L.level w p (sym (grow_parent b u l w) ∙ e) ∙ sym (same_mark p);
  values = λ w s e. at w s (sym (same_mark w) ∙ e) (ℕ_discrete (top b w) u) (dec_lt w 8);
}
  where
    same_mark : (w : ℕ) → floored (grow_by b u l) w ≡ floored b w
    same_mark w = ap (λ (m : Marks). m.floored) (grow_marks b u l w)

    at : (w s : ℕ) → floored b w ≡ true → Dec (top b w ≡ u) → Dec (w < 8) → afloat (slot_of (grow_by b u l) w s) ≡ true
    at w s e (yes t) (yes h) = ap afloat (grow_at b u l w s t) ∙ grown_afloat l (slot_of b w s) P.forward (L.values w s e) (P.above (ap (floored b) (sym t) ∙ sym (level_top b L w) ∙ e) w s h t)
    at w s e (yes t) (no h) = ap afloat (grow_at b u l w s t) ∙ grown_bare l (slot_of b w s) (slot_out b w s (omega (arith, h, F.eight)))
    at w s e (no t) h = ap afloat (grow_off b u l w s t) ∙ L.values w s e

-- ---- fusing: the parent takes the mark that its halves have both
pub fuse_floors : (b : Bench) → Frame b → Floors b → (p l r : ℕ) → Fusable b p l r → Floors (join b p l r)
fuse_floors b F L p l r f = record { level = level; values = λ w s e. at w s e (ℕ_discrete w p) }
  where
    j : Bench
    j = join b p l r

    same_mark : (w : ℕ) → w ≢ p → floored j w ≡ floored b w
    same_mark = join_kept b p l r (joins F f) (λ g. g.marks.floored) (λ g q. refl)

    mark_p : floored j p ≡ floored b l
    mark_p = ap (λ (g : Interface). g.marks.floored) (join_p b p l r (joins F f))

    half : (w : ℕ) → floored b w ≡ floored b l → w ≢ p → (q : ℕ) → (interface j w).parent ≡ Some p → (interface j w).parent ≡ Some q → floored j w ≡ floored j q
    half w x y q e e' = same_mark w y ∙ x ∙ sym mark_p ∙ ap (floored j) (some_eq e e')

    slots : (w s : ℕ) → slot_of j w s ≡ slot_of b w s
    slots w s = ap (λ (x : List (Option Node)). get_or x s None) (join_slots b p l r (joins F f) w)

    level : (w q : ℕ) → (interface j w).parent ≡ Some q → floored j w ≡ floored j q
    level w q e = go (ℕ_discrete w l) (ℕ_discrete w r)
      where
        go : Dec (w ≡ l) → Dec (w ≡ r) → floored j w ≡ floored j q
        go (yes x) y = half w (ap (floored b) x) (λ z. omega (arith, x, z, f.l<p)) q (ap (λ (m : ℕ). (interface j m).parent) x ∙ join_l b p l r (joins F f)) e
        go (no x) (yes y) = half w (ap (floored b) y ∙ sym f.alike) (λ z. omega (arith, y, z, f.r<p)) q (ap (λ (m : ℕ). (interface j m).parent) y ∙ join_r b p l r (joins F f)) e
        go (no x) (no y) = same_mark w w≢p ∙ L.level w q old ∙ sym (same_mark q q≢p)
          where
            old : (interface b w).parent ≡ Some q
            old = sym (join_rest b p l r (joins F f) f.p_none w x y) ∙ e

            w≢p : w ≢ p
            w≢p z = none_some f.p_none (ap (λ (m : ℕ). (interface b m).parent) (sym z) ∙ old)

            q≢p : q ≢ p
            q≢p z = true≢false (sym (F.linked w q old) ∙ ap (λ (m : ℕ). is_some (interface b m).halves) z ∙ f.no_halves)

    at : (w s : ℕ) → floored j w ≡ true → Dec (w ≡ p) → afloat (slot_of j w s) ≡ true
    at w s e (yes x) = ap afloat (slots w s ∙ ap (λ (y : List (Option Node)). get_or y s None) (ap (λ (m : ℕ). (interface b m).slots) x ∙ f.no_slots))
    at w s e (no x) = ap afloat (slots w s) ∙ L.values w s (sym (same_mark w x) ∙ e)

-- ---- clearing: no mark is left
pub clear_floors : (b : Bench) → Frame b → Floors b → (u : ℕ) → Floors (wipe b u)
clear_floors b F L u = record { level = λ w p e. level w p e (ℕ_discrete (top b w) u); values = λ w s e. at w s e (ℕ_discrete (top b w) u) }
  where
    c : Bench
    c = wipe b u

    level : (w p : ℕ) → (interface c w).parent ≡ Some p → Dec (top b w ≡ u) → floored c w ≡ floored c p
    level w p e (yes t) = absurd (none_some (ap (λ (f : Interface). f.parent) (wipe_under b u w t)) e)
    level w p e (no t) = ap (λ (f : Interface). f.marks.floored) (wipe_else b u w t) ∙ L.level w p old ∙ sym (ap (λ (f : Interface). f.marks.floored) (wipe_else b u p (λ z. t (top_parent b F w p old ∙ z))))
      where
        old : (interface b w).parent ≡ Some p
        old = sym (ap (λ (f : Interface). f.parent) (wipe_else b u w t)) ∙ e

    at : (w s : ℕ) → floored c w ≡ true → Dec (top b w ≡ u) → afloat (slot_of c w s) ≡ true
    at w s e (yes t) = ap (λ (f : Interface). afloat (get_or f.slots s None)) (wipe_under b u w t)
    at w s e (no t) = ap (λ (f : Interface). afloat (get_or f.slots s None)) (wipe_else b u w t) ∙ L.values w s (sym (ap (λ (f : Interface). f.marks.floored) (wipe_else b u w t)) ∙ e)

-- ---- marking: an interface without a parent, children or slots
pub choose_floors : (b : Bench) → Frame b → Floors b → (u : ℕ) (k : Marking) → MarkPassed b u → Floors (choose b u k)
choose_floors b F L u k P = record {
  level = λ w p e. level w p (sym (parents w) ∙ e);
  values = λ w s e. ap afloat (choose_slot b u k w s) ∙ at w s e (ℕ_discrete w u);
}
  where
    parents : (w : ℕ) → (interface (choose b u k) w).parent ≡ (interface b w).parent
    parents = choose_field b u k (λ f. f.parent) (λ f m. refl)

    same_mark : (w : ℕ) → w ≢ u → floored (choose b u k) w ≡ floored b w
    same_mark w q = ap (λ (f : Interface). f.marks.floored) (choose_else b u k w q)

    level : (w p : ℕ) → (interface b w).parent ≡ Some p → floored (choose b u k) w ≡ floored (choose b u k) p
    level w p e = same_mark w (λ z. none_some P.here.free (ap (λ (m : ℕ). (interface b m).parent) (sym z) ∙ e)) ∙ L.level w p e
        ∙ sym (same_mark p (λ z. true≢false (sym (F.linked w p e) ∙ ap (λ (m : ℕ). is_some (interface b m).halves) z ∙ P.no_halves)))

    at : (w s : ℕ) → floored (choose b u k) w ≡ true → Dec (w ≡ u) → afloat (slot_of b w s) ≡ true
    at w s e (yes x) = ap afloat (ap (λ (y : List (Option Node)). get_or y s None) (ap (λ (m : ℕ). (interface b m).slots) x ∙ P.no_slots))
    at w s e (no x) = L.values w s (sym (same_mark w x) ∙ e)

-- ---- set-up
pub opened_floors : (n : ℕ) → Floors (set_up n)
opened_floors n = record {
  level = λ u p e. absurd (none_some (ap (λ (f : Interface). f.parent) (all_fresh 8 u)) e);
  values = λ u s e. ap afloat (opened_empty n u s);
}
