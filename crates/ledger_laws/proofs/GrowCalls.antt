-- Growths that are accepted: two one after the other as one, one in parts; and what both halves could grow by, the fused tree can. Assumes nothing.
use Rattle.std.specs.Prelude.{None, Option}
use Prim.Native.Nat.{ℕ, ◌+◌, ◌<◌, ◌^◌}
use mathlib.Core.Path.{◌≡◌, refl, sym, ◌∙◌, ap, ap₂}
use mathlib.Core.Bool.{true, false, ◌||◌, true≢false}
use mathlib.Core.List.{List}
use native.Mathlib.Omega.{arith}
use native.Mathlib.Decide.{ℕ_discrete}
use lib.ListN.{get_or}
use borrow.Author.Tests.{le-ltb, ltb-false, lt-leb}
use lib.IntN.{ℤ, pos, negsuc, nat_abs, ◌+ℤ◌, +ℤ_assoc, +ℤ_idl}
use lib.Signed.{lt_z}
use Rattle.ledger_spec.specs.Bench.{Node, Marks, Interface, Bench}
use Rattle.ledger_spec.specs.Look.{interface, slot_of, top}
use Rattle.ledger_spec.specs.Tests.{first, is_some, floored, sinks}
use Rattle.ledger_spec.specs.Refuse.{grow_tests}
use Rattle.ledger_spec.specs.Deeds.{grow_by, join}
use Rattle.ledger_spec.specs.Frame.{Frame}
use Rattle.ledger_spec.proofs.Passed.{failed, Open, Fusable}
use Rattle.ledger_spec.proofs.Accepted.{GrowPassed, unsunk_tests}
use Rattle.ledger_spec.proofs.Tops.{alone}
use Rattle.ledger_spec.proofs.TreeReadings.{grow_parent, grow_halves, grow_marks, grow_top, grow_at, grow_off, grow_progress, grow_progress_else, grow_bare, joins, join_p, join_slots, join_top_else}
use Rattle.ledger_laws.proofs.Paced.{inside}
use Rattle.ledger_laws.proofs.Sinks.{sinks_whole, sinks_parts}

-- ---- numbers: sums that are not negative, and bounds that are not passed
sum_forward : (a c : ℤ) → lt_z a (pos 0) ≡ false → lt_z c (pos 0) ≡ false → lt_z (a +ℤ c) (pos 0) ≡ false
sum_forward (pos x) (pos y) h k = le-ltb (x + y) 0 (omega arith)
sum_forward (pos x) (negsuc y) h k = absurd (true≢false k)
sum_forward (negsuc x) c h k = absurd (true≢false h)

not_past : (m : ℕ) (z c : ℤ) → lt_z c (pos 0) ≡ false → lt_z (pos m) (z +ℤ c) ≡ false → lt_z (pos m) z ≡ false
not_past m (pos x) (pos y) h k = le-ltb m x (omega (arith, ltb-false m (x + y) k))
not_past m (pos x) (negsuc y) h k = absurd (true≢false h)
not_past m (negsuc x) c h k = refl

room : (m : ℕ) (z a : ℤ) → z ≡ pos (nat_abs z) → lt_z (pos m) (z +ℤ a) ≡ false → lt_z (pos m) a ≡ false
room m z (pos y) p e = le-ltb m y (omega (arith, ltb-false m (nat_abs z + y) (ap (λ (x : ℤ). lt_z (pos m) (x +ℤ pos y)) (sym p) ∙ e)))
room m z (negsuc y) p e = refl

-- ---- back to the tests
pub grow_tests_lem : (b : Bench) (u : ℕ) (l : ℤ) → GrowPassed b u l → first (grow_tests b u l) ≡ 0
unfolding grow_tests
grow_tests_lem b u l P = failed (grow_tests b u l) (lt-leb 8 u P.here.low, (ap is_some P.here.free, (ap₂ ◌||◌ P.forward P.limit, (unsunk_tests b u l P.above, tt))))

-- an interface that may be named still may be
grow_open : (b : Bench) (u : ℕ) (l : ℤ) (w : ℕ) → Open b w → Open (grow_by b u l) w
grow_open b u l w o = record { low = o.low; free = grow_parent b u l w ∙ o.free }

module _ (b : Bench) (F : Frame b) (u : ℕ) (a c : ℤ) where
  grown_mark : (w : ℕ) → floored (grow_by b u a) w ≡ floored b w
  grown_mark w = ap (λ (m : Marks). m.floored) (grow_marks b u a w)

  -- where growing by a and then by c is accepted, so is growing by a + c
  pub whole_accepted : GrowPassed b u a → GrowPassed (grow_by b u a) u c → GrowPassed b u (a +ℤ c)
  whole_accepted P Q = record {
    here = P.here;
    forward = sum_forward a c P.forward Q.forward;
    limit = ap (lt_z (pos (2 ^ 40))) (sym (+ℤ_assoc (interface b u).progress a c) ∙ ap (λ (z : ℤ). z +ℤ c) (sym (grow_progress b u a (inside b F P.here.low)))) ∙ Q.limit;
    above = λ f w s h t. sinks_whole a c P.forward Q.forward (slot_of b w s) (P.above f w s h t)
        (ap (sinks c) (sym (grow_at b u a w s t)) ∙ Q.above (grown_mark u ∙ f) w s h (grow_top b u a w ∙ t));
  }

  -- and where growing by a + c is accepted, so are its parts
  pub parts_accepted : lt_z a (pos 0) ≡ false → lt_z c (pos 0) ≡ false → GrowPassed b u (a +ℤ c) → GrowPassed b u a × GrowPassed (grow_by b u a) u c
  parts_accepted ha hc P = (
    record { here = P.here; forward = ha; limit = not_past (2 ^ 40) ((interface b u).progress +ℤ a) c hc past; above = λ f w s h t. (sinks_parts a c ha hc (slot_of b w s) (P.above f w s h t)).0 },
    record {
      here = grow_open b u a u P.here;
      forward = hc;
      limit = ap (λ (z : ℤ). lt_z (pos (2 ^ 40)) (z +ℤ c)) (grow_progress b u a (inside b F P.here.low)) ∙ past;
      above = λ f w s h t. let t₁ = sym (grow_top b u a w) ∙ t in ap (sinks c) (grow_at b u a w s t₁) ∙ (sinks_parts a c ha hc (slot_of b w s) (P.above (sym (grown_mark u) ∙ f) w s h t₁)).1;
    },
  )
    where
      past : lt_z (pos (2 ^ 40)) (((interface b u).progress +ℤ a) +ℤ c) ≡ false
      past = ap (lt_z (pos (2 ^ 40))) (+ℤ_assoc (interface b u).progress a c) ∙ P.limit

-- ---- halves
module _ (b : Bench) (p l r : ℕ) (a : ℤ) where
  -- the growths change nothing that fusing asks
  pub fusable_before : Fusable (grow_by (grow_by b l a) r a) p l r → Fusable b p l r
  fusable_before f = record {
    p<8 = f.p<8;
    l<p = f.l<p;
    r<p = f.r<p;
    l≢r = f.l≢r;
    l_none = sym (parents l) ∙ f.l_none;
    r_none = sym (parents r) ∙ f.r_none;
    p_none = sym (parents p) ∙ f.p_none;
    no_slots = grow_bare b l a p (grow_bare (grow_by b l a) r a p f.no_slots);
    no_progress = ap nat_abs (sym (grow_progress_else (grow_by b l a) r a p (λ e. omega arith) ∙ grow_progress_else b l a p (λ e. omega arith))) ∙ f.no_progress;
    no_halves = ap is_some (sym (grow_halves (grow_by b l a) r a p ∙ grow_halves b l a p)) ∙ f.no_halves;
    alike = sym (marks l) ∙ f.alike ∙ marks r;
  }
    where
      parents : (w : ℕ) → (interface (grow_by (grow_by b l a) r a) w).parent ≡ (interface b w).parent
      parents w = grow_parent (grow_by b l a) r a w ∙ grow_parent b l a w

      marks : (w : ℕ) → floored (grow_by (grow_by b l a) r a) w ≡ floored b w
      marks w = ap (λ (m : Marks). m.floored) (grow_marks (grow_by b l a) r a w ∙ grow_marks b l a w)

  -- and what both halves could grow by, the fused tree can
  pub grow_after : (F : Frame b) → Fusable b p l r → (interface b l).progress ≡ pos (nat_abs (interface b l).progress) → GrowPassed b l a → GrowPassed (grow_by b l a) r a → GrowPassed (join b p l r) p a
  grow_after F f h P R = record {
    here = record { low = f.p<8; free = ap (λ (g : Interface). g.parent) (join_p b p l r (joins F f)) };
    forward = P.forward;
    limit = ap (λ (g : Interface). lt_z (pos (2 ^ 40)) (g.progress +ℤ a)) (join_p b p l r (joins F f)) ∙ ap (lt_z (pos (2 ^ 40))) (+ℤ_idl a) ∙ room (2 ^ 40) (interface b l).progress a h P.limit;
    above = λ e w s k t. ap (sinks a) (slots w s) ∙ at w s k t (sym mark_p ∙ e) (ℕ_discrete (top b w) l) (ℕ_discrete (top b w) r);
  }
    where
      mark_p : floored (join b p l r) p ≡ floored b l
      mark_p = ap (λ (g : Interface). g.marks.floored) (join_p b p l r (joins F f))

      slots : (w s : ℕ) → slot_of (join b p l r) w s ≡ slot_of b w s
      slots w s = ap (λ (x : List (Option Node)). get_or x s None) (join_slots b p l r (joins F f) w)

      at : (w s : ℕ) → w < 8 → top (join b p l r) w ≡ p → floored b l ≡ true → Dec (top b w ≡ l) → Dec (top b w ≡ r) → sinks a (slot_of b w s) ≡ false
      at w s k t e (yes x) y = P.above e w s k x
      at w s k t e (no x) (yes y) = ap (sinks a) (sym (grow_off b l a w s x)) ∙ R.above (ap (λ (m : Marks). m.floored) (grow_marks b l a r) ∙ sym f.alike ∙ e) w s k (grow_top b l a w ∙ y)
      at w s k t e (no x) (no y) = ap (sinks a) (ap (λ (z : List (Option Node)). get_or z s None) (ap (λ (m : ℕ). (interface b m).slots) (alone b F p f.no_halves w (sym (join_top_else b F p l r f w x y) ∙ t)) ∙ f.no_slots))
