-- Which interfaces stand in the list of a tree, and which slots in what is gathered from a list of interfaces: those whose top it is, and each of
-- their slots. A sum along the tree that counts one interface finds it there (`tree_sum_lem`). Assumes nothing.
use Rattle.std.specs.Prelude.{None, Option, Some}
use Prim.Native.Nat.{ℕ, zero, suc, ◌+◌, ◌<◌}
use mathlib.Core.Path.{◌≡◌, refl, sym, ◌∙◌, ap, ap₂, subst}
use mathlib.Core.Logic.{◌≢◌, ◌⊎◌, inl, inr}
use mathlib.Core.List.{List, [], ◌∷◌, ◌++◌}
use native.Mathlib.Omega.{arith}
use native.Mathlib.Nat.{zero-add, add-zero}
use native.Mathlib.Decide.{ℕ_discrete, dec_lt}
use lib.Dec.{eqb, ltb}
use borrow.Author.Tests.{ltb-true}
use lib.ListN.{get_or, length, get_or-eq_default}
use lib.IntN.{ℤ, pos, nat_abs, ◌+ℤ◌}
use Rattle.ledger_spec.specs.Bench.{Node, Bench}
use Rattle.ledger_spec.specs.Look.{interface, slot_of, top, tree}
use Rattle.ledger_spec.specs.Reads.{slots_from, gather, slots_of}
use Rattle.ledger_spec.specs.SoundTree.{units}
use Rattle.ledger_spec.specs.Account.{gate, tree_sum}
use Rattle.ledger_spec.specs.Frame.{Frame}
use Rattle.ledger_spec.specs.Knit.{In, here, there}
use Rattle.ledger_spec.proofs.Lists.{not_in_nil, in_cases, in_left, in_right, in_append, all_in}
use Rattle.ledger_spec.proofs.Sums.{Σ_zero, Σ_change, gate_yes, gate_no}
use Rattle.ledger_spec.proofs.Tops.{top_root, below, top_parent}
use Rattle.ledger_spec.proofs.Trees.{along, tree_leaf, tree_fork, tree_sum_lem}
use Rattle.ledger_spec.proofs.Knit.{none_some}
use Rattle.ledger_spec.proofs.Readings.{slot_out}

-- ---- the eight numbers
pub in_units : (u : ℕ) → u < 8 → In u units
in_units zero h = here refl
in_units (suc zero) h = there (here refl)
in_units (suc (suc zero)) h = there (there (here refl))
in_units (suc (suc (suc zero))) h = there (there (there (here refl)))
in_units (suc (suc (suc (suc zero)))) h = there (there (there (there (here refl))))
in_units (suc (suc (suc (suc (suc zero))))) h = there (there (there (there (there (here refl)))))
in_units (suc (suc (suc (suc (suc (suc zero)))))) h = there (there (there (there (there (there (here refl))))))
in_units (suc (suc (suc (suc (suc (suc (suc zero))))))) h = there (there (there (there (there (there (there (here refl)))))))
in_units (suc (suc (suc (suc (suc (suc (suc (suc u)))))))) h = absurd (omega arith)

pub units_in : (u : ℕ) → In u units → u < 8
unfolding Rattle.ledger_spec.specs.SoundTree.all
units_in u i = ltb-true u 8 (all_in (λ (w : ℕ). ltb w 8) units refl i)

-- ---- the list of a tree
find : (w : ℕ) (us : List ℕ) → In w us ⊎ (In w us → ⊥)
find w [] = inr not_in_nil
find w (u ∷ us) = go (ℕ_discrete w u) (find w us)
  where
    neither : w ≢ u → (In w us → ⊥) → (w ≡ u) ⊎ In w us → ⊥
    neither p q (inl e) = p e
    neither p q (inr i) = q i

    go : Dec (w ≡ u) → In w us ⊎ (In w us → ⊥) → In w (u ∷ us) ⊎ (In w (u ∷ us) → ⊥)
    go (yes e) r = inl (here e)
    go (no e) (inl i) = inl (there i)
    go (no e) (inr q) = inr (λ i. neither e q (in_cases i))

-- a sum along a list without w counts nothing of it
unseen : (w : ℕ) (us : List ℕ) → (In w us → ⊥) → along (λ u. gate (eqb u w) (pos 1)) us ≡ pos 0
unfolding along
unseen w [] q = refl
unseen w (u ∷ us) q = ap₂ ◌+ℤ◌ (gate_no (λ e. q (here (sym e))) (pos 1)) (unseen w us (λ i. q (there i)))

module _ (b : Bench) (F : Frame b) where
  seen : (w : ℕ) → w < 8 → tree_sum (top b) (λ u. gate (eqb u w) (pos 1)) (top b w) ≡ pos 1
  seen w h = Σ_change 8 (λ u. pos 0) (λ u. gate (eqb (top b u) (top b w)) (gate (eqb u w) (pos 1))) w (pos 1) h
      (λ u q. ap (gate (eqb (top b u) (top b w))) (gate_no q (pos 1)) ∙ nothing u) (gate_yes {a = top b w} refl _ ∙ gate_yes {a = w} refl (pos 1))
      ∙ ap (λ (z : ℤ). z +ℤ pos 1) (Σ_zero 8 (λ u. pos 0) (λ u h. refl))
    where
      nothing : (u : ℕ) → gate (eqb (top b u) (top b w)) (pos 0) ≡ pos 0
      nothing u = Rattle.ledger_spec.proofs.Sums.zero_gate (eqb (top b u) (top b w))

  -- every interface stands in the list of its top
  pub tree_in : (w : ℕ) → w < 8 → In w (tree 8 b (top b w))
  tree_in w h = go (find w (tree 8 b (top b w)))
    where
      one : along (λ u. gate (eqb u w) (pos 1)) (tree 8 b (top b w)) ≡ pos 1
      one = tree_sum_lem b F (λ u. gate (eqb u w) (pos 1)) (top b w) (below b F 8 w h) (top_root b F w) ∙ seen w h

      go : In w (tree 8 b (top b w)) ⊎ (In w (tree 8 b (top b w)) → ⊥) → In w (tree 8 b (top b w))
      go (inl i) = i
      go (inr q) = absurd (omega (arith, ap nat_abs (sym (unseen w (tree 8 b (top b w)) q) ∙ one)))

  -- and what stands in the list of an interface has its top
  pub in_tree : (k u w : ℕ) → u < 8 → In w (tree k b u) → (w < 8) × (top b w ≡ top b u)
  unfolding tree
  in_tree zero u w h i = self (in_cases i)
    where
      self : (w ≡ u) ⊎ In w [] → (w < 8) × (top b w ≡ top b u)
      self (inl e) = (subst (λ (z : ℕ). z < 8) (sym e) h, ap (top b) e)
      self (inr j) = absurd (not_in_nil j)
  in_tree (suc k) u w h i = go (interface b u).halves refl (in_tree k)
    where
      self : In w (u ∷ []) → (w < 8) × (top b w ≡ top b u)
      self j = on (in_cases j)
        where
          on : (w ≡ u) ⊎ In w [] → (w < 8) × (top b w ≡ top b u)
          on (inl e) = (subst (λ (z : ℕ). z < 8) (sym e) h, ap (top b) e)
          on (inr j) = absurd (not_in_nil j)

      go : (q : Option (ℕ × ℕ)) → (interface b u).halves ≡ q → ((u w : ℕ) → u < 8 → In w (tree k b u) → (w < 8) × (top b w ≡ top b u)) → (w < 8) × (top b w ≡ top b u)
      go None e ih = self (subst (In w) (tree_leaf k b u e) i)
      go (Some lr) e ih = three (in_append (tree k b lr.0 ++ tree k b lr.1) (u ∷ []) (subst (In w) (tree_fork k b u lr e) i))
        where
          half : (c : ℕ) → (interface b c).parent ≡ Some u → In w (tree k b c) → (w < 8) × (top b w ≡ top b u)
          half c p j = let r : (c < u) × (u < 8) = F.rising c u p in let s : (w < 8) × (top b w ≡ top b c) = ih c w (omega arith) j in (s.0, s.1 ∙ top_parent b F c u p)

          two : In w (tree k b lr.0) ⊎ In w (tree k b lr.1) → (w < 8) × (top b w ≡ top b u)
          two (inl j) = half lr.0 (F.left u lr.0 lr.1 e) j
          two (inr j) = half lr.1 (F.right u lr.0 lr.1 e) j

          three : In w (tree k b lr.0 ++ tree k b lr.1) ⊎ In w (u ∷ []) → (w < 8) × (top b w ≡ top b u)
          three (inl j) = two (in_append (tree k b lr.0) (tree k b lr.1) j)
          three (inr j) = self j

-- ---- slots gathered
slots_in : (u k : ℕ) (l : List (Option Node)) (s : ℕ) → s < length l → In (u, k + s, get_or l s None) (slots_from u k l)
unfolding slots_from
slots_in u k [] s h = absurd (omega arith)
slots_in u k (x ∷ xs) zero h = here (ap (λ (m : ℕ). (u, m, x)) (add-zero k))
slots_in u k (x ∷ xs) (suc s) h = there (subst (λ (m : ℕ). In (u, m, get_or xs s None) (slots_from u (suc k) xs)) (omega arith) (slots_in u (suc k) xs s (omega arith)))

-- what stands in a gathered list: a slot of one of the interfaces
pub record Slot (b : Bench) (us : List ℕ) (t : ℕ × ℕ × Option Node) : Type 0 where
  pub unit : In t.0 us
  pub inside : t.1 < length (interface b t.0).slots
  pub holds : t.2 ≡ slot_of b t.0 t.1

in_slots : (u k : ℕ) (l : List (Option Node)) (t : ℕ × ℕ × Option Node) → In t (slots_from u k l) → (s : ℕ) × (s < length l) × (t.0 ≡ u) × (t.1 ≡ k + s) × (t.2 ≡ get_or l s None)
unfolding slots_from
in_slots u k [] t i = absurd (not_in_nil i)
in_slots u k (x ∷ xs) t i = go (in_cases i) (in_slots u (suc k) xs t)
  where
    go : (t ≡ (u, k, x)) ⊎ In t (slots_from u (suc k) xs) → (In t (slots_from u (suc k) xs) → (s : ℕ) × (s < length xs) × (t.0 ≡ u) × (t.1 ≡ suc k + s) × (t.2 ≡ get_or xs s None))
        → (s : ℕ) × (s < suc (length xs)) × (t.0 ≡ u) × (t.1 ≡ k + s) × (t.2 ≡ get_or (x ∷ xs) s None)
    go (inl e) ih = (zero, omega arith, ap (λ (z : ℕ × ℕ × Option Node). z.0) e, ap (λ (z : ℕ × ℕ × Option Node). z.1) e ∙ sym (add-zero k), ap (λ (z : ℕ × ℕ × Option Node). z.2) e)
    go (inr j) ih = let r = ih j in (suc r.0, omega (arith, r.1), r.2, omega (arith, r.3), r.4)

module _ (b : Bench) where
  pub gather_in : (u : ℕ) (us : List ℕ) (s : ℕ) → In u us → s < length (interface b u).slots → In (u, s, slot_of b u s) (gather b us)
  unfolding gather
  gather_in u us s (here {g} {hs = tl} e) h = in_left (gather b tl) (subst (λ (z : ℕ). In (u, s, slot_of b u s) (slots_from z 0 (interface b z).slots)) e
      (subst (λ (m : ℕ). In (u, m, slot_of b u s) (slots_from u 0 (interface b u).slots)) (zero-add s) (slots_in u 0 (interface b u).slots s h)))
  gather_in u us s (there {g} {hs = tl} i) h = in_right (slots_from g 0 (interface b g).slots) (gather_in u tl s i h)

  pub in_gather : (us : List ℕ) (t : ℕ × ℕ × Option Node) → In t (gather b us) → Slot b us t
  unfolding gather
  in_gather [] t i = absurd (not_in_nil i)
  in_gather (u ∷ us) t i = go (in_append (slots_from u 0 (interface b u).slots) (gather b us) i) (in_gather us t)
    where
      own : (s : ℕ) × (s < length (interface b u).slots) × (t.0 ≡ u) × (t.1 ≡ 0 + s) × (t.2 ≡ get_or (interface b u).slots s None) → Slot b (u ∷ us) t
      own r = record {
        unit = here r.2;
        inside = subst (λ (z : ℕ). t.1 < length (interface b z).slots) (sym r.2) (omega (arith, r.1, r.3));
        holds = r.4 ∙ ap₂ (slot_of b) (sym r.2) (omega (arith, r.3));
      }

      go : In t (slots_from u 0 (interface b u).slots) ⊎ In t (gather b us) → (In t (gather b us) → Slot b us t) → Slot b (u ∷ us) t
      go (inl j) ih = own (in_slots u 0 (interface b u).slots t j)
      go (inr j) ih = let r : Slot b us t = ih j in record { unit = there r.unit; inside = r.inside; holds = r.holds }

-- a slot that holds a node is one of its interface's, and that is one of the eight
module _ (b : Bench) (F : Frame b) (u s : ℕ) (n : Node) (e : slot_of b u s ≡ Some n) where
  pub held_unit : u < 8
  held_unit = go (dec_lt u 8)
    where
      go : Dec (u < 8) → u < 8
      go (yes h) = h
      go (no h) = absurd (none_some (slot_out b u s (omega (arith, h, F.eight))) e)

  pub held_slot : s < length (interface b u).slots
  held_slot = go (dec_lt s (length (interface b u).slots))
    where
      go : Dec (s < length (interface b u).slots) → s < length (interface b u).slots
      go (yes h) = h
      go (no h) = absurd (none_some (get_or-eq_default (interface b u).slots None (omega arith)) e)

  pub held_in : In (u, s, Some n) (slots_of b (top b u))
  held_in = subst (λ (o : Option Node). In (u, s, o) (slots_of b (top b u))) e (gather_in b u (tree 8 b (top b u)) s (tree_in b F u held_unit) held_slot)
