-- The tree under an interface, listed down its halves, is what climbs up to it: a sum over the list is a sum over the interfaces whose top
-- it is. So demand 3's account may be read either way. Assumes nothing.
use Rattle.std.specs.Prelude.{None, Option, Some}
use Prim.Native.Nat.{ℕ, zero, suc, ◌+◌, ◌≤◌, ◌<◌}
use mathlib.Core.Path.{◌≡◌, refl, sym, ◌∙◌, ap, ap₂}
use mathlib.Core.Logic.{◌≢◌, ◌⊎◌, inl, inr}
use mathlib.Core.Bool.{Bool, true, false, ◌||◌, true≢false}
use mathlib.Core.List.{List, [], ◌∷◌, ◌++◌}
use native.Mathlib.Omega.{arith}
use native.Mathlib.Decide.{ℕ_discrete}
use lib.Dec.{eqb}
use borrow.Author.Tests.{eq-eqb, ne_eqb}
use lib.IntN.{ℤ, pos, ◌+ℤ◌, +ℤ_assoc, +ℤ_comm, +ℤ_idl, +ℤ_idr}
use Rattle.ledger_spec.specs.Bench.{Node, Bench}
use Rattle.ledger_spec.specs.Look.{interface, climb, top, tree}
use Rattle.ledger_spec.specs.Tests.{is_some}
use Rattle.ledger_spec.specs.Account.{Σ, gate, tree_sum, slot_sum, rates_in}
use Rattle.ledger_spec.specs.Change.{worth, share}
use Rattle.ledger_spec.specs.Reads.{slots_from, gather}
use Rattle.ledger_spec.specs.Check.{total_of}
use Rattle.ledger_spec.specs.Sound.{rates}
use Rattle.ledger_spec.proofs.Ints.{swap_mid}
use Rattle.ledger_spec.proofs.Sums.{Σ_same, Σ_add, Σ_zero, Σ_change, gate_yes, gate_no}
use Rattle.ledger_spec.specs.Frame.{Frame}
use Rattle.ledger_spec.proofs.Tops.{climb_none, climb_some}

unfoldable pub along : (ℕ → ℤ) → List ℕ → ℤ
along v [] = pos 0
along v (u ∷ us) = v u +ℤ along v us

along_append : (v : ℕ → ℤ) (s t : List ℕ) → along v (s ++ t) ≡ along v s +ℤ along v t
unfolding along
along_append v [] t = sym (+ℤ_idl (along v t))
along_append v (u ∷ us) t = ap (λ (z : ℤ). v u +ℤ z) (along_append v us t) ∙ sym (+ℤ_assoc (v u) (along v us) (along v t))

pub tree_leaf : (k : ℕ) (b : Bench) (u : ℕ) → (interface b u).halves ≡ None → tree (suc k) b u ≡ u ∷ []
unfolding tree
tree_leaf k b u e = rw (e, tree)

pub tree_fork : (k : ℕ) (b : Bench) (u : ℕ) (lr : ℕ × ℕ) → (interface b u).halves ≡ Some lr → tree (suc k) b u ≡ (tree k b lr.0 ++ tree k b lr.1) ++ (u ∷ [])
unfolding tree
tree_fork k b u lr e = rw (e, tree)

-- 1 if w climbs to u in at most k steps, else 0, as a gate's test
reach : ℕ → Bench → ℕ → ℕ → Bool
reach zero b w u = eqb w u
reach (suc k) b w u = eqb w u || elim (interface b w).parent [ None ↦ false | Some p ↦ reach k b p u ]

module _ (b : Bench) (F : Frame b) where
  reach_self : (k u : ℕ) → reach k b u u ≡ true
  unfolding reach
  reach_self zero u = eq-eqb u u refl
  reach_self (suc k) u = ap (λ (c : Bool). c || elim (interface b u).parent [ None ↦ false | Some p ↦ reach k b p u ]) (eq-eqb u u refl)

  reach_none : (k w u : ℕ) → w ≢ u → (interface b w).parent ≡ None → reach k b w u ≡ false
  unfolding reach
  reach_none zero w u q e = ne_eqb w u q
  reach_none (suc k) w u q e = rw (ne_eqb w u q, e, reach)

  reach_some : (k w u p : ℕ) → w ≢ u → (interface b w).parent ≡ Some p → reach (suc k) b w u ≡ reach k b p u
  unfolding reach
  reach_some k w u p q e = rw (ne_eqb w u q, e, reach)

  rises : (w p : ℕ) → (interface b w).parent ≡ Some p → w < p
  rises w p e = (F.rising w p e).0

  -- nothing climbs down
  reach_down : (k w u : ℕ) → u < w → reach k b w u ≡ false
  unfolding reach
  reach_down zero w u h = ne_eqb w u (λ e. omega arith)
  reach_down (suc k) w u h = go (interface b w).parent refl (reach_down k)
    where
      go : (q : Option ℕ) → (interface b w).parent ≡ q → ((p u : ℕ) → u < p → reach k b p u ≡ false) → reach (suc k) b w u ≡ false
      go None e ih = reach_none (suc k) w u (λ z. omega arith) e
      go (Some p) e ih = reach_some k w u p (λ z. omega arith) e ∙ ih p u (omega (arith, h, rises w p e))

  -- to an interface without halves only it climbs itself
  reach_leaf : (k w u : ℕ) → (interface b u).halves ≡ None → reach k b w u ≡ eqb w u
  unfolding reach
  reach_leaf zero w u bare = refl
  reach_leaf (suc k) w u bare = go (interface b w).parent refl (ℕ_discrete w u) (λ p. reach_leaf k p u bare)
    where
      go : (q : Option ℕ) → (interface b w).parent ≡ q → Dec (w ≡ u) → ((p : ℕ) → reach k b p u ≡ eqb p u) → reach (suc k) b w u ≡ eqb w u
      go q e (yes x) ih = ap (λ (z : ℕ). reach (suc k) b z u) x ∙ reach_self (suc k) u ∙ sym (eq-eqb w u x)
      go None e (no x) ih = reach_none (suc k) w u x e ∙ sym (ne_eqb w u x)
      go (Some p) e (no x) ih = reach_some k w u p x e ∙ ih p ∙ ne_eqb p u (λ z. true≢false (sym (F.linked w u (e ∙ ap Some z)) ∙ ap is_some bare)) ∙ sym (ne_eqb w u x)

  -- what climbs to an interface with halves is it, or climbs to one of them, and to one only
  module _ (u l r : ℕ) (hs : (interface b u).halves ≡ Some (l, r)) (x : ℤ) where
    l<u : l < u
    l<u = rises l u (F.left u l r hs)

    r<u : r < u
    r<u = rises r u (F.right u l r hs)

    u<8 : u < 8
    u<8 = (F.rising l u (F.left u l r hs)).1

    Split : ℕ → ℕ → Type 0
    Split k w = gate (reach k b w u) x ≡ gate (eqb w u) x +ℤ (gate (reach k b w l) x +ℤ gate (reach k b w r) x)

    by : (k w : ℕ) (c₀ c₁ c₂ c₃ : Bool) → reach k b w u ≡ c₀ → eqb w u ≡ c₁ → reach k b w l ≡ c₂ → reach k b w r ≡ c₃ → gate c₀ x ≡ gate c₁ x +ℤ (gate c₂ x +ℤ gate c₃ x) → Split k w
    unfolding Split
    by k w c₀ c₁ c₂ c₃ e₀ e₁ e₂ e₃ h = ap (λ (c : Bool). gate c x) e₀ ∙ h ∙ sym (ap₂ ◌+ℤ◌ (ap (λ (c : Bool). gate c x) e₁) (ap₂ ◌+ℤ◌ (ap (λ (c : Bool). gate c x) e₂) (ap (λ (c : Bool). gate c x) e₃)))

    some_is : {p q : ℕ} {o : Option ℕ} → o ≡ Some p → o ≡ Some q → p ≡ q
    some_is e f = cc

    none_is : {p : ℕ} {o : Option ℕ} → o ≡ None → o ≡ Some p → ⊥
    none_is {p} {o} e f = let z : ◌≡◌ {A = ℕ} 0 1 = cc in omega arith

    one_up : (k w : ℕ) → ((p : ℕ) → w < p → p < 8 → Split k p) → Split (suc k) w
    unfolding gate Split
    one_up k w ih = go (interface b w).parent refl (ℕ_discrete w u) (ℕ_discrete w l) (ℕ_discrete w r)
      where
        go : (q : Option ℕ) → (interface b w).parent ≡ q → Dec (w ≡ u) → Dec (w ≡ l) → Dec (w ≡ r) → Split (suc k) w
        go q e (yes y) z₁ z₂ = by (suc k) w true true false false (ap (λ (z : ℕ). reach (suc k) b z u) y ∙ reach_self (suc k) u) (eq-eqb w u y) (reach_down (suc k) w l (omega (arith, l<u, y))) (reach_down (suc k) w r (omega (arith, r<u, y)))
            (sym (+ℤ_idr x))
        go None e (no y) (yes z) z₂ = absurd (none_is (ap (λ (m : ℕ). (interface b m).parent) (sym z) ∙ e) (F.left u l r hs))
        go None e (no y) (no z) (yes z₂) = absurd (none_is (ap (λ (m : ℕ). (interface b m).parent) (sym z₂) ∙ e) (F.right u l r hs))
        go None e (no y) (no z) (no z₂) = by (suc k) w false false false false (reach_none (suc k) w u y e) (ne_eqb w u y) (reach_none (suc k) w l z e) (reach_none (suc k) w r z₂ e) refl
        go (Some p) e (no y) (yes z) z₂ = by (suc k) w true false true false
            (reach_some k w u p y e ∙ ap (λ (m : ℕ). reach k b m u) p_is ∙ reach_self k u) (ne_eqb w u y) (ap (λ (m : ℕ). reach (suc k) b m l) z ∙ reach_self (suc k) l)
            (reach_some k w r p (λ f. F.apart u l r hs (sym z ∙ f)) e ∙ ap (λ (m : ℕ). reach k b m r) p_is ∙ reach_down k u r r<u)
            (sym (+ℤ_idl (x +ℤ pos 0) ∙ +ℤ_idr x))
          where
            p_is : p ≡ u
            p_is = some_is (ap (λ (m : ℕ). (interface b m).parent) (sym z) ∙ e) (F.left u l r hs)
        go (Some p) e (no y) (no z) (yes z₂) = by (suc k) w true false false true
            (reach_some k w u p y e ∙ ap (λ (m : ℕ). reach k b m u) p_is ∙ reach_self k u) (ne_eqb w u y)
            (reach_some k w l p z e ∙ ap (λ (m : ℕ). reach k b m l) p_is ∙ reach_down k u l l<u)
            (ap (λ (m : ℕ). reach (suc k) b m r) z₂ ∙ reach_self (suc k) r)
            (sym (+ℤ_idl (pos 0 +ℤ x) ∙ +ℤ_idl x))
          where
            p_is : p ≡ u
            p_is = some_is (ap (λ (m : ℕ). (interface b m).parent) (sym z₂) ∙ e) (F.right u l r hs)
        go (Some p) e (no y) (no z) (no z₂) = ap (λ (c : Bool). gate c x) (reach_some k w u p y e) ∙ ih p (rises w p e) (F.rising w p e).1
            ∙ ap₂ (λ (m : ℤ) (n : ℤ). m +ℤ n) (gate_no p≢u x ∙ sym (gate_no y x)) (sym (ap₂ (λ (c d : Bool). gate c x +ℤ gate d x) (reach_some k w l p z e) (reach_some k w r p z₂ e)))
          where
            p≢u : p ≢ u
            p≢u f = one_of (F.up w u l r (e ∙ ap Some f) hs)
              where
                one_of : (w ≡ l) ⊎ (w ≡ r) → ⊥
                one_of (inl a) = z a
                one_of (inr a) = z₂ a

    split : (k w : ℕ) → 7 ≤ w + k → Split k w
    unfolding Split reach gate
    split zero w h = sym (ap (λ (z : ℤ). gate (eqb w u) x +ℤ z) (ap₂ (λ (c d : Bool). gate c x +ℤ gate d x) (reach_down zero w l (omega (arith, h, l<u, u<8))) (reach_down zero w r (omega (arith, h, r<u, u<8)))) ∙ +ℤ_idr (gate (eqb w u) x))
    split (suc k) w h = one_up k w (λ p a c. split k p (omega arith))

  -- an interface without a parent: who climbs to it has it for top
  reach_top : (k w i : ℕ) → (interface b i).parent ≡ None → reach k b w i ≡ eqb (climb k b w) i
  unfolding reach climb
  reach_top zero w i free = refl
  reach_top (suc k) w i free = go (interface b w).parent refl (ℕ_discrete w i) (λ p. reach_top k p i free)
    where
      go : (q : Option ℕ) → (interface b w).parent ≡ q → Dec (w ≡ i) → ((p : ℕ) → reach k b p i ≡ eqb (climb k b p) i) → reach (suc k) b w i ≡ eqb (climb (suc k) b w) i
      go q e (yes x) ih = ap (λ (z : ℕ). reach (suc k) b z i) x ∙ reach_self (suc k) i ∙ sym (eq-eqb (climb (suc k) b w) i (ap (climb (suc k) b) x ∙ climb_none (suc k) b i free))
      go None e (no x) ih = reach_none (suc k) w i x e ∙ sym (ne_eqb (climb (suc k) b w) i (λ z. x (sym (climb_none (suc k) b w e) ∙ z)))
      go (Some p) e (no x) ih = reach_some k w i p x e ∙ ih p ∙ ap (λ (z : ℕ). eqb z i) (sym (climb_some k b w p e))

  -- ---- sums over the list
  module _ (v : ℕ → ℤ) where
    among : ℕ → ℤ
    among u = Σ 8 (λ w. gate (reach 8 b w u) (v w))

    only : (u : ℕ) → u < 8 → Σ 8 (λ w. gate (eqb w u) (v w)) ≡ v u
    only u h = Σ_change 8 (λ w. pos 0) (λ w. gate (eqb w u) (v w)) u (v u) h (λ w q. gate_no q (v w)) (gate_yes {a = u} refl (v u) ∙ sym (+ℤ_idl (v u)))
        ∙ ap (λ (z : ℤ). z +ℤ v u) (Σ_zero 8 (λ w. pos 0) (λ w h. refl)) ∙ +ℤ_idl (v u)

    leaf_sum : (u : ℕ) → u < 8 → (interface b u).halves ≡ None → among u ≡ v u
    unfolding among
    leaf_sum u h bare = Σ_same 8 (λ w. gate (eqb w u) (v w)) (λ w. gate (reach 8 b w u) (v w)) (λ w k. ap (λ (c : Bool). gate c (v w)) (reach_leaf 8 w u bare)) ∙ only u h

    fork_sum : (u l r : ℕ) → u < 8 → (interface b u).halves ≡ Some (l, r) → among u ≡ (among l +ℤ among r) +ℤ v u
    unfolding among Split
    fork_sum u l r h hs = Σ_same 8 (λ w. gate (eqb w u) (v w) +ℤ (gate (reach 8 b w l) (v w) +ℤ gate (reach 8 b w r) (v w))) (λ w. gate (reach 8 b w u) (v w)) (λ w k. split u l r hs (v w) 8 w (omega arith))
        ∙ Σ_add 8 (λ w. gate (eqb w u) (v w)) (λ w. gate (reach 8 b w l) (v w) +ℤ gate (reach 8 b w r) (v w))
        ∙ ap₂ ◌+ℤ◌ (only u h) (Σ_add 8 (λ w. gate (reach 8 b w l) (v w)) (λ w. gate (reach 8 b w r) (v w)))
        ∙ +ℤ_comm (v u) (among l +ℤ among r)

    listed : (k u : ℕ) → u < 8 → u ≤ k → along v (tree k b u) ≡ among u
    unfolding along tree
    listed zero u h m = +ℤ_idr (v u) ∙ sym (leaf_sum u h (go (interface b u).halves refl))
      where
        go : (q : Option (ℕ × ℕ)) → (interface b u).halves ≡ q → (interface b u).halves ≡ None
        go None e = e
        go (Some lr) e = absurd (omega (arith, m, rises lr.0 u (F.left u lr.0 lr.1 e)))
    listed (suc k) u h m = go (interface b u).halves refl (listed k)
      where
        go : (q : Option (ℕ × ℕ)) → (interface b u).halves ≡ q → ((w : ℕ) → w < 8 → w ≤ k → along v (tree k b w) ≡ among w) → along v (tree (suc k) b u) ≡ among u
        go None e ih = ap (along v) (tree_leaf k b u e) ∙ +ℤ_idr (v u) ∙ sym (leaf_sum u h e)
        go (Some lr) e ih = ap (along v) (tree_fork k b u lr e) ∙ along_append v (tree k b lr.0 ++ tree k b lr.1) (u ∷ []) ∙ ap₂ ◌+ℤ◌ (along_append v (tree k b lr.0) (tree k b lr.1) ∙ ap₂ ◌+ℤ◌ (ih lr.0 (omega (arith, h, lo)) (omega (arith, m, lo))) (ih lr.1 (omega (arith, h, hi)) (omega (arith, m, hi)))) (+ℤ_idr (v u))
            ∙ sym (fork_sum u lr.0 lr.1 h e)
          where
            lo : lr.0 < u
            lo = rises lr.0 u (F.left u lr.0 lr.1 e)

            hi : lr.1 < u
            hi = rises lr.1 u (F.right u lr.0 lr.1 e)

    pub tree_sum_lem : (i : ℕ) → i < 8 → (interface b i).parent ≡ None → along v (tree 8 b i) ≡ tree_sum (top b) v i
    unfolding among
    tree_sum_lem i h free = listed 8 i h (omega arith) ∙ Σ_same 8 (λ w. gate (eqb (top b w) i) (v w)) (λ w. gate (reach 8 b w i) (v w)) (λ w k. ap (λ (c : Bool). gate c (v w)) (reach_top 8 w i free))

-- ---- the check's total is a sum along the tree
slots_total : (u k : ℕ) (l : List (Option Node)) (ts : List (ℕ × ℕ × Option Node)) → total_of (slots_from u k l ++ ts) ≡ slot_sum worth l +ℤ total_of ts
unfolding slots_from total_of slot_sum
slots_total u k [] ts = sym (+ℤ_idl (total_of ts))
slots_total u k (x ∷ xs) ts = ap (λ (z : ℤ). worth x +ℤ z) (slots_total u (suc k) xs ts) ∙ sym (+ℤ_assoc (worth x) (slot_sum worth xs) (total_of ts))

pub gather_total : (b : Bench) (us : List ℕ) → total_of (gather b us) ≡ along (λ u. slot_sum worth (interface b u).slots) us
unfolding gather along total_of
gather_total b [] = refl
gather_total b (u ∷ us) = slots_total u 0 (interface b u).slots (gather b us) ∙ ap (λ (z : ℤ). slot_sum worth (interface b u).slots +ℤ z) (gather_total b us)

-- and so are the rates
slots_rates : (u k : ℕ) (l : List (Option Node)) (ts : List (ℕ × ℕ × Option Node)) → rates (slots_from u k l ++ ts) ≡ slot_sum share l +ℤ rates ts
unfolding slots_from rates slot_sum
slots_rates u k [] ts = sym (+ℤ_idl (rates ts))
slots_rates u k (x ∷ xs) ts = ap (λ (z : ℤ). share x +ℤ z) (slots_rates u (suc k) xs ts) ∙ sym (+ℤ_assoc (share x) (slot_sum share xs) (rates ts))

pub gather_rates : (b : Bench) (us : List ℕ) → rates (gather b us) ≡ along (rates_in b) us
unfolding gather along rates
gather_rates b [] = refl
gather_rates b (u ∷ us) = slots_rates u 0 (interface b u).slots (gather b us) ∙ ap (λ (z : ℤ). slot_sum share (interface b u).slots +ℤ z) (gather_rates b us)

pub along_add : (f g : ℕ → ℤ) (us : List ℕ) → along (λ u. f u +ℤ g u) us ≡ along f us +ℤ along g us
unfolding along
along_add f g [] = refl
along_add f g (u ∷ us) = ap (λ (z : ℤ). (f u +ℤ g u) +ℤ z) (along_add f g us) ∙ swap_mid (f u) (g u) (along f us) (along g us)
