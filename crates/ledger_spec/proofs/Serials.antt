-- Serials that are all different: the test over a gathered list, and the fact that a serial stands in one slot only. Assumes nothing.
use Rattle.std.specs.Prelude.{None, Option, Some}
use Prim.Native.Nat.{ℕ, zero, suc, ◌≤◌}
use mathlib.Core.Path.{◌≡◌, refl, sym, ◌∙◌, ap, subst}
use mathlib.Core.Logic.{◌⊎◌, inl, inr}
use mathlib.Core.Bool.{true, false, true≢false}
use mathlib.Core.List.{List, [], ◌∷◌, ◌++◌}
use native.Mathlib.Omega.{arith}
use lib.Dec.{eqb}
use borrow.Author.Tests.{eqb-true, eq-eqb, ne_eqb}
use lib.ListN.{get_or}
use Rattle.ledger_spec.specs.Bench.{Node, Bench}
use Rattle.ledger_spec.specs.Look.{interface, slot_of}
use Rattle.ledger_spec.specs.Reads.{slots_from, gather}
use Rattle.ledger_spec.specs.SoundTree.{tally, units}
use Rattle.ledger_spec.specs.Sound.{serials, different}
use Rattle.ledger_spec.specs.Knit.{In, here, there}
use Rattle.ledger_spec.proofs.Lists.{not_in_nil, in_cases, and_true, both_true, tally_none, none_tally}
use Rattle.ledger_spec.proofs.Knit.{some_eq, none_some}
use Rattle.ledger_spec.proofs.Gathered.{Slot, in_gather}

-- a slot with its place
abbrev Entry : Type 0
Entry = ℕ × ℕ × Option Node

module _ (t : Entry) (ts : List Entry) where
  serials_skip : t.2 ≡ None → serials (t ∷ ts) ≡ serials ts
  unfolding serials
  serials_skip e = rw (e, serials)

  serials_cons : (n : Node) → t.2 ≡ Some n → serials (t ∷ ts) ≡ n.serial ∷ serials ts
  unfolding serials
  serials_cons n e = rw (e, serials)

-- who stands in the list has its serial in theirs, and the other way round
serial_in : (ts : List Entry) (t : Entry) (n : Node) → In t ts → t.2 ≡ Some n → In n.serial (serials ts)
serial_in [] t n i e = absurd (not_in_nil i)
serial_in (x ∷ xs) t n i e = go x.2 refl (in_cases i) (λ j. serial_in xs t n j e)
  where
    go : (o : Option Node) → x.2 ≡ o → (t ≡ x) ⊎ In t xs → (In t xs → In n.serial (serials xs)) → In n.serial (serials (x ∷ xs))
    go None f (inl p) ih = absurd (none_some f (ap (λ (z : Entry). z.2) (sym p) ∙ e))
    go None f (inr j) ih = subst (In n.serial) (sym (serials_skip x xs f)) (ih j)
    go (Some m) f (inl p) ih = subst (In n.serial) (sym (serials_cons x xs m f)) (here (ap (λ (k : Node). k.serial) (some_eq (ap (λ (z : Entry). z.2) (sym p) ∙ e) f)))
    go (Some m) f (inr j) ih = subst (In n.serial) (sym (serials_cons x xs m f)) (there (ih j))

in_serials : (ts : List Entry) (k : ℕ) → In k (serials ts) → (t : Entry) × In t ts × ((n : Node) × (t.2 ≡ Some n) × (n.serial ≡ k))
unfolding serials
in_serials [] k i = absurd (not_in_nil i)
in_serials (x ∷ xs) k i = go x.2 refl (in_serials xs k)
  where
    Found : List Entry → Type 0
    Found ts = (t : Entry) × In t ts × ((n : Node) × (t.2 ≡ Some n) × (n.serial ≡ k))

    later : Found xs → Found (x ∷ xs)
    later r = (r.0, there r.1, r.2)

    go : (o : Option Node) → x.2 ≡ o → (In k (serials xs) → Found xs) → Found (x ∷ xs)
    go None f ih = later (ih (subst (In k) (serials_skip x xs f) i))
    go (Some m) f ih = two (in_cases (subst (In k) (serials_cons x xs m f) i))
      where
        two : (k ≡ m.serial) ⊎ In k (serials xs) → Found (x ∷ xs)
        two (inl e) = (x, here refl, (m, f, sym e))
        two (inr j) = later (ih j)

-- ---- the test says that a serial stands once
rest_different : (x : Entry) (xs : List Entry) → different (serials (x ∷ xs)) ≡ true → different (serials xs) ≡ true
unfolding different
rest_different x xs e = go x.2 refl
  where
    go : (o : Option Node) → x.2 ≡ o → different (serials xs) ≡ true
    go None f = ap different (sym (serials_skip x xs f)) ∙ e
    go (Some m) f = (and_true (eqb (tally (eqb m.serial) (serials xs)) 0) (different (serials xs)) (ap different (sym (serials_cons x xs m f)) ∙ e)).1

head_different : (x : Entry) (xs : List Entry) (m : Node) → x.2 ≡ Some m → different (serials (x ∷ xs)) ≡ true → (t : Entry) (n : Node) → In t xs → t.2 ≡ Some n → n.serial ≡ m.serial → ⊥
unfolding different
head_different x xs m f e t n i g k = true≢false (sym (eq-eqb m.serial n.serial (sym k))
    ∙ tally_none (eqb m.serial) (serials xs) (eqb-true (tally (eqb m.serial) (serials xs)) 0 (and_true (eqb (tally (eqb m.serial) (serials xs)) 0) (different (serials xs)) (ap different (sym (serials_cons x xs m f)) ∙ e)).0) (serial_in xs t n i g))

pub once : (ts : List Entry) → different (serials ts) ≡ true → (t t' : Entry) (n n' : Node) → In t ts → In t' ts → t.2 ≡ Some n → t'.2 ≡ Some n' → n.serial ≡ n'.serial → (t.0 ≡ t'.0) × (t.1 ≡ t'.1)
once [] d t t' n n' i i' e e' k = absurd (not_in_nil i)
once (x ∷ xs) d t t' n n' i i' e e' k = go (in_cases i) (in_cases i') (λ j j'. once xs (rest_different x xs d) t t' n n' j j' e e' k)
  where
    at : (z : Entry) (m : Node) → z ≡ x → z.2 ≡ Some m → x.2 ≡ Some m
    at z m p f = ap (λ (y : Entry). y.2) (sym p) ∙ f

    go : (t ≡ x) ⊎ In t xs → (t' ≡ x) ⊎ In t' xs → (In t xs → In t' xs → (t.0 ≡ t'.0) × (t.1 ≡ t'.1)) → (t.0 ≡ t'.0) × (t.1 ≡ t'.1)
    go (inl p) (inl p') ih = (ap (λ (y : Entry). y.0) (p ∙ sym p'), ap (λ (y : Entry). y.1) (p ∙ sym p'))
    go (inl p) (inr j') ih = absurd (head_different x xs n (at t n p e) d t' n' j' e' (sym k))
    go (inr j) (inl p') ih = absurd (head_different x xs n' (at t' n' p' e') d t n j e k)
    go (inr j) (inr j') ih = ih j j'

-- ---- and what stands once passes the test
cons_different : (x : Entry) (xs : List Entry) → ((m : Node) → x.2 ≡ Some m → (t : Entry) (n : Node) → In t xs → t.2 ≡ Some n → n.serial ≡ m.serial → ⊥)
    → different (serials xs) ≡ true → different (serials (x ∷ xs)) ≡ true
unfolding different
cons_different x xs apart d = go x.2 refl
  where
    unlike : (m : Node) → x.2 ≡ Some m → (k : ℕ) → In k (serials xs) → eqb m.serial k ≡ false
    unlike m f k i = let r = in_serials xs k i in ne_eqb m.serial k (λ e. apart m f r.0 r.2.0 r.1 r.2.1 (r.2.2 ∙ sym e))

    go : (o : Option Node) → x.2 ≡ o → different (serials (x ∷ xs)) ≡ true
    go None f = ap different (serials_skip x xs f) ∙ d
    go (Some m) f = ap different (serials_cons x xs m f) ∙ both_true (eq-eqb (tally (eqb m.serial) (serials xs)) 0 (none_tally (eqb m.serial) (serials xs) (unlike m f))) d

slots_different : (u k : ℕ) (l : List (Option Node)) (ts : List Entry)
    → ((s s' : ℕ) (n n' : Node) → get_or l s None ≡ Some n → get_or l s' None ≡ Some n' → n.serial ≡ n'.serial → s ≡ s')
    → ((s : ℕ) (m : Node) → get_or l s None ≡ Some m → (t : Entry) (n : Node) → In t ts → t.2 ≡ Some n → n.serial ≡ m.serial → ⊥)
    → different (serials ts) ≡ true → different (serials (slots_from u k l ++ ts)) ≡ true
unfolding slots_from
slots_different u k [] ts one apart d = d
slots_different u k (x ∷ xs) ts one apart d = cons_different (u, k, x) (slots_from u (suc k) xs ++ ts) head
    (slots_different u (suc k) xs ts (λ s s' n n' e e' q. down (one (suc s) (suc s') n n' e e' q)) (λ s m e. apart (suc s) m e) d)
  where
    down : {a c : ℕ} → suc a ≡ suc c → a ≡ c
    down e = omega arith

    inner : (k : ℕ) (l : List (Option Node)) (t : Entry) → In t (slots_from u k l ++ ts) → ((s : ℕ) × (get_or l s None ≡ t.2)) ⊎ In t ts
    inner k [] t i = inr i
    inner k (y ∷ ys) t i = step (in_cases i) (inner (suc k) ys t)
      where
        step : (t ≡ (u, k, y)) ⊎ In t (slots_from u (suc k) ys ++ ts) → (In t (slots_from u (suc k) ys ++ ts) → ((s : ℕ) × (get_or ys s None ≡ t.2)) ⊎ In t ts) → ((s : ℕ) × (get_or (y ∷ ys) s None ≡ t.2)) ⊎ In t ts
        step (inl e) ih = inl (zero, ap (λ (z : Entry). z.2) (sym e))
        step (inr j) ih = up (ih j)
          where
            up : ((s : ℕ) × (get_or ys s None ≡ t.2)) ⊎ In t ts → ((s : ℕ) × (get_or (y ∷ ys) s None ≡ t.2)) ⊎ In t ts
            up (inl r) = inl (suc r.0, r.1)
            up (inr j) = inr j

    head : (m : Node) → x ≡ Some m → (t : Entry) (n : Node) → In t (slots_from u (suc k) xs ++ ts) → t.2 ≡ Some n → n.serial ≡ m.serial → ⊥
    head m f t n i g q = go (inner (suc k) xs t i)
      where
        go : ((s : ℕ) × (get_or xs s None ≡ t.2)) ⊎ In t ts → ⊥
        go (inl r) = omega (arith, one zero (suc r.0) m n f (r.1 ∙ g) (sym q))
        go (inr j) = apart zero m f t n j g q

-- a list of rising numbers from lo on
abbrev Rising : ℕ → List ℕ → Type 0
Rising lo [] = Unit {0}
Rising lo (u ∷ us) = (lo ≤ u) × Rising (suc u) us

past : (lo : ℕ) (us : List ℕ) (w : ℕ) → Rising lo us → In w us → lo ≤ w
past lo [] w r i = absurd (not_in_nil i)
past lo (u ∷ us) w r i = go (in_cases i) (past (suc u) us w r.1)
  where
    go : (w ≡ u) ⊎ In w us → (In w us → suc u ≤ w) → lo ≤ w
    go (inl e) ih = omega (arith, e, r.0)
    go (inr j) ih = omega (arith, ih j, r.0)

module _ (b : Bench) (one : (u s u' s' : ℕ) (n n' : Node) → slot_of b u s ≡ Some n → slot_of b u' s' ≡ Some n' → n.serial ≡ n'.serial → (u ≡ u') × (s ≡ s')) where
  gathered : (lo : ℕ) (us : List ℕ) → Rising lo us → different (serials (gather b us)) ≡ true
  unfolding gather different serials
  gathered lo [] r = refl
  gathered lo (u ∷ us) r = slots_different u 0 (interface b u).slots (gather b us) (λ s s' n n' e e' q. (one u s u s' n n' e e' q).1) apart (gathered (suc u) us r.1)
    where
      apart : (s : ℕ) (m : Node) → slot_of b u s ≡ Some m → (t : Entry) (n : Node) → In t (gather b us) → t.2 ≡ Some n → n.serial ≡ m.serial → ⊥
      apart s m e t n i f q = let S : Slot b us t = in_gather b us t i in
          omega (arith, past (suc u) us t.0 r.1 S.unit, (one u s t.0 t.1 m n e (sym S.holds ∙ f) (sym q)).0)

  pub all_different : different (serials (gather b units)) ≡ true
  all_different = gathered 0 units (omega arith)
