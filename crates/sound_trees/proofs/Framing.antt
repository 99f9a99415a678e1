-- The tests of the eight interfaces hold exactly where the interfaces' words are canonical and their view is a frame: each test says its fact
-- of the words, and the view shows the same links. Assumes nothing.
use Rattle.std.specs.Prelude.{None, Option, Some}
use Prim.Native.Nat.{ℕ, zero, suc, ◌+◌, ◌-◌, ◌<◌, ◌≤◌}
use mathlib.Core.Path.{◌≡◌, refl, sym, ◌∙◌, ap, subst}
use mathlib.Core.Logic.{◌≢◌, ◌⊎◌, inl, inr}
use mathlib.Core.Bool.{Bool, true, false, not, ◌&&◌, ◌||◌, true≢false, or-true}
use mathlib.Core.List.{List}
use native.Mathlib.Decide.{ℕ_discrete, dec_lt}
use native.Mathlib.Omega.{arith}
use lib.Dec.{eqb, leb, ltb}
use lib.ListN.{length, get_or, get_or-eq_default}
use borrow.Author.Tests.{eqb-true, eqb-false, eq-eqb, ne_eqb, leb-true, le-leb, ltb-true, lt-ltb, not-true}
use Rattle.bench_words.specs.Codec.{pick}
use Rattle.bench_words.specs.Store.{node_at, interface_at}
use Rattle.bench_words.specs.declared.Interface.{Interface}
use Rattle.bench_words.proofs.Laws.{GoodUp, good_interface}
use Rattle.ledger_spec.specs.Bench.{Bench, fresh}
use Rattle.ledger_spec.specs.Bench as plain
use Rattle.ledger_spec.specs.Look.{interface}
use Rattle.ledger_spec.specs.Tests.{is_some}
use Rattle.ledger_spec.specs.Frame.{Frame}
use Rattle.ledger_spec.proofs.Lists.{and_true, both_true}
use Rattle.ledger_spec.proofs.Knit.{some_eq, none_some}
use Rattle.bench_views.specs.Records.{Steady}
use Rattle.bench_views.specs.View.{up_seen, halves_seen, view}
use Rattle.bench_views.proofs.Views.{interface_in_lem, view_eight, view_parent}
use Rattle.bench_words.specs.Coding.{spare_at, link_at, flags_at}
use Rattle.sound_trees.specs.Links.{is_under, up_test, down_test, interface_test}

-- ---- the facts of one interface
pub record Halves (U : ℕ → Interface) (u : ℕ) : Type 0 where
  pub left : (U u).left ≤ u
  pub right : (U u).right ≤ u
  pub some : 0 < (U u).right
  pub apart : (U u).left ≢ (U u).right
  pub left_up : (U ((U u).left - 1)).parent ≡ Some u
  pub right_up : (U ((U u).right - 1)).parent ≡ Some u

pub record Linked (U : ℕ → Interface) (u : ℕ) : Type 0 where
  pub used : (U u).used ≤ 64
  pub progress : (U u).progress ≤ 1099511627776
  pub above : (p : ℕ) → (U u).parent ≡ Some p → (u < p) × (((U p).left ≡ u + 1) ⊎ ((U p).right ≡ u + 1))
  pub none : (U u).left ≡ 0 → (U u).right ≡ 0
  pub both : ((U u).left ≡ 0 → ⊥) → Halves U u

under_is : (p : Option ℕ) (u : ℕ) → is_under p u ≡ true → p ≡ Some u
under_is None u e = absurd (true≢false (sym e))
under_is (Some q) u e = ap Some (eqb-true q u e)

is_under_lem : (p : Option ℕ) (u : ℕ) → p ≡ Some u → is_under p u ≡ true
is_under_lem p u e = ap (λ (x : Option ℕ). is_under x u) e ∙ eq-eqb u u refl

or_cases : (a b : Bool) → (a || b) ≡ true → (a ≡ true) ⊎ (b ≡ true)
or_cases true b e = inl refl
or_cases false b e = inr e

module _ (U : ℕ → Interface) (u : ℕ) where
  above_says : (q p : Option ℕ) → (n : ℕ) → up_test U p u ≡ true → p ≡ Some n → (u < n) × (((U n).left ≡ u + 1) ⊎ ((U n).right ≡ u + 1))
  above_says q p n e k =
      let a = and_true (ltb u n) (eqb (U n).left (u + 1) || eqb (U n).right (u + 1)) (sym (ap (λ (x : Option ℕ). up_test U x u) k) ∙ e) in
      (ltb-true u n a.0, either (or_cases (eqb (U n).left (u + 1)) (eqb (U n).right (u + 1)) a.1))
    where
      either : (eqb (U n).left (u + 1) ≡ true) ⊎ (eqb (U n).right (u + 1) ≡ true) → ((U n).left ≡ u + 1) ⊎ ((U n).right ≡ u + 1)
      either (inl x) = inl (eqb-true (U n).left (u + 1) x)
      either (inr x) = inr (eqb-true (U n).right (u + 1) x)

  above_holds : (p : Option ℕ) → ((n : ℕ) → p ≡ Some n → (u < n) × (((U n).left ≡ u + 1) ⊎ ((U n).right ≡ u + 1))) → up_test U p u ≡ true
  above_holds None h = refl
  above_holds (Some n) h = both_true (lt-ltb u n (h n refl).0) (either (h n refl).1)
    where
      either : ((U n).left ≡ u + 1) ⊎ ((U n).right ≡ u + 1) → (eqb (U n).left (u + 1) || eqb (U n).right (u + 1)) ≡ true
      either (inl x) = ap (λ (c : Bool). c || eqb (U n).right (u + 1)) (eq-eqb (U n).left (u + 1) x)
      either (inr x) = ap (λ (c : Bool). eqb (U n).left (u + 1) || c) (eq-eqb (U n).right (u + 1) x) ∙ or-true (eqb (U n).left (u + 1))

  abbrev lo : ℕ
  lo = (U u).left

  abbrev hi : ℕ
  hi = (U u).right

  none_says : down_test U lo hi u ≡ true → lo ≡ 0 → hi ≡ 0
  none_says e z = eqb-true hi 0 (sym (ap (λ (c : Bool). pick c (eqb hi 0) (leb lo u && (leb hi u && (not (eqb hi 0) && (not (eqb lo hi) && (is_under (U (lo - 1)).parent u && is_under (U (hi - 1)).parent u)))))) (eq-eqb lo 0 z)) ∙ e)

  both_says : down_test U lo hi u ≡ true → (lo ≡ 0 → ⊥) → Halves U u
  both_says e ne =
      let a = and_true (leb lo u) _ (sym (ap (λ (c : Bool). pick c (eqb hi 0) (leb lo u && (leb hi u && (not (eqb hi 0) && (not (eqb lo hi) && (is_under (U (lo - 1)).parent u && is_under (U (hi - 1)).parent u)))))) (ne_eqb lo 0 ne)) ∙ e) in
      let b = and_true (leb hi u) _ a.1 in
      let c = and_true (not (eqb hi 0)) _ b.1 in
      let d = and_true (not (eqb lo hi)) _ c.1 in
      let f = and_true (is_under (U (lo - 1)).parent u) _ d.1 in
      let z = eqb-false hi 0 (not-true (eqb hi 0) c.0) in
      record {
        left = leb-true lo u a.0;
        right = leb-true hi u b.0;
        some = go (ℕ_discrete hi 0) z;
        apart = eqb-false lo hi (not-true (eqb lo hi) d.0);
        left_up = under_is (U (lo - 1)).parent u f.0;
        right_up = under_is (U (hi - 1)).parent u f.1;
      }
    where
      go : Dec (hi ≡ 0) → (hi ≡ 0 → ⊥) → 0 < hi
      go (yes q) z = absurd (z q)
      go (no q) z = omega (arith, q)

  down_holds : (lo ≡ 0 → hi ≡ 0) → ((lo ≡ 0 → ⊥) → Halves U u) → down_test U lo hi u ≡ true
  down_holds h k = go (ℕ_discrete lo 0)
    where
      go : Dec (lo ≡ 0) → down_test U lo hi u ≡ true
      go (yes q) = rw (eq-eqb lo 0 q) (eq-eqb hi 0 (h q))
      go (no q) = let H = k q in
          rw (ne_eqb lo 0 q)
          (both_true (le-leb lo u H.left) (both_true (le-leb hi u H.right) (both_true (ap not (ne_eqb hi 0 (λ e. omega (arith, e, H.some))))
          (both_true (ap not (ne_eqb lo hi H.apart)) (both_true (is_under_lem (U (lo - 1)).parent u H.left_up) (is_under_lem (U (hi - 1)).parent u H.right_up))))))

-- ---- the test and the facts of one interface
module _ (b : List ℕ) (u : ℕ) where
  abbrev U : ℕ → Interface
  U = interface_at b

  pub interface_says : interface_test b u ≡ true → Linked (interface_at b) u
  unfolding interface_test
  interface_says e =
      let x = and_true (spare_at b u && (link_at b u && flags_at b u)) _ e in
      let y = and_true (leb (U u).used 64 && leb (U u).progress 1099511627776) _ x.1 in
      let z = and_true (leb (U u).used 64) (leb (U u).progress 1099511627776) y.0 in
      let w = and_true (up_test U (U u).parent u) (down_test U (U u).left (U u).right u) y.1 in
      record {
        used = leb-true (U u).used 64 z.0;
        progress = leb-true (U u).progress 1099511627776 z.1;
        above = λ p q. above_says U u (U u).parent (U u).parent p w.0 q;
        none = none_says U u w.1;
        both = both_says U u w.1;
      }

  pub interface_coded : interface_test b u ≡ true → (spare_at b u ≡ true) × (link_at b u ≡ true) × (flags_at b u ≡ true)
  unfolding interface_test
  interface_coded e =
      let x = and_true (spare_at b u) (link_at b u && flags_at b u) (and_true (spare_at b u && (link_at b u && flags_at b u)) _ e).0 in
      let y = and_true (link_at b u) (flags_at b u) x.1 in
      (x.0, y.0, y.1)

  pub interface_holds : spare_at b u ≡ true → link_at b u ≡ true → flags_at b u ≡ true → Linked (interface_at b) u → interface_test b u ≡ true
  unfolding interface_test
  interface_holds s k g L =
      both_true (both_true s (both_true k g)) (both_true (both_true (le-leb (U u).used 64 L.used) (le-leb (U u).progress 1099511627776 L.progress))
      (both_true (above_holds U u (U u).parent L.above) (down_holds U u L.none L.both)))

-- ---- the view's links are the words'
up_back : (p : Option ℕ) (n : ℕ) → up_seen p ≡ Some n → p ≡ Some n
up_back None n e = absurd (none_some refl e)
up_back (Some q) n e = let z : q ≡ n = cc in ap Some z

module _ (b : List ℕ) where
  abbrev B : Bench
  B = view b

  abbrev I : ℕ → Interface
  I = interface_at b

  out : (v : ℕ) → 8 ≤ v → interface B v ≡ fresh
  out v l = let e : length B.interfaces ≤ v = omega (arith, view_eight (get_or b 0 0) (interface_at b) (node_at b)) in get_or-eq_default B.interfaces fresh e

  halves_in : (v : ℕ) → v < 8 → (interface B v).halves ≡ halves_seen (I v).left (I v).right
  halves_in v l = ap (λ (f : plain.Interface). f.halves) (interface_in_lem (get_or b 0 0) (interface_at b) (node_at b) v l)

  parent_in : (v : ℕ) → v < 8 → (interface B v).parent ≡ up_seen (I v).parent
  parent_in v l = view_parent (get_or b 0 0) (interface_at b) (node_at b) v l

  some_halves : (v : ℕ) → v < 8 → ((I v).left ≡ 0 → ⊥) → (interface B v).halves ≡ Some ((I v).left - 1, (I v).right - 1)
  some_halves v l z = halves_in v l ∙ rw (ne_eqb (I v).left 0 z)

  no_halves : (v : ℕ) → v < 8 → (I v).left ≡ 0 → (interface B v).halves ≡ None
  no_halves v l z = halves_in v l ∙ rw (eq-eqb (I v).left 0 z)

  -- what is seen of a parent and of halves is held by one of eight
  parent_held : (v p : ℕ) → (interface B v).parent ≡ Some p → (v < 8) × ((I v).parent ≡ Some p)
  parent_held v p e = go (dec_lt v 8)
    where
      go : Dec (v < 8) → (v < 8) × ((I v).parent ≡ Some p)
      go (yes q) = (q, up_back (I v).parent p (sym (parent_in v q) ∙ e))
      go (no q) = absurd (none_some (ap (λ (f : plain.Interface). f.parent) (out v (omega arith))) e)

  record Held (v x y : ℕ) : Type 0 where
    low : v < 8
    some : (I v).left ≡ 0 → ⊥
    left : x ≡ (I v).left - 1
    right : y ≡ (I v).right - 1

  halves_held : (v x y : ℕ) → (interface B v).halves ≡ Some (x, y) → Held v x y
  halves_held v x y e = go (dec_lt v 8)
    where
      two : v < 8 → Dec ((I v).left ≡ 0) → Held v x y
      two q (yes z) = absurd (none_some (no_halves v q z) e)
      two q (no z) =
          let w : ◌≡◌ {A = ℕ × ℕ} ((I v).left - 1, (I v).right - 1) (x, y) = some_eq (some_halves v q z) e in
          record { low = q; some = z; left = sym (ap (λ (t : ℕ × ℕ). t.0) w); right = sym (ap (λ (t : ℕ × ℕ). t.1) w) }

      go : Dec (v < 8) → Held v x y
      go (yes q) = two q (ℕ_discrete (I v).left 0)
      go (no q) = absurd (none_some (ap (λ (f : plain.Interface). f.halves) (out v (omega arith))) e)

  -- ---- from the tests
  module _ (L : (u : ℕ) → u < 8 → Linked (interface_at b) u) where
    pub linked_frame : Frame (view b)
    linked_frame = record {
      eight = view_eight (get_or b 0 0) (interface_at b) (node_at b);
      rising = λ u p e. let h = parent_held u p e in (((L u h.0).above p h.1).0, good u p h.1);
      linked = λ u p e. let h = parent_held u p e in
          ap is_some (some_halves p (good u p h.1) (λ z. not_none u p ((L u h.0).above p h.1).1 (good u p h.1) z));
      up = λ w u x y e f. let h = parent_held w u e in let g = halves_held u x y f in which w u x y g ((L w h.0).above u h.1).1 ((L u g.low).both g.some);
      left = λ u x y f. let g = halves_held u x y f in let H = (L u g.low).both g.some in let s = H.left in
          ap (λ (v : ℕ). (interface B v).parent) g.left ∙ parent_in ((I u).left - 1) (omega (arith, g.low, H.left)) ∙ ap up_seen H.left_up;
      right = λ u x y f. let g = halves_held u x y f in let H = (L u g.low).both g.some in
          ap (λ (v : ℕ). (interface B v).parent) g.right ∙ parent_in ((I u).right - 1) (omega (arith, g.low, H.right)) ∙ ap up_seen H.right_up;
      apart = λ u x y f k. let g = halves_held u x y f in let H = (L u g.low).both g.some in differ u x y g H k;
    }
      where
        good : (u p : ℕ) → (I u).parent ≡ Some p → p < 8
        good u p e = subst GoodUp e (good_interface b u)

        not_none : (u p : ℕ) → ((I p).left ≡ u + 1) ⊎ ((I p).right ≡ u + 1) → p < 8 → (I p).left ≡ 0 → ⊥
        not_none u p (inl x) l z = omega (arith, x, z)
        not_none u p (inr x) l z = omega (arith, x, (L p l).none z)

        which : (w u x y : ℕ) → Held u x y → ((I u).left ≡ w + 1) ⊎ ((I u).right ≡ w + 1) → Halves (interface_at b) u → (w ≡ x) ⊎ (w ≡ y)
        which w u x y g (inl e) H = inl (omega (arith, g.left, e))
        which w u x y g (inr e) H = inr (omega (arith, g.right, e))

        differ : (u x y : ℕ) → Held u x y → Halves (interface_at b) u → x ≡ y → ⊥
        differ u x y g H k = go (ℕ_discrete (I u).left 0)
          where
            go : Dec ((I u).left ≡ 0) → ⊥
            go (yes z) = g.some z
            go (no z) = H.apart (omega (arith, z, g.left, g.right, k, H.some))

    pub linked_steady : length b ≡ 6273 → Steady b
    linked_steady len = record { len = len; slots = λ u l. (L u l).used; progress = λ u l. (L u l).progress; rising = λ u p l e. ((L u l).above p e).0 }

  -- ---- and back
  module _ (st : Steady b) (F : Frame (view b)) (whole : (u : ℕ) → u < 8 → (I u).left ≡ 0 → (I u).right ≡ 0) (both : (u : ℕ) → u < 8 → ((I u).left ≡ 0 → ⊥) → 0 < (I u).right) where
    pub frame_linked : (u : ℕ) → u < 8 → Linked (interface_at b) u
    frame_linked u lu = record { used = st.slots u lu; progress = st.progress u lu; above = above; none = whole u lu; both = halves }
      where
        above : (p : ℕ) → (I u).parent ≡ Some p → (u < p) × (((I p).left ≡ u + 1) ⊎ ((I p).right ≡ u + 1))
        above p e = ((F.rising u p seen).0, go (ℕ_discrete (I p).left 0))
          where
            seen : (interface B u).parent ≡ Some p
            seen = parent_in u lu ∙ ap up_seen e

            low : p < 8
            low = (F.rising u p seen).1

            which : ((I p).left ≡ 0 → ⊥) → (u ≡ (I p).left - 1) ⊎ (u ≡ (I p).right - 1) → ((I p).left ≡ u + 1) ⊎ ((I p).right ≡ u + 1)
            which z (inl x) = inl (pred (I p).left z x)
              where
                pred : (n : ℕ) → (n ≡ 0 → ⊥) → u ≡ n - 1 → n ≡ u + 1
                pred zero z x = absurd (z refl)
                pred (suc n) z x = omega arith
            which z (inr x) = inr (omega (arith, x, both p low z))

            go : Dec ((I p).left ≡ 0) → ((I p).left ≡ u + 1) ⊎ ((I p).right ≡ u + 1)
            go (yes z) = absurd (true≢false (sym (F.linked u p seen) ∙ ap is_some (no_halves p low z)))
            go (no z) = which z (F.up u p ((I p).left - 1) ((I p).right - 1) seen (some_halves p low z))

        halves : ((I u).left ≡ 0 → ⊥) → Halves (interface_at b) u
        halves z = record {
          left = below (I u).left z (F.rising ((I u).left - 1) u x).0;
          right = omega (arith, both u lu z, (F.rising ((I u).right - 1) u y).0);
          some = both u lu z;
          apart = λ e. F.apart u ((I u).left - 1) ((I u).right - 1) (some_halves u lu z) (ap (λ (n : ℕ). n - 1) e);
          left_up = (parent_held ((I u).left - 1) u x).1;
          right_up = (parent_held ((I u).right - 1) u y).1;
        }
          where
            x : (interface B ((I u).left - 1)).parent ≡ Some u
            x = F.left u ((I u).left - 1) ((I u).right - 1) (some_halves u lu z)

            y : (interface B ((I u).right - 1)).parent ≡ Some u
            y = F.right u ((I u).left - 1) ((I u).right - 1) (some_halves u lu z)

            below : (n : ℕ) → (n ≡ 0 → ⊥) → n - 1 < u → n ≤ u
            below zero z l = absurd (z refl)
            below (suc n) z l = omega arith
