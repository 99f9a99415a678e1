-- The walk finds nothing exactly where no vertex comes twice, nor was seen before, and no circle has a finding. Assumes nothing.
use Rattle.std.specs.Prelude.{None, Option, Some}
use Prim.Native.Nat.{ℕ, zero, suc}
use mathlib.Core.Path.{◌≡◌, refl, sym, ◌∙◌, ap}
use mathlib.Core.Logic.{◌⊎◌, inl, inr}
use mathlib.Core.Bool.{Bool, true, false, ◌||◌, true≢false}
use mathlib.Core.List.{List, [], ◌∷◌}
use native.Mathlib.Omega.{arith}
use borrow.Author.Tests.{eq-eqb, eqb-true}
use lib.Dec.{eqb}
use Rattle.ledger_spec.specs.Bench.{Member, Class, defect, blossom, Node, Bench}
use Rattle.ledger_spec.specs.Tests.{any}
use Rattle.ledger_spec.specs.Check.{circle_verdict, finding}
use Rattle.ledger_spec.specs.Knit.{In, here, there}
use Rattle.ledger_spec.proofs.Lists.{or_false, not_in_nil, in_cases}
use Rattle.ledger_spec.proofs.Knit.{none_some, some_eq}
use Rattle.ledger_laws.specs.Clean.{Entry, vertex_of, vertex_at}
use Rattle.ledger_laws.proofs.Steps.{walk_none, walk_empty, walk_again, walk_new, walk_ring, walk_bad}

-- a slot whose circle, if it has one, has no finding
abbrev pub Passes : Bench → Entry → Type 0
Passes b t = (n : Node) (ms : List Member) → t.2 ≡ Some n → n.class ≡ blossom ms → (circle_verdict b ms).0 ≡ 0

pub record Tidy (b : Bench) (ts : List Entry) (seen : List ℕ) : Type 0 where
  pub fresh : (i v : ℕ) → vertex_at ts i ≡ Some v → any (eqb v) seen ≡ false
  pub single : (i j v : ℕ) → vertex_at ts i ≡ Some v → vertex_at ts j ≡ Some v → i ≡ j
  pub rings : (t : Entry) → In t ts → Passes b t

any_cons : (p : ℕ → Bool) (v : ℕ) (vs : List ℕ) → any p (v ∷ vs) ≡ (p v || any p vs)
unfolding any
any_cons p v vs = refl

vertex_defect : (o : Option Node) (n : Node) (v : ℕ) → o ≡ Some n → n.class ≡ defect v → vertex_of o ≡ Some v
unfolding vertex_of
vertex_defect o n v e c = rw (e, c, vertex_of)

vertex_none : (o : Option Node) → o ≡ None → vertex_of o ≡ None
unfolding vertex_of
vertex_none o e = rw (e, vertex_of)

vertex_ring : (o : Option Node) (n : Node) (ms : List Member) → o ≡ Some n → n.class ≡ blossom ms → vertex_of o ≡ None
unfolding vertex_of
vertex_ring o n ms e c = rw (e, c, vertex_of)

vertex_past : (i : ℕ) → vertex_at [] i ≡ None
unfolding vertex_of
vertex_past i = refl

-- ---- one slot more, without a vertex and with one
module _ (b : Bench) (t : Entry) (ts : List Entry) (seen : List ℕ) where
  rings_more : Passes b t → ((x : Entry) → In x ts → Passes b x) → (x : Entry) → In x (t ∷ ts) → Passes b x
  rings_more p r x i = go (in_cases i)
    where
      go : (x ≡ t) ⊎ In x ts → Passes b x
      go (inl q) = rw q p
      go (inr j) = r x j

  module _ (z : vertex_of t.2 ≡ None) where
    tidy_none : Passes b t → Tidy b ts seen → Tidy b (t ∷ ts) seen
    tidy_none p T = record { fresh = fresh; single = single; rings = rings_more p T.rings }
      where
        fresh : (i v : ℕ) → vertex_at (t ∷ ts) i ≡ Some v → any (eqb v) seen ≡ false
        fresh zero v e = absurd (none_some z e)
        fresh (suc i) v e = T.fresh i v e

        single : (i j v : ℕ) → vertex_at (t ∷ ts) i ≡ Some v → vertex_at (t ∷ ts) j ≡ Some v → i ≡ j
        single zero j v e f = absurd (none_some z e)
        single (suc i) zero v e f = absurd (none_some z f)
        single (suc i) (suc j) v e f = ap suc (T.single i j v e f)

  tidy_rest : Tidy b (t ∷ ts) seen → Tidy b ts seen
  tidy_rest T = record {
    fresh = λ i v e. T.fresh (suc i) v e;
    single = λ i j v e f. let q = T.single (suc i) (suc j) v e f in omega arith;
    rings = λ x i. T.rings x (there i);
  }

  module _ (w : ℕ) (z : vertex_of t.2 ≡ Some w) where
    tidy_vertex : Passes b t → any (eqb w) seen ≡ false → Tidy b ts (w ∷ seen) → Tidy b (t ∷ ts) seen
    tidy_vertex p a T = record { fresh = fresh; single = single; rings = rings_more p T.rings }
      where
        apart : (v : ℕ) → any (eqb v) (w ∷ seen) ≡ false → (eqb v w ≡ false) × (any (eqb v) seen ≡ false)
        apart v e = or_false (eqb v w) (any (eqb v) seen) (sym (any_cons (eqb v) w seen) ∙ e)

        clash : (j v : ℕ) → w ≡ v → vertex_at ts j ≡ Some v → ⊥
        clash j v e f = true≢false (sym (eq-eqb v w (sym e)) ∙ (apart v (T.fresh j v f)).0)

        fresh : (i v : ℕ) → vertex_at (t ∷ ts) i ≡ Some v → any (eqb v) seen ≡ false
        fresh zero v e = ap (λ (x : ℕ). any (eqb x) seen) (sym (some_eq z e)) ∙ a
        fresh (suc i) v e = (apart v (T.fresh i v e)).1

        single : (i j v : ℕ) → vertex_at (t ∷ ts) i ≡ Some v → vertex_at (t ∷ ts) j ≡ Some v → i ≡ j
        single zero zero v e f = refl
        single zero (suc j) v e f = absurd (clash j v (some_eq z e) f)
        single (suc i) zero v e f = absurd (clash i v (some_eq z f) e)
        single (suc i) (suc j) v e f = ap suc (T.single i j v e f)

    tidy_seen : Tidy b (t ∷ ts) seen → Tidy b ts (w ∷ seen)
    tidy_seen T = record {
      fresh = λ i v e. any_cons (eqb v) w seen ∙ go i v e (eqb v w) refl;
      single = λ i j v e f. let q = T.single (suc i) (suc j) v e f in omega arith;
      rings = λ x i. T.rings x (there i);
    }
      where
        go : (i v : ℕ) → vertex_at ts i ≡ Some v → (c : Bool) → eqb v w ≡ c → (eqb v w || any (eqb v) seen) ≡ false
        go i v e true q = absurd (let s = T.single zero (suc i) w z (e ∙ ap Some (eqb-true v w q)) in omega arith)
        go i v e false q = rw q (T.fresh (suc i) v e)

-- ---- the walk
module _ (b : Bench) (whole : List Entry) where
  pub walk_tidy : (ts : List Entry) (seen : List ℕ) (k : ℕ) → (finding b whole ts seen k).0 ≡ 0 → Tidy b ts seen
  walk_tidy [] seen k z = record {
    fresh = λ i v e. absurd (none_some (vertex_past i) e);
    single = λ i j v e f. absurd (none_some (vertex_past i) e);
    rings = λ t i. absurd (not_in_nil i);
  }
  walk_tidy (t ∷ ts) seen k z = go t.2 refl (walk_tidy ts)
    where
      go : (o : Option Node) → t.2 ≡ o → ((s : List ℕ) (j : ℕ) → (finding b whole ts s j).0 ≡ 0 → Tidy b ts s) → Tidy b (t ∷ ts) seen
      go None e ih = tidy_none b t ts seen (vertex_none t.2 e) (λ n ms q c. absurd (none_some e q)) (ih seen (suc k) (sym (ap (λ (w : ℕ × ℕ). w.0) (walk_empty b whole t ts seen k e)) ∙ z))
      go (Some n) e ih = class n.class refl
        where
          class : (c : Class) → n.class ≡ c → Tidy b (t ∷ ts) seen
          class (defect v) c = met (any (eqb v) seen) refl
            where
              met : (x : Bool) → any (eqb v) seen ≡ x → Tidy b (t ∷ ts) seen
              met true a = absurd (omega (arith, z, ap (λ (w : ℕ × ℕ). w.0) (walk_again b whole t ts seen k n e v c a)))
              met false a = tidy_vertex b t ts seen v (vertex_defect t.2 n v e c)
                  (λ m ms q d. absurd (let r : n ≡ m = some_eq e q in let y : defect v ≡ blossom ms = cc in let y2 : ◌≡◌ {A = ℕ} 0 1 = cc in omega arith)) a
                  (ih (v ∷ seen) (suc k) (sym (ap (λ (w : ℕ × ℕ). w.0) (walk_new b whole t ts seen k n e v c a)) ∙ z))
          class (blossom ms) c = ring (circle_verdict b ms).0 refl
            where
              ring : (j : ℕ) → (circle_verdict b ms).0 ≡ j → Tidy b (t ∷ ts) seen
              ring (suc j) r = absurd (omega (arith, z, ap (λ (w : ℕ × ℕ). w.0) (walk_bad b whole t ts seen k n e ms c j r)))
              ring zero r = tidy_none b t ts seen (vertex_ring t.2 n ms e c) (λ m ks q d. let x : n ≡ m = some_eq e q in let y : ms ≡ ks = cc in rw (← y) r)
                  (ih seen (suc k) (sym (ap (λ (w : ℕ × ℕ). w.0) (walk_ring b whole t ts seen k n e ms c r)) ∙ z))

  pub tidy_walk : (ts : List Entry) (seen : List ℕ) (k : ℕ) → Tidy b ts seen → (finding b whole ts seen k).0 ≡ 0
  tidy_walk [] seen k T = ap (λ (w : ℕ × ℕ). w.0) (walk_none b whole seen k)
  tidy_walk (t ∷ ts) seen k T = go t.2 refl (tidy_walk ts)
    where
      go : (o : Option Node) → t.2 ≡ o → ((s : List ℕ) (j : ℕ) → Tidy b ts s → (finding b whole ts s j).0 ≡ 0) → (finding b whole (t ∷ ts) seen k).0 ≡ 0
      go None e ih = ap (λ (w : ℕ × ℕ). w.0) (walk_empty b whole t ts seen k e) ∙ ih seen (suc k) (tidy_rest b t ts seen T)
      go (Some n) e ih = class n.class refl
        where
          class : (c : Class) → n.class ≡ c → (finding b whole (t ∷ ts) seen k).0 ≡ 0
          class (defect v) c = let x = vertex_defect t.2 n v e c in
              ap (λ (w : ℕ × ℕ). w.0) (walk_new b whole t ts seen k n e v c (T.fresh zero v x)) ∙ ih (v ∷ seen) (suc k) (tidy_seen b t ts seen v x T)
          class (blossom ms) c = ap (λ (w : ℕ × ℕ). w.0) (walk_ring b whole t ts seen k n e ms c (T.rings t (here refl) n ms e c)) ∙ ih seen (suc k) (tidy_rest b t ts seen T)
