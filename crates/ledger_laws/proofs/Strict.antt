-- What the strict verdict means: 0 exactly where the plain one is 0 and every touching node of a blossom member is under that member. The walk up that the
-- definition makes arrives exactly where parents lead, since no chain of a sound bench is longer than 512 links. Assumes nothing.
use Rattle.std.specs.Prelude.{None, Option, Some}
use Prim.Native.Nat.{ℕ, zero, suc, ◌≤◌}
use mathlib.Core.Path.{◌≡◌, refl, sym, ◌∙◌, ap, subst}
use mathlib.Core.Logic.{◌⊎◌, inl, inr}
use mathlib.Core.Bool.{Bool, true, false, true≢false}
use mathlib.Core.List.{List, [], ◌∷◌}
use native.Mathlib.Omega.{arith}
use Rattle.ledger_spec.specs.Bench.{Handle, Member, Class, defect, blossom, Node, Bench}
use Rattle.ledger_spec.specs.Look.{node_named, same_handle}
use Rattle.ledger_spec.specs.Tests.{is_defect}
use Rattle.ledger_spec.specs.Walk.{parent_in}
use Rattle.ledger_spec.specs.Reads.{slots_of}
use Rattle.ledger_spec.specs.Check.{arrives, is_under, strict_member, strict_circle, strict_finding, verdict, strict_verdict}
use Rattle.ledger_spec.specs.Knit.{In, here, there}
use Rattle.ledger_spec.specs.Facts.{Sound}
use Rattle.ledger_spec.specs.Chain.{Chain, end, link}
use Rattle.ledger_spec.proofs.Lists.{and_true, both_true, not_in_nil, in_cases}
use Rattle.ledger_spec.proofs.Knit.{some_eq, none_some, same_handle_lem, same_self}
use Rattle.ledger_spec.proofs.Chains.{chain, links_most}
use Rattle.ledger_laws.specs.Clean.{Entry, Descends, itself, inside, Strict}
use Rattle.ledger_laws.proofs.Steps.{strict_defect, strict_blossom, strict_on, strict_bad, strict_empty, strict_vertex, strict_ring, strict_six, strict_none}
use Rattle.ledger_laws.proofs.Clean.{zero_clean, clean_zero}

-- ---- the walk up arrives where parents lead
module _ (b : Bench) (m : Handle) where
  arrives_here : (k : ℕ) (t : Handle) → same_handle t m ≡ true → arrives k b t m ≡ true
  unfolding arrives
  arrives_here zero t e = e
  arrives_here (suc k) t e = rw (e, arrives)

  arrives_none : (k : ℕ) (t : Handle) → same_handle t m ≡ false → parent_in (node_named b t) ≡ None → arrives k b t m ≡ false
  unfolding arrives
  arrives_none zero t e f = e
  arrives_none (suc k) t e f = rw (e, f, arrives)

  arrives_up : (k : ℕ) (t p : Handle) → same_handle t m ≡ false → parent_in (node_named b t) ≡ Some p → arrives (suc k) b t m ≡ arrives k b p m
  unfolding arrives
  arrives_up k t p e f = rw (e, f, arrives)

  same_descends : (t : Handle) → same_handle t m ≡ true → Descends b m t
  same_descends t e = subst (λ (x : Handle). Descends b m x) (sym (same_handle_lem t m e)) itself

  arrives_zero : (t : Handle) → arrives 0 b t m ≡ true → same_handle t m ≡ true
  unfolding arrives
  arrives_zero t e = e

  arrived : (k : ℕ) (t : Handle) → arrives k b t m ≡ true → Descends b m t
  arrived zero t a = same_descends t (arrives_zero t a)
  arrived (suc k) t a = go (same_handle t m) refl (parent_in (node_named b t)) refl (arrived k)
    where
      go : (c : Bool) → same_handle t m ≡ c → (o : Option Handle) → parent_in (node_named b t) ≡ o → ((p : Handle) → arrives k b p m ≡ true → Descends b m p) → Descends b m t
      go true e o f ih = same_descends t e
      go false e None f ih = absurd (true≢false (sym a ∙ arrives_none (suc k) t e f))
      go false e (Some p) f ih = inside p f (ih p (sym (arrives_up k t p e f) ∙ a))

  onward : {t top p : Handle} {j : ℕ} → Chain b t j top → parent_in (node_named b t) ≡ Some p → (i : ℕ) × (j ≡ suc i) × Chain b p i top
  onward (end e) f = absurd (none_some e f)
  onward (link {h} {k} {t} q e c) f = (k, refl, subst (λ (x : Handle). Chain b x k t) (some_eq e f) c)

  arrives_all : {t top : Handle} {j : ℕ} → Descends b m t → Chain b t j top → (k : ℕ) → j ≤ k → arrives k b t m ≡ true
  arrives_all itself c k l = arrives_here k m (same_self m)
  arrives_all (inside p f d) c zero l = let r = onward c f in absurd (omega (arith, r.1))
  arrives_all (inside {t} p f d) c (suc k) l = let r = onward c f in go (same_handle t m) refl (arrives_all d r.2 k (omega (arith, r.1)))
    where
      go : (s : Bool) → same_handle t m ≡ s → arrives k b p m ≡ true → arrives (suc k) b t m ≡ true
      go true s ih = arrives_here (suc k) t s
      go false s ih = arrives_up k t p s f ∙ ih

-- ---- under, of a sound bench
module _ (b : Bench) where
  under_descends : (t m : Handle) → is_under b t m ≡ true → Descends b m t
  unfolding is_under
  under_descends t m e = arrived b m 512 t e

  module _ (S : Sound b) where
    descends_under : (t m : Handle) → Descends b m t → is_under b t m ≡ true
    unfolding is_under
    descends_under t m d = go (node_named b t) refl
      where
        go : (o : Option Node) → node_named b t ≡ o → arrives 512 b t m ≡ true
        go None e = arrives_all b m d (end (ap parent_in e)) 512 (omega arith)
        go (Some n) e = arrives_all b m d (chain b S t n e) 512 (links_most b 512 t)

-- ---- a member, a circle, a tree's slots
abbrev Under : Bench → Member → Type 0
Under b m = is_defect (node_named b m.node) ≡ false → Descends b m.node m.touch.0 × Descends b m.node m.touch.1

module _ (b : Bench) where
  member_under : (m : Member) → strict_member b m ≡ true → Under b m
  member_under m e d =
      let s = and_true (is_under b m.touch.0 m.node) (is_under b m.touch.1 m.node) (sym (strict_blossom b m d) ∙ e) in
      (under_descends b m.touch.0 m.node s.0, under_descends b m.touch.1 m.node s.1)

  ring_under : (ms : List Member) → strict_circle b ms ≡ None → (m : Member) → In m ms → Under b m
  ring_under [] z m i = absurd (not_in_nil i)
  ring_under (x ∷ ms) z m i = go (strict_member b x) refl (ring_under ms)
    where
      go : (c : Bool) → strict_member b x ≡ c → (strict_circle b ms ≡ None → (m : Member) → In m ms → Under b m) → Under b m
      go false e ih = absurd (none_some z (strict_bad b x ms e))
      go true e ih = one (in_cases i)
        where
          one : (m ≡ x) ⊎ In m ms → Under b m
          one (inl q) = subst (λ (y : Member). Under b y) (sym q) (member_under x e)
          one (inr j) = ih (sym (strict_on b x ms e) ∙ z) m j

  walk_under : (whole ts : List Entry) → (strict_finding b whole ts).0 ≡ 0 → (t : Entry) (n : Node) (ms : List Member) (m : Member) → In t ts → t.2 ≡ Some n → n.class ≡ blossom ms → In m ms → Under b m
  walk_under whole [] z t n ms m i e c j = absurd (not_in_nil i)
  walk_under whole (x ∷ ts) z t n ms m i e c j = slot (λ q k. walk_under whole ts q t n ms m k e c j) x.2 refl (in_cases i)
    where
      rest : ((strict_finding b whole ts).0 ≡ 0 → In t ts → Under b m) → strict_finding b whole (x ∷ ts) ≡ strict_finding b whole ts → In t ts → Under b m
      rest ih q k = ih (sym (ap (λ (w : ℕ × ℕ). w.0) q) ∙ z) k

      ring : ((strict_finding b whole ts).0 ≡ 0 → In t ts → Under b m) → (k : Node) → x.2 ≡ Some k → (l : Class) → k.class ≡ l → (t ≡ x) ⊎ In t ts → Under b m
      ring ih k f (defect v) g (inl q) = absurd (true≢false (ap kind (sym c ∙ ap (λ (y : Node). y.class) (some_eq e (ap (λ (y : Entry). y.2) q ∙ f)) ∙ g)))
        where
          kind : Class → Bool
          kind y = elim y [ defect v ↦ false | blossom ms ↦ true ]
      ring ih k f (defect v) g (inr i) = rest ih (strict_vertex b whole x ts k f v g) i
      ring ih k f (blossom ks) g w = found (strict_circle b ks) refl w
        where
          list : Class → List Member
          list y = elim y [ defect v ↦ [] | blossom ms ↦ ms ]

          found : (o : Option Handle) → strict_circle b ks ≡ o → (t ≡ x) ⊎ In t ts → Under b m
          found (Some h) r w = absurd (omega (arith, z, ap (λ (y : ℕ × ℕ). y.0) (strict_six b whole x ts k f ks g h r)))
          found None r (inl q) = ring_under ks r m (subst (λ (ys : List Member). In m ys) (ap list (sym c ∙ ap (λ (y : Node). y.class) (some_eq e (ap (λ (y : Entry). y.2) q ∙ f)) ∙ g)) j)
          found None r (inr i) = rest ih (strict_ring b whole x ts k f ks g r) i

      slot : ((strict_finding b whole ts).0 ≡ 0 → In t ts → Under b m) → (o : Option Node) → x.2 ≡ o → (t ≡ x) ⊎ In t ts → Under b m
      slot ih None f (inl q) = absurd (none_some f (sym (ap (λ (y : Entry). y.2) q) ∙ e))
      slot ih None f (inr i) = rest ih (strict_empty b whole x ts f) i
      slot ih (Some k) f w = ring ih k f k.class refl w

  -- ---- and the other way round
  module _ (S : Sound b) where
    under_member : (m : Member) → Under b m → strict_member b m ≡ true
    under_member m U = go (is_defect (node_named b m.node)) refl
      where
        go : (c : Bool) → is_defect (node_named b m.node) ≡ c → strict_member b m ≡ true
        go true d = strict_defect b m d
        go false d = let u = U d in strict_blossom b m d ∙ both_true (descends_under b S m.touch.0 m.node u.0) (descends_under b S m.touch.1 m.node u.1)

    under_ring : (ms : List Member) → ((m : Member) → In m ms → Under b m) → strict_circle b ms ≡ None
    unfolding strict_circle
    under_ring [] U = refl
    under_ring (x ∷ ms) U = strict_on b x ms (under_member x (U x (here refl))) ∙ under_ring ms (λ m i. U m (there i))

    under_walk : (whole ts : List Entry) → ((t : Entry) (n : Node) (ms : List Member) (m : Member) → In t ts → t.2 ≡ Some n → n.class ≡ blossom ms → In m ms → Under b m) → strict_finding b whole ts ≡ (0, 0)
    under_walk whole [] U = strict_none b whole
    under_walk whole (x ∷ ts) U = slot x.2 refl (under_walk whole ts (λ t n ms m i. U t n ms m (there i)))
      where
        slot : (o : Option Node) → x.2 ≡ o → strict_finding b whole ts ≡ (0, 0) → strict_finding b whole (x ∷ ts) ≡ (0, 0)
        slot None f r = strict_empty b whole x ts f ∙ r
        slot (Some k) f r = ring k.class refl
          where
            ring : (l : Class) → k.class ≡ l → strict_finding b whole (x ∷ ts) ≡ (0, 0)
            ring (defect v) g = strict_vertex b whole x ts k f v g ∙ r
            ring (blossom ks) g = strict_ring b whole x ts k f ks g (under_ring ks (λ m j. U x k ks m (here refl) f g j)) ∙ r

-- ---- the strict verdict 0
module _ (b : Bench) (u : ℕ) where
  strict_plain : (verdict b u).0 ≡ 0 → strict_verdict b u ≡ strict_finding b (slots_of b u) (slots_of b u)
  unfolding strict_verdict
  strict_plain e = rw (e, strict_verdict)

  strict_first : (k : ℕ) → (verdict b u).0 ≡ suc k → strict_verdict b u ≡ verdict b u
  unfolding strict_verdict
  strict_first k e = ap pick e
    where
      pick : ℕ → ℕ × ℕ
      pick j = elim j [ zero ↦ strict_finding b (slots_of b u) (slots_of b u) | suc i ↦ verdict b u ]

  pub zero_strict : (strict_verdict b u).0 ≡ 0 → Strict b u
  zero_strict z = go (verdict b u).0 refl
    where
      go : (k : ℕ) → (verdict b u).0 ≡ k → Strict b u
      go zero e = record { clean = zero_clean b u e; under = walk_under b (slots_of b u) (slots_of b u) (sym (ap (λ (w : ℕ × ℕ). w.0) (strict_plain e)) ∙ z) }
      go (suc k) e = absurd (omega (arith, z, e, ap (λ (w : ℕ × ℕ). w.0) (strict_first k e)))

  pub strict_zero : Sound b → Strict b u → strict_verdict b u ≡ (0, 0)
  strict_zero S T = strict_plain (ap (λ (w : ℕ × ℕ). w.0) (clean_zero b u T.clean)) ∙ under_walk b S (slots_of b u) (slots_of b u) T.under
