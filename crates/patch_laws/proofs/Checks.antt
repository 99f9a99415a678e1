-- Both checks find the same on two benches whose interfaces of the patch are alike. Assumes nothing.
use Rattle.std.specs.Prelude.{None, Option, Some}
use Prim.Native.Nat.{ℕ, zero, suc}
use mathlib.Core.Path.{◌≡◌, refl, sym, ◌∙◌, ap, ap₂}
use mathlib.Core.Bool.{Bool, true, false, ◌&&◌, ◌||◌}
use mathlib.Core.List.{List, [], ◌∷◌, map}
use lib.Dec.{eqb}
use lib.IntN.{ℤ, ◌-ℤ◌, nat_abs}
use Rattle.ledger_spec.specs.Bench.{Handle, Member, Class, defect, blossom, Node, Interface, Bench}
use Rattle.ledger_spec.specs.Look.{interface, node_named, same_handle}
use Rattle.ledger_spec.specs.Tests.{any, is_defect}
use Rattle.ledger_spec.specs.Reads.{slots_of}
use Rattle.ledger_spec.specs.Walk.{parent_in, outermost}
use Rattle.ledger_spec.specs.Check.{index_in, member_verdict, circle_verdict, finding, total_of, verdict, arrives, is_under, strict_member, strict_circle, strict_finding, strict_verdict}
use Rattle.ledger_spec.specs.Knit.{In, here, there}
use Rattle.patch_laws.specs.Patch.{Patch, mine}
use Rattle.patch_laws.proofs.Renamed.{re_parent, re_member, re_defect}
use Rattle.patch_laws.proofs.Faces.{Faces, Closed}
use Rattle.patch_laws.proofs.Alike.{Names, node_faces, stale_faces, same_faces}
use Rattle.patch_laws.proofs.Held.{Held, member_mine, touch_mine}
use Rattle.patch_laws.proofs.Rising.{by}
use Rattle.patch_laws.proofs.Upward.{up_mine, up_faces, outer_faces}
use Rattle.patch_laws.proofs.Gathered.{Entry, re_entry, total_faces, slots_faces, entry_held}

-- a member whose node and touching handles are the patch's
pub record Inside (p : Patch) (m : Member) : Type 0 where
  pub node : mine p m.node.unit ≡ true
  pub first : mine p m.touch.0.unit ≡ true
  pub second : mine p m.touch.1.unit ≡ true

-- the index goes by places alone
pub index_faces : (ρ : ℕ → ℕ) (ts : List Entry) (k : ℕ) (h : Handle) → index_in (map (re_entry (by ρ)) ts) k ((by ρ).handle h) ≡ index_in ts k h
unfolding index_in
index_faces ρ [] k h = refl
index_faces ρ (t ∷ ts) k h = ap (λ (n : ℕ). elim (eqb t.0 h.unit && eqb t.1 h.slot) as (λ x. ℕ) [ true ↦ k | false ↦ n ]) (index_faces ρ ts (suc k) h)

module _ (p : Patch) (ρ : ℕ → ℕ) (s b : Bench) (C : Closed p s) (F : Faces p (by ρ) s b) (N : Names p (by ρ)) (H : Held p s)
    (origin : ρ 0 ≡ 0) where
  -- two handles of one outermost blossom
  together : (g h : Handle) → mine p g.unit ≡ true → mine p h.unit ≡ true → same_handle (outermost b ((by ρ).handle g)) (outermost b ((by ρ).handle h)) ≡ same_handle (outermost s g) (outermost s h)
  together g h x y = let u = outer_faces p ρ s b C F N H 512 g x in let v = outer_faces p ρ s b C F N H 512 h y in
      ap₂ same_handle u.0 v.0 ∙ same_faces p (by ρ) s b C F N (outermost s g) (outermost s h) u.1 v.1

  same : (g h : Handle) → mine p g.unit ≡ true → mine p h.unit ≡ true → same_handle ((by ρ).handle g) ((by ρ).handle h) ≡ same_handle g h
  same g h x y = same_faces p (by ρ) s b C F N g h x y

  defect_same : (h : Handle) → mine p h.unit ≡ true → is_defect (node_named b ((by ρ).handle h)) ≡ is_defect (node_named s h)
  defect_same h m = ap is_defect (node_faces p (by ρ) s b C F N h m) ∙ re_defect (by ρ) (node_named s h)

  -- ---- a member, a circle
  member_faces : (m : Member) → Inside p m → member_verdict b (re_member (by ρ) m) ≡ member_verdict s m
  unfolding member_verdict
  member_faces m i = λ j. elim (defect_same m.node i.node j) as (λ x. ℕ) [
    | true ↦ elim (same m.touch.0 m.node i.first i.node j && same m.touch.1 m.node i.second i.node j) as (λ x. ℕ) [ true ↦ 0 | false ↦ 2 ]
    | false ↦ elim (stale_faces p (by ρ) s b C F N m.touch.0 i.first j || stale_faces p (by ρ) s b C F N m.touch.1 i.second j) as (λ x. ℕ) [
      | true ↦ 4
      | false ↦ elim (together m.touch.0 m.node i.first i.node j && together m.touch.1 m.node i.second i.node j) as (λ x. ℕ) [ true ↦ 0 | false ↦ 3 ]
    ]
  ]

  abbrev re_found : ℕ × Handle → ℕ × Handle
  re_found c = (c.0, (by ρ).handle c.1)

  circle_faces : (ms : List Member) → ((m : Member) → In m ms → Inside p m) → circle_verdict b (map (re_member (by ρ)) ms) ≡ re_found (circle_verdict s ms)
  unfolding circle_verdict
  circle_faces [] i = λ j. (0, record { unit = 0; slot = 0; serial = sym origin j })
  circle_faces (m ∷ ms) i = ap₂ pick (member_faces m (i m (here refl))) (circle_faces ms (λ x k. i x (there k))) ∙ picked (member_verdict s m)
    where
      pick : ℕ → ℕ × Handle → ℕ × Handle
      pick v r = elim v as (λ x. ℕ × Handle) [ zero ↦ r | suc k ↦ (suc k, (by ρ).handle m.node) ]

      picked : (v : ℕ) → pick v (re_found (circle_verdict s ms)) ≡ re_found (elim v as (λ x. ℕ × Handle) [ zero ↦ circle_verdict s ms | suc k ↦ (suc k, m.node) ])
      picked zero = refl
      picked (suc k) = refl

  -- following parents arrives alike
  arrives_faces : (k : ℕ) (t m : Handle) → mine p t.unit ≡ true → mine p m.unit ≡ true → arrives k b ((by ρ).handle t) ((by ρ).handle m) ≡ arrives k s t m
  unfolding arrives
  arrives_faces zero t m x y = same t m x y
  arrives_faces (suc k) t m x y = ap₂ ◌||◌ (same t m x y) (ap (follow b ((by ρ).handle m)) (up_faces p ρ s b C F N H t x) ∙ go (parent_in (node_named s t)) refl (arrives_faces k))
    where
      follow : Bench → Handle → Option Handle → Bool
      follow d g o = elim o as (λ z. Bool) [ None ↦ false | Some q ↦ arrives k d q g ]

      go : (o : Option Handle) → parent_in (node_named s t) ≡ o → ((q g : Handle) → mine p q.unit ≡ true → mine p g.unit ≡ true → arrives k b ((by ρ).handle q) ((by ρ).handle g) ≡ arrives k s q g)
          → follow b ((by ρ).handle m) (re_parent (by ρ) o) ≡ follow s m o
      go None e ih = refl
      go (Some q) e ih = ih q m (up_mine p ρ s b C F N H t q x e) y

  strict_member_lem : (m : Member) → Inside p m → strict_member b (re_member (by ρ) m) ≡ strict_member s m
  unfolding strict_member is_under
  strict_member_lem m i = λ j. elim (defect_same m.node i.node j) as (λ x. Bool) [ true ↦ true | false ↦ under m.touch.0 i.first j && under m.touch.1 i.second j ]
    where
      under : (t : Handle) → mine p t.unit ≡ true → is_under b ((by ρ).handle t) ((by ρ).handle m.node) ≡ is_under s t m.node
      under t x = arrives_faces 512 t m.node x i.node

  strict_circle_lem : (ms : List Member) → ((m : Member) → In m ms → Inside p m) → strict_circle b (map (re_member (by ρ)) ms) ≡ re_parent (by ρ) (strict_circle s ms)
  unfolding strict_circle
  strict_circle_lem [] i = refl
  strict_circle_lem (m ∷ ms) i = ap₂ pick (strict_member_lem m (i m (here refl))) (strict_circle_lem ms (λ x k. i x (there k))) ∙ picked (strict_member s m)
    where
      pick : Bool → Option Handle → Option Handle
      pick c r = elim c as (λ x. Option Handle) [ true ↦ r | false ↦ Some ((by ρ).handle m.node) ]

      picked : (c : Bool) → pick c (re_parent (by ρ) (strict_circle s ms)) ≡ re_parent (by ρ) (elim c as (λ x. Option Handle) [ true ↦ strict_circle s ms | false ↦ Some m.node ])
      picked true = refl
      picked false = refl

  -- ---- along the slots
  abbrev Good : List Entry → Type 0
  Good ts = (t : Entry) → In t ts → (n : Node) → t.2 ≡ Some n → (ms : List Member) → n.class ≡ blossom ms → (m : Member) → In m ms → Inside p m

  module _ (whole : List Entry) where
    abbrev whole' : List Entry
    whole' = map (re_entry (by ρ)) whole

    at_blossom : ℕ × Handle → List Entry → ℕ × ℕ → ℕ × ℕ
    at_blossom c l r = elim c.0 as (λ x. ℕ × ℕ) [ zero ↦ r | suc w ↦ (suc w, index_in l 0 c.1) ]

    found : (c : ℕ × Handle) (r : ℕ × ℕ) → at_blossom (re_found c) whole' r ≡ at_blossom c whole r
    unfolding at_blossom
    found c r = ap (λ (n : ℕ). elim c.0 as (λ x. ℕ × ℕ) [ zero ↦ r | suc w ↦ (suc w, n) ]) (index_faces ρ whole 0 c.1)

    walk_faces : (ts : List Entry) → Good ts → (seen : List ℕ) (k : ℕ) → finding b whole' (map (re_entry (by ρ)) ts) seen k ≡ finding s whole ts seen k
    unfolding finding at_blossom
    walk_faces [] g seen k = refl
    walk_faces (t ∷ ts) g seen k = go t.2 refl (walk_faces ts (λ x i. g x (there i)))
      where
        Rest : Type 0
        Rest = (seen : List ℕ) (k : ℕ) → finding b whole' (map (re_entry (by ρ)) ts) seen k ≡ finding s whole ts seen k

        entry : Option Node → Entry
        entry o = (t.0, t.1, o)

        go : (o : Option Node) → t.2 ≡ o → Rest → finding b whole' (re_entry (by ρ) (entry o) ∷ map (re_entry (by ρ)) ts) seen k ≡ finding s whole (entry o ∷ ts) seen k
        go None e ih = ih seen (suc k)
        go (Some n) e ih = at n.class refl
          where
            node : Class → Node
            node c = record { serial = n.serial; class = c; state = n.state; parent = n.parent; value = n.value; size = n.size }

            at : (c : Class) → n.class ≡ c → finding b whole' (re_entry (by ρ) (entry (Some (node c))) ∷ map (re_entry (by ρ)) ts) seen k ≡ finding s whole (entry (Some (node c)) ∷ ts) seen k
            at (defect v) r = ap (λ (x : ℕ × ℕ). elim (any (eqb v) seen) as (λ y. ℕ × ℕ) [ true ↦ (1, k) | false ↦ x ]) (ih (v ∷ seen) (suc k))
            at (blossom ms) r = ap₂ (λ (c : ℕ × Handle) (x : ℕ × ℕ). at_blossom c whole' x) (circle_faces ms (g t (here refl) n e ms r)) (ih seen (suc k)) ∙ found (circle_verdict s ms) (finding s whole ts seen (suc k))

    strict_blossom : Option Handle → List Entry → ℕ × ℕ → ℕ × ℕ
    strict_blossom o l r = elim o as (λ x. ℕ × ℕ) [ None ↦ r | Some h ↦ (6, index_in l 0 h) ]

    strict_found : (o : Option Handle) (r : ℕ × ℕ) → strict_blossom (re_parent (by ρ) o) whole' r ≡ strict_blossom o whole r
    unfolding strict_blossom
    strict_found None r = refl
    strict_found (Some h) r = ap (λ (n : ℕ). (6, n)) (index_faces ρ whole 0 h)

    strict_faces : (ts : List Entry) → Good ts → strict_finding b whole' (map (re_entry (by ρ)) ts) ≡ strict_finding s whole ts
    unfolding strict_finding strict_blossom
    strict_faces [] g = refl
    strict_faces (t ∷ ts) g = go t.2 refl (strict_faces ts (λ x i. g x (there i)))
      where
        Rest : Type 0
        Rest = strict_finding b whole' (map (re_entry (by ρ)) ts) ≡ strict_finding s whole ts

        entry : Option Node → Entry
        entry o = (t.0, t.1, o)

        go : (o : Option Node) → t.2 ≡ o → Rest → strict_finding b whole' (re_entry (by ρ) (entry o) ∷ map (re_entry (by ρ)) ts) ≡ strict_finding s whole (entry o ∷ ts)
        go None e ih = ih
        go (Some n) e ih = at n.class refl
          where
            node : Class → Node
            node c = record { serial = n.serial; class = c; state = n.state; parent = n.parent; value = n.value; size = n.size }

            at : (c : Class) → n.class ≡ c → strict_finding b whole' (re_entry (by ρ) (entry (Some (node c))) ∷ map (re_entry (by ρ)) ts) ≡ strict_finding s whole (entry (Some (node c)) ∷ ts)
            at (defect v) r = ih
            at (blossom ms) r = ap₂ (λ (o : Option Handle) (x : ℕ × ℕ). strict_blossom o whole' x) (strict_circle_lem ms (g t (here refl) n e ms r)) ih ∙ strict_found (strict_circle s ms) (strict_finding s whole ts)

  -- ---- the verdicts
  module _ (u : ℕ) (m : mine p u ≡ true) where
    good : Good (slots_of s u)
    good t i n e ms r x j = let h = entry_held p s C H u m t i n e in record { node = member_mine p n h ms r x j; first = (touch_mine p n h ms r x j).0; second = (touch_mine p n h ms r x j).1 }

    pub verdict_faces : verdict b u ≡ verdict s u
    unfolding verdict
    verdict_faces = ap₂ decide walked summed
      where
        decide : ℕ × ℕ → ℤ → ℕ × ℕ
        decide w z = elim w.0 as (λ x. ℕ × ℕ) [ suc k ↦ w | zero ↦ elim (eqb (nat_abs z) 0) as (λ x. ℕ × ℕ) [ true ↦ (0, 0) | false ↦ (5, 0) ] ]

        walked : finding b (slots_of b u) (slots_of b u) [] 0 ≡ finding s (slots_of s u) (slots_of s u) [] 0
        walked = ap (λ (l : List Entry). finding b l l [] 0) (slots_faces p (by ρ) s b C F u m) ∙ walk_faces (slots_of s u) (slots_of s u) good [] 0

        summed : (interface b u).sum -ℤ total_of (slots_of b u) ≡ (interface s u).sum -ℤ total_of (slots_of s u)
        summed = ap₂ ◌-ℤ◌ (ap (λ (f : Interface). f.sum) (F.face u m)) (ap total_of (slots_faces p (by ρ) s b C F u m) ∙ total_faces (by ρ) (slots_of s u))

    pub strict_verdict_lem : strict_verdict b u ≡ strict_verdict s u
    unfolding strict_verdict
    strict_verdict_lem = ap₂ decide verdict_faces (ap (λ (l : List Entry). strict_finding b l l) (slots_faces p (by ρ) s b C F u m) ∙ strict_faces (slots_of s u) (slots_of s u) good)
      where
        decide : ℕ × ℕ → ℕ × ℕ → ℕ × ℕ
        decide w r = elim w.0 as (λ x. ℕ × ℕ) [ zero ↦ r | suc k ↦ w ]
