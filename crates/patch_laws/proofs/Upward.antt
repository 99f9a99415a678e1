-- Walks from a node of the patch, up to its outermost blossom and down to its vertices, on two benches whose interfaces of the patch are alike.
-- Assumes nothing.
use Rattle.std.specs.Prelude.{None, Option, Some}
use Prim.Native.Nat.{ℕ, zero, suc, ◌≤◌}
use mathlib.Core.Path.{◌≡◌, refl, sym, ◌∙◌, ap, ap₂, subst}
use mathlib.Core.Bool.{true}
use mathlib.Core.List.{List, [], ◌∷◌, ◌++◌, map}
use Rattle.ledger_spec.specs.Bench.{Handle, Member, Class, defect, blossom, Node, Bench}
use Rattle.ledger_spec.specs.Look.{node_named}
use Rattle.ledger_spec.specs.Walk.{parent_in, outer_from, links_from, below_from, each, vertices_from, vertices_of}
use Rattle.ledger_spec.specs.Knit.{In, here, there}
use Rattle.ledger_spec.specs.Facts.{Sound}
use Rattle.ledger_spec.proofs.Knit.{none_some}
use Rattle.ledger_spec.proofs.Passed.{node_has}
use Rattle.ledger_spec.proofs.Chains.{outer_none, outer_some, links_none, links_some, under_none, under_some}
use Rattle.ledger_spec.proofs.Walks.{fuel_more}
use Rattle.patch_laws.specs.Patch.{Patch, mine}
use Rattle.patch_laws.proofs.Renamed.{re_parent, re_member, re_node, re_slot}
use Rattle.patch_laws.proofs.Faces.{Faces, Closed}
use Rattle.patch_laws.proofs.Alike.{Names, node_faces}
use Rattle.patch_laws.proofs.Held.{Held, held, member_mine, parent_mine}
use Rattle.patch_laws.proofs.Rising.{by}

module _ (p : Patch) (ρ : ℕ → ℕ) (s b : Bench) (C : Closed p s) (F : Faces p (by ρ) s b) (N : Names p (by ρ)) (H : Held p s) where
  -- ---- up to the outermost blossom
  re_up : (o : Option Node) → parent_in (re_slot (by ρ) o) ≡ re_parent (by ρ) (parent_in o)
  re_up None = refl
  re_up (Some n) = refl

  pub up_mine : (h q : Handle) → mine p h.unit ≡ true → parent_in (node_named s h) ≡ Some q → mine p q.unit ≡ true
  up_mine h q m f = go (node_named s h) refl f
    where
      go : (o : Option Node) → node_named s h ≡ o → parent_in o ≡ Some q → mine p q.unit ≡ true
      go None e k = absurd (none_some refl k)
      go (Some n) e k = parent_mine p n (held p s H h.unit h.slot n m (node_has s h n e).stands) q k

  pub up_faces : (h : Handle) → mine p h.unit ≡ true → parent_in (node_named b ((by ρ).handle h)) ≡ re_parent (by ρ) (parent_in (node_named s h))
  up_faces h m = ap parent_in (node_faces p (by ρ) s b C F N h m) ∙ re_up (node_named s h)

  pub outer_faces : (k : ℕ) (h : Handle) → mine p h.unit ≡ true → (outer_from k b ((by ρ).handle h) ≡ (by ρ).handle (outer_from k s h)) × (mine p (outer_from k s h).unit ≡ true)
  unfolding outer_from
  outer_faces zero h m = (refl, m)
  outer_faces (suc k) h m = go (parent_in (node_named s h)) refl (outer_faces k)
    where
      go : (o : Option Handle) → parent_in (node_named s h) ≡ o → ((q : Handle) → mine p q.unit ≡ true → (outer_from k b ((by ρ).handle q) ≡ (by ρ).handle (outer_from k s q)) × (mine p (outer_from k s q).unit ≡ true))
          → (outer_from (suc k) b ((by ρ).handle h) ≡ (by ρ).handle (outer_from (suc k) s h)) × (mine p (outer_from (suc k) s h).unit ≡ true)
      go None e ih = let z = outer_none s (suc k) h e in
          (outer_none b (suc k) ((by ρ).handle h) (up_faces h m ∙ ap (re_parent (by ρ)) e) ∙ ap (by ρ).handle (sym z), subst (λ (g : Handle). mine p g.unit ≡ true) (sym z) m)
      go (Some q) e ih = let z = outer_some s k h q e in let r = ih q (up_mine h q m e) in
          (outer_some b k ((by ρ).handle h) ((by ρ).handle q) (up_faces h m ∙ ap (re_parent (by ρ)) e) ∙ r.0 ∙ ap (by ρ).handle (sym z), subst (λ (g : Handle). mine p g.unit ≡ true) (sym z) r.1)

  -- the links followed to it, and the last node below it
  pub links_faces : (k : ℕ) (h : Handle) → mine p h.unit ≡ true → links_from k b ((by ρ).handle h) ≡ links_from k s h
  unfolding links_from
  links_faces zero h m = refl
  links_faces (suc k) h m = go (parent_in (node_named s h)) refl (links_faces k)
    where
      go : (o : Option Handle) → parent_in (node_named s h) ≡ o → ((q : Handle) → mine p q.unit ≡ true → links_from k b ((by ρ).handle q) ≡ links_from k s q) → links_from (suc k) b ((by ρ).handle h) ≡ links_from (suc k) s h
      go None e ih = links_none b (suc k) ((by ρ).handle h) (up_faces h m ∙ ap (re_parent (by ρ)) e) ∙ sym (links_none s (suc k) h e)
      go (Some q) e ih = links_some b k ((by ρ).handle h) ((by ρ).handle q) (up_faces h m ∙ ap (re_parent (by ρ)) e) ∙ ap suc (ih q (up_mine h q m e)) ∙ sym (links_some s k h q e)

  pub under_faces : (k : ℕ) (g h : Handle) → mine p h.unit ≡ true → below_from k b ((by ρ).handle g) ((by ρ).handle h) ≡ (by ρ).handle (below_from k s g h)
  unfolding below_from
  under_faces zero g h m = refl
  under_faces (suc k) g h m = go (parent_in (node_named s h)) refl (under_faces k)
    where
      go : (o : Option Handle) → parent_in (node_named s h) ≡ o → ((x q : Handle) → mine p q.unit ≡ true → below_from k b ((by ρ).handle x) ((by ρ).handle q) ≡ (by ρ).handle (below_from k s x q))
          → below_from (suc k) b ((by ρ).handle g) ((by ρ).handle h) ≡ (by ρ).handle (below_from (suc k) s g h)
      go None e ih = under_none b (suc k) ((by ρ).handle g) ((by ρ).handle h) (up_faces h m ∙ ap (re_parent (by ρ)) e) ∙ ap (by ρ).handle (sym (under_none s (suc k) g h e))
      go (Some q) e ih = under_some b k ((by ρ).handle g) ((by ρ).handle h) ((by ρ).handle q) (up_faces h m ∙ ap (re_parent (by ρ)) e) ∙ ih h q (up_mine h q m e) ∙ ap (by ρ).handle (sym (under_some s k g h q e))

  -- ---- down to the vertices, by one fuel
  each_faces : (f g : Handle → List ℕ) (ms : List Member) → ((m : Member) → In m ms → f ((by ρ).handle m.node) ≡ g m.node) → each f (map (re_member (by ρ)) ms) ≡ each g ms
  unfolding each
  each_faces f g [] e = refl
  each_faces f g (m ∷ ms) e = ap₂ {C = List ℕ} ◌++◌ (e m (here refl)) (each_faces f g ms (λ x i. e x (there i)))

  -- what a node lists, by its slot
  shows : (Handle → List ℕ) → Option Node → List ℕ
  shows f o = elim o as (λ x. List ℕ) [ None ↦ [] | Some n ↦ elim n.class as (λ x. List ℕ) [ defect v ↦ v ∷ [] | blossom ms ↦ each f ms ] ]

  fuel_faces : (k : ℕ) (h : Handle) → mine p h.unit ≡ true → vertices_from k b ((by ρ).handle h) ≡ vertices_from k s h
  unfolding vertices_from shows
  fuel_faces zero h m = refl
  fuel_faces (suc k) h m = ap (shows (λ g. vertices_from k b g)) (node_faces p (by ρ) s b C F N h m) ∙ go (node_named s h) refl (fuel_faces k)
    where
      go : (o : Option Node) → node_named s h ≡ o → ((g : Handle) → mine p g.unit ≡ true → vertices_from k b ((by ρ).handle g) ≡ vertices_from k s g)
          → shows (λ g. vertices_from k b g) (re_slot (by ρ) o) ≡ shows (λ g. vertices_from k s g) o
      go None e ih = refl
      go (Some n) e ih = at n.class refl
        where
          node : Class → Node
          node c = record { serial = n.serial; class = c; state = n.state; parent = n.parent; value = n.value; size = n.size }

          at : (c : Class) → n.class ≡ c → shows (λ g. vertices_from k b g) (Some (re_node (by ρ) (node c))) ≡ shows (λ g. vertices_from k s g) (Some (node c))
          at (defect v) r = refl
          at (blossom ms) r = each_faces (λ g. vertices_from k b g) (λ g. vertices_from k s g) ms (λ x i. ih x.node (member_mine p n (held p s H h.unit h.slot n m (node_has s h n e).stands) ms r x i))

  -- and so by each bench's own, a serial, which is more on the shared bench
  pub vertices_faces : Sound s → ((i : ℕ) → i ≤ ρ i) → (h : Handle) → mine p h.unit ≡ true → vertices_of b ((by ρ).handle h) ≡ vertices_of s h
  unfolding vertices_from shows
  vertices_faces S more h m = fuel_faces (ρ h.serial) h m ∙ go (node_named s h) refl
    where
      bare : (k : ℕ) → node_named s h ≡ None → vertices_from k s h ≡ []
      bare zero e = refl
      bare (suc k) e = ap (shows (λ g. vertices_from k s g)) e

      go : (o : Option Node) → node_named s h ≡ o → vertices_from (ρ h.serial) s h ≡ vertices_of s h
      go None e = bare (ρ h.serial) e ∙ sym (bare h.serial e)
      go (Some n) e = fuel_more s S (ρ h.serial) h n e (more h.serial)
