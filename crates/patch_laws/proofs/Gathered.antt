-- The slots of a tree of the patch, in the order of the index, on two benches whose interfaces of the patch are alike. Assumes nothing.
use Rattle.std.specs.Prelude.{None, Option, Some}
use Prim.Native.Nat.{ℕ, zero, suc, ◌+◌}
use mathlib.Core.Path.{◌≡◌, refl, sym, ◌∙◌, ap, ap₂, subst}
use mathlib.Core.Logic.{◌⊎◌, inl, inr}
use mathlib.Core.Bool.{true}
use mathlib.Core.List.{List, [], ◌∷◌, ◌++◌, map, map-append}
use lib.IntN.{◌+ℤ◌}
use Rattle.read_present.specs.Present.{one, present_in}
use Rattle.ledger_spec.specs.Bench.{Node, Interface, Bench}
use Rattle.ledger_spec.specs.Look.{interface, tree}
use Rattle.ledger_spec.specs.Reads.{slots_from, gather, slots_of}
use Rattle.ledger_spec.specs.Check.{total_of}
use Rattle.ledger_spec.specs.Knit.{In, here, there}
use Rattle.ledger_spec.proofs.Lists.{not_in_nil, in_cases, in_append}
use Rattle.ledger_spec.proofs.Knit.{some_eq}
use Rattle.ledger_spec.proofs.Trees.{tree_leaf, tree_fork}
use Rattle.patch_laws.specs.Patch.{Patch, mine}
use Rattle.patch_laws.proofs.Renamed.{Renaming, re_node, re_slot, re_worth}
use Rattle.patch_laws.proofs.Faces.{Faces, Closed}
use Rattle.patch_laws.proofs.Held.{keep, Held, all_fixed}

-- a slot with its place
abbrev pub Entry : Type 0
Entry = ℕ × ℕ × Option Node

abbrev pub re_entry : Renaming → Entry → Entry
re_entry R t = (t.0, t.1, re_slot R t.2)

slots_from_lem : (R : Renaming) (u k : ℕ) (xs : List (Option Node)) → slots_from u k (map (re_slot R) xs) ≡ map (re_entry R) (slots_from u k xs)
unfolding slots_from
slots_from_lem R u k [] = refl
slots_from_lem R u k (x ∷ xs) = ap {B = List Entry} (λ l. (u, k, re_slot R x) ∷ l) (slots_from_lem R u (suc k) xs)

pub total_faces : (R : Renaming) (ts : List Entry) → total_of (map (re_entry R) ts) ≡ total_of ts
unfolding total_of
total_faces R [] = refl
total_faces R (t ∷ ts) = ap₂ ◌+ℤ◌ (re_worth R t.2) (total_faces R ts)

-- ---- present nodes
pub present_faces : (R : Renaming) (ts : List Entry) → present_in (map (re_entry R) ts) ≡ present_in ts
unfolding present_in
present_faces R [] = refl
present_faces R (t ∷ ts) = ap₂ ◌+◌ (go t.2) (present_faces R ts)
  where
    go : (o : Option Node) → one (re_slot R o) ≡ one o
    go None = refl
    go (Some n) = refl

-- ---- trees
module _ (p : Patch) (s : Bench) (C : Closed p s) where
  pub tree_mine : (k u : ℕ) → mine p u ≡ true → (w : ℕ) → In w (tree k s u) → mine p w ≡ true
  unfolding tree
  tree_mine zero u m w i = only (in_cases i)
    where
      only : (w ≡ u) ⊎ In w [] → mine p w ≡ true
      only (inl e) = subst (λ (z : ℕ). mine p z ≡ true) (sym e) m
      only (inr j) = absurd (not_in_nil j)
  tree_mine (suc k) u m w i = go (interface s u).halves refl (tree_mine k)
    where
      only : In w (u ∷ []) → mine p w ≡ true
      only j = self (in_cases j)
        where
          self : (w ≡ u) ⊎ In w [] → mine p w ≡ true
          self (inl e) = subst (λ (z : ℕ). mine p z ≡ true) (sym e) m
          self (inr l) = absurd (not_in_nil l)

      go : (o : Option (ℕ × ℕ)) → (interface s u).halves ≡ o → ((v : ℕ) → mine p v ≡ true → (w : ℕ) → In w (tree k s v) → mine p w ≡ true) → mine p w ≡ true
      go None e ih = only (subst (In w) (tree_leaf k s u e) i)
      go (Some lr) e ih = part (in_append (tree k s lr.0 ++ tree k s lr.1) (u ∷ []) (subst (In w) (tree_fork k s u lr e) i))
        where
          half : In w (tree k s lr.0) ⊎ In w (tree k s lr.1) → mine p w ≡ true
          half (inl j) = ih lr.0 (C.left u lr.0 lr.1 m e) w j
          half (inr j) = ih lr.1 (C.right u lr.0 lr.1 m e) w j

          part : In w (tree k s lr.0 ++ tree k s lr.1) ⊎ In w (u ∷ []) → mine p w ≡ true
          part (inl j) = half (in_append (tree k s lr.0) (tree k s lr.1) j)
          part (inr j) = only j

module _ (p : Patch) (R : Renaming) (s b : Bench) (C : Closed p s) (F : Faces p R s b) where
  tree_faces : (k u : ℕ) → mine p u ≡ true → tree k b u ≡ tree k s u
  unfolding tree
  tree_faces zero u m = refl
  tree_faces (suc k) u m = go (interface s u).halves refl (tree_faces k)
    where
      now : (interface b u).halves ≡ (interface s u).halves
      now = ap (λ (f : Interface). f.halves) (F.face u m)

      go : (o : Option (ℕ × ℕ)) → (interface s u).halves ≡ o → ((v : ℕ) → mine p v ≡ true → tree k b v ≡ tree k s v) → tree (suc k) b u ≡ tree (suc k) s u
      go None e ih = tree_leaf k b u (now ∙ e) ∙ sym (tree_leaf k s u e)
      go (Some lr) e ih = tree_fork k b u lr (now ∙ e) ∙ ap₂ (λ (x y : List ℕ). (x ++ y) ++ (u ∷ [])) (ih lr.0 (C.left u lr.0 lr.1 m e)) (ih lr.1 (C.right u lr.0 lr.1 m e)) ∙ sym (tree_fork k s u lr e)

  gather_faces : (us : List ℕ) → ((u : ℕ) → In u us → mine p u ≡ true) → gather b us ≡ map (re_entry R) (gather s us)
  unfolding gather
  gather_faces [] m = refl
  gather_faces (u ∷ us) m = ap₂ {C = List Entry} ◌++◌ (ap (λ (f : Interface). slots_from u 0 f.slots) (F.face u (m u (here refl))) ∙ slots_from_lem R u 0 (interface s u).slots) (gather_faces us (λ w i. m w (there i)))
      ∙ sym (map-append (re_entry R) (slots_from u 0 (interface s u).slots) (gather s us))

  pub slots_faces : (u : ℕ) → mine p u ≡ true → slots_of b u ≡ map (re_entry R) (slots_of s u)
  slots_faces u m = ap (gather b) (tree_faces 8 u m) ∙ gather_faces (tree 8 s u) (tree_mine p s C 8 u m)

-- what the nodes of the tree name is the patch's
pub entry_held : (p : Patch) (s : Bench) → Closed p s → Held p s → (u : ℕ) → mine p u ≡ true → (t : Entry) → In t (slots_of s u) → (n : Node) → t.2 ≡ Some n → n ≡ re_node (keep p) n
entry_held p s C H u m t i n e = some_eq e (ap (λ (x : Entry). x.2) (all_fixed (re_entry (keep p)) (slots_of s u) (slots_faces p (keep p) s s C H u m) t i) ∙ ap (re_slot (keep p)) e)
