-- The picture of an interface of the patch names nodes by their index, so that it is one on two benches whose interfaces of the patch are alike.
-- Assumes nothing.
use Rattle.std.specs.Prelude.{None, Option, Some}
use Prim.Native.Nat.{ℕ}
use mathlib.Core.Path.{◌≡◌, refl, ◌∙◌, ap}
use mathlib.Core.Bool.{Bool, true}
use mathlib.Core.List.{List, map}
use Rattle.ledger_spec.specs.Bench.{Handle, Member, Class, defect, blossom, Node, Bench}
use Rattle.ledger_spec.specs.Reads.{slots_of}
use Rattle.ledger_spec.specs.Check.{index_in}
use Rattle.picture_spec.specs.Sketch.{circle, linked, shape_of, seen_of, indexed, index_of, slot_seen_by, sketch_of}
use Rattle.picture_spec.specs.Text.{names_by, text_of}
use Rattle.picture_spec.specs.Picture.{picture}
use Rattle.patch_laws.specs.Patch.{Patch, mine}
use Rattle.patch_laws.proofs.Renamed.{re_parent, re_member, re_class, re_slot, map_map}
use Rattle.patch_laws.proofs.Faces.{Faces, Closed}
use Rattle.patch_laws.proofs.Rising.{by}
use Rattle.patch_laws.proofs.Gathered.{Entry, re_entry, slots_faces}
use Rattle.patch_laws.proofs.Checks.{index_faces}

module _ (p : Patch) (ρ : ℕ → ℕ) (s b : Bench) (C : Closed p s) (F : Faces p (by ρ) s b) (u : ℕ) (m : mine p u ≡ true) where
  at : (h : Handle) → index_of b u ((by ρ).handle h) ≡ index_of s u h
  at h = ap (λ (l : List Entry). index_in l 0 ((by ρ).handle h)) (slots_faces p (by ρ) s b C F u m) ∙ index_faces ρ (slots_of s u) 0 h

  linked_faces : (x : Member) → linked (index_of b u) (re_member (by ρ) x) ≡ linked (index_of s u) x
  linked_faces x = λ i. (at x.node i, (at x.touch.0 i, at x.touch.1 i))

  shape_faces : (c : Class) → shape_of (index_of b u) (re_class (by ρ) c) ≡ shape_of (index_of s u) c
  unfolding shape_of
  shape_faces (defect v) = refl
  shape_faces (blossom ms) = ap circle (map_map (re_member (by ρ)) (linked (index_of b u)) (linked (index_of s u)) linked_faces ms)

  parent_faces : (o : Option Handle) → indexed (index_of b u) (re_parent (by ρ) o) ≡ indexed (index_of s u) o
  parent_faces None = refl
  parent_faces (Some h) = ap Some (at h)

  slot_seen : (o : Option Node) → seen_of (index_of b u) (re_slot (by ρ) o) ≡ seen_of (index_of s u) o
  unfolding seen_of
  slot_seen None = refl
  slot_seen (Some n) = λ i. Some (record { shape = shape_faces n.class i; state = n.state; parent = parent_faces n.parent i })

  pub picture_faces : (a : Bool) → picture b u a ≡ picture s u a
  unfolding picture sketch_of
  picture_faces a = λ i. text_of (names_by a) (record { speed = (F.face u m i).speed; sum = (F.face u m i).sum; nodes = nodes i })
    where
      nodes : map (slot_seen_by b u) (slots_of b u) ≡ map (slot_seen_by s u) (slots_of s u)
      nodes = ap (map (slot_seen_by b u)) (slots_faces p (by ρ) s b C F u m) ∙ map_map (re_entry (by ρ)) (slot_seen_by b u) (slot_seen_by s u) (λ t. slot_seen t.2) (slots_of s u)
