-- Nodes and interfaces with their serials and handles renamed, and what a renaming leaves alone. Assumes nothing.
use Rattle.std.specs.Prelude.{None, Option, Some}
use Prim.Native.Nat.{ℕ, zero, suc}
use mathlib.Core.Path.{◌≡◌, refl, ap, ap₂}
use mathlib.Core.List.{List, [], ◌∷◌, map}
use lib.ListN.{set}
use lib.IntN.{ℤ}
use Rattle.ledger_spec.specs.Bench.{Handle, State, Member, Class, defect, blossom, Node, Interface, with_slots}
use Rattle.ledger_spec.specs.Look.{gap}
use Rattle.ledger_spec.specs.Change.{share, worth, put, restate}
use Rattle.ledger_spec.specs.Deeds.{circle, members, size_of, grow_slot}
use Rattle.ledger_spec.specs.Tests.{is_some, is_defect, has_parent, sinks, both}

-- of the serials that nodes have, and of the handles that name nodes
pub record Renaming : Type 0 where
  pub serial : ℕ → ℕ
  pub handle : Handle → Handle

abbrev pub re_pair : Renaming → Handle × Handle → Handle × Handle
re_pair R t = (R.handle t.0, R.handle t.1)

abbrev pub re_parent : Renaming → Option Handle → Option Handle
re_parent R None = None
re_parent R (Some h) = Some (R.handle h)

abbrev pub re_member : Renaming → Member → Member
re_member R m = record { node = R.handle m.node; touch = re_pair R m.touch }

abbrev pub re_class : Renaming → Class → Class
re_class R (defect v) = defect v
re_class R (blossom ms) = blossom (map (re_member R) ms)

abbrev pub re_node : Renaming → Node → Node
re_node R n = record { serial = R.serial n.serial; class = re_class R n.class; state = n.state; parent = re_parent R n.parent; value = n.value; size = n.size }

abbrev pub re_slot : Renaming → Option Node → Option Node
re_slot R None = None
re_slot R (Some n) = Some (re_node R n)

abbrev pub re_face : Renaming → Interface → Interface
re_face R f = with_slots f (map (re_slot R) f.slots)

-- ---- lists
pub map_set : {A B : Type 0} (f : A → B) (l : List A) (i : ℕ) (y : A) → map f (set l i y) ≡ set (map f l) i (f y)
map_set f [] i y = refl
map_set f (x ∷ xs) zero y = refl
map_set f (x ∷ xs) (suc i) y = ap {B = List _} (λ t. f x ∷ t) (map_set f xs i y)

pub map_map : {A B C : Type 0} (f : A → B) (g : B → C) (h : A → C) → ((x : A) → g (f x) ≡ h x) → (l : List A) → map g (map f l) ≡ map h l
map_map f g h e [] = refl
map_map f g h e (x ∷ xs) = ap₂ ◌∷◌ (e x) (map_map f g h e xs)

-- ---- what a slot shows
module _ (R : Renaming) where
  pub re_share : (o : Option Node) → share (re_slot R o) ≡ share o
  re_share None = refl
  re_share (Some n) = refl

  pub re_worth : (o : Option Node) → worth (re_slot R o) ≡ worth o
  re_worth None = refl
  re_worth (Some n) = refl

  pub re_sinks : (l : ℤ) (o : Option Node) → sinks l (re_slot R o) ≡ sinks l o
  re_sinks l None = refl
  re_sinks l (Some n) = refl

  pub re_size : (o : Option Node) → size_of (re_slot R o) ≡ size_of o
  re_size None = refl
  re_size (Some n) = refl

  pub re_given : (o : Option Node) → is_some (re_slot R o) ≡ is_some o
  re_given None = refl
  re_given (Some n) = refl

  -- the lowest empty slot, and a node put at a slot
  pub re_gap : (xs : List (Option Node)) → gap (map (re_slot R) xs) ≡ gap xs
  unfolding gap
  re_gap [] = refl
  re_gap (None ∷ xs) = refl
  re_gap (Some n ∷ xs) = ap suc (re_gap xs)

  pub re_put : (xs : List (Option Node)) (s : ℕ) (n : Node) → put (map (re_slot R) xs) s (re_node R n) ≡ map (re_slot R) (put xs s n)
  unfolding put
  re_put [] s n = refl
  re_put (x ∷ xs) zero n = refl
  re_put (x ∷ xs) (suc s) n = ap {B = List (Option Node)} (λ l. re_slot R x ∷ l) (re_put xs s n)

  pub re_restate : (o : Option Node) (s : State) (q : Option Handle) → restate (re_slot R o) s (re_parent R q) ≡ re_slot R (restate o s q)
  re_restate None s q = refl
  re_restate (Some n) s q = refl

  pub re_grow : (l : ℤ) (o : Option Node) → grow_slot l (re_slot R o) ≡ re_slot R (grow_slot l o)
  unfolding grow_slot
  re_grow l None = refl
  re_grow l (Some n) = refl

  pub re_grows : (l : ℤ) (xs : List (Option Node)) → map (grow_slot l) (map (re_slot R) xs) ≡ map (re_slot R) (map (grow_slot l) xs)
  re_grows l [] = refl
  re_grows l (x ∷ xs) = ap₂ ◌∷◌ (re_grow l x) (re_grows l xs)

  pub re_orphan : (o : Option Node) → has_parent (re_slot R o) ≡ has_parent o
  re_orphan None = refl
  re_orphan (Some n) = go n.parent
    where
      go : (q : Option Handle) → is_some (re_parent R q) ≡ is_some q
      go None = refl
      go (Some h) = refl

  pub re_defect : (o : Option Node) → is_defect (re_slot R o) ≡ is_defect o
  re_defect None = refl
  re_defect (Some n) = go n.class
    where
      go : (c : Class) → is_defect (Some (record { serial = R.serial n.serial; class = re_class R c; state = n.state; parent = re_parent R n.parent; value = n.value; size = n.size }))
          ≡ is_defect (Some (record { serial = n.serial; class = c; state = n.state; parent = n.parent; value = n.value; size = n.size }))
      go (defect v) = refl
      go (blossom ms) = refl

  re_nodes : (ms : List Member) → map (λ (m : Member). m.node) (map (re_member R) ms) ≡ map R.handle (map (λ (m : Member). m.node) ms)
  re_nodes [] = refl
  re_nodes (m ∷ ms) = ap {B = List Handle} (λ t. R.handle m.node ∷ t) (re_nodes ms)

  pub re_members : (o : Option Node) → members (re_slot R o) ≡ map R.handle (members o)
  re_members None = refl
  re_members (Some n) = go n.class
    where
      go : (c : Class) → members (Some (record { serial = R.serial n.serial; class = re_class R c; state = n.state; parent = re_parent R n.parent; value = n.value; size = n.size }))
          ≡ map R.handle (members (Some (record { serial = n.serial; class = c; state = n.state; parent = n.parent; value = n.value; size = n.size })))
      go (defect v) = refl
      go (blossom ms) = re_nodes ms

  pub re_circle : (hs : List Handle) (ts : List (Handle × Handle)) → circle (map R.handle hs) (map (re_pair R) ts) ≡ map (re_member R) (circle hs ts)
  unfolding circle
  re_circle [] ts = refl
  re_circle (h ∷ hs) [] = ap {B = List Member} (λ t. re_member R (record { node = h; touch = (h, h) }) ∷ t) (re_circle hs [])
  re_circle (h ∷ hs) (t ∷ ts) = ap {B = List Member} (λ x. re_member R (record { node = h; touch = t }) ∷ x) (re_circle hs ts)

  pub re_both : (ts : List (Handle × Handle)) → both (map (re_pair R) ts) ≡ map R.handle (both ts)
  unfolding both
  re_both [] = refl
  re_both (t ∷ ts) = ap {B = List Handle} (λ x. R.handle t.0 ∷ R.handle t.1 ∷ x) (re_both ts)
