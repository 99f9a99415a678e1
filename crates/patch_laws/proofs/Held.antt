-- Whatever a patch's nodes name is the patch's: members, touching handles and parents. Said as a renaming that changes nothing, so that what every
-- call does to renamed benches says too that it stays so. Assumes nothing.
use Rattle.std.specs.Prelude.{None, Option, Some}
use Prim.Native.Nat.{ℕ}
use mathlib.Core.Path.{◌≡◌, refl, sym, ◌∙◌, ap, ap₂, subst}
use mathlib.Core.Bool.{Bool, true, false, ◌||◌}
use mathlib.Core.List.{List, [], ◌∷◌, map}
use lib.Dec.{leb}
use lib.ListN.{get_or, drop}
use Rattle.ledger_spec.specs.Bench.{Handle, Member, Class, defect, blossom, Node, Bench}
use Rattle.ledger_spec.specs.Look.{slot_of, node_named}
use Rattle.ledger_spec.specs.Tests.{both}
use Rattle.ledger_spec.specs.Deeds.{members}
use Rattle.ledger_spec.specs.Calls.{Call, Defect, Blossom, Expand, SetState, Grow, Fuse, Clear, Mark}
use Rattle.ledger_spec.specs.Knit.{In, here, there}
use Rattle.ledger_spec.proofs.Lists.{not_in_nil, map_in, in_left, in_right}
use Rattle.ledger_spec.proofs.Knit.{some_eq, blossom_eq}
use Rattle.ledger_spec.proofs.Passed.{node_has}
use Rattle.ledger_spec.proofs.Accepted.{members_of, members_none}
use Rattle.patch_laws.specs.Patch.{Patch, mine, nowhere}
use Rattle.patch_laws.proofs.Renamed.{Renaming, re_pair, re_parent, re_member, re_class, re_node, re_slot}
use Rattle.patch_laws.proofs.Faces.{Faces, slot_faces}
use Rattle.patch_laws.proofs.Alike.{re_call, Own, Names}

-- a handle of the patch as it is; any other nowhere
pub chosen : Bool → Handle → Handle
chosen true h = h
chosen false h = nowhere

abbrev pub keep : Patch → Renaming
keep p = record { serial = λ k. k; handle = λ h. chosen (mine p h.unit) h }

abbrev pub Held : Patch → Bench → Type 0
Held p s = Faces p (keep p) s s

pub mine_eight : (p : Patch) → mine p 8 ≡ true
unfolding mine
mine_eight p = go (p 8)
  where
    go : (c : Bool) → (c || leb 8 8) ≡ true
    go true = refl
    go false = refl

pub kept : (p : Patch) (h : Handle) → mine p h.unit ≡ true → (keep p).handle h ≡ h
unfolding chosen
kept p h m = ap (λ (c : Bool). chosen c h) m

pub keep_names : (p : Patch) → Names p (keep p)
keep_names p = record { plain = kept p; one = λ i j. refl }

kept_mine : (p : Patch) (h : Handle) → h ≡ (keep p).handle h → mine p h.unit ≡ true
unfolding chosen
kept_mine p h e = go (mine p h.unit) refl
  where
    go : (c : Bool) → mine p h.unit ≡ c → mine p h.unit ≡ true
    go true k = k
    go false k = ap (λ (g : Handle). mine p g.unit) (e ∙ ap (λ (c : Bool). chosen c h) k) ∙ mine_eight p

-- ---- lists that a function does not change
pub all_fixed : {A : Type 0} (f : A → A) (l : List A) → l ≡ map f l → (x : A) → In x l → x ≡ f x
all_fixed f [] e x i = absurd (not_in_nil i)
all_fixed f (y ∷ ys) e x (here q) = q ∙ ap (λ l. get_or l 0 y) e ∙ ap f (sym q)
all_fixed f (y ∷ ys) e x (there i) = all_fixed f ys (ap (drop 1) e) x i

pub fixed : {A : Type 0} (f : A → A) (l : List A) → ((x : A) → In x l → f x ≡ x) → map f l ≡ l
fixed f [] e = refl
fixed f (x ∷ xs) e = ap₂ ◌∷◌ (e x (here refl)) (fixed f xs (λ y i. e y (there i)))

-- ---- what the patch's nodes name
pub held : (p : Patch) (s : Bench) → Held p s → (u k : ℕ) (n : Node) → mine p u ≡ true → slot_of s u k ≡ Some n → n ≡ re_node (keep p) n
held p s H u k n m e = some_eq e (slot_faces p (keep p) s s H u k m ∙ ap (re_slot (keep p)) e)

module _ (p : Patch) (n : Node) (h : n ≡ re_node (keep p) n) where
  held_member : (ms : List Member) → n.class ≡ blossom ms → (x : Member) → In x ms → x ≡ re_member (keep p) x
  held_member ms r = all_fixed (re_member (keep p)) ms (blossom_eq r (ap (λ (y : Node). y.class) h ∙ ap (re_class (keep p)) r))

  pub member_mine : (ms : List Member) → n.class ≡ blossom ms → (x : Member) → In x ms → mine p x.node.unit ≡ true
  member_mine ms r x i = kept_mine p x.node (ap (λ (y : Member). y.node) (held_member ms r x i))

  pub touch_mine : (ms : List Member) → n.class ≡ blossom ms → (x : Member) → In x ms → (mine p x.touch.0.unit ≡ true) × (mine p x.touch.1.unit ≡ true)
  touch_mine ms r x i = (kept_mine p x.touch.0 (ap (λ (y : Member). y.touch.0) (held_member ms r x i)), kept_mine p x.touch.1 (ap (λ (y : Member). y.touch.1) (held_member ms r x i)))

  pub parent_mine : (q : Handle) → n.parent ≡ Some q → mine p q.unit ≡ true
  parent_mine q f = kept_mine p q (some_eq f (ap (λ (y : Node). y.parent) h ∙ ap (re_parent (keep p)) f))

module _ (p : Patch) (s : Bench) (H : Held p s) where
  -- the members of a node that the patch can name
  pub members_mine : (h : Handle) → mine p h.unit ≡ true → (g : Handle) → In g (members (node_named s h)) → mine p g.unit ≡ true
  members_mine h k g i = go (node_named s h) refl
    where
      go : (o : Option Node) → node_named s h ≡ o → mine p g.unit ≡ true
      go None e = absurd (not_in_nil (subst (In g) (ap members e) i))
      go (Some n) e = at n.class refl
        where
          at : (c : Class) → n.class ≡ c → mine p g.unit ≡ true
          at (defect v) r = absurd (not_in_nil (subst (In g) (members_none s h n e v r) i))
          at (blossom ms) r = let x = map_in (λ (m : Member). m.node) ms (subst (In g) (members_of s h n e ms r) i) in
              subst (λ (y : Handle). mine p y.unit ≡ true) (sym x.2) (member_mine p n (held p s H h.unit h.slot n k (node_has s h n e).stands) ms r x.0 x.1)

-- ---- a call of the patch is as it is
pairs_kept : (p : Patch) (ts : List (Handle × Handle)) → ((h : Handle) → In h (both ts) → mine p h.unit ≡ true) → map (re_pair (keep p)) ts ≡ ts
unfolding both
pairs_kept p [] k = refl
pairs_kept p (t ∷ ts) k = ap₂ ◌∷◌ (λ i. (kept p t.0 (k t.0 (here refl)) i, kept p t.1 (k t.1 (there (here refl))) i)) (pairs_kept p ts (λ h j. k h (there (there j))))

pub call_kept : (p : Patch) (c : Call) → Own p c → re_call (keep p) c ≡ c
call_kept p (Defect u v) k = refl
call_kept p (Blossom u hs ts) k = ap₂ (Blossom u) (fixed (keep p).handle hs (λ h i. kept p h (k.handles h (in_left (both ts) i)))) (pairs_kept p ts (λ h i. k.handles h (in_right hs i)))
call_kept p (Expand u h) k = ap (Expand u) (kept p h (k.handles h (here refl)))
call_kept p (SetState u h t) k = ap (λ (g : Handle). SetState u g t) (kept p h (k.handles h (here refl)))
call_kept p (Grow u l) k = refl
call_kept p (Fuse q l r) k = refl
call_kept p (Clear u) k = refl
call_kept p (Mark u t) k = refl
