-- A node after a call is one that stood in the same slot, with its serial, class and size and about its value, or a new one. From that alone
-- circles, sizes, touching handles and values stay in order. Assumes nothing.
use Rattle.std.specs.Prelude.{None, Option, Some}
use Prim.Native.Nat.{ℕ, ◌+◌, ◌≤◌}
use mathlib.Core.Path.{◌≡◌, refl, sym, ◌∙◌, ap, ap₂}
use mathlib.Core.Logic.{◌⊎◌, inl, inr}
use mathlib.Core.List.{List, [], ◌∷◌}
use native.Mathlib.Omega.{arith}
use lib.IntN.{ℤ, pos, nat_abs, ◌+ℤ◌, +ℤ_idr}
use Rattle.ledger_spec.specs.Bench.{Handle, State, Member, blossom, Node, Bench}
use Rattle.ledger_spec.specs.Look.{slot_of, node_named, top}
use Rattle.ledger_spec.specs.Change.{restate}
use Rattle.ledger_spec.specs.Deeds.{size_of, sizes}
use Rattle.ledger_spec.specs.Knit.{mk, nodes, In, here, there, Down, Sewn}
use Rattle.ledger_spec.specs.Facts.{W, Touching, Circle, Ring}
use Rattle.ledger_spec.proofs.Range.{abs_add}
use Rattle.ledger_spec.proofs.Knit.{some_eq, none_some}
use Rattle.ledger_spec.proofs.Passed.{has_node}

pub record Stem (b : Bench) (d u s : ℕ) (x : Node) : Type 0 where
  pub node : Node
  pub stood : slot_of b u s ≡ Some node
  pub serial : node.serial ≡ x.serial
  pub class : node.class ≡ x.class
  pub size : node.size ≡ x.size
  pub move : ℤ
  pub small : nat_abs move ≤ d
  pub value : x.value ≡ node.value +ℤ move

pub record New (b b' : Bench) (u s : ℕ) (x : Node) : Type 0 where
  pub bare : slot_of b u s ≡ None
  pub serial : x.serial ≡ b.next
  pub ring : Ring b' x
  pub value : x.value ≡ pos 0

-- every node of b' is one of b, its value moved by at most d of its interface, or new
abbrev pub Came : Bench → Bench → (ℕ → ℕ) → Type 0
Came b b' d = (u s : ℕ) (x : Node) → slot_of b' u s ≡ Some x → Stem b (d u) u s x ⊎ New b b' u s x

-- ---- where a slot is as it was, or its node got a state and a parent
pub stem_same : (b b' : Bench) (u s : ℕ) (x : Node) → slot_of b' u s ≡ slot_of b u s → slot_of b' u s ≡ Some x → Stem b 0 u s x
stem_same b b' u s x e k = record { node = x; stood = sym e ∙ k; serial = refl; class = refl; size = refl; move = pos 0; small = omega arith; value = sym (+ℤ_idr x.value) }

pub stem_restated : (b b' : Bench) (u s : ℕ) (x : Node) (t : State) (p : Option Handle) → slot_of b' u s ≡ restate (slot_of b u s) t p → slot_of b' u s ≡ Some x → Stem b 0 u s x
stem_restated b b' u s x t p e k = go (slot_of b u s) refl (sym e ∙ k)
  where
    go : (o : Option Node) → slot_of b u s ≡ o → restate o t p ≡ Some x → Stem b 0 u s x
    go None f z = absurd (none_some refl z)
    go (Some n) f z = let y = some_eq refl z in
        record { node = n; stood = f; serial = ap (λ (m : Node). m.serial) y; class = ap (λ (m : Node). m.class) y; size = ap (λ (m : Node). m.size) y; move = pos 0; small = omega arith; value = ap (λ (m : Node). m.value) (sym y) ∙ sym (+ℤ_idr n.value) }

-- ---- sizes
pub sizes_same : (b b' : Bench) (hs : List Handle) → ((h : Handle) → In h hs → size_of (node_named b' h) ≡ size_of (node_named b h)) → sizes b' hs ≡ sizes b hs
unfolding sizes
sizes_same b b' [] e = refl
sizes_same b b' (h ∷ hs) e = ap₂ ◌+◌ (e h (here refl)) (sizes_same b b' hs (λ g i. e g (there i)))

module _ (b b' : Bench) (S : Sewn b) (S' : Sewn b') (later : b.next ≤ b'.next) (d : ℕ → ℕ) (came : Came b b' d) where
  -- a member of a circle that stood, and stands
  size_kept : (u s : ℕ) (n x : Node) (ms : List Member) → slot_of b u s ≡ Some n → slot_of b' u s ≡ Some x → n.class ≡ blossom ms → x.class ≡ blossom ms
      → (g : Handle) → In g (nodes ms) → size_of (node_named b' g) ≡ size_of (node_named b g)
  size_kept u s n x ms e e' r r' g i = go (came g.unit g.slot D'.node D'.has.stands)
    where
      D : Down (slot_of b) g (mk u s n)
      D = S.knit.down u s n ms g e r i

      D' : Down (slot_of b') g (mk u s x)
      D' = S'.knit.down u s x ms g e' r' i

      go : Stem b (d g.unit) g.unit g.slot D'.node ⊎ New b b' g.unit g.slot D'.node → size_of (node_named b' g) ≡ size_of (node_named b g)
      go (inl t) = ap size_of (has_node b' g D'.node D'.has) ∙ sym t.size
          ∙ ap (λ (m : Node). m.size) (some_eq t.stood D.has.stands) ∙ ap size_of (sym (has_node b g D.node D.has))
      go (inr t) = absurd (none_some t.bare D.has.stands)

  touch_later : (t : Handle) → Touching b t → Touching b' t
  touch_later t T = record { unit = T.unit; slot = T.slot; serial = omega (arith, T.serial) }

  ring_kept : (u s : ℕ) (n x : Node) → slot_of b u s ≡ Some n → slot_of b' u s ≡ Some x → n.class ≡ x.class → n.size ≡ x.size → Ring b n → Ring b' x
  ring_kept u s n x e e' c z R = record {
    single = λ v r. sym z ∙ R.single v (c ∙ r);
    circle = λ ms r. let C : Circle b n ms = R.circle ms (c ∙ r) in
        record {
          least = C.least;
          most = C.most;
          size = sym z ∙ C.size ∙ sym (sizes_same b b' (nodes ms) (size_kept u s n x ms e e' (c ∙ r) r));
          touching = λ m i. (touch_later m.touch.0 (C.touching m i).0, touch_later m.touch.1 (C.touching m i).1);
        };
  }

  pub rings_kept : ((u s : ℕ) (n : Node) → slot_of b u s ≡ Some n → Ring b n) → (u s : ℕ) (x : Node) → slot_of b' u s ≡ Some x → Ring b' x
  rings_kept R u s x e = go (came u s x e)
    where
      go : Stem b (d u) u s x ⊎ New b b' u s x → Ring b' x
      go (inl t) = ring_kept u s t.node x t.stood e t.class t.size (R u s t.node t.stood)
      go (inr t) = t.ring

-- ---- values, where W grows as much as they may have moved
pub values_kept : (b b' : Bench) (d : ℕ → ℕ) → Came b b' d → ((u s : ℕ) (x : Node) → slot_of b' u s ≡ Some x → W b (top b u) + d u ≤ W b' (top b' u))
    → ((u s : ℕ) (n : Node) → slot_of b u s ≡ Some n → nat_abs n.value ≤ W b (top b u)) → (u s : ℕ) (x : Node) → slot_of b' u s ≡ Some x → nat_abs x.value ≤ W b' (top b' u)
values_kept b b' d came room vs u s x e = go (came u s x e)
  where
    go : Stem b (d u) u s x ⊎ New b b' u s x → nat_abs x.value ≤ W b' (top b' u)
    go (inl t) = omega (arith, ap nat_abs t.value, abs_add t.node.value t.move, t.small, vs u s t.node t.stood, room u s x e)
    go (inr t) = omega (arith, ap nat_abs t.value)
