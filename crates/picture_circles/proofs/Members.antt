-- A member's item is what its words hold: its own index, or those of its two handles. Assumes nothing.
use Prim.Native.Nat.{ℕ, ◌+◌, ◌*◌, ◌/◌, ◌%◌, ◌<◌}
use mathlib.Core.Path.{◌≡◌, ap, ap₂, sym, ◌∙◌, subst}
use mathlib.Core.Bool.{Bool, true, false}
use mathlib.Core.List.{List, [], ◌∷◌, ◌++◌}
use native.Mathlib.Omega.{arith}
use lib.ListN.{get_or}
use Rattle.bench_words.specs.Store.{node_at}
use Rattle.bench_words.specs.declared.Node.{Node}
use Rattle.kinds.specs.declared.Handle.{Handle as Code}
use Rattle.ledger_spec.specs.Named.{handle_named}
use Rattle.ledger_spec.specs.Decimals.{decimal}
use Rattle.bench_views.specs.View.{view, handle_at, member_at}
use Rattle.picture_spec.specs.Sketch.{Linked, linked, index_of}
use Rattle.picture_spec.specs.Text.{pair_text}
use Rattle.picture_indices.specs.Indices.{Indices}
use Rattle.picture_circles.specs.Member.{member_text}

abbrev Low : Code → Type 0
Low h = (h.unit < 8) × (h.slot < 64)

module _ (b : List ℕ) (q : ℕ) (n : Node) (e : n ≡ node_at b q) where
  left_of : Low (node_at b q).left
  unfolding node_at
  left_of = (omega arith, omega arith)

  right_of : Low (node_at b q).right
  unfolding node_at
  right_of = (omega arith, omega arith)

  pub left_low : Low n.left
  left_low = subst (λ (x : Node). Low x.left) (sym e) left_of

  pub right_low : Low n.right
  right_low = subst (λ (x : Node). Low x.right) (sym e) right_of

plainly : (t : Bool) (m : Linked) → t ≡ false → decimal m.0 ≡ member_text t m
unfolding member_text
plainly t m e = rw (e, member_text)

paired : (t : Bool) (m : Linked) → t ≡ true → (91 ∷ []) ++ (decimal m.1.0 ++ ((44 ∷ []) ++ (decimal m.1.1 ++ (93 ∷ [])))) ≡ member_text t m
unfolding member_text pair_text
paired t m e = rw (e, member_text, pair_text)

module _ (b : List ℕ) (unit : ℕ) (t : List ℕ) (I : Indices b unit t) (q : ℕ) (l : q < 512) (w : Bool) where
  abbrev here : Linked
  here = linked (index_of (view b) unit) (member_at (node_at b) q)

  pub own_item : w ≡ false → decimal (get_or t q 0) ≡ member_text w here
  own_item f =
      let s : q / 64 * 64 + q % 64 ≡ q = omega arith in
      ap decimal (ap (λ (x : ℕ). get_or t x 0) (sym s) ∙ I.at (handle_at (node_at b) q) (omega arith) (omega arith)) ∙ plainly w here f

  pub touch_item : w ≡ true → (n : Node) → n ≡ node_at b q → (i j : ℕ) → i ≡ index_of (view b) unit (handle_named n.left) → j ≡ index_of (view b) unit (handle_named n.right)
      → (91 ∷ []) ++ (decimal i ++ ((44 ∷ []) ++ (decimal j ++ (93 ∷ [])))) ≡ member_text w here
  touch_item f n e i j p r =
      let x : i ≡ here.1.0 = p ∙ ap (λ (y : Node). index_of (view b) unit (handle_named y.left)) e in
      let y : j ≡ here.1.1 = r ∙ ap (λ (z : Node). index_of (view b) unit (handle_named z.right)) e in
      ap₂ (λ (g h : ℕ). (91 ∷ []) ++ (decimal g ++ ((44 ∷ []) ++ (decimal h ++ (93 ∷ []))))) x y ∙ paired w here f
