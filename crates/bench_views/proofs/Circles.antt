-- What a circle depends on. Assumes nothing.
use Prim.Native.Nat.{ℕ, zero, suc, ◌/◌, ◌%◌}
use mathlib.Core.Path.{◌≡◌, refl, ap, ap₂, ◌∙◌}
use mathlib.Core.List.{List, ◌∷◌}
use Rattle.bench_words.specs.declared.Node.{Node}
use Rattle.ledger_spec.specs.Bench.{Member}
use Rattle.ledger_spec.specs.Knit.{In, here, there, nodes}
use Rattle.bench_views.specs.View.{follow, circle_of, handle_at, member_at}
use Rattle.ledger_spec.specs.Named.{handle_named}

-- the parts of a node that a circle through it shows
pub record Same (x y : Node) : Type 0 where
  pub serial : x.serial ≡ y.serial
  pub next : x.next ≡ y.next
  pub left : x.left ≡ y.left
  pub right : x.right ≡ y.right

pub same_eq : {x y : Node} → x ≡ y → Same x y
same_eq e = record { serial = ap (λ (n : Node). n.serial) e; next = ap (λ (n : Node). n.next) e; left = ap (λ (n : Node). n.left) e; right = ap (λ (n : Node). n.right) e }

member_same : (A A' : ℕ → Node) (k : ℕ) → Same (A' k) (A k) → member_at A' k ≡ member_at A k
member_same A A' k s = λ i. record { node = record { unit = k / 64; slot = k % 64; serial = (s.serial i).0 }; touch = (handle_named (s.left i), handle_named (s.right i)) }

pub follow_same : (A A' : ℕ → Node) (n k : ℕ) → ((p : ℕ) → In (handle_at A p) (nodes (follow n A k)) → Same (A' p) (A p)) → follow n A' k ≡ follow n A k
unfolding follow
follow_same A A' zero k h = refl
follow_same A A' (suc n) k h =
    let s : Same (A' k) (A k) = h k (here refl) in
    ap₂ (λ (m : Member) (l : List Member). m ∷ l) (member_same A A' k s)
    (ap (follow n A') s.next ∙ follow_same A A' n (A k).next (λ p i. h p (there i)))

pub circle_same : (A A' : ℕ → Node) (j : ℕ) → (A' j).count ≡ (A j).count → (A' j).first ≡ (A j).first
    → ((p : ℕ) → In (handle_at A p) (nodes (circle_of A j)) → Same (A' p) (A p)) → circle_of A' j ≡ circle_of A j
circle_same A A' j c f h = ap₂ (λ (n k : ℕ). follow n A' k) c f ∙ follow_same A A' (A j).count (A j).first h
