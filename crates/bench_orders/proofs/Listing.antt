-- An interface without halves is listed alone; else the left half's list, the right half's and itself. Assumes nothing.
use Rattle.std.specs.Prelude.{None, Some}
use Prim.Native.Nat.{ℕ, ◌+◌, ◌-◌, ◌<◌, ◌≤◌}
use mathlib.Core.Path.{◌≡◌, refl, ap, sym, ◌∙◌}
use mathlib.Core.List.{List, [], ◌∷◌, ◌++◌, append_assoc}
use native.Mathlib.Omega.{arith}
use native.Mathlib.Numerals.{add-one}
use borrow.Author.Tests.{eq-eqb, ne_eqb}
use lib.ListN.{length, take, set, get_or, length-append, length-set}
use lib.Seq.{take-suc-set}
use Rattle.bench_words.specs.Store.{node_at, interface_at}
use Rattle.bench_words.specs.declared.Interface.{Interface}
use Rattle.ledger_spec.specs.Bench as plain
use Rattle.ledger_spec.specs.Look.{interface, tree}
use Rattle.bench_views.specs.View.{view, halves_seen}
use Rattle.bench_views.specs.Fit.{Fit}
use Rattle.bench_views.proofs.Views.{interface_in_lem}
use Rattle.bench_orders.specs.declared.Order.{Order}
use Rattle.bench_orders.specs.Order.{Longer, Lists}
use Rattle.ledger_spec.proofs.Trees.{tree_leaf}
use Rattle.bench_orders.proofs.Trees.{tree_halves, tree_few, left_low, right_low}

pub pushed : (o : Order) (u : ℕ) → o.count < length o.units → Longer o (u ∷ []) (record { units = set o.units o.count u; count = o.count + 1 })
pushed o u l = record { list = rw (add-one o.count) (take-suc-set o.units o.count u l); count = refl; long = length-set o.units o.count u }

module _ (b : List ℕ) (u : ℕ) (lu : u < 8) (f : Interface) (e : f ≡ interface_at b u) where
  halves_seen_lem : (interface (view b) u).halves ≡ halves_seen f.left f.right
  halves_seen_lem = ap (λ (x : plain.Interface). x.halves) (interface_in_lem (get_or b 0 0) (interface_at b) (node_at b) u lu) ∙ sym (ap (λ (x : Interface). halves_seen x.left x.right) e)

  pub alone : f.left ≡ 0 → tree 8 (view b) u ≡ u ∷ []
  alone z = tree_leaf 7 (view b) u (halves_seen_lem ∙ rw (eq-eqb f.left 0 z))

  module _ (z : f.left ≡ 0 → ⊥) (F : Fit b) where
    forked : (interface (view b) u).halves ≡ Some (f.left - 1, f.right - 1)
    forked = halves_seen_lem ∙ rw (ne_eqb f.left 0 z)

    pub right_there : 0 < f.right
    right_there = rw e (F.canon.both u lu (λ q. z (ap (λ (x : Interface). x.left) e ∙ q)))

    pub left_lower : f.left - 1 < u
    left_lower = left_low (view b) F.frame u (f.left - 1, f.right - 1) forked

    pub right_lower : f.right - 1 < u
    right_lower = right_low (view b) F.frame u (f.left - 1, f.right - 1) forked

    pub both : tree 8 (view b) u ≡ (tree 8 (view b) (f.left - 1) ++ tree 8 (view b) (f.right - 1)) ++ (u ∷ [])
    both = tree_halves (view b) F.frame u (f.left - 1, f.right - 1) lu forked

    pub parts : length (tree 8 (view b) u) ≡ length (tree 8 (view b) (f.left - 1)) + length (tree 8 (view b) (f.right - 1)) + 1
    parts = ap length both ∙ length-append (tree 8 (view b) (f.left - 1) ++ tree 8 (view b) (f.right - 1)) (u ∷ [])
        ∙ ap (λ (x : ℕ). x + 1) (length-append (tree 8 (view b) (f.left - 1)) (tree 8 (view b) (f.right - 1)))

    -- the three lists in a row
    pub joined : (o l r p : Order) → Longer o (tree 8 (view b) (f.left - 1)) l → Longer l (tree 8 (view b) (f.right - 1)) r → Longer r (u ∷ []) p → Longer o (tree 8 (view b) u) p
    joined o l r p x y w = record {
      list = w.list ∙ ap (λ (s : List ℕ). s ++ (u ∷ [])) (y.list ∙ ap (λ (s : List ℕ). s ++ tree 8 (view b) (f.right - 1)) x.list)
          ∙ rw both (simp append_assoc);
      count = omega (arith, parts, w.count, y.count, x.count);
      long = w.long ∙ y.long ∙ x.long;
    }

pub list_whole : (b : List ℕ) (u : ℕ) (o r : Order) → length (tree 8 (view b) u) ≤ 8 → o.count ≡ 0 → length o.units ≡ 8 → Longer o (tree 8 (view b) u) r → Lists b u r
list_whole b u o r l z k x = record {
  list = x.list ∙ ap (λ (k : ℕ). take k o.units ++ tree 8 (view b) u) z;
  few = omega (arith, x.count);
  long = x.long ∙ k;
}

pub listable : (b : List ℕ) (u : ℕ) → Fit b → u < 8 → (interface (view b) u).parent ≡ None → length (tree 8 (view b) u) ≤ 8
listable b u F l free = tree_few (view b) F.frame u l free
