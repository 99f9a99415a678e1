-- Which number a read is refused by: the first test that holds. Assumes nothing.
use Rattle.std.specs.Prelude.{None, Some, Option}
use Prim.Native.Nat.{ℕ, zero, suc, ◌<◌, ◌≤◌}
use mathlib.Core.Path.{◌≡◌, refl, ap, sym, ◌∙◌}
use mathlib.Core.Bool.{Bool, true, false, not}
use mathlib.Core.List.{List, [], ◌∷◌}
use borrow.Author.Tests.{le-leb, lt-leb}
use lib.ListN.{get_or}
use Rattle.bench_words.specs.Store.{node_at, interface_at}
use Rattle.bench_words.specs.declared.Interface.{Interface}
use Rattle.ledger_spec.specs.Bench.{Handle, Node, Bench}
use Rattle.ledger_spec.specs.Look.{interface, node_named}
use Rattle.ledger_spec.specs.Tests.{first, is_some, outside, child, stale}
use Rattle.ledger_spec.specs.Refuse.{unit_tests}
use Rattle.ledger_spec.specs.Reads.{said, node_tests}
use Rattle.bench_views.specs.View.{view, up_seen}
use Rattle.bench_views.proofs.Views.{view_parent}

module _ {A : Type 0} (v z : A) where
  pub said_no : (n : ℕ) → (n ≡ 0 → ⊥) → (n, z) ≡ said n v z
  unfolding said
  said_no zero q = absurd (q refl)
  said_no (suc n) q = refl

  pub said_yes : (n : ℕ) → n ≡ 0 → (0, v) ≡ said n v z
  unfolding said
  said_yes n q = sym (ap (λ (k : ℕ). said k v z) q)

pub first_yes : (c : Bool) (n : ℕ) (ts : List (Bool × ℕ)) → c ≡ true → first ((c, n) ∷ ts) ≡ n
unfolding first
first_yes c n ts e = rw (e, first)

pub first_no : (c : Bool) (n : ℕ) (ts : List (Bool × ℕ)) → c ≡ false → first ((c, n) ∷ ts) ≡ first ts
unfolding first
first_no c n ts e = rw (e, first)

pub first_none : first [] ≡ 0
unfolding first
first_none = refl

-- ---- an interface
module _ (b : List ℕ) (u : ℕ) where
  pub number_out : 8 ≤ u → 3 ≡ first (unit_tests (view b) u)
  unfolding unit_tests
  number_out l = sym (first_yes (outside u) 3 ((child (view b) u, 4) ∷ []) (le-leb 8 u l))

  module _ (l : u < 8) (f : Interface) (e : f ≡ interface_at b u) where
    parent_is : (interface (view b) u).parent ≡ up_seen f.parent
    parent_is = view_parent (get_or b 0 0) (interface_at b) (node_at b) u l ∙ ap (λ (x : Interface). up_seen x.parent) (sym e)

    pub number_child : (p : ℕ) → f.parent ≡ Some p → 4 ≡ first (unit_tests (view b) u)
    unfolding unit_tests
    number_child p q = sym (first_no (outside u) 3 ((child (view b) u, 4) ∷ []) (lt-leb 8 u l) ∙ first_yes (child (view b) u) 4 [] (ap is_some (parent_is ∙ ap up_seen q)))

    pub number_free : f.parent ≡ None → 0 ≡ first (unit_tests (view b) u)
    unfolding unit_tests
    number_free q = sym (first_no (outside u) 3 ((child (view b) u, 4) ∷ []) (lt-leb 8 u l) ∙ first_no (child (view b) u) 4 [] (ap is_some (parent_is ∙ ap up_seen q)) ∙ first_none)

-- ---- a node
module _ (b : Bench) (h : Handle) where
  pub stale_yes : node_named b h ≡ None → stale b h ≡ true
  stale_yes e = ap (λ (o : Option Node). not (is_some o)) e

  pub stale_no : (n : Node) → node_named b h ≡ Some n → stale b h ≡ false
  stale_no n e = ap (λ (o : Option Node). not (is_some o)) e

  pub node_refused : node_named b h ≡ None → first (node_tests b h) ≡ 8
  unfolding node_tests
  node_refused e = first_yes (stale b h) 8 [] (stale_yes e)

  pub node_passed : (n : Node) → node_named b h ≡ Some n → first (node_tests b h) ≡ 0
  unfolding node_tests
  node_passed n e = first_no (stale b h) 8 [] (stale_no n e) ∙ first_none
