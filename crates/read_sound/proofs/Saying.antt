-- What each read says: a refused one its number and no value, an accepted one 0 and the value. Assumes nothing.
use Rattle.std.specs.Prelude.{None, Option, Some}
use Prim.Native.Nat.{ℕ, ◌<◌, ◌≤◌}
use mathlib.Core.Path.{◌≡◌, refl, ap, ap₂, sym, ◌∙◌}
use mathlib.Core.Bool.{Bool, true, false, not, ◌&&◌}
use mathlib.Core.List.{List, [], ◌∷◌, ◌++◌}
use native.Mathlib.Omega.{arith}
use borrow.Author.Tests.{le-leb, lt-leb, lt-ltb, le-ltb}
use lib.Dec.{leb, ltb}
use lib.ListN.{length, get_or, drop}
use lib.IntN.{ℤ, pos}
use Rattle.ledger_spec.specs.Bench.{Handle, Node, Bench}
use Rattle.ledger_spec.specs.Look.{interface, node_named}
use Rattle.ledger_spec.specs.Change.{worth}
use Rattle.ledger_spec.specs.Calls.{nobody}
use Rattle.ledger_spec.specs.Deeds.{size_of}
use Rattle.ledger_spec.specs.Tests.{first, is_some, outside, child, stale, foreign}
use Rattle.ledger_spec.specs.Refuse.{unit_tests}
use Rattle.ledger_spec.specs.Reads.{said, slots_of, as_handle, sum_of, speed_of, count_of, index_tests, handle_at_index, node_tests, value_of, belongs}
use Rattle.ledger_spec.specs.Walk.{parent_in, outer_from, links_from, below_from, vertices_of, outer_of, below_tests, below_of, first_vertex, size_tests, vertices_into}
use Rattle.read_sound.proofs.Numbers.{said_no, said_yes, first_yes, first_no, first_none, stale_yes, stale_no, node_refused, node_passed}

-- a number and its value, where the number is that of a test list
module _ {A : Type 0} (v z : A) (n m : ℕ) (e : n ≡ m) where
  pub refused : (n ≡ 0 → ⊥) → (n, z) ≡ said m v z
  refused q = said_no v z n q ∙ ap (λ (k : ℕ). said k v z) e

  pub accepted : n ≡ 0 → (w : A) → w ≡ v → (0, w) ≡ said m v z
  accepted q w r = ap (λ (x : A). (0, x)) r ∙ said_yes v z n q ∙ ap (λ (k : ℕ). said k v z) e

-- ---- reads of an interface
module _ (b : Bench) (u n : ℕ) (e : n ≡ first (unit_tests b u)) where
  module _ (q : n ≡ 0 → ⊥) where
    pub sum_no : (n, pos 0) ≡ sum_of b u
    unfolding sum_of
    sum_no = refused (interface b u).sum (pos 0) n (first (unit_tests b u)) e q

    pub speed_no : (n, pos 0) ≡ speed_of b u
    unfolding speed_of
    speed_no = refused (interface b u).speed (pos 0) n (first (unit_tests b u)) e q

    pub count_no : (n, 0) ≡ count_of b u
    unfolding count_of
    count_no = refused (length (slots_of b u)) 0 n (first (unit_tests b u)) e q

    pub belongs_no : (h : Handle) → (n, false) ≡ belongs b u h
    unfolding belongs
    belongs_no h = refused (not (stale b h) && not (foreign b u h)) false n (first (unit_tests b u)) e q

  module _ (q : n ≡ 0) where
    pub sum_yes : (w : ℤ) → w ≡ (interface b u).sum → (0, w) ≡ sum_of b u
    unfolding sum_of
    sum_yes = accepted (interface b u).sum (pos 0) n (first (unit_tests b u)) e q

    pub speed_yes : (w : ℤ) → w ≡ (interface b u).speed → (0, w) ≡ speed_of b u
    unfolding speed_of
    speed_yes = accepted (interface b u).speed (pos 0) n (first (unit_tests b u)) e q

    pub count_yes : (w : ℕ) → w ≡ length (slots_of b u) → (0, w) ≡ count_of b u
    unfolding count_of
    count_yes = accepted (length (slots_of b u)) 0 n (first (unit_tests b u)) e q

    pub belongs_stale : (h : Handle) → node_named b h ≡ None → (0, false) ≡ belongs b u h
    unfolding belongs
    belongs_stale h s = accepted (not (stale b h) && not (foreign b u h)) false n (first (unit_tests b u)) e q false
        (sym (ap (λ (c : Bool). not c && not (foreign b u h)) (stale_yes b h s)))

    pub belongs_there : (h : Handle) (x : Node) → node_named b h ≡ Some x → (c : Bool) → c ≡ foreign b u h → (0, not c) ≡ belongs b u h
    unfolding belongs
    belongs_there h x s c f = accepted (not (stale b h) && not (foreign b u h)) false n (first (unit_tests b u)) e q (not c)
        (ap not f ∙ sym (ap (λ (c : Bool). not c && not (foreign b u h)) (stale_no b h x s)))

-- ---- index to handle
after : (c d t : Bool) (n : ℕ) → (first ((c, 3) ∷ (d, 4) ∷ []) ≡ 0 → ⊥) → first ((c, 3) ∷ (d, 4) ∷ (t, n) ∷ []) ≡ first ((c, 3) ∷ (d, 4) ∷ [])
unfolding first
after true d t n q = refl
after false true t n q = refl
after false false t n q = absurd (q refl)

passed_on : (c d t : Bool) (n : ℕ) → first ((c, 3) ∷ (d, 4) ∷ []) ≡ 0 → first ((c, 3) ∷ (d, 4) ∷ (t, n) ∷ []) ≡ first ((t, n) ∷ [])
unfolding first
passed_on true d t n q = absurd (omega arith)
passed_on false true t n q = absurd (omega arith)
passed_on false false t n q = refl

module _ (b : Bench) (u k n : ℕ) (e : n ≡ first (unit_tests b u)) where
  abbrev slots : List (ℕ × ℕ × Option Node)
  slots = slots_of b u

  pub index_no : (n ≡ 0 → ⊥) → (n, None) ≡ handle_at_index b u k
  unfolding handle_at_index index_tests unit_tests
  index_no q = refused (as_handle (get_or slots k (0, 0, None))) None n (first (index_tests b u k))
      (e ∙ sym (after (outside u) (child b u) (leb (length slots) k) 18 (λ z. q (e ∙ z)))) q

  pub index_past : n ≡ 0 → length slots ≤ k → (18, None) ≡ handle_at_index b u k
  unfolding handle_at_index index_tests unit_tests
  index_past q l = refused (as_handle (get_or slots k (0, 0, None))) None 18 (first (index_tests b u k))
      (sym (passed_on (outside u) (child b u) (leb (length slots) k) 18 (sym e ∙ q) ∙ first_yes (leb (length slots) k) 18 [] (le-leb (length slots) k l))) (λ z. omega arith)

  pub index_there : n ≡ 0 → k < length slots → (w : Option Handle) → w ≡ as_handle (get_or slots k (0, 0, None)) → (0, w) ≡ handle_at_index b u k
  unfolding handle_at_index index_tests unit_tests
  index_there q l w r = accepted (as_handle (get_or slots k (0, 0, None))) None 0 (first (index_tests b u k))
      (sym (passed_on (outside u) (child b u) (leb (length slots) k) 18 (sym e ∙ q) ∙ first_no (leb (length slots) k) 18 [] (lt-leb (length slots) k l) ∙ first_none)) refl w r

-- ---- reads of a node
module _ (b : Bench) (h : Handle) (s : node_named b h ≡ None) where
  pub value_no : (8, pos 0) ≡ value_of b h
  unfolding value_of
  value_no = refused (worth (node_named b h)) (pos 0) 8 (first (node_tests b h)) (sym (node_refused b h s)) (λ z. omega arith)

  pub outer_no : (8, (nobody, 0)) ≡ outer_of b h
  unfolding outer_of
  outer_no = refused (outer_from 512 b h, links_from 512 b h) (nobody, 0) 8 (first (node_tests b h)) (sym (node_refused b h s)) (λ z. omega arith)

  pub under_no : (8, nobody) ≡ below_of b h
  unfolding below_of below_tests
  under_no = refused (below_from 512 b h h) nobody 8 (first (below_tests b h))
      (sym (first_yes (stale b h) 8 ((not (is_some (parent_in (node_named b h))), 12) ∷ []) (stale_yes b h s))) (λ z. omega arith)

  pub vertex_no : (8, 0) ≡ first_vertex b h
  unfolding first_vertex
  vertex_no = refused (get_or (vertices_of b h) 0 0) 0 8 (first (node_tests b h)) (sym (node_refused b h s)) (λ z. omega arith)

  pub vertices_no : (out : List ℕ) → (8, (0, out)) ≡ vertices_into b h out
  unfolding vertices_into size_tests
  vertices_no out = refused (length (vertices_of b h), vertices_of b h ++ drop (length (vertices_of b h)) out) (0, out) 8 (first (size_tests b h out))
      (sym (first_yes (stale b h) 8 ((ltb (length out) (size_of (node_named b h)), 19) ∷ []) (stale_yes b h s))) (λ z. omega arith)

module _ (b : Bench) (h : Handle) (n : Node) (s : node_named b h ≡ Some n) where
  pub value_yes : (w : ℤ) → w ≡ worth (node_named b h) → (0, w) ≡ value_of b h
  unfolding value_of
  value_yes = accepted (worth (node_named b h)) (pos 0) 0 (first (node_tests b h)) (sym (node_passed b h n s)) refl

  pub outer_yes : (g : Handle) (l : ℕ) → g ≡ outer_from 512 b h → l ≡ links_from 512 b h → (0, (g, l)) ≡ outer_of b h
  unfolding outer_of
  outer_yes g l x y = accepted (outer_from 512 b h, links_from 512 b h) (nobody, 0) 0 (first (node_tests b h)) (sym (node_passed b h n s)) refl (g, l)
      (ap₂ (λ (a : Handle) (c : ℕ). (a, c)) x y)

  pub vertex_yes : (w : ℕ) → w ≡ get_or (vertices_of b h) 0 0 → (0, w) ≡ first_vertex b h
  unfolding first_vertex
  vertex_yes = accepted (get_or (vertices_of b h) 0 0) 0 0 (first (node_tests b h)) (sym (node_passed b h n s)) refl

  pub under_top : parent_in (node_named b h) ≡ None → (12, nobody) ≡ below_of b h
  unfolding below_of below_tests
  under_top p = refused (below_from 512 b h h) nobody 12 (first (below_tests b h))
      (sym (first_no (stale b h) 8 ((not (is_some (parent_in (node_named b h))), 12) ∷ []) (stale_no b h n s)
      ∙ first_yes (not (is_some (parent_in (node_named b h)))) 12 [] (ap (λ (o : Option Handle). not (is_some o)) p))) (λ z. omega arith)

  pub under_yes : (p : Handle) → parent_in (node_named b h) ≡ Some p → (g : Handle) → g ≡ below_from 512 b h h → (0, g) ≡ below_of b h
  unfolding below_of below_tests
  under_yes p f = accepted (below_from 512 b h h) nobody 0 (first (below_tests b h))
      (sym (first_no (stale b h) 8 ((not (is_some (parent_in (node_named b h))), 12) ∷ []) (stale_no b h n s)
      ∙ first_no (not (is_some (parent_in (node_named b h)))) 12 [] (ap (λ (o : Option Handle). not (is_some o)) f) ∙ first_none)) refl

  module _ (out : List ℕ) where
    pub vertices_small : length out < size_of (node_named b h) → (19, (0, out)) ≡ vertices_into b h out
    unfolding vertices_into size_tests
    vertices_small l = refused (length (vertices_of b h), vertices_of b h ++ drop (length (vertices_of b h)) out) (0, out) 19 (first (size_tests b h out))
        (sym (first_no (stale b h) 8 ((ltb (length out) (size_of (node_named b h)), 19) ∷ []) (stale_no b h n s)
        ∙ first_yes (ltb (length out) (size_of (node_named b h))) 19 [] (lt-ltb (length out) (size_of (node_named b h)) l))) (λ z. omega arith)

    pub vertices_yes : size_of (node_named b h) ≤ length out → (c : ℕ) (out' : List ℕ) → c ≡ length (vertices_of b h) → out' ≡ vertices_of b h ++ drop (length (vertices_of b h)) out → (0, (c, out')) ≡ vertices_into b h out
    unfolding vertices_into size_tests
    vertices_yes l c out' x y = accepted (length (vertices_of b h), vertices_of b h ++ drop (length (vertices_of b h)) out) (0, out) 0 (first (size_tests b h out))
        (sym (first_no (stale b h) 8 ((ltb (length out) (size_of (node_named b h)), 19) ∷ []) (stale_no b h n s)
        ∙ first_no (ltb (length out) (size_of (node_named b h))) 19 [] (le-ltb (length out) (size_of (node_named b h)) l) ∙ first_none)) refl (c, out')
        (ap₂ (λ (a : ℕ) (o : List ℕ). (a, o)) x y)
