-- No second answer: two results that meet a read's contract are one, and so are two slices, since each contract is an equation whose one side shows every
-- field of the result. Assumes nothing.
use Rattle.std.specs.Prelude.{None, Option, Some}
use Prim.Native.Nat.{ℕ}
use mathlib.Core.Path.{◌≡◌, refl, sym, ap, ◌∙◌}
use mathlib.Core.List.{List}
use Rattle.kinds.specs.declared.Handle.{Handle as Packed}
use Rattle.ledger_spec.specs.Bench.{Handle}
use Rattle.bench_views.specs.View.{view}
use Rattle.read_sound.specs.Shown.{maybe, shown_weight, shown_count, shown_belongs, shown_node, shown_ancestor, shown_second, shown_vertex, shown_vertices}
use Rattle.read_sound.specs.declared.Weighed.{Weighed}
use Rattle.read_sound.specs.declared.Counted.{Counted}
use Rattle.read_sound.specs.declared.Belongs.{Belongs}
use Rattle.read_sound.specs.declared.Indexed.{Indexed}
use Rattle.read_sound.specs.declared.Ancestor.{Ancestor}
use Rattle.read_sound.specs.declared.Second.{Second}
use Rattle.read_sound.specs.declared.Represented.{Represented}
use Rattle.read_marks.specs.Shown.{shown_mark}
use Rattle.read_marks.specs.declared.Marked.{Marked}
use Rattle.sound_lent.specs.Verdict.{read_words}
use Rattle.ledger_spec.specs.Answers.{sum_read, speed_read, count_read, fills_read, floored_read, index_read, belongs_read, value_read, outer_read, below_read, first_read, vertices_read}

-- ---- what is shown of an answer determines it
abbrev packed : Handle → Packed
packed h = record { unit = h.unit; slot = h.slot; serial = record { 0 = h.serial } }

abbrev node_back : Option Handle → Option Packed
node_back None = None
node_back (Some h) = Some (packed h)

node_back_lem : (m : Option Packed) → node_back (maybe m) ≡ m
node_back_lem None = refl
node_back_lem (Some h) = refl

weight_same : (r s : Weighed) → shown_weight r ≡ shown_weight s → r ≡ s
weight_same r s e = λ i. record { number = (e i).0; weight = (e i).1 }

count_same : (r s : Counted) → shown_count r ≡ shown_count s → r ≡ s
count_same r s e = λ i. record { number = (e i).0; count = (e i).1 }

mark_same : (r s : Marked) → shown_mark r ≡ shown_mark s → r ≡ s
mark_same r s e = λ i. record { number = (e i).0; marked = (e i).1 }

belongs_same : (r s : Belongs) → shown_belongs r ≡ shown_belongs s → r ≡ s
belongs_same r s e = λ i. record { number = (e i).0; inside = (e i).1 }

index_same : (r s : Indexed) → shown_node r ≡ shown_node s → r ≡ s
index_same r s e = λ i. record { number = (e i).0; node = same i }
  where
    same : r.node ≡ s.node
    same = sym (node_back_lem r.node) ∙ ap (λ (p : ℕ × Option Handle). node_back p.1) e ∙ node_back_lem s.node

ancestor_same : (r s : Ancestor) → shown_ancestor r ≡ shown_ancestor s → r ≡ s
ancestor_same r s e = λ i. record { number = (e i).0; node = packed (e i).1.0; links = (e i).1.1 }

second_same : (r s : Second) → shown_second r ≡ shown_second s → r ≡ s
second_same r s e = λ i. record { number = (e i).0; node = packed (e i).1 }

vertex_same : (r s : Represented) → shown_vertex r ≡ shown_vertex s → r ≡ s
vertex_same r s e = λ i. record { number = (e i).0; vertex = record { 0 = (e i).1 } }

-- ---- the reads, of any words b
module _ (b : List ℕ) where
  module _ (u : ℕ) where
    pub only_sum_dual_variables : (r s : Weighed) → shown_weight r ≡ read_words b (sum_read (view b) u) → shown_weight s ≡ read_words b (sum_read (view b) u) → r ≡ s
    only_sum_dual_variables r s p q = weight_same r s (p ∙ sym q)

    pub only_sum_grow_speed : (r s : Weighed) → shown_weight r ≡ read_words b (speed_read (view b) u) → shown_weight s ≡ read_words b (speed_read (view b) u) → r ≡ s
    only_sum_grow_speed r s p q = weight_same r s (p ∙ sym q)

    pub only_nodes_count : (r s : Counted) → shown_count r ≡ read_words b (count_read (view b) u) → shown_count s ≡ read_words b (count_read (view b) u) → r ≡ s
    only_nodes_count r s p q = count_same r s (p ∙ sym q)

    pub only_is_filling : (r s : Marked) → shown_mark r ≡ read_words b (fills_read (view b) u) → shown_mark s ≡ read_words b (fills_read (view b) u) → r ≡ s
    only_is_filling r s p q = mark_same r s (p ∙ sym q)

    pub only_is_floored : (r s : Marked) → shown_mark r ≡ read_words b (floored_read (view b) u) → shown_mark s ≡ read_words b (floored_read (view b) u) → r ≡ s
    only_is_floored r s p q = mark_same r s (p ∙ sym q)

    pub only_get_node : (k : ℕ) (r s : Indexed) → shown_node r ≡ read_words b (index_read (view b) u k) → shown_node s ≡ read_words b (index_read (view b) u k) → r ≡ s
    only_get_node k r s p q = index_same r s (p ∙ sym q)

    pub only_check_ptr_belonging : (h : Handle) (r s : Belongs) → shown_belongs r ≡ read_words b (belongs_read (view b) u h) → shown_belongs s ≡ read_words b (belongs_read (view b) u h) → r ≡ s
    only_check_ptr_belonging h r s p q = belongs_same r s (p ∙ sym q)

  module _ (h : Handle) where
    pub only_get_dual_variable : (r s : Weighed) → shown_weight r ≡ read_words b (value_read (view b) h) → shown_weight s ≡ read_words b (value_read (view b) h) → r ≡ s
    only_get_dual_variable r s p q = weight_same r s (p ∙ sym q)

    pub only_get_ancestor_blossom : (r s : Ancestor) → shown_ancestor r ≡ read_words b (outer_read (view b) h) → shown_ancestor s ≡ read_words b (outer_read (view b) h) → r ≡ s
    only_get_ancestor_blossom r s p q = ancestor_same r s (p ∙ sym q)

    pub only_get_secondary_ancestor_blossom : (r s : Second) → shown_second r ≡ read_words b (below_read (view b) h) → shown_second s ≡ read_words b (below_read (view b) h) → r ≡ s
    only_get_secondary_ancestor_blossom r s p q = second_same r s (p ∙ sym q)

    pub only_get_representative_vertex : (r s : Represented) → shown_vertex r ≡ read_words b (first_read (view b) h) → shown_vertex s ≡ read_words b (first_read (view b) h) → r ≡ s
    only_get_representative_vertex r s p q = vertex_same r s (p ∙ sym q)

    pub only_get_all_vertices : (out : List ℕ) (r s : Counted) (x y : List ℕ) → shown_vertices r x ≡ read_words b (vertices_read (view b) h out) → shown_vertices s y ≡ read_words b (vertices_read (view b) h out) → (r ≡ s) × (x ≡ y)
    only_get_all_vertices out r s x y p q = let e = p ∙ sym q in ((λ i. record { number = (e i).0; count = (e i).1.0 }), (λ i. (e i).1.1))
