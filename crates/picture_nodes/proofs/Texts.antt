-- The bytes that the code puts are those of the definition, by the names asked for. Assumes nothing.
use Rattle.std.specs.Prelude.{None, Option, Some}
use Prim.Native.Nat.{ℕ}
use mathlib.Core.Path.{◌≡◌, refl}
use mathlib.Core.Bool.{Bool, true, false}
use mathlib.Core.List.{List, [], ◌∷◌, ◌++◌, append_assoc}
use Rattle.ledger_spec.specs.Bench.{State}
use Rattle.ledger_spec.specs.Bytes.{bytes}
use Rattle.ledger_spec.specs.Decimals.{decimal}
use Rattle.picture_spec.specs.Sketch.{Linked, vertex, circle}
use Rattle.picture_spec.specs.Text.{short, full, names_by, quoted, key, array, circle_text, touch_text, vertex_text, state_text, growth_text, parent_text, node_text, slot_text}
use Rattle.picture_pieces.specs.Drawn.{either}
use Rattle.picture_circles.specs.Member.{member_text}
use Rattle.picture_nodes.specs.Rest.{shape_text, rest_text}

pub null_text : (a : Bool) → 110 ∷ 117 ∷ 108 ∷ 108 ∷ [] ≡ slot_text (names_by a) None
unfolding slot_text bytes
null_text a = refl

pub ring_text : (ms : List Linked) (a : Bool) → either a (123 ∷ 34 ∷ 111 ∷ 34 ∷ 58 ∷ []) (123 ∷ 34 ∷ 98 ∷ 108 ∷ 111 ∷ 115 ∷ 115 ∷ 111 ∷ 109 ∷ 34 ∷ 58 ∷ [])
    ++ (array (member_text false) ms ++ (either a (44 ∷ 34 ∷ 116 ∷ 34 ∷ 58 ∷ []) (44 ∷ 34 ∷ 116 ∷ 111 ∷ 117 ∷ 99 ∷ 104 ∷ 105 ∷ 110 ∷ 103 ∷ 95 ∷ 99 ∷ 104 ∷ 105 ∷ 108 ∷ 100 ∷ 114 ∷ 101 ∷ 110 ∷ 34 ∷ 58 ∷ [])
    ++ (array (member_text true) ms ++ either a (44 ∷ 34 ∷ 115 ∷ 34 ∷ 58 ∷ 110 ∷ 117 ∷ 108 ∷ 108 ∷ []) (44 ∷ 34 ∷ 100 ∷ 101 ∷ 102 ∷ 101 ∷ 99 ∷ 116 ∷ 95 ∷ 118 ∷ 101 ∷ 114 ∷ 116 ∷ 101 ∷ 120 ∷ 34 ∷ 58 ∷ 110 ∷ 117 ∷ 108 ∷ 108 ∷ [])))) ≡ shape_text (names_by a) (circle ms)
unfolding shape_text circle_text touch_text vertex_text member_text either names_by short full key quoted bytes
ring_text ms true = refl
ring_text ms false = refl

module _ (s : State) (p : Option ℕ) where
  pub rest_text_lem : (a : Bool) → either a (44 ∷ 34 ∷ 103 ∷ 34 ∷ 58 ∷ []) (44 ∷ 34 ∷ 103 ∷ 114 ∷ 111 ∷ 119 ∷ 95 ∷ 115 ∷ 116 ∷ 97 ∷ 116 ∷ 101 ∷ 34 ∷ 58 ∷ [])
      ++ (state_text s ++ (either a (44 ∷ 34 ∷ 117 ∷ 34 ∷ 58 ∷ []) (44 ∷ 34 ∷ 117 ∷ 110 ∷ 105 ∷ 116 ∷ 95 ∷ 103 ∷ 114 ∷ 111 ∷ 119 ∷ 116 ∷ 104 ∷ 34 ∷ 58 ∷ [])
      ++ (growth_text s ++ (either a (44 ∷ 34 ∷ 112 ∷ 34 ∷ 58 ∷ []) (44 ∷ 34 ∷ 112 ∷ 97 ∷ 114 ∷ 101 ∷ 110 ∷ 116 ∷ 95 ∷ 98 ∷ 108 ∷ 111 ∷ 115 ∷ 115 ∷ 111 ∷ 109 ∷ 34 ∷ 58 ∷ [])
      ++ (parent_text p ++ (125 ∷ [])))))) ≡ rest_text (names_by a) s p
  unfolding rest_text either names_by short full key quoted bytes
  rest_text_lem true = refl
  rest_text_lem false = refl

  pub defect_text : (v : ℕ) (a : Bool) → either a (123 ∷ 34 ∷ 111 ∷ 34 ∷ 58 ∷ 110 ∷ 117 ∷ 108 ∷ 108 ∷ 44 ∷ 34 ∷ 116 ∷ 34 ∷ 58 ∷ 110 ∷ 117 ∷ 108 ∷ 108 ∷ 44 ∷ 34 ∷ 115 ∷ 34 ∷ 58 ∷ []) (123 ∷ 34 ∷ 98 ∷ 108 ∷ 111 ∷ 115 ∷ 115 ∷ 111 ∷ 109 ∷ 34 ∷ 58 ∷ 110 ∷ 117 ∷ 108 ∷ 108 ∷ 44 ∷ 34 ∷ 116 ∷ 111 ∷ 117 ∷ 99 ∷ 104 ∷ 105 ∷ 110 ∷ 103 ∷ 95 ∷ 99 ∷ 104 ∷ 105 ∷ 108 ∷ 100 ∷ 114 ∷ 101 ∷ 110 ∷ 34 ∷ 58 ∷ 110 ∷ 117 ∷ 108 ∷ 108 ∷ 44 ∷ 34 ∷ 100 ∷ 101 ∷ 102 ∷ 101 ∷ 99 ∷ 116 ∷ 95 ∷ 118 ∷ 101 ∷ 114 ∷ 116 ∷ 101 ∷ 120 ∷ 34 ∷ 58 ∷ [])
      ++ (decimal v ++ rest_text (names_by a) s p) ≡ slot_text (names_by a) (Some (record { shape = vertex v; state = s; parent = p }))
  unfolding rest_text slot_text node_text circle_text touch_text vertex_text either names_by short full key quoted bytes
  defect_text v true = refl
  defect_text v false = refl

  pub blossom_text : (ms : List Linked) (a : Bool) → shape_text (names_by a) (circle ms) ++ rest_text (names_by a) s p ≡ slot_text (names_by a) (Some (record { shape = circle ms; state = s; parent = p }))
  unfolding shape_text rest_text slot_text node_text
  blossom_text ms a = simp append_assoc
