-- The parts of a node's text: what goes by its shape alone, and what goes by its state and parent alone; and a parent whose handle lies within a bench.
-- Assumes nothing.
use Rattle.std.specs.Prelude.{None, Option, Some, ℕ, ◌<◌, List, [], ◌∷◌, ◌++◌}
use Rattle.kinds.specs.declared.Handle.{Handle}
use Rattle.ledger_spec.specs.Bench.{State}
use Rattle.picture_spec.specs.Sketch.{Shape}
use Rattle.picture_spec.specs.Text.{Names, key, circle_text, touch_text, vertex_text, state_text, growth_text, parent_text}

abbrev pub Lowly : Option Handle → Type 0
Lowly None = Unit
Lowly (Some h) = (h.unit < 8) × (h.slot < 64)

unfoldable pub shape_text : Names → Shape → List ℕ
shape_text ns s =
    (123 ∷ key ns.circle) ++ (circle_text s
    ++ ((44 ∷ key ns.touching) ++ (touch_text s
    ++ ((44 ∷ key ns.vertex) ++ vertex_text s))))

unfoldable pub rest_text : Names → State → Option ℕ → List ℕ
rest_text ns s p =
    (44 ∷ key ns.state) ++ (state_text s
    ++ ((44 ∷ key ns.growth) ++ (growth_text s
    ++ ((44 ∷ key ns.parent) ++ (parent_text p
    ++ (125 ∷ []))))))
