-- The bytes that the code puts are those of the definition, by the names asked for. Assumes nothing.
use Prim.Native.Nat.{ℕ}
use mathlib.Core.Path.{◌≡◌, refl, ap₂, ◌∙◌}
use mathlib.Core.Bool.{Bool, true, false}
use mathlib.Core.List.{List, [], ◌∷◌, ◌++◌, map}
use lib.IntN.{ℤ}
use Rattle.ledger_spec.specs.Bench.{Bench}
use Rattle.ledger_spec.specs.Bytes.{bytes}
use Rattle.ledger_spec.specs.Decimals.{signed}
use Rattle.ledger_spec.specs.Look.{interface}
use Rattle.ledger_spec.specs.Reads.{slots_of}
use Rattle.picture_spec.specs.Sketch.{Sketch, slot_seen_by, sketch_of}
use Rattle.picture_spec.specs.Text.{short, full, names_by, quoted, key, array, slot_text, text_of}
use Rattle.picture_spec.specs.Picture.{picture}
use Rattle.picture_pieces.specs.Drawn.{either}

-- the pieces in turn, with the two numbers as the code has them
abbrev pub pieces : Bool → ℤ → ℤ → List ℕ → List ℕ
pieces a x y nodes = either a (123 ∷ 34 ∷ 105 ∷ 110 ∷ 116 ∷ 101 ∷ 114 ∷ 102 ∷ 97 ∷ 99 ∷ 101 ∷ 34 ∷ 58 ∷ 123 ∷ 34 ∷ 115 ∷ 34 ∷ 58 ∷ []) (123 ∷ 34 ∷ 105 ∷ 110 ∷ 116 ∷ 101 ∷ 114 ∷ 102 ∷ 97 ∷ 99 ∷ 101 ∷ 34 ∷ 58 ∷ 123 ∷ 34 ∷ 115 ∷ 117 ∷ 109 ∷ 95 ∷ 103 ∷ 114 ∷ 111 ∷ 119 ∷ 95 ∷ 115 ∷ 112 ∷ 101 ∷ 101 ∷ 100 ∷ 34 ∷ 58 ∷ [])
    ++ (signed x ++ (either a (44 ∷ 34 ∷ 100 ∷ 34 ∷ 58 ∷ []) (44 ∷ 34 ∷ 115 ∷ 117 ∷ 109 ∷ 95 ∷ 100 ∷ 117 ∷ 97 ∷ 108 ∷ 95 ∷ 118 ∷ 97 ∷ 114 ∷ 105 ∷ 97 ∷ 98 ∷ 108 ∷ 101 ∷ 115 ∷ 34 ∷ 58 ∷ [])
    ++ (signed y ++ ((125 ∷ 44 ∷ 34 ∷ 100 ∷ 117 ∷ 97 ∷ 108 ∷ 95 ∷ 110 ∷ 111 ∷ 100 ∷ 101 ∷ 115 ∷ 34 ∷ 58 ∷ []) ++ (nodes ++ (125 ∷ []))))))

pieces_text : (s : Sketch) (a : Bool) → pieces a s.speed s.sum (array (slot_text (names_by a)) s.nodes) ≡ text_of (names_by a) s
unfolding text_of either names_by short full key quoted bytes
pieces_text s true = refl
pieces_text s false = refl

pub picture_text : (b : Bench) (u : ℕ) (a : Bool) (x y : ℤ) → x ≡ (interface b u).speed → y ≡ (interface b u).sum
    → pieces a x y (array (slot_text (names_by a)) (map (slot_seen_by b u) (slots_of b u))) ≡ picture b u a
unfolding picture sketch_of
picture_text b u a x y p q = ap₂ (λ (v w : ℤ). pieces a v w (array (slot_text (names_by a)) (map (slot_seen_by b u) (slots_of b u)))) p q ∙ pieces_text (sketch_of b u) a
