-- The sound test as a whole: next serial, interfaces, slots, sums and speeds, serials, floors. `sound_words b ≡ true` says exactly that the words are a
-- sound bench's (proofs: Theorem). Assumes nothing.
use Rattle.std.specs.Prelude.{ℕ, Bool, not, ◌&&◌, List, eqb, leb, get_or}
use Rattle.sound_trees.specs.Below.{all_to}
use Rattle.sound_trees.specs.Links.{interface_test}
use Rattle.sound_nodes.specs.Nodes.{slots_test}
use Rattle.sound_tops.specs.Tops.{top_test}
use Rattle.sound_serials.specs.Different.{once_test}
use Rattle.sound_floors.specs.Floors.{floor_test}

unfoldable pub sound_words : List ℕ → Bool
sound_words b = not (eqb (get_or b 0 0) 0)
    && (leb (get_or b 0 0) 4294967296 && (all_to (interface_test b) 8 && (all_to (slots_test b) 8 && (all_to (top_test b) 8 && (all_to (once_test b) 512 && all_to (floor_test b) 8)))))
