-- A member's item in either list of its circle. Assumes nothing.
use Rattle.std.specs.Prelude.{ℕ, Bool, true, false, List}
use Rattle.picture_spec.specs.Sketch.{Linked}
use Rattle.picture_spec.specs.Text.{index_text, pair_text}

unfoldable pub member_text : Bool → Linked → List ℕ
member_text true m = pair_text m
member_text false m = index_text m
