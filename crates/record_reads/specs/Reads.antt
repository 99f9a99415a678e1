-- A record that stands at a place, and its line as the code answers it. Assumes nothing.
use Rattle.std.specs.Prelude.{ℕ, ◌≡◌, List, eqb, drop, None, Option, Some}
use Rattle.kinds.specs.declared.GrowState.{GrowState}
use Rattle.kinds.specs.declared.GrowState.TheVariants.{Grow as Grows, Stay, Shrink}
use Rattle.text_lines.specs.declared.Line.{Line}
use Rattle.text_lines.specs.declared.Line.TheVariants.{SetState, Wrong}
use Rattle.text_lines.specs.Shown.{line_shown}
use Rattle.record_spec.specs.Operations.{Op, line_said}
use Rattle.record_spec.specs.Reader.{record_in, pick}

-- a record stands at place p
pub record Recorded (s : List ℕ) (p : ℕ) : Type 0 where
  pub op : Op
  pub after : List ℕ
  pub read : record_in (drop p s) ≡ Some (op, after)

abbrev pub line_of_record : Op → Line
line_of_record op = line_shown (line_said op)

abbrev pub line_found : Option (Op × List ℕ) → Line
line_found None = Wrong
line_found (Some x) = line_of_record x.0

unfoldable pub state_of : ℕ → GrowState
state_of n = pick (eqb n 0) Stay (pick (eqb n 1) Grows Shrink)

abbrev pub state_line : ℕ → ℕ → ℕ → Line
state_line u k n = SetState u (record { 0 = k }) (state_of n)
