-- The bytes of a line's record, by what the code says of the line and the serials that it stored. Assumes nothing.
use Rattle.std.specs.Prelude.{ℕ, ◌+◌, ◌≤◌, List, [], ◌++◌, map, length, take}
use Rattle.ledger_spec.specs.Named.{state_named}
use Rattle.ledger_spec.specs.Operations.{D, B, E, S, G, F, C, K}
use Rattle.text_lines.specs.declared.Line.{Line}
use Rattle.text_lines.specs.declared.Line.TheVariants.{Defect, Blossom, Expand, SetState, Grow, Fuse, Clear, Check, Wrong}
use Rattle.record_spec.specs.Numbers.{bytes}
use Rattle.record_spec.specs.Operations.{itself}
use Rattle.record_spec.specs.Records.{bytes_of}

abbrev pub record_by : Line → List ℕ → List ℕ
record_by (Defect u v) ns = bytes_of (D u v.0)
record_by (Blossom u k) ns = bytes_of (B u (map itself (take k ns)))
record_by (Expand u n) ns = bytes_of (E u n.0)
record_by (SetState u n g) ns = bytes_of (S u n.0 (state_named g))
record_by (Grow u l) ns = bytes_of (G u l)
record_by (Fuse p l r) ns = bytes_of (F p l r)
record_by (Clear u) ns = bytes_of (C u)
record_by (Check u) ns = bytes_of (K u)
record_by Wrong ns = []

-- a letter and a unit
abbrev pub head_of : ℕ → ℕ → List ℕ
head_of letter u = bytes 1 letter ++ bytes 1 u

-- the serials stand there, and there is room
abbrev pub count_by : Line → ℕ
count_by (Defect u v) = 0
count_by (Blossom u k) = k
count_by (Expand u n) = 0
count_by (SetState u n g) = 0
count_by (Grow u l) = 0
count_by (Fuse p l r) = 0
count_by (Clear u) = 0
count_by (Check u) = 0
count_by Wrong = 0

pub record Enough (out : List ℕ) (at : ℕ) (line : Line) (serials : List ℕ) : Type 0 where
  pub room : at + length (record_by line serials) ≤ length out
  pub stored : count_by line ≤ length serials
