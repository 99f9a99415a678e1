-- What the code answers of a text: how many records its lines are and how many bytes they take, if it moves. Assumes nothing.
use Rattle.std.specs.Prelude.{ℕ, ◌+◌, ◌*◌, true, false, List, [], leb, length, None, Option, Some}
use Rattle.text_lines.specs.declared.Line.{Line}
use Rattle.text_lines.specs.declared.Line.TheVariants.{Defect, Blossom, Expand, SetState, Grow, Fuse, Clear, Check, Wrong}
use Rattle.record_spec.specs.Operations.{Op}
use Rattle.record_spec.specs.Records.{bytes_of}
use Rattle.record_spec.specs.Files.{records_of, largest}
use Rattle.record_weights.specs.declared.Weighed.{Weighed}

-- the bytes of a line's record, if it has one
abbrev pub bytes_said : Option Op → List ℕ
bytes_said None = []
bytes_said (Some op) = bytes_of op

-- how many they are
abbrev pub size_by : Line → ℕ
size_by (Defect u v) = 6
size_by (Blossom u k) = 4 + 12 * k
size_by (Expand u n) = 6
size_by (SetState u n g) = 7
size_by (Grow u l) = 10
size_by (Fuse p l r) = 4
size_by (Clear u) = 2
size_by (Check u) = 2
size_by Wrong = 0

-- ---- a text

abbrev pub not_text : Weighed
not_text = record { whole = false; count = 0; size = 0 }

-- so many records of so many bytes, if the file's numbers can say it
unfoldable pub told_by : ℕ → ℕ → Weighed
told_by count size = elim (leb (size + (4 * count + 16)) largest) [ true ↦ record { whole = true; count = count; size = size } | false ↦ not_text ]

abbrev pub weighed_of : Option (List Op) → Weighed
weighed_of None = not_text
weighed_of (Some ops) = told_by (length ops) (length (records_of ops))
