-- A text written to the front of a list, where it fits. Assumes nothing.
use Rattle.std.specs.Prelude.{ℕ, true, false, List, ◌++◌, ltb, length, drop}
use Rattle.ledger_spec.specs.Numbers.{SMALL}

unfoldable pub fitted : List ℕ → List ℕ → ℕ × (ℕ × List ℕ)
fitted text out = elim (ltb (length out) (length text)) [ true ↦ (SMALL, (0, out)) | false ↦ (0, (length text, text ++ drop (length text) out)) ]
