-- A text put at a place of a lent slice, whether or not there is room for it. Assumes nothing.
use Rattle.std.specs.Prelude.{ℕ, ◌+◌, ◌<◌, ◌≤◌, ◌≡◌, Bool, true, false, List, length}
use Rattle.std.proofs.lemmas.List.Edits.{sets}

-- the largest place there is; every slice is shorter
abbrev pub most : ℕ
most = 18446744073709551615

-- r is the place after the text, or the largest there is; if that is within the slice, the text stands there, and all else is as it was
pub record Drawn (out : List ℕ) (at : ℕ) (text out' : List ℕ) (r : ℕ) : Type 0 where
  pub long : length out' ≡ length out
  pub next : at + length text ≤ most → r ≡ at + length text
  pub full : at ≤ most → most < at + length text → r ≡ most
  pub stands : at + length text ≤ most → at + length text ≤ length out → out' ≡ sets out at text

unfoldable pub either : Bool → List ℕ → List ℕ → List ℕ
either true s t = s
either false s t = t
