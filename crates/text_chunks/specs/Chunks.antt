-- The lines of an input that comes in chunks, where p is what is held of the line that is not ended yet: its first 1,024 bytes. Assumes nothing.
use Rattle.std.specs.Prelude.{ℕ, ◌≤◌, ◌<◌, Bool, true, false, ◌≡◌, List, [], ◌∷◌, ◌++◌, eqb, length, take, drop, None, Option, Some}
use Rattle.ledger_spec.specs.Grammar.{Line, wrong, line_of}

-- the lines that a chunk ends
unfoldable pub lines : List ℕ → List ℕ → List Line
lines p [] = []
lines p (c ∷ s) = elim (eqb c 10) [ true ↦ line_of p ∷ lines [] s | false ↦ lines (take 1024 (p ++ (c ∷ []))) s ]

-- what is held after it
unfoldable pub left : List ℕ → List ℕ → List ℕ
left p [] = p
left p (c ∷ s) = elim (eqb c 10) [ true ↦ left [] s | false ↦ left (take 1024 (p ++ (c ∷ []))) s ]

-- the bytes of the first line that it ends, and what stands after that line's newline in the chunk
unfoldable pub first_line : List ℕ → List ℕ → Option (List ℕ × List ℕ)
first_line p [] = None
first_line p (c ∷ s) = elim (eqb c 10) [ true ↦ Some (p, s) | false ↦ first_line (take 1024 (p ++ (c ∷ []))) s ]

-- the input ends: a last line without newline is wrong
abbrev pub last : List ℕ → List Line
last [] = []
last (c ∷ s) = wrong ∷ []

-- ---- a whole input, cut anyhow

unfoldable pub joined : List (List ℕ) → List ℕ
joined [] = []
joined (c ∷ cs) = c ++ joined cs

-- the lines that its chunks end, and the last one
unfoldable pub lines_in : List ℕ → List (List ℕ) → List Line
lines_in p [] = last p
lines_in p (c ∷ cs) = lines p c ++ lines_in (left p c) cs

-- ---- a call

-- what one call takes of a chunk, of which t, starting at a, is left: up to a line's end, or all of it
pub record Feeds (a : ℕ) (t p chunk buf : List ℕ) (ended : Bool) (held at : ℕ) : Type 0 where
  pub on : ended ≡ true → a < at
  pub short : held ≤ 1024
  pub in_chunk : at ≤ length chunk
  pub long : length buf ≡ 1024
  pub line : ended ≡ true → (lines p t ≡ line_of (take held buf) ∷ lines [] (drop at chunk)) × (left p t ≡ left [] (drop at chunk))
  pub part : ended ≡ false → (lines p t ≡ []) × (left p t ≡ take held buf)
  pub first : ended ≡ true → first_line p t ≡ Some (take held buf, drop at chunk)
  pub no_first : ended ≡ false → first_line p t ≡ None
