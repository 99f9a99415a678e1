-- The handles that calls answered as made, in order: one for each defect and each blossom that was accepted; and the handles that a call names.
-- Assumes nothing.
use Prim.Native.Nat.{ℕ}
use mathlib.Core.Logic.{◌≢◌}
use mathlib.Core.Bool.{Bool, true, false, ◌&&◌}
use mathlib.Core.List.{List, [], ◌∷◌, ◌++◌}
use lib.Dec.{eqb}
use Rattle.ledger_spec.specs.Bench.{Handle}
use Rattle.ledger_spec.specs.Tests.{both}
use Rattle.ledger_spec.specs.Calls.{Call, Defect, Blossom, Expand, SetState, Grow, Fuse, Clear, Mark}
use Rattle.ledger_spec.specs.Answers.{answer}
use Rattle.ledger_spec.specs.Book.{Book, turn}
use Rattle.ledger_spec.specs.Knit.{In}

abbrev pub makes : Call → Bool
makes (Defect u v) = true
makes (Blossom u hs ts) = true
makes (Expand u h) = false
makes (SetState u h s) = false
makes (Grow u l) = false
makes (Fuse p l r) = false
makes (Clear u) = false
makes (Mark u k) = false

-- of a call with the number n and the node h
unfoldable pub made_of : Call → ℕ → Handle → List Handle
made_of c n h = elim (makes c && eqb n 0) [ true ↦ h ∷ [] | false ↦ [] ]

unfoldable pub made : Book → List Call → List Handle
made k [] = []
made k (c ∷ cs) = made_of c (answer k.bench c).number (answer k.bench c).node ++ made (turn k c) cs

-- no two of a list have the same serial
abbrev pub Different : List Handle → Type 0
Different [] = Unit {0}
Different (h ∷ hs) = ((g : Handle) → In g hs → h.serial ≢ g.serial) × Different hs

unfoldable pub names : Call → List Handle
names (Defect u v) = []
names (Blossom u hs ts) = hs ++ both ts
names (Expand u h) = h ∷ []
names (SetState u h s) = h ∷ []
names (Grow u l) = []
names (Fuse p l r) = []
names (Clear u) = []
names (Mark u k) = []
