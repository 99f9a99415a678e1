-- Pops that spare the stops, one after another in place, on any words: each is lent the words that the one before left, and its answer meets the contract of
-- the exported call. Assumes nothing.
use Rattle.std.specs.Prelude.{ℕ, List, [], ◌∷◌}
use Rattle.ledger_sparing.specs.Drain.{Answer}
use Rattle.group_lent.specs.Forms.{five_at}
use Rattle.group_lent_takes.specs.Made.{maybe_seen}
use Rattle.group_lent_any.specs.Any.{SparedAny}

-- a call's number and the words of its obstacle
abbrev pub Reply : Type 0
Reply = ℕ × List ℕ

pub data Drawn : List ℕ → List Reply → List ℕ → Type 0 where
  stop : {ws : List ℕ} → Drawn ws [] ws
  next : {ws mid after : List ℕ} {n : ℕ} {os : List ℕ} {rs : List Reply} → SparedAny ws n os mid → Drawn mid rs after → Drawn ws ((n, os) ∷ rs) after

-- what the replies say in the ledger's terms
unfoldable pub shown_replies : List Reply → List Answer
shown_replies [] = []
shown_replies (r ∷ rs) = (r.0, maybe_seen (five_at r.1 0)) ∷ shown_replies rs
