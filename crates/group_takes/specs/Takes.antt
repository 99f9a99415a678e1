-- What the answers of peek and pop say in the ledger's terms, and the whole group after a call, byte for byte; then the parts of the code.
-- Assumes nothing.
use Rattle.std.specs.Prelude.{None, Option, Some, ℕ, zero, suc, List, ◌++◌, take, drop}
use Rattle.kinds.specs.declared.Entry.{Entry}
use Rattle.kinds.specs.declared.Stop.{Stop}
use Rattle.kinds.specs.declared.Obstacle.{Obstacle}
use Rattle.ledger_spec.specs.Groups.{Group}
use Rattle.groups.specs.View.{group_of, laid}
use Rattle.groups.specs.declared.Group.{Group as Code}
use Rattle.group_takes.specs.declared.Peeked.{Peeked}
use Rattle.group_takes.specs.declared.Popped.{Popped}

abbrev pub shown_peeked : Peeked → ℕ × Option Obstacle
shown_peeked r = (r.number, r.obstacle)

abbrev pub shown_popped : Popped → ℕ × (Option Obstacle × Group)
shown_popped r = (r.number, (r.obstacle, group_of r.group))

-- an accepted call leaves q laid into the group, a refused one the very group
unfoldable pub after : ℕ → Group → Code → Code
after zero q g = laid q g
after (suc n) q g = g

-- ---- the parts

-- of n entries with e the last and m stops with s the first
abbrev pub top_by : ℕ → Entry → ℕ → Stop → Option Obstacle
top_by (suc n) e m s = Some e.obstacle
top_by zero e (suc m) s = Some s.obstacle
top_by zero e zero s = None

-- the first goes, and the next n move down
abbrev pub shifted : ℕ → List Stop → List Stop
shifted n s = take n (drop 1 s) ++ drop n s
