-- What looking for a serial says. Assumes nothing.
use Rattle.std.specs.Prelude.{None, Option, Some, ℕ, ◌/◌, ◌%◌, ◌≡◌, List, set}
use Rattle.ledger_spec.specs.Bench.{Handle}
use Rattle.ledger_spec.specs.Look.{node_named}
use Rattle.ledger_spec.specs.Lines.{named}
use Rattle.bench_views.specs.View.{view}
use Rattle.bench_links.specs.Find.{Held, Finds}

abbrev pub handle : ℕ → ℕ → ℕ → Handle
handle u s n = record { unit = u; slot = s; serial = n }

-- the handle of the node found, or the ledger's for a serial that no node has
abbrev pub sought : ℕ → Option ℕ → Handle
sought n (Some k) = handle (k / 64) (k % 64) n
sought n None = handle 8 0 n

-- a node with the serial n stands in interface u, or none does
abbrev pub Scans : List ℕ → ℕ → ℕ → Option ℕ → Type 0
Scans b u n (Some k) = Held b (handle (k / 64) (k % 64) n) k
Scans b u n None = (s : ℕ) → node_named (view b) (handle u s n) ≡ None

-- the same of all interfaces
abbrev pub ScansAll : List ℕ → ℕ → Option ℕ → Type 0
ScansAll b n (Some k) = Held b (handle (k / 64) (k % 64) n) k
ScansAll b n None = (u s : ℕ) → node_named (view b) (handle u s n) ≡ None

pub record Seeks (b : List ℕ) (n : ℕ) (r : Option ℕ) : Type 0 where
  pub same : sought n r ≡ named (view b) n
  pub finds : Finds b (sought n r) r

-- the hints after a search: the place found, at the serial's remainder
abbrev pub hints_after : List ℕ → ℕ → Option ℕ → List ℕ
hints_after hs n (Some k) = set hs (n % 512) k
hints_after hs n None = hs
