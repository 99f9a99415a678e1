-- How the interfaces of a bench are linked into trees, as facts. Assumes nothing.
use Rattle.std.specs.Prelude.{ℕ, ◌<◌, ◌≡◌, ◌≢◌, ◌⊎◌, true, length, Some}
use Rattle.ledger_spec.specs.Bench.{Bench}
use Rattle.ledger_spec.specs.Look.{interface}
use Rattle.ledger_spec.specs.Tests.{is_some}

-- eight interfaces, linked to parents of higher numbers, which have halves; and the halves of one are two whose parent it is
pub record Frame (b : Bench) : Type 0 where
  pub eight : length b.interfaces ≡ 8
  pub rising : (u p : ℕ) → (interface b u).parent ≡ Some p → (u < p) × (p < 8)
  pub linked : (u p : ℕ) → (interface b u).parent ≡ Some p → is_some (interface b p).halves ≡ true
  pub up : (w u l r : ℕ) → (interface b w).parent ≡ Some u → (interface b u).halves ≡ Some (l, r) → (w ≡ l) ⊎ (w ≡ r)
  pub left : (u l r : ℕ) → (interface b u).halves ≡ Some (l, r) → (interface b l).parent ≡ Some u
  pub right : (u l r : ℕ) → (interface b u).halves ≡ Some (l, r) → (interface b r).parent ≡ Some u
  pub apart : (u l r : ℕ) → (interface b u).halves ≡ Some (l, r) → l ≢ r
