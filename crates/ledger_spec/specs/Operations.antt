-- The operations, which a line of text and a byte record both say. They differ in how a blossom's member is written: M is its serial in a line, and in a record
-- its serial with a pair of serials beside it. Assumes nothing.
use Rattle.std.specs.Prelude.{ℕ, List, map, ℤ}
use Rattle.ledger_spec.specs.Bench.{State}

pub data Operation (M : Type 0) : Type 0 where
  D : (unit vertex : ℕ) → Operation M
  B : (unit : ℕ) (members : List M) → Operation M
  E : (unit serial : ℕ) → Operation M
  S : (unit serial : ℕ) (to : State) → Operation M
  G : (unit : ℕ) (by : ℤ) → Operation M
  F : (parent left right : ℕ) → Operation M
  C : (unit : ℕ) → Operation M
  K : (unit : ℕ) → Operation M

-- the same operation, each member written another way
abbrev pub written_by : {M N : Type 0} → (M → N) → Operation M → Operation N
written_by f (D u v) = D u v
written_by f (B u ms) = B u (map f ms)
written_by f (E u k) = E u k
written_by f (S u k s) = S u k s
written_by f (G u l) = G u l
written_by f (F p l r) = F p l r
written_by f (C u) = C u
written_by f (K u) = K u
