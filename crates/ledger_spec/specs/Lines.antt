-- What each line of the text program answers: number, serial, speed, sum. Assumes nothing.
use Rattle.std.specs.Prelude.{ℕ, true, false, ◌||◌, List, [], ◌∷◌, map, eqb, ℤ, pos, None, Option, Some}
use Rattle.ledger_spec.specs.Numbers.{LINE, UNIT}
use Rattle.ledger_spec.specs.Bench.{Handle, Node, Bench}
use Rattle.ledger_spec.specs.Look.{interface}
use Rattle.ledger_spec.specs.Tests.{outside, child}
use Rattle.ledger_spec.specs.Calls.{Call, Defect, Blossom, Expand, SetState, Grow, Fuse, Clear}
use Rattle.ledger_spec.specs.Reads.{gather}
use Rattle.ledger_spec.specs.SoundTree.{units}
use Rattle.ledger_spec.specs.Answers.{answer, read, check_read}
use Rattle.ledger_spec.specs.Operations.{D, B, E, S, G, F, C, K}
use Rattle.ledger_spec.specs.Grammar.{Line}

-- the present node with a serial, or a handle of interface 8, which names none
unfoldable pub seek : ℕ → List (ℕ × ℕ × Option Node) → Handle
seek k [] = record { unit = 8; slot = 0; serial = k }
seek k (t ∷ ts) = elim t.2 [
  | None ↦ seek k ts
  | Some n ↦ elim (eqb k n.serial) [ true ↦ record { unit = t.0; slot = t.1; serial = k } | false ↦ seek k ts ]
]

unfoldable pub named : Bench → ℕ → Handle
named b k = seek k (gather b units)

-- speed and sum of the interface after the call (for F the parent's): both 0 for UNIT and an interface with a parent
unfoldable pub shown : ℕ → ℕ → Bench → ℕ → ℕ × ℕ × ℤ × ℤ
shown number serial b u = elim (eqb number UNIT || (outside u || child b u))
    [ true ↦ (number, serial, pos 0, pos 0) | false ↦ (number, serial, (interface b u).speed, (interface b u).sum) ]

-- a line's four numbers, and the bench after it
pub record LineAnswer : Type 0 where
  pub numbers : ℕ × ℕ × ℤ × ℤ
  pub bench : Bench

-- a call that names interface u
unfoldable pub calls : Bench → ℕ → Call → LineAnswer
calls b u c = record { numbers = shown (answer b c).number (answer b c).node.serial (answer b c).bench u; bench = (answer b c).bench }

-- the check's verdict stands where another line has the serial
unfoldable pub checks : Bench → ℕ → LineAnswer
checks b u = record { numbers = shown (read b (check_read b u)).0 (read b (check_read b u)).1.0 b u; bench = b }

unfoldable pub says : Bench → Line → LineAnswer
says b (Some (D u v)) = calls b u (Defect u v)
says b (Some (B u ks)) = calls b u (Blossom u (map (named b) ks) [])
says b (Some (E u k)) = calls b u (Expand u (named b k))
says b (Some (S u k s)) = calls b u (SetState u (named b k) s)
says b (Some (G u l)) = calls b u (Grow u l)
says b (Some (F p l r)) = calls b p (Fuse p l r)
says b (Some (C u)) = calls b u (Clear u)
says b (Some (K u)) = checks b u
says b None = record { numbers = (LINE, 0, pos 0, pos 0); bench = b }
