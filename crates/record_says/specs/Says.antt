-- What an operation answers: the four numbers of its line. Its touching serials stand for present nodes as its members do (none: STALE). Assumes nothing.
use Rattle.std.specs.Prelude.{ℕ, List, [], ◌∷◌, map, ℤ}
use Rattle.ledger_spec.specs.Bench.{Handle, Bench}
use Rattle.ledger_spec.specs.Calls.{Defect, Blossom, Expand, SetState, Grow, Fuse, Clear}
use Rattle.ledger_spec.specs.Operations.{D, B, E, S, G, F, C, K}
use Rattle.ledger_spec.specs.Lines.{named, LineAnswer, calls, checks}
use Rattle.record_spec.specs.Operations.{Member, Op}

abbrev pub member_named : Bench → Member → Handle
member_named b m = named b m.serial

abbrev pub pair_named : Bench → Member → Handle × Handle
pair_named b m = (named b m.first, named b m.second)

unfoldable pub says_op : Bench → Op → LineAnswer
says_op b (D u v) = calls b u (Defect u v)
says_op b (B u ms) = calls b u (Blossom u (map (member_named b) ms) (map (pair_named b) ms))
says_op b (E u k) = calls b u (Expand u (named b k))
says_op b (S u k s) = calls b u (SetState u (named b k) s)
says_op b (G u l) = calls b u (Grow u l)
says_op b (F p l r) = calls b p (Fuse p l r)
says_op b (C u) = calls b u (Clear u)
says_op b (K u) = checks b u

-- ---- one after the other: a refused operation changes nothing, and the next is answered

unfoldable pub answers_ops : Bench → List Op → List (ℕ × ℕ × ℤ × ℤ)
answers_ops b [] = []
answers_ops b (op ∷ ops) = (says_op b op).numbers ∷ answers_ops (says_op b op).bench ops

unfoldable pub after_ops : Bench → List Op → Bench
after_ops b [] = b
after_ops b (op ∷ ops) = after_ops (says_op b op).bench ops
