-- The manual's whole case, and the one way in which lines meet BROKEN. Assumes nothing.
use mathlib.Core.Path.{◌≡◌, refl}
use Rattle.ledger_table.specs.Replay.{replayed}
use Rattle.ledger_table.specs.Quick.{quickly}
use Rattle.ledger_table.proofs.Same.{by_quick}

pub whole : replayed "N 1\n= 0\nD 0 3\n= 0 1 1 0 1 1 1\nD 0 8\n= 0 2 2 0 1 1 2\nD 0 9\n= 0 3 3 0 1 1 3\nG 0 5\n= 0 0 3 15 1 6 5\nB 0 1 2 3\n= 0 4 1 15 5 2 1 0 2 2 0 2 3 0 3 3 1 2 3 4 4\nG 0 2\n= 0 0 1 17 1 6 2\nS 0 4 -1\n= 0 4 -1 17 1 2 4 -1\nG 0 1\n= 0 0 -1 16 1 6 1\nE 0 4\n= 0 4 3 16 4 5 4 2 1 1 2 2 1 2 3 1\nK 0\n= 0 5 3 16 0\n" ≡ (11, 0)
unfolding quickly
whole = by_quick _ refl

-- BROKEN stands in front of every answer: a set-up past 32 bits leaves a bench that is not sound, one just at them a worn one
pub past : replayed "N 4294967297\n= 0\nD 0 3\n= 2 0 0 0 0\ns 0\n= 2 0\ng 0 5 1\n= 2\nN 4294967296\n= 0\nD 0 3\n= 15 0 0 0 0\nD 8 3\n= 3 0 0 0 0\nN 0\n= 15\nD 0 3\n= 0 1 1 0 1 1 1\n" ≡ (9, 0)
unfolding quickly
past = by_quick _ refl
