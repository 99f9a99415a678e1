-- Runs of oracle/recordings/edges.txt, replayed by the definitions: 368 answers, of which none differs. Written by oracle/table.
-- Assumes nothing.
use mathlib.Core.Path.{◌≡◌, refl}
use Rattle.ledger_table.specs.Replay.{replayed}
use Rattle.ledger_table.specs.Quick.{quickly}
use Rattle.ledger_table.proofs.Same.{by_quick}

pub run1 : replayed "N 1\n= 0\nD 0 3\n= 0 1 1 0 1 1 1\nD 0 8\n= 0 2 2 0 1 1 2\nD 0 9\n= 0 3 3 0 1 1 3\nG 0 5\n= 0 0 3 15 1 6 5\nB 0 1 2 3\n= 0 4 1 15 5 2 1 0 2 2 0 2 3 0 3 3 1 2 3 4 4\nG 0 2\n= 0 0 1 17 1 6 2\nS 0 4 -1\n= 0 4 -1 17 1 2 4 -1\nG 0 1\n= 0 0 -1 16 1 6 1\nE 0 4\n= 0 4 3 16 4 5 4 2 1 1 2 2 1 2 3 1\nK 0\n= 0 5 3 16 0\n" ≡ (11, 0)
unfolding quickly
run1 = by_quick _ refl

pub run2 : replayed "N 1\n= 0\nD 0 3\n= 0 1 1 0 1 1 1\nD 1 7\n= 0 2 1 0 1 1 2\nG 0 4\n= 0 0 1 4 1 6 4\nG 1 6\n= 0 0 1 6 1 6 6\nF 2 0 1\n= 0 0 2 10 0\nG 2 5\n= 0 0 2 20 1 6 5\nv 1\n= 0 9\nv 2\n= 0 11\nD 0 5\n= 4 0 0 0 0\n" ≡ (10, 0)
unfolding quickly
run2 = by_quick _ refl

pub run3 : replayed "N 1\n= 0\nG 0 1099511627776\n= 0 0 0 0 1 6 1099511627776\nG 0 1\n= 5 0 0 0 0\n" ≡ (3, 0)
unfolding quickly
run3 = by_quick _ refl

pub run4 : replayed "N 1\n= 0\nD 0 3\n= 0 1 1 0 1 1 1\nB 0 1 1\n= 13 0 1 0 0\n" ≡ (3, 0)
unfolding quickly
run4 = by_quick _ refl

pub run5 : replayed "N 1\n= 0\nD 0 3\n= 0 1 1 0 1 1 1\nC 0\n= 0 0 0 0 0\nv 1\n= 8 0\nS 0 1 1\n= 8 0 0 0 0\nE 0 1\n= 8 0 0 0 0\no 1\n= 8 0 0\nf 1\n= 8 0\na 1 1\n= 8 0 77\ni 0 1\n= 0 0\n" ≡ (10, 0)
unfolding quickly
run5 = by_quick _ refl

pub run6 : replayed "N 1\n= 0\ng 0 5 1\n= 0\ng 1 5 0\n= 0\nj 0 1\n= 0\nm 0\n= 0 1 5 0\n" ≡ (5, 0)
unfolding quickly
run6 = by_quick _ refl

pub run7 : replayed "N 1\n= 0\ng 0 5 0\n= 0\ng 1 9223372036854775807 1\n= 0\nj 0 1\n= 0\nm 0\n= 0 1 5 0\n" ≡ (5, 0)
unfolding quickly
run7 = by_quick _ refl

pub run8 : replayed "N 1\n= 0\nD 0 4\n= 0 1 1 0 1 1 1\nD 0 9\n= 0 2 2 0 1 1 2\nx 0 1\n= 0\nx 0 2\n= 0\nq 0 1\n= 0\nq 0 2\n= 0\nm 0\n= 0 2 2 4 1 4 2 2 4 5 1 9 5 2\nz 0\n= 0 4 2\nm 0\n= 0 2 1 4 1 1 9 5 2\nz 0\n= 0 4 1\nm 0\n= 0 2 0 0\nz 0\n= 0 0\ny 0\n= 0 0 1 0 0 0\n" ≡ (14, 0)
unfolding quickly
run8 = by_quick _ refl

pub run9 : replayed "N 1\n= 0\ng 0 9223372036854775807 1\n= 0\ny 0\n= 0 1 1 21 0 0\nj 0 1\n= 0\nm 0\n= 0 1 9223372036854775807 1\ny 1\n= 0 1 0 21 0 0\nj 1 0\n= 0\nm 1\n= 0 1 9223372036854775807 0\ng 1 5 0\n= 0\nm 1\n= 0 1 5 0\nj 1 0\n= 0\nm 1\n= 0 1 5 0\n" ≡ (12, 0)
unfolding quickly
run9 = by_quick _ refl

pub run10 : replayed "N 1\n= 0\nD 3 1\n= 0 1 1 0 1 1 1\nG 3 2\n= 0 0 1 2 1 6 2\nF 2 0 1\n= 0 0 0 0 0\nF 3 0 4\n= 4 0 1 2 0\nF 3 9 4\n= 3 0 0 0 0\nF 9 3 4\n= 3 0 0 0 0\nK 0\n= 4 0 0 0 0\nC 0\n= 4 0 0 0 0\nD 2 5\n= 0 2 1 0 1 1 2\nF 2 3 3\n= 16 0 1 0 0\nB 3 1 1\n= 13 0 1 2 0\n" ≡ (12, 0)
unfolding quickly
run10 = by_quick _ refl

pub run11 : replayed "N 1\n= 0\nD 0 7\n= 0 1 1 0 1 1 1\nD 0 8\n= 0 2 2 0 1 1 2\nD 0 7\n= 0 3 3 0 1 1 3\nK 0\n= 0 1 3 0 2\nk 0\n= 0 1 2\nB 0 3 1\n= 0 4 2 0 4 2 3 0 2 1 0 3 2 3 1 4 4\nK 0\n= 0 1 2 0 2\nk 0\n= 0 1 2\n" ≡ (9, 0)
unfolding quickly
run11 = by_quick _ refl

pub run12 : replayed "N 1\n= 0\nD 1 7\n= 0 1 1 0 1 1 1\nD 0 7\n= 0 2 1 0 1 1 2\nF 2 0 1\n= 0 0 2 0 0\nK 2\n= 0 1 2 0 1\nk 2\n= 0 1 1\n" ≡ (6, 0)
unfolding quickly
run12 = by_quick _ refl

pub run13 : replayed "N 1\n= 0\nD 0 1\n= 0 1 1 0 1 1 1\nB 0 1\n= 0 2 1 0 3 2 1 0 3 1 1 4 2\nD 0 2\n= 0 3 2 0 1 1 3\nB 0 3\n= 0 4 2 0 3 2 3 0 3 1 3 4 4\nb 0 2 4 4\n= 0 5 2 0 3 2 2 0 3 1 2 4 5\nK 0\n= 0 3 2 0 1\nE 0 4\n= 0 4 2 0 2 5 4 2 3 1\nK 0\n= 0 4 2 0 1\nk 0\n= 0 4 1\nd 0\n= 0 5 1 1 0 2 1 0 1 2 2 0 5 1 0 1 1 1 1 1 3 1 0 1 0 2 0 2 5 1 0 1 0 1 2 4 4\n" ≡ (11, 0)
unfolding quickly
run13 = by_quick _ refl

pub run14 : replayed "N 1\n= 0\nD 0 1\n= 0 1 1 0 1 1 1\nB 0 1\n= 0 2 1 0 3 2 1 0 3 1 1 4 2\nD 0 2\n= 0 3 2 0 1 1 3\nB 0 3\n= 0 4 2 0 3 2 3 0 3 1 3 4 4\nb 0 2 4 4\n= 0 5 2 0 3 2 2 0 3 1 2 4 5\nx 0 4\n= 0\nE 0 4\n= 0 4 2 0 2 5 4 2 3 1\nK 0\n= 0 4 2 0 1\nz 0\n= 0 4 4\nK 0\n= 0 4 2 0 1\n" ≡ (11, 0)
unfolding quickly
run14 = by_quick _ refl

pub run15 : replayed "N 1\n= 0\nD 0 3\n= 0 1 1 0 1 1 1\nr 0 1 1 1\n= 0\nC 0\n= 0 0 0 0 0\nD 0 3\n= 0 2 1 0 1 1 2\nr 0 2 2 2\n= 0\nm 0\n= 0 2 1 2 2 2 1 1 0\nj 1 0\n= 8\nz 0\n= 0 2 2 2 1 1\nz 0\n= 0 0\n" ≡ (10, 0)
unfolding quickly
run15 = by_quick _ refl

pub run16 : replayed "N 1\n= 0\nD 0 3\n= 0 1 1 0 1 1 1\nD 0 4\n= 0 2 2 0 1 1 2\nB 0 1 2\n= 0 3 1 0 4 2 1 0 2 2 0 3 2 1 2 4 3\nq 0 3\n= 0\nr 0 1 2 2\n= 0\nm 0\n= 0 2 0 1 3 6 1 2 2\nr 0 3 1 2\n= 0\nm 0\n= 0 2 1 2 1 2 2 2 0\nq 0 2\n= 0\nm 0\n= 0 2 1 2 1 2 2 2 1 4 5 2\n" ≡ (11, 0)
unfolding quickly
run16 = by_quick _ refl

pub run17 : replayed "N 1\n= 0\nD 0 1\n= 0 1 1 0 1 1 1\nD 0 2\n= 0 2 2 0 1 1 2\nB 0 1\n= 0 3 2 0 3 2 1 0 3 1 1 4 3\nB 0 2\n= 0 4 2 0 3 2 2 0 3 1 2 4 4\nb 0 3 4 4 4 3 3\n= 0 5 1 0 4 2 3 0 2 4 0 3 2 3 4 4 5\nK 0\n= 0 0 1 0 0\nk 0\n= 0 6 2\nE 0 5\n= 0 5 2 0 3 5 5 2 3 1 2 4 1\nb 0 3 1 3 4 4 2\n= 0 6 1 0 4 2 3 0 2 4 0 3 2 3 4 4 6\nk 0\n= 0 0 0\n" ≡ (11, 0)
unfolding quickly
run17 = by_quick _ refl

pub run18 : replayed "N 1\n= 0\nD 0 1\n= 0 1 1 0 1 1 1\nD 0 2\n= 0 2 2 0 1 1 2\nB 0 1\n= 0 3 2 0 3 2 1 0 3 1 1 4 3\nB 0 2\n= 0 4 2 0 3 2 2 0 3 1 2 4 4\nb 0 3 1 3 4 1 4\n= 0 5 1 0 4 2 3 0 2 4 0 3 2 3 4 4 5\nK 0\n= 0 0 1 0 0\nk 0\n= 0 6 3\n" ≡ (8, 0)
unfolding quickly
run18 = by_quick _ refl

pub run19 : replayed "N 1\n= 0\nD 0 1\n= 0 1 1 0 1 1 1\nB 0 1\n= 0 2 1 0 3 2 1 0 3 1 1 4 2\nB 0 2\n= 0 3 1 0 3 2 2 0 3 1 2 4 3\nD 0 2\n= 0 4 2 0 1 1 4\nB 0 4\n= 0 5 2 0 3 2 4 0 3 1 4 4 5\nb 0 3 1 2 5 5 4\n= 0 6 1 0 4 2 3 0 2 5 0 3 2 3 5 4 6\nK 0\n= 0 0 1 0 0\nk 0\n= 0 0 0\n" ≡ (9, 0)
unfolding quickly
run19 = by_quick _ refl

pub run20 : replayed "N 1\n= 0\nD 0 1\n= 0 1 1 0 1 1 1\nD 0 2\n= 0 2 2 0 1 1 2\nD 0 3\n= 0 3 3 0 1 1 3\nB 0 1\n= 0 4 3 0 3 2 1 0 3 1 1 4 4\nB 0 2\n= 0 5 3 0 3 2 2 0 3 1 2 4 5\nB 0 3\n= 0 6 3 0 3 2 3 0 3 1 3 4 6\nb 0 4 2 2 5 6 6 6 6 6\n= 0 7 1 0 5 2 4 0 2 5 0 2 6 0 3 3 4 5 6 4 7\nK 0\n= 0 0 1 0 0\nk 0\n= 0 6 3\n" ≡ (10, 0)
unfolding quickly
run20 = by_quick _ refl

pub run21 : replayed "N 1\n= 0\nD 0 1\n= 0 1 1 0 1 1 1\nF 2 0 1\n= 0 0 1 0 0\nD 0 2\n= 4 0 0 0 0\nB 0 1\n= 4 0 0 0 0\nE 0 1\n= 4 0 0 0 0\nS 0 1 0\n= 4 0 0 0 0\nG 0 1\n= 4 0 0 0 0\nC 0\n= 4 0 0 0 0\nK 0\n= 4 0 0 0 0\nk 0\n= 4 0 0\ns 0\n= 4 0\np 0\n= 4 0\nn 0\n= 4 0\nh 0 0\n= 4 0 0 0\ni 0 1\n= 4 0\nd 0\n= 4 0\n" ≡ (17, 0)
unfolding quickly
run21 = by_quick _ refl

pub run22 : replayed "N 1\n= 0\nD 0 1\n= 0 1 1 0 1 1 1\nD 8 2\n= 3 0 0 0 0\nB 8 1\n= 3 0 0 0 0\nE 8 1\n= 3 0 0 0 0\nS 8 1 0\n= 3 0 0 0 0\nG 8 1\n= 3 0 0 0 0\nF 8 0 1\n= 3 0 0 0 0\nF 2 8 1\n= 3 0 0 0 0\nF 2 0 8\n= 3 0 0 0 0\nC 8\n= 3 0 0 0 0\nK 8\n= 3 0 0 0 0\nk 8\n= 3 0 0\ns 8\n= 3 0\np 8\n= 3 0\nn 8\n= 3 0\nh 8 0\n= 3 0 0 0\ni 8 1\n= 3 0\nd 8\n= 3 0\n" ≡ (19, 0)
unfolding quickly
run22 = by_quick _ refl

pub run23 : replayed "N 1\n= 0\nD 0 3\n= 0 1 1 0 1 1 1\nx 0 1\n= 0\nz 0\n= 0 4 1\ny 0\n= 0 0 1 0 0 0\nz 0\n= 0 0\nl 0\n= 0 0\ng 0 5 0\n= 0\nm 0\n= 0 2 0 0\nj 1 0\n= 0\ny 1\n= 0 0 1 0 0 0\nm 1\n= 0 2 0 0\n" ≡ (12, 0)
unfolding quickly
run23 = by_quick _ refl

pub run24 : replayed "N 1\n= 0\nD 0 3\n= 0 1 1 0 1 1 1\nD 0 4\n= 0 2 2 0 1 1 2\nr 0 1 1 2\n= 0\nr 0 1 1 1\n= 0\nm 0\n= 0 2 0 1 3 6 1 1 2\nr 0 1 2 1\n= 0\nm 0\n= 0 2 1 2 2 1 1 2 0\nq 0 1\n= 0\nl 0\n= 0 2 2 1 1 2\nr 0 1 2 2\n= 0\nl 0\n= 0 2 2 1 1 2\nz 0\n= 0 2 2 1 1 2\n" ≡ (13, 0)
unfolding quickly
run24 = by_quick _ refl

pub run25 : replayed "N 1\n= 0\ng 0 -7 0\n= 0\ny 0\n= 0 0 1 0 1 -7\ng 0 0 1\n= 0\nm 0\n= 0 1 -7 1\ng 1 9223372036854775807 1\n= 0\ng 1 5 0\n= 0\nm 1\n= 0 1 5 1\nj 1 0\n= 0\nm 1\n= 0 1 -7 1\n" ≡ (10, 0)
unfolding quickly
run25 = by_quick _ refl

pub run26 : replayed "N 1\n= 0\nD 0 1\n= 0 1 1 0 1 1 1\nD 0 2\n= 0 2 2 0 1 1 2\nB 0 1\n= 0 3 2 0 3 2 1 0 3 1 1 4 3\nB 0 2\n= 0 4 2 0 3 2 2 0 3 1 2 4 4\nb 0 3 2 4\n= 0 5 2 0 3 2 3 0 3 1 3 4 5\nK 0\n= 0 3 2 0 2\nE 0 4\n= 0 4 2 0 2 5 4 2 2 1\nK 0\n= 0 4 2 0 2\nk 0\n= 0 4 2\nD 0 3\n= 0 6 3 0 1 1 6\nB 0 7\n= 8 0 3 0 0\nD 0 4\n= 0 7 4 0 1 1 7\nB 0 9\n= 8 0 4 0 0\nB 0 8\n= 8 0 4 0 0\nb 0 11 10 10\n= 8 0 4 0 0\nK 0\n= 0 4 4 0 2\n" ≡ (17, 0)
unfolding quickly
run26 = by_quick _ refl

pub run27 : replayed "N 1\n= 0\nD 0 1\n= 0 1 1 0 1 1 1\nB 0 1\n= 0 2 1 0 3 2 1 0 3 1 1 4 2\nD 0 2\n= 0 3 2 0 1 1 3\nb 0 3 2 2\n= 0 4 2 0 3 2 3 0 3 1 3 4 4\nE 0 2\n= 0 2 2 0 2 5 2 2 1 1\nK 0\n= 0 2 2 0 2\nk 0\n= 0 2 2\n" ≡ (8, 0)
unfolding quickly
run27 = by_quick _ refl

pub run28 : replayed "N 1\n= 0\nD 0 1\n= 0 1 1 0 1 1 1\nD 0 2\n= 0 2 2 0 1 1 2\nB 0 1\n= 0 3 2 0 3 2 1 0 3 1 1 4 3\nb 0 3 2 2\n= 0 4 2 0 3 2 3 0 3 1 3 4 4\nK 0\n= 0 3 2 0 2\nB 0 4 2\n= 0 5 1 0 4 2 4 0 2 2 0 3 2 4 2 4 5\nK 0\n= 0 0 1 0 0\nk 0\n= 0 6 2\nE 0 5\n= 0 5 2 0 3 5 5 2 4 1 2 2 1\nK 0\n= 0 3 2 0 2\n" ≡ (11, 0)
unfolding quickly
run28 = by_quick _ refl

pub run29 : replayed "N 1\n= 0\nD 0 1\n= 0 1 1 0 1 1 1\nB 0 1\n= 0 2 1 0 3 2 1 0 3 1 1 4 2\nG 0 3\n= 0 0 1 3 1 6 3\nE 0 2\n= 0 2 1 3 2 5 2 2 1 1\nK 0\n= 0 5 1 3 0\nB 0 1\n= 0 3 1 3 3 2 1 0 3 1 1 4 3\nS 0 3 -1\n= 0 3 -1 3 1 2 3 -1\nG 0 3\n= 0 0 -1 0 1 6 3\nE 0 3\n= 0 3 1 0 2 5 3 2 1 1\nK 0\n= 0 0 1 0 0\nk 0\n= 0 0 0\n" ≡ (12, 0)
unfolding quickly
run29 = by_quick _ refl

pub run30 : replayed "N 1\n= 0\nD 0 1\n= 0 1 1 0 1 1 1\nD 0 2\n= 0 2 2 0 1 1 2\nb 0 1 2 2\n= 0 3 2 0 3 2 1 0 3 1 1 4 3\nD 1 2\n= 0 4 1 0 1 1 4\nF 2 0 1\n= 0 0 3 0 0\nK 2\n= 0 2 3 0 0\n" ≡ (7, 0)
unfolding quickly
run30 = by_quick _ refl

pub run31 : replayed "N 1\n= 0\nD 1 1\n= 0 1 1 0 1 1 1\nD 1 2\n= 0 2 2 0 1 1 2\nb 1 1 2 2\n= 0 3 2 0 3 2 1 0 3 1 1 4 3\nD 0 2\n= 0 4 1 0 1 1 4\nF 2 0 1\n= 0 0 3 0 0\nK 2\n= 0 1 3 0 2\n" ≡ (7, 0)
unfolding quickly
run31 = by_quick _ refl

pub run32 : replayed "N 1\n= 0\nF 2 0 1\n= 0 0 0 0 0\nn 2\n= 0 0\nh 2 0\n= 18 0 0 0\nD 2 5\n= 0 1 1 0 1 1 1\nB 2 1\n= 0 2 1 0 3 2 1 0 3 1 1 4 2\nS 2 2 1\n= 0 2 1 0 1 2 2 1\nG 2 0\n= 0 0 1 0 1 6 0\nS 2 2 -1\n= 0 2 -1 0 1 2 2 -1\nG 2 4\n= 0 0 -1 -4 1 6 4\ns 2\n= 0 -4\np 2\n= 0 -1\nv 2\n= 0 -4\nK 2\n= 0 0 -1 -4 0\n" ≡ (14, 0)
unfolding quickly
run32 = by_quick _ refl

pub run33 : replayed "N 1\n= 0\nD 0 1\n= 0 1 1 0 1 1 1\nD 1 2\n= 0 2 1 0 1 1 2\nB 0 2 9\n= 8 0 1 0 0\nB 0 2\n= 9 0 1 0 0\nB 0 1\n= 0 3 1 0 3 2 1 0 3 1 1 4 3\nE 0 1\n= 10 0 1 0 0\nS 0 1 0\n= 11 0 1 0 0\nE 0 2\n= 9 0 1 0 0\nF 2 0 1\n= 0 0 2 0 0\nF 3 0 0\n= 4 0 0 0 0\nF 3 3 3\n= 16 0 0 0 0\nt 2 2 3 3 1 1\n= 7 0 2 0 0\nt 2 2 9 9 9 9 9 9\n= 8 0 2 0 0\nh 0 99\n= 4 0 0 0\nh 2 3\n= 18 0 0 0\na 3 0\n= 19 0\na 9 0\n= 8 0\nu 3\n= 12 0\nu 1\n= 0 1\n" ≡ (20, 0)
unfolding quickly
run33 = by_quick _ refl

pub run34 : replayed "N 1\n= 0\nD 2 1\n= 0 1 1 0 1 1 1\nF 2 0 1\n= 17 0 1 0 0\nC 2\n= 0 0 0 0 0\nF 2 0 1\n= 0 0 0 0 0\nC 2\n= 0 0 0 0 0\nG 3 5\n= 0 0 0 0 1 6 5\nF 3 0 1\n= 17 0 0 0 0\nG 2 0\n= 0 0 0 0 1 6 0\nF 2 0 1\n= 0 0 0 0 0\nF 4 2 3\n= 0 0 0 0 0\nF 4 5 3\n= 4 0 0 0 0\nF 5 4 3\n= 4 0 0 0 0\nF 6 4 5\n= 0 0 0 0 0\n" ≡ (14, 0)
unfolding quickly
run34 = by_quick _ refl

pub run35 : replayed "N 1\n= 0\ny 0\n= 0 1 0 21 0 0\ng 0 9223372036854775807 0\n= 0\ny 0\n= 0 1 0 21 0 0\ng 0 9223372036854775806 0\n= 0\ny 0\n= 0 0 1 0 1 9223372036854775806\n" ≡ (6, 0)
unfolding quickly
run35 = by_quick _ refl
