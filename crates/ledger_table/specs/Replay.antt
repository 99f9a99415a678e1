-- A recording is lines: a call, then `= ` and its answer; `#` begins a comment. Replayed, it counts the answers compared and those that differ.
-- Assumes nothing.
use Rattle.std.specs.Prelude.{ℕ, suc, Bool, true, false, ◌&&◌, List, [], ◌∷◌, ◌++◌, map, drop, eqb, ℤ, pos, None, Option, Some}
use Prim.Native.String.{String}
use Rattle.ledger_spec.specs.Bench.{set_up}
use Rattle.ledger_spec.specs.Decimals.{signed, integer}
use Rattle.ledger_spec.specs.Fields.{parts_after, cut}
use Rattle.ledger_spec.specs.Bytes.{bytes}
use Rattle.ledger_table.specs.Talk.{Ledger, plain, Desk, new_desk, Turn, desk_turn}

abbrev pub or_zero : Option ℤ → ℤ
or_zero None = pos 0
or_zero (Some z) = z

abbrev pub letter_said : List (List ℕ) → ℕ
letter_said [] = 0
letter_said ([] ∷ fs) = 0
letter_said ((c ∷ f) ∷ fs) = c

-- numbers with one space between
unfoldable pub numbers_text : List ℤ → List ℕ
numbers_text [] = []
numbers_text (z ∷ []) = signed z
numbers_text (z ∷ w ∷ zs) = signed z ++ (32 ∷ numbers_text (w ∷ zs))

unfoldable pub same_bytes : List ℕ → List ℕ → Bool
same_bytes [] [] = true
same_bytes [] (d ∷ t) = false
same_bytes (c ∷ s) [] = false
same_bytes (c ∷ s) (d ∷ t) = eqb c d && same_bytes s t

unfoldable pub answered : Ledger → Desk → List ℕ → Turn
answered L k s = desk_turn L k (letter_said (cut 32 s)) (map (λ (f : List ℕ). or_zero (integer f)) (parts_after 32 s))

abbrev pub plus : Bool → ℕ × ℕ → ℕ × ℕ
plus true t = (suc t.0, t.1)
plus false t = (suc t.0, suc t.1)

-- along the lines: the desk, and the last answer's text
unfoldable pub along : Ledger → Desk → List ℕ → List (List ℕ) → ℕ × ℕ
along L k last [] = (0, 0)
along L k last ([] ∷ ls) = along L k last ls
along L k last ((c ∷ s) ∷ ls) = elim (eqb c 35) [
  | true ↦ along L k last ls
  | false ↦ elim (eqb c 61) [
    | true ↦ plus (same_bytes last (drop 1 s)) (along L k last ls)
    | false ↦ let t : Turn = answered L k (c ∷ s) in along L t.desk (numbers_text t.says) ls
  ]
]

-- answers compared, and how many of them differ: by any ledger, and by the plain one
unfoldable pub replay : Ledger → String → ℕ × ℕ
replay L s = along L (new_desk (set_up 1)) [] (cut 10 (bytes s))

unfoldable pub replayed : String → ℕ × ℕ
replayed s = replay plain s
