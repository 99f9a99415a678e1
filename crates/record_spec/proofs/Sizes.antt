-- How long an operation's line is: only a blossom's can pass 1,024 bytes, so a reader counts digits for `B` alone. Assumes nothing.
use Prim.Native.Nat.{ℕ, ◌+◌, ◌≤◌}
use native.Mathlib.Omega.{arith}
use mathlib.Core.Path.{◌≡◌}
use mathlib.Core.Bool.{and-true}
use mathlib.Core.List.{List, [], ◌∷◌, map}
use lib.ListN.{length, length-append}
use borrow.Author.Tests.{le-leb}
use Rattle.text_decimals.proofs.Widths.{width, signed_width}
use Rattle.ledger_spec.specs.Bench.{State, grows, stays, shrinks, rate}
use Rattle.ledger_spec.specs.Decimals.{decimal, signed}
use Rattle.ledger_spec.specs.Operations.{D, B, E, S, G, F, C, K}
use Rattle.ledger_spec.specs.Grammar.{Fields}
use Rattle.text_lines.specs.Texts.{spaced, letter_of, fields_of}
use Rattle.record_spec.specs.Operations.{Member, Op, serial_of, line_of_op}
use Rattle.record_spec.specs.Reader.{serials_good, good}
use Rattle.record_spec.specs.Places.{total}
use Rattle.record_spec.proofs.Writable.{Held}

pub length_spaced : (f : List ℕ) (fs : Fields) → length (spaced f fs) ≡ length f + total fs
unfolding spaced total
length_spaced f [] = omega arith
length_spaced f (g ∷ fs) = omega (arith, length-append f (32 ∷ spaced g fs), length_spaced g fs)

-- the letter, and a space before the unit and before each serial
pub length_blossom : (u : ℕ) (ms : List Member) → length (line_of_op (B u ms)) ≡ 1 + (1 + (length (decimal u) + total (map decimal (map serial_of ms))))
unfolding letter_of fields_of total
length_blossom u ms = length_spaced (66 ∷ []) (decimal u ∷ map decimal (map serial_of ms))

-- no blossom
abbrev pub Plain : Op → Type 0
Plain (D u v) = Unit {0}
Plain (B u ms) = ⊥
Plain (E u k) = Unit {0}
Plain (S u k g) = Unit {0}
Plain (G u l) = Unit {0}
Plain (F p l r) = Unit {0}
Plain (C u) = Unit {0}
Plain (K u) = Unit {0}

state_width : (g : State) → length (signed (rate g)) ≤ 20
state_width grows = signed_width (rate grows) (record { sfits = omega arith })
state_width stays = signed_width (rate stays) (record { sfits = omega arith })
state_width shrinks = signed_width (rate shrinks) (record { sfits = omega arith })

pub plain_short : (op : Op) → Plain op → Held op → length (line_of_op op) ≤ 1023
unfolding letter_of fields_of total
plain_short (D u v) p h = omega (arith, length_spaced (68 ∷ []) (decimal u ∷ decimal v ∷ []), width 2 u (omega (arith, h.0)), width 9 v (omega (arith, h.1)))
plain_short (B u ms) p h = absurd p
plain_short (E u k) p h = omega (arith, length_spaced (69 ∷ []) (decimal u ∷ decimal k ∷ []), width 2 u (omega (arith, h.0)), width 9 k (omega (arith, h.1)))
plain_short (S u k g) p h =
    omega (arith, length_spaced (83 ∷ []) (decimal u ∷ decimal k ∷ signed (rate g) ∷ []), width 2 u (omega (arith, h.0)), width 9 k (omega (arith, h.1)), state_width g)
plain_short (G u l) p h = omega (arith, length_spaced (71 ∷ []) (decimal u ∷ signed l ∷ []), width 2 u (omega (arith, h.0)), signed_width l h.1)
plain_short (F q l r) p h =
    omega (arith, length_spaced (70 ∷ []) (decimal q ∷ decimal l ∷ decimal r ∷ []), width 2 q (omega (arith, h.0)), width 2 l (omega (arith, h.1)), width 2 r (omega (arith, h.2)))
plain_short (C u) p h = omega (arith, length_spaced (67 ∷ []) (decimal u ∷ []), width 2 u (omega (arith, h)))
plain_short (K u) p h = omega (arith, length_spaced (75 ∷ []) (decimal u ∷ []), width 2 u (omega (arith, h)))

-- then only the serials are tested
pub plain_good : (op : Op) → Plain op → Held op → good op ≡ serials_good op
unfolding good
plain_good op p h = rw (le-leb (length (line_of_op op)) 1023 (plain_short op p h)) (and-true (serials_good op))
