-- The two moves on one file with every letter, written out by another program, and each refusal. Each holds by running the definitions.
-- Assumes nothing.
use Rattle.std.specs.Prelude.{None, Some}
use Prim.Native.Nat.{ℕ}
use mathlib.Core.Path.{◌≡◌, refl}
use mathlib.Core.Bool.{true, false}
use mathlib.Core.List.{List, [], ◌∷◌, ◌++◌}
use lib.ListN.{replicate}
use Rattle.ledger_spec.specs.Decimals.{digits, decimal, signed, after_digits, natural, between, integer}
use Rattle.ledger_spec.specs.Fields.{upto, parts_after}
use Rattle.ledger_spec.specs.Operations.{B, K}
use Rattle.ledger_spec.specs.Grammar.{step, all_serials, rest as line_rest, line_of}
use Rattle.ledger_spec.specs.Program.{ended, lines_of}
use Rattle.ledger_spec.specs.Bytes.{bytes as text}
use Rattle.text_lines.specs.Texts.{spaced, fields_of, letter_of}
use Rattle.record_spec.specs.Numbers.{bytes, fours, number, fours_in, complement, length_in}
use Rattle.record_spec.specs.Operations.{Op, itself, selves, self}
use Rattle.record_spec.specs.Records.{member_fields, fields, spelled, bytes_of}
use Rattle.record_spec.specs.Reader.{state_in, members_in, rest, members_good, serials_good, good, record_in}
use Rattle.record_spec.specs.Files.{mark, records_of, starts, trailer, file_of, records_in, fitting, file_ops}
use Rattle.record_spec.specs.Moves.{ops_of, text_ops, text_of, all_self, refused, written, to_records, to_text}

abbrev lines : List ℕ
unfolding text
lines = text "D 0 5\nB 0 1 70000\nE 0 4\nS 1 7 -1\nG 0 -2\nF 2 0 1\nC 2\nK 255\n"

abbrev file : List ℕ
file =
    68 ∷ 0 ∷ 5 ∷ 0 ∷ 0 ∷ 0 ∷  -- D 0 5
    66 ∷ 0 ∷ 2 ∷ 0 ∷ 1 ∷ 0 ∷ 0 ∷ 0 ∷ 1 ∷ 0 ∷ 0 ∷ 0 ∷ 1 ∷ 0 ∷ 0 ∷ 0 ∷ 112 ∷ 17 ∷ 1 ∷ 0 ∷ 112 ∷ 17 ∷ 1 ∷ 0 ∷ 112 ∷ 17 ∷ 1 ∷ 0 ∷  -- B 0 1 70000
    69 ∷ 0 ∷ 4 ∷ 0 ∷ 0 ∷ 0 ∷  -- E 0 4
    83 ∷ 1 ∷ 7 ∷ 0 ∷ 0 ∷ 0 ∷ 255 ∷  -- S 1 7 -1
    71 ∷ 0 ∷ 254 ∷ 255 ∷ 255 ∷ 255 ∷ 255 ∷ 255 ∷ 255 ∷ 255 ∷  -- G 0 -2
    70 ∷ 2 ∷ 0 ∷ 1 ∷ 67 ∷ 2 ∷ 75 ∷ 255 ∷  -- F 2 0 1, C 2, K 255
    0 ∷ 0 ∷ 0 ∷ 0 ∷ 6 ∷ 0 ∷ 0 ∷ 0 ∷ 34 ∷ 0 ∷ 0 ∷ 0 ∷ 40 ∷ 0 ∷ 0 ∷ 0 ∷ 47 ∷ 0 ∷ 0 ∷ 0 ∷ 57 ∷ 0 ∷ 0 ∷ 0 ∷ 61 ∷ 0 ∷ 0 ∷ 0 ∷ 63 ∷ 0 ∷ 0 ∷ 0 ∷  -- where each starts
    65 ∷ 0 ∷ 0 ∷ 0 ∷ 8 ∷ 0 ∷ 0 ∷ 0 ∷ 97 ∷ 0 ∷ 0 ∷ 0 ∷ 68 ∷ 76 ∷ 71 ∷ 50 ∷ []  -- start of that list, 8 records, 97 bytes, DLG2

there : to_records lines (replicate 115 9) ≡ record { number = 0; size = 113; output = file ++ (9 ∷ 9 ∷ []) }
unfolding to_records text_ops ops_of lines_of ended upto parts_after line_of line_rest step all_serials after_digits natural between integer text written file_of records_of starts trailer bytes_of fields member_fields spelled bytes fours complement letter_of
there = refl

back : to_text file (replicate 58 9) ≡ record { number = 0; size = 58; output = lines }
unfolding to_text file_ops number fours_in records_in fitting record_in rest members_in state_in length_in good serials_good members_good spaced fields_of letter_of digits decimal signed all_self self selves written text_of text bytes_of fields member_fields spelled bytes complement
back = refl

-- ---- refusals

-- one byte too few
small : to_records lines (replicate 112 9) ≡ refused 19 (replicate 112 9)
unfolding to_records text_ops ops_of lines_of ended upto parts_after line_of line_rest step all_serials after_digits natural between integer text written file_of records_of starts trailer bytes_of fields member_fields spelled bytes fours complement letter_of
small = refl

-- a last line without newline
unended : to_records (text "K 0") [] ≡ refused 23 []
unfolding to_records text_ops ops_of lines_of ended upto parts_after line_of line_rest step after_digits natural between text
unended = refl

-- no lines: the trailer alone
empty : file_of [] ≡ 0 ∷ 0 ∷ 0 ∷ 0 ∷ 0 ∷ 0 ∷ 0 ∷ 0 ∷ 0 ∷ 0 ∷ 0 ∷ 0 ∷ text "DLG2"
unfolding file_of records_of starts trailer fours bytes text
empty = refl

abbrev pair : ℕ → Op
pair n = B 0 (itself 7 ∷ record { serial = 1; first = 1; second = n } ∷ [])

-- a pair that is not the member; a serial 0 in a pair, and after a record that is SELF
not_member : to_text (file_of (pair 2 ∷ [])) [] ≡ refused 22 []
unfolding to_text file_ops number fours_in records_in fitting record_in rest members_in good serials_good members_good spaced fields_of letter_of digits decimal all_self self selves bytes_of fields member_fields spelled bytes file_of records_of starts trailer fours
not_member = refl

no_serial : to_text (file_of (pair 2 ∷ pair 0 ∷ [])) [] ≡ refused 23 []
unfolding to_text file_ops number fours_in records_in fitting record_in rest members_in good serials_good members_good spaced fields_of letter_of digits decimal all_self self selves bytes_of fields member_fields spelled bytes file_of records_of starts trailer fours
no_serial = refl

-- ten digits each: a line of 1,015 bytes, and one of 1,026
longest : good (B 0 (replicate 92 (itself 4294967295))) ≡ true
unfolding good serials_good members_good spaced fields_of letter_of digits decimal
longest = refl

too_long : good (B 0 (replicate 93 (itself 4294967295))) ≡ false
unfolding good serials_good members_good spaced fields_of letter_of digits decimal
too_long = refl

-- a gap: the second record's start is one further
gap : file_ops (75 ∷ 0 ∷ 75 ∷ 1 ∷ fours (0 ∷ 3 ∷ 4 ∷ 2 ∷ 12 ∷ mark ∷ [])) ≡ None
unfolding file_ops number fours_in records_in fitting record_in rest good serials_good spaced fields_of letter_of digits decimal bytes_of fields spelled bytes fours
gap = refl

no_gap : file_ops (75 ∷ 0 ∷ 75 ∷ 1 ∷ fours (0 ∷ 2 ∷ 4 ∷ 2 ∷ 12 ∷ mark ∷ [])) ≡ Some (K 0 ∷ K 1 ∷ [])
unfolding file_ops number fours_in records_in fitting record_in rest good serials_good spaced fields_of letter_of digits decimal bytes_of fields spelled bytes fours
no_gap = refl
