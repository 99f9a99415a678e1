-- The manual's file, asked record by record, and each refusal. Each holds by running the definitions. Assumes nothing.
use Prim.Native.Nat.{ℕ}
use mathlib.Core.Path.{◌≡◌, refl}
use mathlib.Core.List.{List, [], ◌∷◌}
use lib.ListN.{replicate}
use Rattle.ledger_spec.specs.Decimals.{digits, decimal, signed}
use Rattle.text_lines.specs.Texts.{spaced, fields_of, letter_of}
use Rattle.record_spec.specs.Numbers.{bytes, number, complement, length_in}
use Rattle.record_spec.specs.Records.{member_fields, fields, spelled, bytes_of}
use Rattle.record_spec.specs.Reader.{state_in, members_in, rest, members_good, serials_good, good, record_in}
use Rattle.record_spec.specs.Files.{fitting}
use Rattle.record_spec.specs.Places.{at}
use Rattle.record_spec.specs.Moves.{Moved, refused, written}
use Rattle.record_gets.specs.Kth.{begins, end_of, record_at, standing, listed, trailed, kth_of}
use Rattle.record_gets.specs.Words.{member_words, words_of, get_into}

-- D 0 3, B 0 1 touching at 2 and 1, S 0 1 -1, G 0 -2: the starts of the last two are given
abbrev file : ℕ → ℕ → List ℕ
file c d =
    68 ∷ 0 ∷ 3 ∷ 0 ∷ 0 ∷ 0 ∷
    66 ∷ 0 ∷ 1 ∷ 0 ∷ 1 ∷ 0 ∷ 0 ∷ 0 ∷ 2 ∷ 0 ∷ 0 ∷ 0 ∷ 1 ∷ 0 ∷ 0 ∷ 0 ∷
    83 ∷ 0 ∷ 1 ∷ 0 ∷ 0 ∷ 0 ∷ 255 ∷
    71 ∷ 0 ∷ 254 ∷ 255 ∷ 255 ∷ 255 ∷ 255 ∷ 255 ∷ 255 ∷ 255 ∷
    0 ∷ 0 ∷ 0 ∷ 0 ∷ 6 ∷ 0 ∷ 0 ∷ 0 ∷ c ∷ 0 ∷ 0 ∷ 0 ∷ d ∷ 0 ∷ 0 ∷ 0 ∷
    39 ∷ 0 ∷ 0 ∷ 0 ∷ 4 ∷ 0 ∷ 0 ∷ 0 ∷ 55 ∷ 0 ∷ 0 ∷ 0 ∷ 68 ∷ 76 ∷ 71 ∷ 50 ∷ []

-- the answer, into a slice of so many words that hold 9
abbrev get : List ℕ → ℕ → ℕ → Moved
get s k room = get_into s k (replicate room 9)

defect : get (file 22 29) 0 4 ≡ record { number = 0; size = 3; output = 68 ∷ 0 ∷ 3 ∷ 9 ∷ [] }
unfolding get_into kth_of trailed fitting at listed standing begins end_of record_at number record_in rest good serials_good spaced fields_of letter_of digits decimal signed bytes_of fields spelled bytes written words_of
defect = refl

blossom : get (file 22 29) 1 6 ≡ record { number = 0; size = 6; output = 66 ∷ 0 ∷ 1 ∷ 1 ∷ 2 ∷ 1 ∷ [] }
unfolding get_into kth_of trailed fitting at listed standing begins end_of record_at number record_in rest members_in good serials_good members_good spaced fields_of letter_of digits decimal signed bytes_of fields member_fields spelled bytes written words_of member_words
blossom = refl

state : get (file 22 29) 2 4 ≡ record { number = 0; size = 4; output = 83 ∷ 0 ∷ 1 ∷ 18446744073709551615 ∷ [] }
unfolding get_into kth_of trailed fitting at listed standing begins end_of record_at number record_in rest state_in good serials_good spaced fields_of letter_of digits decimal signed bytes_of fields spelled bytes written words_of complement
state = refl

growth : get (file 22 29) 3 3 ≡ record { number = 0; size = 3; output = 71 ∷ 0 ∷ 18446744073709551614 ∷ [] }
unfolding get_into kth_of trailed fitting at listed standing begins end_of record_at number record_in rest length_in good serials_good spaced fields_of letter_of digits decimal signed bytes_of fields spelled bytes written words_of complement
growth = refl

-- ---- refusals

past : get (file 22 29) 4 0 ≡ refused 18 []
unfolding get_into kth_of trailed fitting at listed
past = refl

small : get (file 22 29) 3 2 ≡ refused 19 (9 ∷ 9 ∷ [])
unfolding get_into kth_of trailed fitting at listed standing begins end_of record_at number record_in rest length_in good serials_good spaced fields_of letter_of digits decimal signed bytes_of fields spelled bytes written words_of complement
small = refl

-- the next start is not where the record ends
gap : get (file 22 30) 2 0 ≡ refused 23 []
unfolding get_into kth_of trailed fitting at listed standing begins end_of record_at number record_in rest state_in good serials_good spaced fields_of letter_of digits decimal signed bytes_of fields spelled bytes
gap = refl

-- a record before it is not looked at: the file is not whole, and record 0 is answered
other : get (file 22 30) 0 3 ≡ record { number = 0; size = 3; output = 68 ∷ 0 ∷ 3 ∷ [] }
unfolding get_into kth_of trailed fitting at listed standing begins end_of record_at number record_in rest good serials_good spaced fields_of letter_of digits decimal signed bytes_of fields spelled bytes written words_of
other = refl

no_bytes : get [] 0 0 ≡ refused 23 []
unfolding get_into kth_of
no_bytes = refl
