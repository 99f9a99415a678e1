-- What the code answers of a trailer, and of a file: whether it is one, how many records, their bytes, its text's bytes, whether every pair is the member. Assumes nothing.
use Rattle.std.specs.Prelude.{ℕ, ◌+◌, ◌-◌, Bool, true, false, List, ltb, length, None, Option, Some}
use Rattle.record_spec.specs.Operations.{Op}
use Rattle.record_spec.specs.Reader.{pick}
use Rattle.record_spec.specs.Files.{records_of, fitting}
use Rattle.record_spec.specs.Places.{at}
use Rattle.record_spec.specs.Moves.{text_of, all_self}
use Rattle.record_files.specs.declared.Scanned.{Scanned}
use Rattle.record_files.specs.declared.Trailer.{Trailer}

abbrev pub not_file : Scanned
not_file = record { whole = false; count = 0; start = 0; text = 0; own = true }

abbrev pub scanned_of : Option (List Op) → Scanned
scanned_of None = not_file
scanned_of (Some ops) = record { whole = true; count = length ops; start = length (records_of ops); text = length (text_of ops); own = all_self ops }

-- ---- the trailer

-- do the numbers of a trailer at place n fit
abbrev pub fits_at : List ℕ → ℕ → Bool
fits_at s n = fitting (length s) (at 4 s n) (at 4 s (n + 4)) (at 4 s (n + 8)) (at 4 s (n + 12))

abbrev pub no_trailer : Trailer
no_trailer = record { fits = false; start = 0; count = 0 }

abbrev pub trailer_at : List ℕ → ℕ → Trailer
trailer_at s n = pick (fits_at s n) (record { fits = true; start = at 4 s n; count = at 4 s (n + 4) }) no_trailer

-- it takes the last 16 bytes
abbrev pub trailer_of : List ℕ → Trailer
trailer_of s = pick (ltb (length s) 16) no_trailer (trailer_at s (length s - 16))
