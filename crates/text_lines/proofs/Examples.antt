-- Lines of the manual and of how it is read, with what they say, by computing. Assumes nothing.
use Rattle.std.specs.Prelude.{Some}
use mathlib.Core.Path.{◌≡◌, refl}
use mathlib.Core.List.{List, [], ◌∷◌, map}
use lib.IntN.{pos, negsuc}
use Prim.Native.String.{String}
use Rattle.ledger_spec.specs.Bench.{grows, stays, shrinks}
use Rattle.ledger_spec.specs.Bytes.{bytes}
use Rattle.ledger_spec.specs.Decimals.{after_digits, natural, between, integer}
use Rattle.ledger_spec.specs.Fields.{upto, parts_after}
use Rattle.ledger_spec.specs.Operations.{D, B, E, S, G, F, C, K}
use Rattle.ledger_spec.specs.Grammar.{Line as Said, wrong, step, all_serials, rest, line_of}

abbrev table : List (String × Said)
table =
    ("D 0 3", Some (D 0 3))
    ∷ ("D 255 4294967295", Some (D 255 4294967295))
    ∷ ("D 256 1", wrong)
    ∷ ("D 0 4294967296", wrong)
    ∷ ("D 00 3", wrong)
    ∷ ("D 0 3 ", wrong)
    ∷ ("D  0 3", wrong)
    ∷ (" D 0 3", wrong)
    ∷ ("D 0", wrong)
    ∷ ("", wrong)
    ∷ ("B 0 1 2 3", Some (B 0 (1 ∷ 2 ∷ 3 ∷ [])))
    ∷ ("B 0", wrong)
    ∷ ("B 0 ", wrong)
    ∷ ("B 0 1 0", wrong)
    ∷ ("E 0 0", wrong)
    ∷ ("E 0 4", Some (E 0 4))
    ∷ ("S 0 4 -1", Some (S 0 4 shrinks))
    ∷ ("S 0 4 0", Some (S 0 4 stays))
    ∷ ("S 0 4 1", Some (S 0 4 grows))
    ∷ ("S 0 4 2", wrong)
    ∷ ("S 0 4 -0", wrong)
    ∷ ("G 0 -0", wrong)
    ∷ ("G 0 9223372036854775807", Some (G 0 (pos 9223372036854775807)))
    ∷ ("G 0 -9223372036854775808", Some (G 0 (negsuc 9223372036854775807)))
    ∷ ("G 0 9223372036854775808", wrong)
    ∷ ("G 0 +1", wrong)
    ∷ ("F 2 0 1", Some (F 2 0 1))
    ∷ ("F 2 0 256", wrong)
    ∷ ("C 7", Some (C 7))
    ∷ ("K 0", Some (K 0))
    ∷ ("K 0 0", wrong)
    ∷ ("d 0 3", wrong)
    ∷ ("DD 0 3", wrong)
    ∷ ("D 0 3\r", wrong)
    ∷ []

pub reads : String → Said
unfolding line_of rest all_serials step upto parts_after after_digits natural between integer bytes
reads s = line_of (bytes s)

pub examples : map (λ (e : String × Said). reads e.0) table ≡ map (λ (e : String × Said). e.1) table
unfolding reads
examples = refl
