-- The k-th record of any bytes, by the trailer and the list alone: two starts and one record are looked at, however many there are. Of a whole file it is the
-- file's k-th operation (proofs/Whole.antt); whether the other records fit is not asked. Assumes nothing.
use Rattle.std.specs.Prelude.{ℕ, zero, suc, ◌+◌, ◌-◌, ◌*◌, Bool, true, List, [], ◌∷◌, eqb, ltb, length, take, drop, None, Option, Some}
use Rattle.ledger_spec.specs.Numbers.{RANGE, FILE}
use Rattle.record_spec.specs.Numbers.{then}
use Rattle.record_spec.specs.Operations.{Op}
use Rattle.record_spec.specs.Records.{bytes_of}
use Rattle.record_spec.specs.Reader.{pick, record_in}
use Rattle.record_spec.specs.Files.{fitting}
use Rattle.record_spec.specs.Places.{at}

-- what a record says, or the number by which it is refused
pub data Asked : Type 0 where
  refusal : (number : ℕ) → Asked
  says : (op : Op) → Asked

abbrev pub asked : Option Op → Asked
asked None = refusal FILE
asked (Some op) = says op

-- operation k of a list, the first being 0
abbrev pub kth_in : List Op → ℕ → Asked
kth_in [] k = refusal RANGE
kth_in (op ∷ ops) zero = says op
kth_in (op ∷ ops) (suc k) = kth_in ops k

-- ---- by the list

-- the first record starts at 0
unfoldable pub begins : ℕ → ℕ → Bool
begins zero from = eqb from 0
begins (suc k) from = true

-- a record ends where the next starts, the last where the list starts
unfoldable pub end_of : List ℕ → ℕ → ℕ → ℕ → ℕ
end_of s list count k = pick (ltb (suc k) count) (at 4 s (list + 4 * suc k)) list

-- the record that stands from one place to another, all of it
unfoldable pub record_at : List ℕ → ℕ → ℕ → Option Op
record_at s from to = then (record_in (drop from s)) (λ op r. pick (eqb (from + length (bytes_of op)) to) (Some op) None)

-- record k, of which the list says that it starts at `from`
unfoldable pub standing : List ℕ → ℕ → ℕ → ℕ → ℕ → Asked
standing s list count k from = asked (pick (begins k from) (record_at (take list s) from (end_of s list count k)) None)

unfoldable pub listed : List ℕ → ℕ → ℕ → ℕ → Asked
listed s list count k = pick (ltb k count) (standing s list count k (at 4 s (list + 4 * k))) (refusal RANGE)

-- ---- by the trailer, which starts at `from`

unfoldable pub trailed : List ℕ → ℕ → ℕ → Asked
trailed s from k =
    pick (fitting (length s) (at 4 s from) (at 4 s (from + 4)) (at 4 s (from + 8)) (at 4 s (from + 12))) (listed s (at 4 s from) (at 4 s (from + 4)) k) (refusal FILE)

unfoldable pub kth_of : List ℕ → ℕ → Asked
kth_of s k = pick (ltb (length s) 16) (refusal FILE) (trailed s (length s - 16) k)
