-- One value as one word, and a state by a number's sign, as include/dual_ledger.h has them. Assumes nothing.
use Rattle.std.specs.Prelude.{ℕ, zero, suc, ◌+◌, ◌-◌, ◌*◌, Bool, true, false, ℤ, pos, negsuc, None, Option, Some}
use Rattle.bench_words.specs.Codec.{past_handles}
use Rattle.ledger_spec.specs.Bench.{Handle, State, grows, stays, shrinks}

abbrev pub node_word : Handle → ℕ
node_word h = (h.serial * 64 + h.slot) * 8 + h.unit

-- an outermost blossom, and the links to it
abbrev pub outer_words : Handle × ℕ → ℕ × ℕ
outer_words r = (node_word r.0, r.1)

-- 2^41 where there is none: no handle of a bench is written so
abbrev pub maybe_word : Option Handle → ℕ
maybe_word None = past_handles
maybe_word (Some h) = node_word h

-- a read that may find no node: refused, its field is the zero handle
abbrev pub indexed_word : ℕ → Option Handle → ℕ
indexed_word zero m = maybe_word m
indexed_word (suc k) m = 0

abbrev pub indexed : ℕ × Option Handle → ℕ × ℕ
indexed r = (r.0, indexed_word r.0 r.1)

abbrev pub flag_word : Bool → ℕ
flag_word true = 1
flag_word false = 0

-- a number below 0 as 2^64 more
abbrev pub signed_word : ℤ → ℕ
signed_word (pos n) = n
signed_word (negsuc n) = 18446744073709551615 - n

-- whether there is a length, and the length
abbrev pub length_words : Option ℤ → ℕ × ℕ
length_words None = (0, 0)
length_words (Some l) = (1, signed_word l)

abbrev pub state_given : ℤ → State
state_given (pos zero) = stays
state_given (pos (suc n)) = grows
state_given (negsuc n) = shrinks

-- a value in its word form, beside the number of an answer
abbrev pub worded : {A B : Type 0} → (A → B) → ℕ × A → ℕ × B
worded f r = (r.0, f r.1)
