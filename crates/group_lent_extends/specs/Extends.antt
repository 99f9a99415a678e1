-- One group in words extended by another: the words after, as words stored into the words before, and what the call promises. ROOM (20) leaves them.
-- Assumes nothing.
use Rattle.std.specs.Prelude.{ℕ, zero, suc, ◌+◌, ◌*◌, ◌≡◌, List, eqb, take, drop, get_or, set}
use Rattle.std.proofs.lemmas.List.Edits.{sets}
use Rattle.std.specs.Int.Signed.{lt_z}
use Rattle.bench_words.specs.Codec.{pick}
use Rattle.ledger_spec.specs.Tests.{is_some}
use Rattle.ledger_spec.specs.Groups.{extended}
use Rattle.ledger_spec.specs.GroupCalls.{or_else}
use Rattle.group_lent.specs.Forms.{length_of}
use Rattle.group_lent.specs.Place.{kind_in, length_in, flag_in, listed, stopped, group_in, SoundGroup}
use Rattle.group_lent_takes.specs.After.{least_word, head_words}
use Rattle.group_lent_stops.specs.Stops.{spot, stop_five, stop_out}

-- ---- a growth by a growth: the length and the flag after it

unfoldable pub length_after : ℕ → ℕ → ℕ
length_after a b = pick (eqb b 9223372036854775807) a (least_word a b)

unfoldable pub flag_after : ℕ → ℕ → ℕ → ℕ → ℕ
flag_after a f b h =
    pick (eqb b 9223372036854775807) f
    (pick (lt_z (length_of b) (length_of a)) h
    (pick (lt_z (length_of a) (length_of b)) f (pick (eqb f 1) h 0)))

abbrev pub paired_words : List ℕ → List ℕ → List ℕ
paired_words ws vs = set (set ws 1 (length_after (length_in ws) (length_in vs))) 2 (flag_after (length_in ws) (flag_in ws) (length_in vs) (flag_in vs))

-- ---- by conflicts

-- the k words of vs from `from` on come to place at of ws
unfoldable pub copied : List ℕ → ℕ → List ℕ → ℕ → ℕ → List ℕ
copied ws at vs from k = sets ws at (take k (drop from vs))

-- a growth takes what counts of the conflicts
abbrev pub taken_words : List ℕ → List ℕ → List ℕ
taken_words ws vs = sets (copied (copied ws 5 vs 5 (listed vs * 5)) 645 vs 645 (stopped vs * 6)) 0 (head_words (listed vs) (stopped vs))

-- conflicts get the other's list, and then its stops from i on, n of them, one after the other
abbrev pub appended_words : List ℕ → List ℕ → List ℕ
appended_words ws vs = set (copied ws (5 + listed ws * 5) vs 5 (listed vs * 5)) 3 (listed ws + listed vs)

unfoldable pub stops_added : List ℕ → List ℕ → ℕ → ℕ → List ℕ
stops_added ws vs i zero = ws
stops_added ws vs i (suc n) = stops_added (stop_out ws (stop_five vs i) (get_or vs (spot i) 0)).1 vs (suc i) n

-- ---- the words after

unfoldable pub extended_words : List ℕ → List ℕ → List ℕ
extended_words ws vs =
    pick (eqb (kind_in vs) 1)
    (pick (eqb (kind_in ws) 1) (paired_words ws vs) ws)
    (pick (eqb (kind_in ws) 1) (taken_words ws vs)
    (pick (is_some (extended (group_in ws) (group_in vs))) (stops_added (appended_words ws vs) vs 0 (stopped vs)) ws))

pub record Extended (ws vs : List ℕ) (r : ℕ) (after : List ℕ) : Type 0 where
  pub number : r ≡ pick (is_some (extended (group_in ws) (group_in vs))) 0 20
  pub words : after ≡ extended_words ws vs
  pub seen : group_in after ≡ or_else (extended (group_in ws) (group_in vs)) (group_in ws)
  pub sound : SoundGroup after
  pub refused : (r ≡ 0 → ⊥) → after ≡ ws
