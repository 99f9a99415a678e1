-- An entry and a stop of a group's 1413 words, as include/dual_ledger.h has them: whether the words at a place are one, and which. Assumes nothing.
use Rattle.std.specs.Prelude.{ℕ, ◌+◌, ◌*◌, ◌%◌, Bool, ◌&&◌, List, ltb, get_or}
use Rattle.kinds.specs.declared.Entry.{Entry}
use Rattle.kinds.specs.declared.Stop.{Stop}
use Rattle.group_lent.specs.Forms.{is_form, obstacle_of, five_at}

unfoldable pub entry_form : List ℕ → ℕ → Bool
entry_form ws i = is_form (five_at ws (5 + i * 5))

unfoldable pub entry_at : List ℕ → ℕ → Entry
entry_at ws i = record { obstacle = obstacle_of (five_at ws (5 + i * 5)) }

pub record ReadStop : Type 0 where
  pub ok : Bool
  pub stop : Stop

-- a stop at place m: its vertex, then its obstacle
unfoldable pub stop_read : List ℕ → ℕ → ReadStop
stop_read ws m =
    record {
      ok = ltb (get_or ws m 0) 4294967296 && is_form (five_at ws (m + 1));
      stop = record { vertex = record { 0 = get_or ws m 0 % 4294967296 }; obstacle = obstacle_of (five_at ws (m + 1)) };
    }

unfoldable pub stop_form : List ℕ → ℕ → Bool
stop_form ws i = (stop_read ws (645 + i * 6)).ok

unfoldable pub stop_at : List ℕ → ℕ → Stop
stop_at ws i = (stop_read ws (645 + i * 6)).stop
