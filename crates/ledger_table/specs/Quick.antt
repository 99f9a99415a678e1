-- The replay that the rows are computed by: the plain ledger with a test in the place of `sound` that looks at the next serial alone. It counts what
-- `replayed` counts, for every text (proofs/Same.antt). Assumes nothing.
use Rattle.std.specs.Prelude.{ℕ, ◌^◌, Bool, true, false, not, ◌&&◌, [], ◌∷◌, leb}
use Prim.Native.String.{String}
use Rattle.ledger_spec.specs.Bench.{Bench}
use Rattle.ledger_spec.specs.Tests.{first, any, is_some}
use Rattle.ledger_spec.specs.Calls.{perform}
use Rattle.ledger_spec.specs.Notices.{tells}
use Rattle.ledger_spec.specs.Reads.{said}
use Rattle.ledger_spec.specs.Answers.{whole, broken}
use Rattle.ledger_spec.specs.Groups.{sound_group, added, extended}
use Rattle.ledger_spec.specs.GroupCalls.{handles_of, group_handles, stale_code, vertex_of, or_else}
use Rattle.ledger_spec.specs.Opened.{run}
use Rattle.ledger_table.specs.Talk.{Ledger, flattened, serials_said, triples, pairs, shown_slot, acts, calls_said, adds, extends, pops_one, changes, shows, checked, dumped, vertices, group_asked, reads, by_letter, regroups, performs, opens, desk_turn}
use Rattle.ledger_table.specs.Replay.{numbers_text, same_bytes, answered, along, replay}

-- the plain ledger with test t where it has `sound`
abbrev pub tested : (Bench → Bool) → Ledger
tested t = record {
  answer = λ b c. elim (t b) [ true ↦ whole (perform b c) (tells b c) | false ↦ broken b ];
  ask = λ b z r. elim (t b) [ true ↦ r | false ↦ (2, z) ];
  add = λ b g o. said
      (first ((not (t b && sound_group g), 2) ∷ (any (stale_code b) (handles_of o), 8) ∷ (not (is_some (added g o (vertex_of b o))), 20) ∷ []))
      (or_else (added g o (vertex_of b o)) g)
      g;
  extend = λ b g h. said
      (first ((not (t b && (sound_group g && sound_group h)), 2) ∷ (any (stale_code b) (group_handles h), 8) ∷ (not (is_some (extended g h)), 20) ∷ []))
      (or_else (extended g h) g)
      g;
}

-- all that can be wrong with a bench that a text leads to: a set-up past the serials
abbrev pub next_fits : Bench → Bool
next_fits b = leb b.next (2 ^ 32)

-- with every definition open
unfoldable pub quickly : String → ℕ × ℕ
unfolding run flattened serials_said triples pairs shown_slot acts calls_said adds extends pops_one changes shows checked dumped vertices group_asked reads by_letter regroups performs opens desk_turn numbers_text same_bytes answered along replay
quickly s = replay (tested next_fits) s
