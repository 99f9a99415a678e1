-- What the pop that spares the stops promises of words that hold a sound group: its number and obstacle, every word after it, and a sound group again.
-- Assumes nothing.
use Rattle.std.specs.Prelude.{ℕ, ◌-◌, ◌≡◌, ◌||◌, List, eqb, set}
use Rattle.bench_words.specs.Codec.{pick}
use Rattle.ledger_sparing.specs.Sparing.{pop_sparing}
use Rattle.group_lent.specs.Place.{kind_in, listed, group_in, SoundGroup}
use Rattle.group_lent_takes.specs.After.{top_five, popped_words}
use Rattle.group_lent_takes.specs.Made.{maybe_seen}
use Rattle.group_lent_takes.specs.declared.Top.{Top}

-- a growth and conflicts without a list as the other pop leaves them; else the list's count is one less, and no other word changes
unfoldable pub spared_words : List ℕ → List ℕ
spared_words ws = pick (eqb (kind_in ws) 1 || eqb (listed ws) 0) (popped_words ws) (set ws 3 (listed ws - 1))

pub record Spared (ws : List ℕ) (r : Top) (after : List ℕ) : Type 0 where
  pub top : r.obstacle ≡ top_five ws
  pub words : after ≡ spared_words ws
  pub seen : (r.number, (maybe_seen r.obstacle, group_in after)) ≡ pop_sparing (group_in ws)
  pub sound : SoundGroup after
  pub refused : (r.number ≡ 0 → ⊥) → after ≡ ws
