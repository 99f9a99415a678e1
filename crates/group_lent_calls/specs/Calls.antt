-- What the calls on groups in words promise on sound words: number and group as the ledger says, every word of the group, and a sound group again. Assumes
-- nothing.
use Rattle.std.specs.Prelude.{ℕ, ◌≡◌, List}
use Rattle.bench_words.specs.Codec.{pick}
use Rattle.ledger_spec.specs.Tests.{any}
use Rattle.ledger_spec.specs.GroupCalls.{stale_code, handles_of, group_handles, vertex_of, peek, pop, add, extend}
use Rattle.ledger_sparing.specs.Sparing.{pop_sparing}
use Rattle.bench_views.specs.View.{view}
use Rattle.group_lent.specs.Forms.{five_words, obstacle_of}
use Rattle.group_lent.specs.Place.{group_in, SoundGroup}
use Rattle.group_lent.specs.declared.Five.{Five}
use Rattle.group_lent_takes.specs.After.{top_five, popped_words}
use Rattle.group_lent_takes.specs.Made.{maybe_seen}
use Rattle.group_lent_spares.specs.Spares.{spared_words}
use Rattle.group_lent_stops.specs.Stops.{added_words}
use Rattle.group_lent_extends.specs.Extends.{extended_words}

-- ---- the obstacle on top, as its five words stand in the group; five zeros where there is none

pub record Peeked (ws : List ℕ) (r : ℕ) (os : List ℕ) : Type 0 where
  pub seen : (r, maybe_seen (top_five ws)) ≡ peek (group_in ws)
  pub obstacle : os ≡ five_words (top_five ws)

pub record Popped (ws : List ℕ) (r : ℕ) (os after : List ℕ) : Type 0 where
  pub seen : (r, (maybe_seen (top_five ws), group_in after)) ≡ pop (group_in ws)
  pub obstacle : os ≡ five_words (top_five ws)
  pub words : after ≡ popped_words ws
  pub sound : SoundGroup after
  pub refused : (r ≡ 0 → ⊥) → after ≡ ws

pub record Spared (ws : List ℕ) (r : ℕ) (os after : List ℕ) : Type 0 where
  pub seen : (r, (maybe_seen (top_five ws), group_in after)) ≡ pop_sparing (group_in ws)
  pub obstacle : os ≡ five_words (top_five ws)
  pub words : after ≡ spared_words ws
  pub sound : SoundGroup after
  pub refused : (r ≡ 0 → ⊥) → after ≡ ws

-- ---- over a bench b: an obstacle with words f is added, a group with words vs extends

unfoldable pub added_by : List ℕ → List ℕ → Five → List ℕ
added_by b ws f = pick (any (stale_code (view b)) (handles_of (obstacle_of f))) ws (added_words ws f (vertex_of (view b) (obstacle_of f)))

pub record Added (b ws : List ℕ) (f : Five) (r : ℕ) (after : List ℕ) : Type 0 where
  pub number : r ≡ (add (view b) (group_in ws) (obstacle_of f)).0
  pub seen : group_in after ≡ (add (view b) (group_in ws) (obstacle_of f)).1
  pub words : after ≡ added_by b ws f
  pub sound : SoundGroup after
  pub refused : (r ≡ 0 → ⊥) → after ≡ ws

unfoldable pub extended_by : List ℕ → List ℕ → List ℕ → List ℕ
extended_by b ws vs = pick (any (stale_code (view b)) (group_handles (group_in vs))) ws (extended_words ws vs)

pub record Extended (b ws vs : List ℕ) (r : ℕ) (after : List ℕ) : Type 0 where
  pub number : r ≡ (extend (view b) (group_in ws) (group_in vs)).0
  pub seen : group_in after ≡ (extend (view b) (group_in ws) (group_in vs)).1
  pub words : after ≡ extended_by b ws vs
  pub sound : SoundGroup after
  pub refused : (r ≡ 0 → ⊥) → after ≡ ws
