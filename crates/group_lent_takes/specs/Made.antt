-- What a call promises: its number, the words and the group after it, and that the words hold a sound group again. Assumes nothing.
use Rattle.std.specs.Prelude.{ℕ, ◌≡◌, List, eqb, None, Option, Some}
use Rattle.kinds.specs.declared.Obstacle.{Obstacle}
use Rattle.bench_words.specs.Codec.{pick}
use Rattle.ledger_spec.specs.Tests.{is_some}
use Rattle.ledger_spec.specs.Groups.{empty_group, added}
use Rattle.ledger_spec.specs.GroupCalls.{or_else, pop}
use Rattle.group_lent.specs.Forms.{obstacle_of}
use Rattle.group_lent.specs.declared.Five.{Five}
use Rattle.group_lent_takes.specs.declared.Top.{Top}
use Rattle.group_lent.specs.Place.{group_in, SoundGroup}
use Rattle.group_lent_takes.specs.After.{empty_words, top_five, popped_words}

pub record Emptied (ws after : List ℕ) : Type 0 where
  pub words : after ≡ empty_words ws
  pub seen : group_in after ≡ empty_group
  pub sound : SoundGroup after

-- an obstacle with words f is added, v being the first vertex of a stop's node: ROOM (20) changes nothing
pub record Added (f : Five) (v : ℕ) (ws : List ℕ) (next : List ℕ) (r : ℕ) (after : List ℕ) : Type 0 where
  pub number : r ≡ pick (is_some (added (group_in ws) (obstacle_of f) v)) 0 20
  pub words : after ≡ next
  pub seen : group_in after ≡ or_else (added (group_in ws) (obstacle_of f) v) (group_in ws)
  pub sound : SoundGroup after
  pub refused : (r ≡ 0 → ⊥) → after ≡ ws

-- five words with kind 0 say that there is none
abbrev pub maybe_seen : Five → Option Obstacle
maybe_seen f = pick (eqb f.kind 0) None (Some (obstacle_of f))

pub record Popped (ws : List ℕ) (r : Top) (after : List ℕ) : Type 0 where
  pub top : r.obstacle ≡ top_five ws
  pub words : after ≡ popped_words ws
  pub seen : (r.number, (maybe_seen r.obstacle, group_in after)) ≡ pop (group_in ws)
  pub sound : SoundGroup after
  pub refused : (r.number ≡ 0 → ⊥) → after ≡ ws
