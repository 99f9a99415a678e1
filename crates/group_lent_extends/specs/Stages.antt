-- What the last stage of extending leaves: the words with every stop of the other group added, and the ledger's group in them. Assumes nothing.
use Rattle.std.specs.Prelude.{ℕ, ◌≡◌, true, List, Some}
use Rattle.ledger_spec.specs.Tests.{is_some}
use Rattle.ledger_spec.specs.Groups.{grouped, add_stops}
use Rattle.group_lent.specs.Place.{kind_in, stopped, list_in, stops_in, group_in, SoundGroup}
use Rattle.group_lent_extends.specs.Extends.{stops_added}

-- there is room for each of them
pub record Roomy (ws vs : List ℕ) : Type 0 where
  pub sound : SoundGroup ws
  pub kind : kind_in ws ≡ 2
  pub room : is_some (add_stops (stops_in vs) (list_in ws) (stops_in ws)) ≡ true

pub record Ended (ws vs after : List ℕ) : Type 0 where
  pub words : after ≡ stops_added ws vs 0 (stopped vs)
  pub seen : grouped (add_stops (stops_in vs) (list_in ws) (stops_in ws)) ≡ Some (group_in after)
  pub sound : SoundGroup after
