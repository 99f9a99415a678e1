-- The test that both calls begin with. Assumes nothing.
use Rattle.std.specs.Prelude.{ℕ, ◌≡◌, Bool, ◌&&◌, List}
use Rattle.ledger_spec.specs.Groups.{Group, sound_group}
use Rattle.sound_lent.specs.Verdict.{Verdict}

-- yes where the words hold a sound bench, by their verdict, and the group is sound
pub record Ready (b : List ℕ) (g : Group) (r : Bool) : Type 0 where
  pub bench : Bool
  pub verdict : Verdict b bench
  pub both : r ≡ (bench && sound_group g)
