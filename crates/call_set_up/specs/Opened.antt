-- What set-up answers and leaves: the plain ledger's own, in words that hold a sound bench. Assumes nothing.
use Rattle.std.specs.Prelude.{ℕ, ◌≡◌, Bool, List}
use Rattle.ledger_spec.specs.Calls.{set_up_call, set_up_call_in}
use Rattle.bench_views.specs.View.{view}
use Rattle.bench_views.specs.Fit.{SoundWords}

-- words b are the bench from serial n; in either engine
pub record Opened (n : ℕ) (b : List ℕ) : Type 0 where
  pub words : SoundWords b
  pub seen : view b ≡ (set_up_call n).bench

pub record OpenedBy (n k : ℕ) (b : List ℕ) : Type 0 where
  pub number : k ≡ (set_up_call n).number
  pub opened : Opened n b

pub record OpenedIn (plain : Bool) (n : ℕ) (b : List ℕ) : Type 0 where
  pub words : SoundWords b
  pub seen : view b ≡ (set_up_call_in plain n).bench

pub record OpenedInBy (plain : Bool) (n k : ℕ) (b : List ℕ) : Type 0 where
  pub number : k ≡ (set_up_call_in plain n).number
  pub opened : OpenedIn plain n b
