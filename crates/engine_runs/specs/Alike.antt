-- Two runs of the same public calls over stored words, one in the plain engine and one in the lazy: what is said of them. Assumes nothing.
use Rattle.std.specs.Prelude.{ℕ, ◌≡◌, Bool, List}
use Rattle.bench_views.specs.View.{view}
use Rattle.bench_views.specs.Fit.{SoundWords}
use Rattle.engine_laws.specs.Engines.{in_engine}
use Rattle.engine_runs.specs.Asked.{Question, asked}

-- sound words p and l whose benches differ in the engine alone, p's being m
pub record Twins (m : Bool) (p l : List ℕ) : Type 0 where
  pub one : SoundWords p
  pub other : SoundWords l
  pub seen : view p ≡ in_engine m (view l)

-- what two runs gave back, the words that they left, and every answer of these
pub record Alike {A : Type 0} (m : Bool) (rs ss : List A) (p l : List ℕ) : Type 0 where
  pub answers : rs ≡ ss
  pub words : Twins m p l
  pub asking : (q : Question) → asked p q ≡ asked l q
