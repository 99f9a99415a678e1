-- The empty group, byte for byte, and what the answers' fields say in the ledger's terms. Assumes nothing.
use Rattle.std.specs.Prelude.{None, Option, Some, ℕ, Bool, false, ℤ, replicate}
use Rattle.kinds.specs.Names.{no_code}
use Rattle.kinds.specs.declared.Obstacle.TheVariants.{BlossomNeedExpand, VertexShrinkStop}
use Rattle.ledger_spec.specs.Groups.{largest}
use Rattle.groups.specs.declared.Kind.TheVariants.{Growth}
use Rattle.groups.specs.declared.Group.{Group as Code}
use Rattle.groups.specs.declared.Told.{Told}
use Rattle.groups.specs.declared.Asked.{Asked}

abbrev pub empty_of : Code
empty_of = record {
  kind = Growth largest false;
  list = replicate 128 (record { obstacle = BlossomNeedExpand no_code });
  stops = replicate 128 (record { vertex = record { 0 = 0 }; obstacle = VertexShrinkStop no_code None });
  listed = 0;
  stopped = 0;
}

abbrev pub shown_told : Told → ℕ × Bool
shown_told r = (r.number, r.yes)

abbrev pub maybe_length : Option ℤ → Option ℤ
maybe_length None = None
maybe_length (Some l) = Some l

abbrev pub shown_asked : Asked → ℕ × Option ℤ
shown_asked r = (r.number, maybe_length r.length)
