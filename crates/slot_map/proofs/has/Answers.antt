-- `slot_map::has` meets its contract, which is what it computes. Assumes nothing.
use mathlib.Core.Path.{refl}
use borrow.Author.Rules.{rules}
use Rattle.slot_map.specs.Slots.{bit_at}
use Rattle.slot_map.proofs.has.Goals as goal

pub returns : goal.returns
unfolding bit_at
returns c = refl
