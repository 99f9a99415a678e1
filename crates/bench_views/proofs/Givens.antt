-- The handle that a word gives is the plain ledger's of the packed one. Assumes nothing.
use Prim.Native.Nat.{ℕ}
use mathlib.Core.Path.{◌≡◌, refl}
use mathlib.Core.Bool.{Bool, true, false}
use lib.Dec.{ltb}
use Rattle.bench_words.specs.Codec.{past_handles, pick, handle_of, nowhere_code, hand_of}
use Rattle.ledger_spec.specs.Named.{handle_named}
use Rattle.bench_views.specs.Given.{nowhere, hand_given}

pub hand_given_lem : (w : ℕ) → handle_named (hand_of w) ≡ hand_given w
unfolding hand_of hand_given
hand_given_lem w = go (ltb w past_handles)
  where
    go : (t : Bool) → handle_named (pick t (handle_of w) nowhere_code) ≡ pick t (handle_named (handle_of w)) nowhere
    go true = refl
    go false = refl
