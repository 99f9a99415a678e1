-- The handle that a caller's word gives. Assumes nothing.
use Rattle.std.specs.Prelude.{ℕ, ltb}
use Rattle.bench_words.specs.Codec.{past_handles, pick, handle_of}
use Rattle.ledger_spec.specs.Bench.{Handle}
use Rattle.ledger_spec.specs.Named.{handle_named}

-- a handle of an interface that no bench has
abbrev pub nowhere : Handle
nowhere = record { unit = 8; slot = 0; serial = 0 }

-- serials are below 2^32, so a packed handle is below 2^41; any other word names no node
unfoldable pub hand_given : ℕ → Handle
hand_given w = pick (ltb w past_handles) (handle_named (handle_of w)) nowhere
