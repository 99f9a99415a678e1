-- The tests of room, off the free slot and the word of the next serial. Assumes nothing.
use Prim.Native.Nat.{ℕ, ◌<◌, ◌≤◌}
use mathlib.Core.Path.{◌≡◌, sym, ◌∙◌}
use mathlib.Core.List.{List}
use native.Mathlib.Omega.{arith}
use borrow.Author.Tests.{le-leb, lt-leb}
use lib.ListN.{get_or}
use Rattle.bench_words.specs.Store.{node_at, interface_at}
use Rattle.ledger_spec.specs.Look.{free_slot}
use Rattle.ledger_spec.specs.Tests.{first}
use Rattle.bench_views.specs.View.{view}
use Rattle.bench_views.proofs.Views.{view_next}
use Rattle.refuse_calls.specs.Room.{room_tests}

module _ (b : List ℕ) (u s : ℕ) (e : s ≡ free_slot (view b) u) where
  pub room_full : 64 ≤ s → 14 ≡ first (room_tests (view b) u)
  unfolding first
  room_full h = rw (le-leb 64 (free_slot (view b) u) (omega (arith, e)))

  module _ (h : s < 64) (n : ℕ) (g : n ≡ get_or b 0 0) where
    next : (view b).next ≡ n
    next = view_next (get_or b 0 0) (interface_at b) (node_at b) ∙ sym g

    pub room_worn : 4294967296 ≤ n → 15 ≡ first (room_tests (view b) u)
    unfolding first
    room_worn k = rw (lt-leb 64 (free_slot (view b) u) (omega (arith, e)), le-leb 4294967296 (view b).next (omega (arith, next)))

    pub room_some : n < 4294967296 → 0 ≡ first (room_tests (view b) u)
    unfolding first
    room_some k = rw (lt-leb 64 (free_slot (view b) u) (omega (arith, e)), lt-leb 4294967296 (view b).next (omega (arith, next)))
