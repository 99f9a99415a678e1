-- A refused read of a mark has its number and no; an accepted one the interface's own. Assumes nothing.
use Prim.Native.Nat.{ℕ, ◌<◌}
use mathlib.Core.Path.{◌≡◌, ap, sym, ◌∙◌}
use mathlib.Core.Bool.{Bool, true, false}
use mathlib.Core.List.{List}
use lib.ListN.{get_or}
use Rattle.bench_words.specs.Codec.{pick}
use Rattle.bench_words.specs.Store.{node_at, interface_at}
use Rattle.bench_words.specs.declared.Interface.{Interface}
use Rattle.ledger_spec.specs.Bench as plain
use Rattle.ledger_spec.specs.Look.{interface}
use Rattle.ledger_spec.specs.Tests.{first, floored}
use Rattle.ledger_spec.specs.Refuse.{unit_tests}
use Rattle.ledger_spec.specs.Reads.{fills_of, floored_of}
use Rattle.ledger_spec.proofs.Accepted.{clear_passed}
use Rattle.bench_views.specs.View.{view}
use Rattle.bench_views.proofs.Views.{interface_in_lem}
use Rattle.read_sound.proofs.Saying.{refused, accepted}

module _ (b : List ℕ) (u n : ℕ) (e : n ≡ first (unit_tests (view b) u)) where
  fills_no : (n ≡ 0 → ⊥) → (n, false) ≡ fills_of (view b) u
  unfolding fills_of
  fills_no q = refused (interface (view b) u).marks.fills false n (first (unit_tests (view b) u)) e q

  floored_no : (n ≡ 0 → ⊥) → (n, false) ≡ floored_of (view b) u
  unfolding floored_of
  floored_no q = refused (floored (view b) u) false n (first (unit_tests (view b) u)) e q

  pub mark_no : (n ≡ 0 → ⊥) → (floor : Bool) → (n, false) ≡ pick floor (floored_of (view b) u) (fills_of (view b) u)
  mark_no q true = floored_no q
  mark_no q false = fills_no q

  module _ (q : n ≡ 0) where
    pub low : u < 8
    low = (clear_passed (view b) u (sym e ∙ q)).low

    pub fills_yes : (f : Interface) → f ≡ interface_at b u → (0, f.marks.fills) ≡ fills_of (view b) u
    unfolding fills_of
    fills_yes f i = accepted (interface (view b) u).marks.fills false n (first (unit_tests (view b) u)) e q f.marks.fills
        (ap (λ (x : Interface). x.marks.fills) i ∙ sym (ap (λ (x : plain.Interface). x.marks.fills) (interface_in_lem (get_or b 0 0) (interface_at b) (node_at b) u low)))

    pub floored_yes : (f : Interface) → f ≡ interface_at b u → (0, f.marks.floored) ≡ floored_of (view b) u
    unfolding floored_of
    floored_yes f i = accepted (floored (view b) u) false n (first (unit_tests (view b) u)) e q f.marks.floored
        (ap (λ (x : Interface). x.marks.floored) i ∙ sym (ap (λ (x : plain.Interface). x.marks.floored) (interface_in_lem (get_or b 0 0) (interface_at b) (node_at b) u low)))
