-- The numbers of add defect, mark and grow: the interface's own tests, then room, what was used, or the length. Assumes nothing.
use Prim.Native.Nat.{ℕ, ◌+◌, ◌<◌, ◌≤◌}
use mathlib.Core.Path.{◌≡◌, ap, ap₂, sym, ◌∙◌}
use mathlib.Core.Logic.{◌≢◌}
use mathlib.Core.Bool.{Bool, true, false, ◌||◌}
use mathlib.Core.List.{List, [], ◌∷◌}
use native.Mathlib.Omega.{arith}
use lib.Dec.{ltb}
use lib.IntN.{ℤ, pos, ◌+ℤ◌}
use lib.ListN.{get_or}
use lib.Signed.{lt_z}
use borrow.Author.Tests.{lt-ltb, le-ltb}
use Rattle.bench_words.specs.Store.{node_at, interface_at}
use Rattle.bench_words.specs.declared.Interface.{Interface}
use Rattle.ledger_spec.specs.Bench as plain
use Rattle.ledger_spec.specs.Look.{interface}
use Rattle.ledger_spec.specs.Tests.{first, late}
use Rattle.ledger_spec.specs.Refuse.{unit_tests, defect_tests, mark_tests}
use Rattle.ledger_spec.proofs.Passed.{Failed, passed}
use Rattle.ledger_spec.proofs.Accepted.{clear_passed}
use Rattle.bench_views.specs.View.{view}
use Rattle.bench_views.proofs.Views.{interface_in_lem}
use Rattle.read_sound.proofs.Numbers.{first_yes, first_no, first_none}
use Rattle.refuse_calls.specs.Length.{length_tests}
use Rattle.refuse_calls.specs.Room.{room_tests}
use Rattle.refuse_calls.proofs.Firsts.{refused_by, decided_by}

module _ (b : List ℕ) (u n : ℕ) (e : n ≡ first (unit_tests (view b) u)) where
  pub unit_low : n ≡ 0 → u < 8
  unit_low z = (clear_passed (view b) u (sym e ∙ z)).low

  pub unit_failed : n ≡ 0 → Failed (unit_tests (view b) u)
  unfolding unit_tests
  unit_failed z = passed (unit_tests (view b) u) tt (sym e ∙ z)

  pub defect_no : n ≢ 0 → n ≡ first (defect_tests (view b) u)
  unfolding unit_tests defect_tests
  defect_no q = refused_by (unit_tests (view b) u) (room_tests (view b) u) n e q

  pub grow_no : (l : ℤ) → n ≢ 0 → n ≡ first (length_tests (view b) u l)
  unfolding unit_tests
  grow_no l q = refused_by (unit_tests (view b) u) ((lt_z l (pos 0) || lt_z (pos 1099511627776) ((interface (view b) u).progress +ℤ l), 5) ∷ []) n e q

  pub defect_rest : n ≡ 0 → (k : ℕ) → k ≡ first (room_tests (view b) u) → k ≡ first (defect_tests (view b) u)
  unfolding unit_tests defect_tests
  defect_rest z k r = decided_by (unit_tests (view b) u) (room_tests (view b) u) (unit_failed z) k r

  -- ---- mark
  pub mark_no : n ≢ 0 → n ≡ first (mark_tests (view b) u)
  unfolding unit_tests mark_tests
  mark_no q = refused_by (unit_tests (view b) u) ((late (interface (view b) u), 26) ∷ []) n e q

  module _ (z : n ≡ 0) (w : Bool) (r : w ≡ late (interface (view b) u)) where
    mark_rest : (k : ℕ) → k ≡ first ((late (interface (view b) u), 26) ∷ []) → k ≡ first (mark_tests (view b) u)
    unfolding unit_tests mark_tests
    mark_rest k g = decided_by (unit_tests (view b) u) ((late (interface (view b) u), 26) ∷ []) (unit_failed z) k g

    pub mark_late : w ≡ true → 26 ≡ first (mark_tests (view b) u)
    mark_late t = mark_rest 26 (sym (first_yes (late (interface (view b) u)) 26 [] (sym r ∙ t)))

    pub mark_fine : w ≡ false → 0 ≡ first (mark_tests (view b) u)
    mark_fine t = mark_rest 0 (sym (first_no (late (interface (view b) u)) 26 [] (sym r ∙ t) ∙ first_none))

  -- ---- grow
  module _ (z : n ≡ 0) where
    grow_rest : (l : ℤ) (k : ℕ) → k ≡ first ((lt_z l (pos 0) || lt_z (pos 1099511627776) ((interface (view b) u).progress +ℤ l), 5) ∷ []) → k ≡ first (length_tests (view b) u l)
    unfolding unit_tests
    grow_rest l k r = decided_by (unit_tests (view b) u) ((lt_z l (pos 0) || lt_z (pos 1099511627776) ((interface (view b) u).progress +ℤ l), 5) ∷ []) (unit_failed z) k r

    pub grow_back : (l : ℤ) → lt_z l (pos 0) ≡ true → 5 ≡ first (length_tests (view b) u l)
    grow_back l t = grow_rest l 5 (sym (first_yes (lt_z l (pos 0) || lt_z (pos 1099511627776) ((interface (view b) u).progress +ℤ l)) 5 [] (ap (λ (c : Bool). c || lt_z (pos 1099511627776) ((interface (view b) u).progress +ℤ l)) t)))

    module _ (f : Interface) (i : f ≡ interface_at b u) (x : ℕ) (l : ℤ) (p : l ≡ pos x) where
      progress_is : (interface (view b) u).progress +ℤ l ≡ pos (f.progress + x)
      progress_is = ap₂ ◌+ℤ◌ (ap (λ (g : plain.Interface). g.progress) (interface_in_lem (get_or b 0 0) (interface_at b) (node_at b) u (unit_low z)) ∙ ap (λ (g : Interface). pos g.progress) (sym i)) p

      limit : (c : Bool) → ltb 1099511627776 (f.progress + x) ≡ c → (lt_z l (pos 0) || lt_z (pos 1099511627776) ((interface (view b) u).progress +ℤ l)) ≡ c
      limit c t = ap₂ (λ (y w : ℤ). lt_z y (pos 0) || lt_z (pos 1099511627776) w) p progress_is ∙ ap₂ ◌||◌ (le-ltb x 0 (omega arith)) t

      pub grow_far : 1099511627776 < f.progress + x → 5 ≡ first (length_tests (view b) u l)
      grow_far w = grow_rest l 5 (sym (first_yes (lt_z l (pos 0) || lt_z (pos 1099511627776) ((interface (view b) u).progress +ℤ l)) 5 [] (limit true (lt-ltb 1099511627776 (f.progress + x) w))))

      pub grow_fine : f.progress + x ≤ 1099511627776 → 0 ≡ first (length_tests (view b) u l)
      grow_fine w = grow_rest l 0 (sym (first_no (lt_z l (pos 0) || lt_z (pos 1099511627776) ((interface (view b) u).progress +ℤ l)) 5 [] (limit false (le-ltb 1099511627776 (f.progress + x) w)) ∙ first_none))
