-- A call answers the same number, node and notices in either engine, and leaves the same bench in the engine. Assumes nothing.
use Rattle.std.specs.Prelude.{None}
use Prim.Native.Nat.{ℕ, zero, suc}
use mathlib.Core.Path.{◌≡◌, refl, ◌∙◌}
use mathlib.Core.Bool.{Bool}
use mathlib.Core.List.{List}
use Rattle.ledger_spec.specs.Bench.{Handle, Bench}
use Rattle.ledger_spec.specs.Look.{free_slot, node_named}
use Rattle.ledger_spec.specs.Change.{mark}
use Rattle.ledger_spec.specs.Tests.{first}
use Rattle.ledger_spec.specs.Deeds.{add_defect, add_blossom, remove_blossom, grow_by, join, wipe, choose}
use Rattle.ledger_spec.specs.Calls.{settle, defect_call, blossom_call, expand_call, state_call, grow_call, fuse_call, clear_call, mark_call, Call, Defect, Blossom, Expand, SetState, Grow, Fuse, Clear, Mark, perform}
use Rattle.ledger_spec.specs.Notices.{tells}
use Rattle.engine_laws.specs.Engines.{in_engine, reply_in}
use Rattle.engine_laws.proofs.Tests.{unit_tests_lem, defect_tests_lem, blossom_tests_lem, expand_tests_lem, state_tests_lem, grow_tests_lem, mark_tests_lem, fuse_tests_lem}
use Rattle.engine_laws.proofs.Deeds.{mark_in, handle_in, defect_in, blossom_in, expand_in, grow_in, fuse_in, clear_in, choose_in}

module _ (m : Bool) (b : Bench) where
  -- accepted or refused by the same tests
  settle_in : (n : ℕ) (b' : Bench) (h : Handle) → settle n (in_engine m b) (in_engine m b') h ≡ reply_in m (settle n b b' h)
  unfolding settle
  settle_in zero b' h = refl
  settle_in (suc k) b' h = refl

  settled : {ts ts' : List (Bool × ℕ)} {c : Bench} {g h : Handle} (b' : Bench) → ts ≡ ts' → c ≡ in_engine m b' → g ≡ h
      → settle (first ts) (in_engine m b) c g ≡ reply_in m (settle (first ts') b b' h)
  settled {ts' = ts'} {h = h} b' e f g = (λ i. settle (first (e i)) (in_engine m b) (f i) (g i)) ∙ settle_in (first ts') b' h

  -- THEOREM: every call, on any bench that keeps its rules
  pub perform_engine : (c : Call) → perform (in_engine m b) c ≡ reply_in m (perform b c)
  unfolding perform defect_call blossom_call expand_call state_call grow_call fuse_call clear_call mark_call
  perform_engine (Defect u v) = settled (add_defect b u v) (defect_tests_lem m b u) (defect_in m b u v) (handle_in m b u)
  perform_engine (Blossom u hs ts) = settled (add_blossom b u hs ts) (blossom_tests_lem m b u hs ts) (blossom_in m b u hs ts) (handle_in m b u)
  perform_engine (Expand u h) = settled (remove_blossom b h) (expand_tests_lem m b u h) (expand_in m b h) refl
  perform_engine (SetState u h s) = settled (mark b h s None) (state_tests_lem m b u h) (mark_in m b h s None) refl
  perform_engine (Grow u l) = settled (grow_by b u l) (grow_tests_lem m b u l) (grow_in m b u l) refl
  perform_engine (Fuse p l r) = settled (join b p l r) (fuse_tests_lem m b p l r) (fuse_in m b p l r) refl
  perform_engine (Clear u) = settled (wipe b u) (unit_tests_lem m b u) (clear_in m b u) refl
  perform_engine (Mark u k) = settled (choose b u k) (mark_tests_lem m b u) (choose_in m b u k) refl

  pub tells_engine : (c : Call) → tells (in_engine m b) c ≡ tells b c
  unfolding tells free_slot node_named
  tells_engine (Defect u v) = refl
  tells_engine (Blossom u hs ts) = refl
  tells_engine (Expand u h) = refl
  tells_engine (SetState u h s) = refl
  tells_engine (Grow u l) = refl
  tells_engine (Fuse p l r) = refl
  tells_engine (Clear u) = refl
  tells_engine (Mark u k) = refl
