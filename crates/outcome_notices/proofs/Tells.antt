-- Each contract's list is what the ledger's call tells. Assumes nothing.
use Prim.Native.Nat.{ℕ}
use mathlib.Core.Path.{◌≡◌, refl, ap}
use mathlib.Core.List.{List, [], ◌∷◌}
use lib.IntN.{ℤ}
use Rattle.ledger_spec.specs.Bench.{Handle, State, Marking, Bench}
use Rattle.ledger_spec.specs.Deeds.{new_handle}
use Rattle.ledger_spec.specs.Calls.{Defect, Blossom, Expand, SetState, Grow, Fuse, Clear, Mark}
use Rattle.ledger_spec.specs.Notices.{defect_added, state_set, grown, tells}
use Rattle.outcome_notices.specs.Lists.{blossom_made, blossom_gone}

module _ (b : Bench) (u : ℕ) where
  pub tells_defect : (v : ℕ) (h : Handle) → h ≡ new_handle b u → defect_added h ∷ [] ≡ tells b (Defect u v)
  unfolding tells
  tells_defect v h e = ap (λ (g : Handle). defect_added g ∷ []) e

  pub tells_blossom : (hs : List Handle) (ts : List (Handle × Handle)) (q : Handle) → q ≡ new_handle b u → blossom_made hs q ≡ tells b (Blossom u hs ts)
  unfolding tells
  tells_blossom hs ts q e = ap (blossom_made hs) e

  pub tells_expand : (h : Handle) → blossom_gone b h ≡ tells b (Expand u h)
  unfolding tells
  tells_expand h = refl

  pub tells_state : (h : Handle) (s : State) → state_set h s ∷ [] ≡ tells b (SetState u h s)
  unfolding tells
  tells_state h s = refl

  pub tells_grown : (l : ℤ) → grown l ∷ [] ≡ tells b (Grow u l)
  unfolding tells
  tells_grown l = refl

  pub tells_clear : [] ≡ tells b (Clear u)
  unfolding tells
  tells_clear = refl

  pub tells_mark : (k : Marking) → [] ≡ tells b (Mark u k)
  unfolding tells
  tells_mark k = refl

pub tells_fuse : (b : Bench) (p l r : ℕ) → [] ≡ tells b (Fuse p l r)
unfolding tells
tells_fuse b p l r = refl
