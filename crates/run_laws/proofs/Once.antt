-- No second answer, for each public call: two results that meet its contract are one, answer and words. Assumes nothing.
use Prim.Native.Nat.{ℕ}
use mathlib.Core.Path.{◌≡◌}
use mathlib.Core.Bool.{Bool}
use mathlib.Core.List.{List}
use lib.IntN.{ℤ}
use Rattle.ledger_spec.specs.Bench.{Handle, State}
use Rattle.ledger_spec.specs.Calls.{Call, Defect, Blossom, Expand, SetState, Grow, Fuse, Clear}
use Rattle.sound_bench.specs.Sound.{sound_words}
use Rattle.call_set_up.specs.Opened.{Opened, OpenedBy, OpenedInBy}
use Rattle.call_set_up.proofs.Opening.{one_opened, one_set_up, one_set_up_in}
use Rattle.outcomes.proofs.Outcomes.{once_with}
use Rattle.call_told.specs.declared.Answer.{Answer}
use Rattle.call_told.specs.Told.{Called}

-- every two results of call c on words b are one
abbrev pub Once : List ℕ → Call → Type 0
Once b c = (r q : Answer) (b' b'' : List ℕ) → Called (sound_words b) b c r b' → Called (sound_words b) b c q b'' → (r ≡ q) × (b' ≡ b'')

pub once : (b : List ℕ) (c : Call) → Once b c
once b c r q b' b'' x y = (once_with x y).1

module _ (b : List ℕ) (u : ℕ) where
  pub create_defect_node : (v : ℕ) → Once b (Defect u v)
  create_defect_node v = once b (Defect u v)

  pub create_blossom : (hs : List Handle) (ts : List (Handle × Handle)) → Once b (Blossom u hs ts)
  create_blossom hs ts = once b (Blossom u hs ts)

  pub expand_blossom : (h : Handle) → Once b (Expand u h)
  expand_blossom h = once b (Expand u h)

  pub set_grow_state : (h : Handle) (s : State) → Once b (SetState u h s)
  set_grow_state h s = once b (SetState u h s)

  pub grow : (l : ℤ) → Once b (Grow u l)
  grow l = once b (Grow u l)

  pub fuse : (l r : ℕ) → Once b (Fuse u l r)
  fuse l r = once b (Fuse u l r)

  pub clear : Once b (Clear u)
  clear = once b (Clear u)

pub set_up_lem : (n k k' : ℕ) (b b' : List ℕ) → OpenedBy n k b → OpenedBy n k' b' → (k ≡ k') × (b ≡ b')
set_up_lem n k k' b b' x y = one_set_up x y

pub set_up_in : (m : Bool) (n k k' : ℕ) (b b' : List ℕ) → OpenedInBy m n k b → OpenedInBy m n k' b' → (k ≡ k') × (b ≡ b')
set_up_in m n k k' b b' x y = one_set_up_in x y

pub new_bench : (n : ℕ) (b b' : List ℕ) → Opened n b → Opened n b' → b ≡ b'
new_bench n b b' x y = one_opened x y
