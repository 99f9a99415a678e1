-- No second answer: two results that meet a linked call's contract are one, and so are the words after them. (A read's contract is an equation with a
-- definition.) Assumes nothing.
use Prim.Native.Nat.{ℕ}
use mathlib.Core.Path.{◌≡◌}
use mathlib.Core.List.{List}
use Rattle.ledger_spec.specs.Calls.{Call}
use Rattle.outcomes.proofs.Outcomes.{outcome_once, once_with}
use Rattle.dual_ledger.specs.Linked.{Settled, ToldBy, Left, CalledBy}

module _ {b : List ℕ} {c : Call} {n m : ℕ} {b' b'' : List ℕ} where
  pub settled_once : Settled b c n b' → Settled b c m b'' → (n ≡ m) × (b' ≡ b'')
  settled_once x y = outcome_once x y

  pub left_once : Left b c n b' → Left b c m b'' → (n ≡ m) × (b' ≡ b'')
  left_once x y = outcome_once x y

  module _ (ws : List ℕ) {ws' ws'' : List ℕ} where
    pub told_once : ToldBy b c n ws ws' b' → ToldBy b c m ws ws'' b'' → (n ≡ m) × ((ws' ≡ ws'') × (b' ≡ b''))
    told_once x y = once_with x y

    pub called_once : CalledBy b c n ws ws' b' → CalledBy b c m ws ws'' b'' → (n ≡ m) × ((ws' ≡ ws'') × (b' ≡ b''))
    called_once x y = once_with x y
