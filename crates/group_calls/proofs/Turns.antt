-- Whether any of some nodes has a property, found in turn: the first that has it decides, else the rest do. Assumes nothing.
use mathlib.Core.Path.{◌≡◌, refl, sym, ap, ◌∙◌}
use mathlib.Core.Bool.{Bool, true, false, ◌||◌}
use mathlib.Core.List.{List, [], ◌∷◌, ◌++◌}
use Rattle.kinds.specs.declared.Handle.{Handle}
use Rattle.kinds.specs.declared.Obstacle.{Obstacle}
use Rattle.ledger_spec.specs.Tests.{any}
use Rattle.ledger_spec.specs.GroupCalls.{handles_of}
use Rattle.group_handles.specs.Named.{named_by}
use Rattle.group_handles.specs.declared.Nodes.{Nodes}
use Rattle.group_handles.proofs.Handles.{any_append}

pub or_yes : {a : Bool} (b : Bool) → a ≡ true → true ≡ (a || b)
or_yes b e = sym (ap (λ (x : Bool). x || b) e)

pub or_no : {a : Bool} (b : Bool) → a ≡ false → b ≡ (a || b)
or_no b e = sym (ap (λ (x : Bool). x || b) e)

module _ (p : Handle → Bool) where
  pub none_has : false ≡ any p []
  unfolding any
  none_has = refl

  pub one_has : (x : Handle) → p x ≡ any p (x ∷ [])
  unfolding any
  one_has x = go (p x)
    where
      go : (a : Bool) → a ≡ (a || false)
      go true = refl
      go false = refl

  module _ (xs ys : List Handle) {t : Bool} (d : t ≡ any p xs) where
    pub front_has : t ≡ true → t ≡ any p (xs ++ ys)
    front_has e = e ∙ or_yes (any p ys) (sym d ∙ e) ∙ sym (any_append p xs ys)

    pub back_has : t ≡ false → {u : Bool} → u ≡ any p ys → u ≡ any p (xs ++ ys)
    back_has e f = f ∙ or_no (any p ys) (sym d ∙ e) ∙ sym (any_append p xs ys)

  module _ (x : Handle) (ys : List Handle) {t : Bool} (d : t ≡ p x) where
    pub first_has : t ≡ true → t ≡ any p (x ∷ ys)
    unfolding any
    first_has e = e ∙ or_yes (any p ys) (sym d ∙ e)

    pub rest_has : t ≡ false → {u : Bool} → u ≡ any p ys → u ≡ any p (x ∷ ys)
    unfolding any
    rest_has e f = f ∙ or_no (any p ys) (sym d ∙ e)

-- ---- by what nodes_of finds
pub named_has : (p : Handle → Bool) {t : Bool} (o : Obstacle) (r x : Nodes) → named_by r ≡ handles_of o → r ≡ x → t ≡ any p (named_by x) → t ≡ any p (handles_of o)
named_has p o r x n q e = e ∙ ap (any p) (ap named_by (sym q) ∙ n)
