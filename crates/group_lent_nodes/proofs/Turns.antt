-- Whether any of some nodes has a property, found in turn: the first that has it decides, else the rest do; then for the entries and the stops of a group
-- in words. Assumes nothing.
use Prim.Native.Nat.{ℕ, zero, suc, ◌+◌, ◌*◌, ◌<◌}
use mathlib.Core.Path.{◌≡◌, refl, sym, ap, ◌∙◌}
use mathlib.Core.Bool.{Bool, true, false, ◌||◌}
use mathlib.Core.List.{List, [], ◌∷◌, ◌++◌}
use native.Mathlib.Numerals.{add-one}
use Rattle.std.specs.List.{list_any, range_with_len}
use lib.ListN.{get_or}
use Rattle.kinds.specs.declared.Handle.{Handle}
use Rattle.ledger_spec.specs.Tests.{any}
use Rattle.ledger_spec.specs.Groups.{Group}
use Rattle.ledger_spec.specs.GroupCalls.{handles_of, list_handles, stop_handles, group_handles}
use Rattle.group_lent.specs.Forms.{five_at, is_form, obstacle_of}
use Rattle.group_lent.specs.Groups.{entry_form, entry_at, stop_read, stop_form, stop_at}
use Rattle.group_lent.specs.Place.{run, kind_in, listed, stopped, list_in, stops_in, group_in, Listing}
use Rattle.group_lent.proofs.Stores.{and_right}
use Rattle.group_lent.proofs.Seen.{seen_growth, seen_conflicts}
use lib.Dec.{ltb}

or_assoc : (a b c : Bool) → ((a || b) || c) ≡ (a || (b || c))
or_assoc true b c = refl
or_assoc false b c = refl

or_yes : {a : Bool} (b : Bool) → a ≡ true → true ≡ (a || b)
or_yes b e = sym (ap (λ (x : Bool). x || b) e)

or_no : {a : Bool} (b : Bool) → a ≡ false → b ≡ (a || b)
or_no b e = sym (ap (λ (x : Bool). x || b) e)

module _ (p : Handle → Bool) where
  any_append : (xs ys : List Handle) → any p (xs ++ ys) ≡ (any p xs || any p ys)
  unfolding any
  any_append [] ys = refl
  any_append (x ∷ xs) ys = ap (λ (b : Bool). p x || b) (any_append xs ys) ∙ sym (or_assoc (p x) (any p xs) (any p ys))

  module _ (hs : List Handle) where
    pub none_has : hs ≡ [] → false ≡ any p hs
    unfolding any
    none_has e = rw e

    pub one_has : (x : Handle) (t : Bool) → hs ≡ x ∷ [] → t ≡ p x → t ≡ any p hs
    unfolding any
    one_has x t e d = rw e (d ∙ go (p x))
      where
        go : (a : Bool) → a ≡ (a || false)
        go true = refl
        go false = refl

  module _ (hs xs ys : List Handle) (e : hs ≡ xs ++ ys) (t : Bool) (d : t ≡ any p xs) where
    pub front_has : t ≡ true → t ≡ any p hs
    front_has f = f ∙ or_yes (any p ys) (sym d ∙ f) ∙ sym (ap (any p) e ∙ any_append xs ys)

    pub back_has : t ≡ false → (u : Bool) → u ≡ any p ys → u ≡ any p hs
    back_has f u g = g ∙ or_no (any p ys) (sym d ∙ f) ∙ sym (ap (any p) e ∙ any_append xs ys)

  module _ (hs : List Handle) (x : Handle) (ys : List Handle) (e : hs ≡ x ∷ ys) (t : Bool) (d : t ≡ p x) where
    pub first_has : t ≡ true → t ≡ any p hs
    unfolding any
    first_has f = rw e (f ∙ or_yes (any p ys) (sym d ∙ f))

    pub rest_has : t ≡ false → (u : Bool) → u ≡ any p ys → u ≡ any p hs
    unfolding any
    rest_has f u g = rw e (g ∙ or_no (any p ys) (sym d ∙ f))

  -- ---- entries and stops from i on, each for itself
  module _ (ws : List ℕ) where
    pub entries_by_any : (i k : ℕ) → list_any (λ j. any p (handles_of (obstacle_of (five_at ws (5 + j * 5))))) (range_with_len i k)
        ≡ any p (list_handles (run (entry_at ws) i k))
    unfolding any list_handles run entry_at
    entries_by_any i zero = refl
    entries_by_any i (suc k) =
        rw (add-one i, entries_by_any (suc i) k)
        (sym (any_append (handles_of (obstacle_of (five_at ws (5 + i * 5)))) (list_handles (run (entry_at ws) (suc i) k))))

    pub stops_by_any : (i k : ℕ) → list_any (λ j. any p (handles_of (obstacle_of (five_at ws (645 + j * 6 + 1))))) (range_with_len i k)
        ≡ any p (stop_handles (run (stop_at ws) i k))
    unfolding any stop_handles run stop_at stop_read
    stops_by_any i zero = refl
    stops_by_any i (suc k) =
        rw (add-one i, stops_by_any (suc i) k)
        (sym (any_append (handles_of (obstacle_of (five_at ws (645 + i * 6 + 1)))) (stop_handles (run (stop_at ws) (suc i) k))))

  -- ---- of a group
  module _ (ws : List ℕ) where
    pub growth_has : kind_in ws ≡ 1 → false ≡ any p (group_handles (group_in ws))
    unfolding any
    growth_has k = sym (ap (λ (g : Group). any p (group_handles g)) (seen_growth ws k))

    pub group_names : kind_in ws ≡ 2 → group_handles (group_in ws) ≡ list_handles (list_in ws) ++ stop_handles (stops_in ws)
    group_names k = ap group_handles (seen_conflicts ws k)

-- the words of an entry and of a stop are an obstacle's
module _ (ws : List ℕ) (l : Listing ws) (i : ℕ) where
  pub entry_is : i < listed ws → is_form (five_at ws (5 + i * 5)) ≡ true
  unfolding entry_form
  entry_is h = l.list i h

  pub stop_is : i < stopped ws → is_form (five_at ws (645 + i * 6 + 1)) ≡ true
  unfolding stop_form stop_read
  stop_is h = and_right (ltb (get_or ws (645 + i * 6) 0) 4294967296) (is_form (five_at ws (645 + i * 6 + 1))) (l.stops i h)
