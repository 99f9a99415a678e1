-- The two tests of a sound group: of the entries each for itself; of the stops one on, where the test fails here, or goes on with the rest. Assumes nothing.
use Prim.Native.Nat.{ℕ, ◌+◌, ◌≤◌, ◌<◌}
use mathlib.Core.Path.{◌≡◌, refl, ap, ◌∙◌}
use mathlib.Core.Bool.{true, false}
use mathlib.Core.List.{List, [], ◌∷◌}
use native.Mathlib.Numerals.{add-one}
use borrow.Author.Tests.{le-leb, lt-leb}
use lib.ListN.{length, drop, get_or}
use lib.Seq.{drop-cons}
use Rattle.std.specs.List.{list_all}
use Rattle.std.proofs.lemmas.List.{drop_all}
use Rattle.kinds.specs.Obstacles.{listable, is_stop}
use Rattle.kinds.specs.declared.Entry.{Entry}
use Rattle.kinds.specs.declared.Stop.{Stop}
use Rattle.ledger_spec.specs.Groups.{all_listable, rising_from}

pub listable_by_all : (l : List Entry) → list_all (λ e. listable e.obstacle) l ≡ all_listable l
unfolding all_listable
listable_by_all [] = refl
listable_by_all (e ∷ l) = rw (listable_by_all l)

module _ (l : List Stop) (i b : ℕ) (d : Stop) (h : i < length l) where
  pub rise_ends : is_stop (get_or l i d).obstacle ≡ false → rising_from b (drop i l) ≡ false
  unfolding rising_from
  rise_ends e = ap (rising_from b) (drop-cons l i d h) ∙ rw e

  pub rise_low : is_stop (get_or l i d).obstacle ≡ true → (get_or l i d).vertex.0 < b → rising_from b (drop i l) ≡ false
  unfolding rising_from
  rise_low e f = ap (rising_from b) (drop-cons l i d h) ∙ rw (e, lt-leb _ _ f)

  pub rise_goes : is_stop (get_or l i d).obstacle ≡ true → b ≤ (get_or l i d).vertex.0
      → rising_from b (drop i l) ≡ rising_from ((get_or l i d).vertex.0 + 1) (drop (i + 1) l)
  unfolding rising_from
  rise_goes e f = ap (rising_from b) (drop-cons l i d h) ∙ rw (add-one i, e, le-leb _ _ f, add-one (get_or l i d).vertex.0)

pub rise_done : (l : List Stop) (i b : ℕ) → length l ≤ i → rising_from b (drop i l) ≡ true
unfolding rising_from
rise_done l i b h = rw (drop_all i l h)
