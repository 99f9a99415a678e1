-- What peek and pop answer, once it is known whether the group is sound and of which kind it is, and the group that pop leaves. Assumes nothing.
use Rattle.std.specs.Prelude.{Option, None}
use Prim.Native.Nat.{ℕ, ◌-◌, ◌≤◌}
use mathlib.Core.Path.{◌≡◌, refl, sym, ap, ap₂, ◌∙◌}
use mathlib.Core.Bool.{Bool, true, false, not}
use mathlib.Core.List.{List, [], ◌∷◌}
use lib.IntN.{ℤ}
use lib.ListN.{length, take, get_or}
use Rattle.kinds.specs.declared.Entry.{Entry}
use Rattle.kinds.specs.declared.Stop.{Stop}
use Rattle.kinds.specs.declared.Obstacle.{Obstacle}
use Rattle.ledger_spec.specs.Tests.{first}
use Rattle.ledger_spec.specs.Reads.{said}
use Rattle.ledger_spec.specs.Groups.{Group, sound_group, last_of, popped}
use Rattle.ledger_spec.specs.GroupCalls.{is_growth, last_in, take_tests, peek, after_pop, pop}
use Rattle.groups.specs.View.{list_of, stops_of, group_of, laid}
use Rattle.groups.specs.declared.Kind.TheVariants.{Growth, Conflicts}
use Rattle.groups.specs.declared.Group.{Group as Code}
use Rattle.groups.proofs.View.{same, view_laid, view_growth, view_conflicts, list_is, stops_is}
use Rattle.group_takes.specs.Takes.{top_by, shifted, after}
use Rattle.group_takes.proofs.Tops.{top_is, front_over, front_long, rest_over, rest_long}

-- ---- BROKEN, then KIND, then the answer
module _ {A : Type 0} (q : Group) (v z : A) where
  tests_are : (a b : Bool) → sound_group q ≡ a → is_growth q ≡ b → said (first (take_tests q)) v z ≡ said (first ((not a, 2) ∷ (b, 10) ∷ [])) v z
  unfolding take_tests
  tests_are a b s k = ap₂ (λ (i j : Bool). said (first ((not i, 2) ∷ (j, 10) ∷ [])) v z) s k

  broken : sound_group q ≡ false → said (first (take_tests q)) v z ≡ (2, z)
  unfolding said first
  broken s = tests_are false (is_growth q) s refl

  kind : sound_group q ≡ true → is_growth q ≡ true → said (first (take_tests q)) v z ≡ (10, z)
  unfolding said first
  kind s k = tests_are true true s k

  passed : sound_group q ≡ true → is_growth q ≡ false → said (first (take_tests q)) v z ≡ (0, v)
  unfolding said first
  passed s k = tests_are true false s k

module _ (g : Code) where
  pub peek_broken : sound_group (group_of g) ≡ false → (2, None) ≡ peek (group_of g)
  unfolding peek
  peek_broken s = sym (broken (group_of g) (last_in (group_of g)) None s)

  pop_broken : sound_group (group_of g) ≡ false → pop (group_of g) ≡ (2, (None, group_of g))
  unfolding pop
  pop_broken s = broken (group_of g) (last_in (group_of g), after_pop (group_of g)) (None, group_of g) s

  -- what a pop answers and leaves, from what the ledger's pop answers
  abbrev Pops : ℕ → Option Obstacle → Code → Type 0
  Pops n o r = ((n, (o, group_of r)) ≡ pop (group_of g)) × (r ≡ after (pop (group_of g)).0 (pop (group_of g)).1.1 g)

  abbrev leaves : ℕ × (Option Obstacle × Group) → Code
  leaves p = after p.0 p.1.1 g

  pub pops_broken : sound_group (group_of g) ≡ false → ((2, (None, group_of g)) ≡ pop (group_of g)) × (g ≡ after (pop (group_of g)).0 (pop (group_of g)).1.1 g)
  unfolding after
  pops_broken s = (sym (pop_broken s), sym (ap leaves (pop_broken s)))

  -- ---- a growth
  module _ (s : sound_group (group_of g) ≡ true) (l : ℤ) (f : Bool) (k : g.kind ≡ Growth l f) where
    pub peek_growth : (10, None) ≡ peek (group_of g)
    unfolding peek
    peek_growth = sym (kind (group_of g) (last_in (group_of g)) None s (ap is_growth (view_growth g l f k)))

    pop_growth : pop (group_of g) ≡ (10, (None, group_of g))
    unfolding pop
    pop_growth = kind (group_of g) (last_in (group_of g), after_pop (group_of g)) (None, group_of g) s (ap is_growth (view_growth g l f k))

    pub pops_growth : ((10, (None, group_of g)) ≡ pop (group_of g)) × (g ≡ after (pop (group_of g)).0 (pop (group_of g)).1.1 g)
    unfolding after
    pops_growth = (sym pop_growth, sym (ap leaves pop_growth))

  -- ---- conflicts
  module _ (s : sound_group (group_of g) ≡ true) (k : g.kind ≡ Conflicts) (h : g.listed ≤ length g.list) (i : g.stopped ≤ length g.stops) (d : Entry) (x : Stop) where
    abbrev top : Option Obstacle
    top = top_by g.listed (get_or g.list (g.listed - 1) d) g.stopped (get_or g.stops 0 x)

    top_there : top ≡ last_in (group_of g)
    top_there = top_is g.listed g.stopped g.list g.stops d x h i
        ∙ ap₂ last_of (sym (list_is g h)) (sym (stops_is g i)) ∙ sym (ap last_in (view_conflicts g k))

    pub peek_conflicts : (o : Option Obstacle) → o ≡ top → (0, o) ≡ peek (group_of g)
    unfolding peek
    peek_conflicts o e = ap (λ (w : Option Obstacle). (0, w)) (e ∙ top_there)
        ∙ sym (passed (group_of g) (last_in (group_of g)) None s (ap is_growth (view_conflicts g k)))

    left : Code
    left = laid (popped (list_of g) (stops_of g)) g

    pop_conflicts : pop (group_of g) ≡ (0, (top, popped (list_of g) (stops_of g)))
    unfolding pop
    pop_conflicts = passed (group_of g) (last_in (group_of g), after_pop (group_of g)) (None, group_of g) s (ap is_growth (view_conflicts g k))
        ∙ ap₂ (λ (o : Option Obstacle) (q : Group). (0, (o, q))) (sym top_there) (ap after_pop (view_conflicts g k))

    abbrev bytes : List Stop → ℕ → ℕ → Code
    bytes t n m = record { kind = Conflicts; list = g.list; stops = t; listed = n; stopped = m }

    bytes_left : bytes (shifted (g.stopped - 1) g.stops) (g.listed - 1) (g.stopped - 1) ≡ laid (popped (list_of g) (stops_of g)) g
    bytes_left = same (bytes (shifted (g.stopped - 1) g.stops) (g.listed - 1) (g.stopped - 1)) (laid (popped (take g.listed g.list) (take g.stopped g.stops)) g)
        refl (front_over g.listed g.list h) (rest_over g.stopped g.stops i) (front_long g.listed g.list h) (rest_long g.stopped g.stops i)
        ∙ ap₂ (λ (l : List Entry) (t : List Stop). laid (popped l t) g) (sym (list_is g h)) (sym (stops_is g i))

    pub pops_conflicts : (o : Option Obstacle) (t : List Stop) (n m : ℕ) → o ≡ top → t ≡ shifted m g.stops → n ≡ g.listed - 1 → m ≡ g.stopped - 1 → Pops 0 o (bytes t n m)
    unfolding after
    pops_conflicts o t n m eo et en em = (
      (λ j. (0, (eo j, group_of (is j)))) ∙ ap (λ (q : Group). (0, (top, q))) (view_laid (popped (list_of g) (stops_of g)) g) ∙ sym pop_conflicts,
      is ∙ sym (ap leaves pop_conflicts),
    )
      where
        is : bytes t n m ≡ laid (popped (list_of g) (stops_of g)) g
        is = (λ j. bytes (et j) (en j) m) ∙ (λ j. bytes (shifted (em j) g.stops) (g.listed - 1) (em j)) ∙ bytes_left
