-- BELOW by the slots of a tree in the order of the index: the interfaces whose top an interface is are those of its tree. Assumes nothing.
use Rattle.std.specs.Prelude.{None, Option}
use Prim.Native.Nat.{ℕ, suc, ◌<◌}
use mathlib.Core.Path.{◌≡◌, refl, sym, ◌∙◌, ap, ap₂, subst}
use mathlib.Core.Logic.{◌≢◌, by_cases}
use mathlib.Core.Bool.{Bool, true, false, ◌&&◌, ◌||◌}
use mathlib.Core.List.{List, [], ◌∷◌, ◌++◌}
use native.Mathlib.Decide.{ℕ_discrete}
use lib.Dec.{eqb}
use borrow.Author.Tests.{eq-eqb, ne_eqb}
use lib.IntN.{ℤ}
use Rattle.ledger_spec.specs.Bench.{Node, Bench}
use Rattle.ledger_spec.specs.Look.{interface, top, tree}
use Rattle.ledger_spec.specs.Tests.{any, sinks, floored, below}
use Rattle.ledger_spec.specs.Reads.{slots_from, gather, slots_of}
use Rattle.ledger_spec.specs.SoundTree.{units}
use Rattle.ledger_spec.specs.Frame.{Frame}
use Rattle.ledger_spec.specs.Knit.{In}
use Rattle.ledger_spec.proofs.Lists.{any_no, no_any}
use Rattle.ledger_spec.proofs.Tops.{climb_none}
use Rattle.ledger_spec.proofs.Gathered.{in_units, units_in, in_tree, tree_in}

or_assoc : (a c d : Bool) → ((a || c) || d) ≡ (a || (c || d))
or_assoc true c d = refl
or_assoc false c d = refl

-- one that shrinks, with a value below l, in a list of slots
abbrev pub sinking : ℤ → List (ℕ × ℕ × Option Node) → Bool
sinking l ts = any (λ (t : ℕ × ℕ × Option Node). sinks l t.2) ts

pub any_append : {A : Type 0} (p : A → Bool) (xs ys : List A) → any p (xs ++ ys) ≡ (any p xs || any p ys)
unfolding any
any_append p [] ys = refl
any_append p (x ∷ xs) ys = ap (λ (c : Bool). p x || c) (any_append p xs ys) ∙ sym (or_assoc (p x) (any p xs) (any p ys))

pub sinking_slots : (l : ℤ) (u k : ℕ) (xs : List (Option Node)) → sinking l (slots_from u k xs) ≡ any (sinks l) xs
unfolding any slots_from
sinking_slots l u k [] = refl
sinking_slots l u k (x ∷ xs) = ap (λ (c : Bool). sinks l x || c) (sinking_slots l u (suc k) xs)

module _ (b : Bench) (l : ℤ) where
  abbrev deep : ℕ → Bool
  deep w = any (sinks l) (interface b w).slots

  sinking_gather : (us : List ℕ) → sinking l (gather b us) ≡ any deep us
  unfolding any gather
  sinking_gather [] = refl
  sinking_gather (u ∷ us) = any_append (λ (t : ℕ × ℕ × Option Node). sinks l t.2) (slots_from u 0 (interface b u).slots) (gather b us) ∙ ap₂ ◌||◌ (sinking_slots l u 0 (interface b u).slots) (sinking_gather us)

  module _ (F : Frame b) (u : ℕ) (low : u < 8) (free : (interface b u).parent ≡ None) where
    abbrev under : ℕ → Bool
    under w = eqb (top b w) u && deep w

    self : top b u ≡ u
    self = climb_none 8 b u free

    under_yes : (w : ℕ) → top b w ≡ u → under w ≡ deep w
    under_yes w t = ap (λ (c : Bool). c && deep w) (eq-eqb (top b w) u t)

    units_tree : any under units ≡ any deep (tree 8 b u)
    units_tree = go (any under units) (any deep (tree 8 b u)) refl refl
      where
        no_tree : any under units ≡ false → any deep (tree 8 b u) ≡ false
        no_tree e = no_any deep (tree 8 b u) (λ w i. let r = in_tree b F 8 u w low i in sym (under_yes w (r.1 ∙ self)) ∙ any_no under units e (in_units w r.0))

        no_units : any deep (tree 8 b u) ≡ false → any under units ≡ false
        no_units e = no_any under units (λ w i. by_cases (ℕ_discrete (top b w) u)
            (λ (t : top b w ≡ u). under_yes w t ∙ any_no deep (tree 8 b u) e (subst (λ (x : ℕ). In w (tree 8 b x)) t (tree_in b F w (units_in w i))))
            (λ (t : top b w ≢ u). ap (λ (c : Bool). c && deep w) (ne_eqb (top b w) u t)))

        go : (x y : Bool) → any under units ≡ x → any deep (tree 8 b u) ≡ y → any under units ≡ any deep (tree 8 b u)
        go true true p q = p ∙ sym q
        go false y p q = p ∙ sym (no_tree p)
        go true false p q = no_units q ∙ sym q

    pub below_slots : below b u l ≡ (floored b u && sinking l (slots_of b u))
    unfolding below
    below_slots = ap (λ (c : Bool). floored b u && c) (units_tree ∙ sym (sinking_gather (tree 8 b u)))
