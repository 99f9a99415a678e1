-- The tests of add blossom are those of its parts, one after the other: a part that refuses gives the number, and one that does not leaves it to the
-- next. Assumes nothing.
use Prim.Native.Nat.{ℕ}
use mathlib.Core.Path.{◌≡◌, refl, sym, ◌∙◌, ap}
use mathlib.Core.Logic.{◌≢◌}
use mathlib.Core.Bool.{Bool, true, false}
use mathlib.Core.List.{List, [], ◌∷◌, ◌++◌}
use Rattle.ledger_spec.specs.Bench.{Handle, Bench}
use Rattle.ledger_spec.specs.Tests.{first, twice}
use Rattle.ledger_spec.specs.Refuse.{unit_tests, blossom_tests}
use Rattle.ledger_spec.proofs.Passed.{Failed, passed, Open}
use Rattle.ledger_spec.proofs.Accepted.{clear_passed}
use Rattle.refuse_circles.specs.Parts.{shape_tests, nodes_tests, twice_tests}
use Rattle.refuse_calls.specs.Room.{room_tests}

-- ---- one list of tests after another
stop : (xs ys : List (Bool × ℕ)) → first xs ≢ 0 → first (xs ++ ys) ≡ first xs
unfolding first
stop [] ys q = absurd (q refl)
stop (t ∷ ts) ys q = go t.0 refl (stop ts ys)
  where
    won : ℕ → Bool → ℕ
    won n c = elim c [ true ↦ t.1 | false ↦ n ]

    go : (c : Bool) → t.0 ≡ c → (first ts ≢ 0 → first (ts ++ ys) ≡ first ts) → won (first (ts ++ ys)) t.0 ≡ won (first ts) t.0
    go true e ih = rw e
    go false e ih = rw e (ih (λ z. q (ap (won (first ts)) e ∙ z)))

on : (xs ys : List (Bool × ℕ)) → Failed xs → first (xs ++ ys) ≡ first ys
unfolding first
on [] ys f = refl
on (t ∷ ts) ys f = ap (λ (c : Bool). elim c [ true ↦ t.1 | false ↦ first (ts ++ ys) ]) f.0 ∙ on ts ys f.1

-- ---- the parts
module _ (b : Bench) (u : ℕ) (hs : List Handle) (ts : List (Handle × Handle)) where
  abbrev whole : ℕ
  whole = first (blossom_tests b u hs ts)

  abbrev late : List (Bool × ℕ)
  late = twice_tests hs ++ room_tests b u

  abbrev given : List (Bool × ℕ)
  given = nodes_tests b u hs ts ++ late

  abbrev listed : List (Bool × ℕ)
  listed = shape_tests hs ts ++ given

  in_parts : blossom_tests b u hs ts ≡ unit_tests b u ++ listed
  unfolding blossom_tests unit_tests
  in_parts = refl

  module _ (n : ℕ) (e : n ≡ first (unit_tests b u)) where
    pub by_unit : n ≢ 0 → n ≡ whole
    by_unit q = e ∙ sym (ap first in_parts ∙ stop (unit_tests b u) listed (λ z. q (e ∙ z)))

    module _ (z : n ≡ 0) where
      to_lists : whole ≡ first listed
      unfolding unit_tests
      to_lists = ap first in_parts ∙ on (unit_tests b u) listed (passed (unit_tests b u) tt (sym e ∙ z))

      pub named : Open b u
      named = clear_passed b u (sym e ∙ z)

      module _ (m : ℕ) (f : m ≡ first (shape_tests hs ts)) where
        pub by_shape : m ≢ 0 → m ≡ whole
        by_shape q = f ∙ sym (to_lists ∙ stop (shape_tests hs ts) given (λ y. q (f ∙ y)))

        module _ (y : m ≡ 0) where
          to_nodes : whole ≡ first given
          to_nodes = to_lists ∙ on (shape_tests hs ts) given (passed (shape_tests hs ts) tt (sym f ∙ y))

          module _ (k : ℕ) (g : k ≡ first (nodes_tests b u hs ts)) where
            pub by_nodes : k ≢ 0 → k ≡ whole
            by_nodes q = g ∙ sym (to_nodes ∙ stop (nodes_tests b u hs ts) late (λ x. q (g ∙ x)))

            module _ (x : k ≡ 0) where
              to_late : whole ≡ first late
              to_late = to_nodes ∙ on (nodes_tests b u hs ts) late (passed (nodes_tests b u hs ts) tt (sym g ∙ x))

              pub by_twice : (c : Bool) → c ≡ twice hs → c ≡ true → 13 ≡ whole
              unfolding first
              by_twice c r t = sym (to_late ∙ ap (λ (d : Bool). elim d [ true ↦ 13 | false ↦ first (room_tests b u) ]) (sym r ∙ t))

              pub by_room : (c : Bool) → c ≡ twice hs → c ≡ false → (r : ℕ) → r ≡ first (room_tests b u) → r ≡ whole
              unfolding first
              by_room c w t r d = d ∙ sym (to_late ∙ ap (λ (a : Bool). elim a [ true ↦ 13 | false ↦ first (room_tests b u) ]) (sym w ∙ t))
