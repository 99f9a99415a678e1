-- The tests in their order: those of the interface, the check, the room. Assumes nothing.
use Prim.Native.Nat.{ℕ, zero, suc}
use mathlib.Core.Path.{◌≡◌, refl, ap, sym, ◌∙◌}
use mathlib.Core.Bool.{Bool, true, false, not}
use mathlib.Core.List.{List, [], ◌∷◌, ◌++◌}
use native.Mathlib.Omega.{arith}
use lib.Dec.{ltb}
use lib.ListN.{length, drop}
use borrow.Author.Tests.{eq-eqb, ne_eqb}
use Rattle.ledger_spec.specs.Bench.{Bench}
use Rattle.ledger_spec.specs.Tests.{first, outside, child}
use Rattle.ledger_spec.specs.Refuse.{unit_tests}
use Rattle.ledger_spec.specs.Reads.{said}
use Rattle.ledger_spec.specs.Check.{verdict, check_of}
use Rattle.check_sound.specs.declared.Checked.{Checked}
use Rattle.check_sound.specs.Judged.{shown_check}
use Rattle.picture_spec.specs.Picture.{picture, unsound, picture_tests, picture_into}
use Rattle.picture_sound.specs.Fitted.{fitted}

-- ---- two tests before others
stopped : (x y : Bool) (ts : List (Bool × ℕ)) → (first ((x, 3) ∷ (y, 4) ∷ []) ≡ 0 → ⊥) → first ((x, 3) ∷ (y, 4) ∷ ts) ≡ first ((x, 3) ∷ (y, 4) ∷ [])
unfolding first
stopped true y ts n = refl
stopped false true ts n = refl
stopped false false ts n = absurd (n refl)

passed : (x y : Bool) (ts : List (Bool × ℕ)) → first ((x, 3) ∷ (y, 4) ∷ []) ≡ 0 → first ((x, 3) ∷ (y, 4) ∷ ts) ≡ first ts
unfolding first
passed true y ts e = let z : ◌≡◌ {A = ℕ} 3 0 = e in absurd (let q : ◌≡◌ {A = ℕ} 0 1 = cc in omega arith)
passed false true ts e = let z : ◌≡◌ {A = ℕ} 4 0 = e in absurd (let q : ◌≡◌ {A = ℕ} 0 1 = cc in omega arith)
passed false false ts e = refl

two : (t : Bool) → first ((true, 24) ∷ (t, 19) ∷ []) ≡ 24
unfolding first
two t = refl

last : (t : Bool) (z w : ℕ × List ℕ) → elim t [ true ↦ (19, z) | false ↦ (0, w) ] ≡ said (first ((false, 24) ∷ (t, 19) ∷ [])) w z
unfolding first said
last true z w = refl
last false z w = refl

said_no : {A : Type 0} (v z : A) (n : ℕ) → (n ≡ 0 → ⊥) → (n, z) ≡ said n v z
unfolding said
said_no v z zero f = absurd (f refl)
said_no v z (suc n) f = refl

said_zero : {A : Type 0} (v z : A) (n : ℕ) → n ≡ 0 → said n v z ≡ (0, v)
unfolding said
said_zero v z n e = rw (e, said)

module _ (b : Bench) (u : ℕ) where
  module _ (r : Checked) (C : shown_check r ≡ check_of b u) (p : first (unit_tests b u) ≡ 0) where
    pub verdict_said : r.verdict ≡ (verdict b u).0
    unfolding check_of
    verdict_said = ap (λ (w : ℕ × (ℕ × ℕ)). w.1.0) (C ∙ said_zero (verdict b u) (0, 0) (first (unit_tests b u)) p)

  module _ (a : Bool) (out : List ℕ) where
    abbrev room : Bool
    room = ltb (length out) (length (picture b u a))

    abbrev later : List (Bool × ℕ)
    later = (unsound b u, 24) ∷ (room, 19) ∷ []

    abbrev full : ℕ × List ℕ
    full = (length (picture b u a), picture b u a ++ drop (length (picture b u a)) out)

    by_tests : said (first (picture_tests b u a out)) full (0, out) ≡ picture_into b u a out
    unfolding picture_into
    by_tests = refl

    stopped_here : (first (unit_tests b u) ≡ 0 → ⊥) → first (picture_tests b u a out) ≡ first (unit_tests b u)
    unfolding picture_tests unit_tests
    stopped_here = stopped (outside u) (child b u) later

    passed_here : first (unit_tests b u) ≡ 0 → first (picture_tests b u a out) ≡ first later
    unfolding picture_tests unit_tests
    passed_here = passed (outside u) (child b u) later

    pub into_no : (n : ℕ) → n ≡ first (unit_tests b u) → (n ≡ 0 → ⊥) → (n, (0, out)) ≡ picture_into b u a out
    into_no n e z =
        said_no full (0, out) n z ∙ ap (λ (k : ℕ). said k full (0, out)) (e ∙ sym (stopped_here (λ q. z (e ∙ q)))) ∙ by_tests

    module _ (p : first (unit_tests b u) ≡ 0) where
      by_later : said (first later) full (0, out) ≡ picture_into b u a out
      by_later = ap (λ (k : ℕ). said k full (0, out)) (sym (passed_here p)) ∙ by_tests

      pub into_unsound : ((verdict b u).0 ≡ 0 → ⊥) → (24, (0, out)) ≡ picture_into b u a out
      into_unsound z =
          let n : unsound b u ≡ true = ap not (ne_eqb (verdict b u).0 0 z) in
          let f : first later ≡ 24 = ap (λ (t : Bool). first ((t, 24) ∷ (room, 19) ∷ [])) n ∙ two room in
          said_no full (0, out) 24 (λ q. omega (arith, q)) ∙ ap (λ (k : ℕ). said k full (0, out)) (sym f) ∙ by_later

      pub into_written : (verdict b u).0 ≡ 0 → (w : ℕ × (ℕ × List ℕ)) → w ≡ fitted (picture b u a) out → w ≡ picture_into b u a out
      unfolding fitted
      into_written z w e =
          let n : unsound b u ≡ false = ap not (eq-eqb (verdict b u).0 0 z) in
          e ∙ last room (0, out) full ∙ ap (λ (t : Bool). said (first ((t, 24) ∷ (room, 19) ∷ [])) full (0, out)) (sym n) ∙ by_later
