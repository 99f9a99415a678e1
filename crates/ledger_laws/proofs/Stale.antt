-- What a bench answers about a handle that names no present node: 8 to every read of a node, no to belonging, and to every call that names it 8 or a
-- lower number. Assumes nothing.
use Rattle.std.specs.Prelude.{None}
use Prim.Native.Nat.{ℕ, zero, suc, ◌≤◌}
use mathlib.Core.Path.{◌≡◌, refl, sym, ◌∙◌, ap}
use mathlib.Core.Logic.{◌≢◌}
use mathlib.Core.Bool.{Bool, true, false, ◌&&◌, ◌||◌, not, true≢false}
use mathlib.Core.List.{List, [], ◌∷◌, ◌++◌}
use native.Mathlib.Omega.{arith}
use lib.Dec.{eqb, ltb}
use lib.ListN.{length}
use lib.IntN.{pos}
use Rattle.ledger_spec.specs.Bench.{Handle, Bench}
use Rattle.ledger_spec.specs.Look.{node_named}
use Rattle.ledger_spec.specs.Tests.{first, any, is_some, empty, outside, child, stale, foreign, both}
use Rattle.ledger_spec.specs.Refuse.{blossom_tests, expand_tests, state_tests}
use Rattle.ledger_spec.specs.Calls.{nobody, Call, Defect, Blossom, Expand, SetState, Grow, Fuse, Clear, Mark}
use Rattle.ledger_spec.specs.Reads.{said, node_tests, value_of, belongs}
use Rattle.ledger_spec.specs.Walk.{outer_of, below_tests, below_of, first_vertex, size_tests, vertices_into}
use Rattle.ledger_spec.specs.Sound.{sound}
use Rattle.ledger_spec.specs.Answers.{answer}
use Rattle.ledger_spec.specs.Knit.{In, here, there}
use Rattle.ledger_spec.proofs.Lists.{not_in_nil}
use Rattle.ledger_laws.proofs.Answered.{tests_of, answer_number}
use Rattle.ledger_laws.proofs.Made.{names}

-- 8, or a lower number that is not 0
pub record Refused (n : ℕ) : Type 0 where
  pub some_number : n ≢ 0
  pub at_most : n ≤ 8

pub record Nameless (b : Bench) (h : Handle) : Type 0 where
  pub value : value_of b h ≡ (8, pos 0)
  pub outer : outer_of b h ≡ (8, (nobody, 0))
  pub under : below_of b h ≡ (8, nobody)
  pub vertex : first_vertex b h ≡ (8, 0)
  pub vertices : (out : List ℕ) → vertices_into b h out ≡ (8, (0, out))
  pub belonging : (u : ℕ) → (belongs b u h).1 ≡ false
  pub calls : sound b ≡ true → (c : Call) → In h (names c) → Refused (answer b c).number

said_eight : {A : Type 0} (n : ℕ) (v z : A) → n ≡ 8 → said n v z ≡ (8, z)
unfolding said
said_eight n v z e = ap (λ (m : ℕ). said m v z) e

-- a test that holds at 8 behind tests of lower numbers
low_then : (t : Bool) (n : ℕ) (ts : List (Bool × ℕ)) → n ≢ 0 → n ≤ 8 → Refused (first ts) → Refused (first ((t, n) ∷ ts))
unfolding first
low_then true n ts q l R = record { some_number = q; at_most = l }
low_then false n ts q l R = R

at_eight : (t : Bool) (ts : List (Bool × ℕ)) → t ≡ true → Refused (first ((t, 8) ∷ ts))
unfolding first
at_eight true ts e = record { some_number = λ z. omega (arith, z); at_most = omega arith }
at_eight false ts e = absurd (true≢false (sym e))

any_yes : (p : Handle → Bool) (h : Handle) (hs : List Handle) → In h hs → p h ≡ true → any p hs ≡ true
unfolding any
any_yes p h hs (here {g} {hs = tl} k) e = ap (λ (t : Bool). t || any p tl) (ap p (sym k) ∙ e)
any_yes p h hs (there {g} {hs = tl} i) e = ap (λ (t : Bool). p g || t) (any_yes p h tl i e) ∙ or_true (p g)
  where
    or_true : (t : Bool) → (t || true) ≡ true
    or_true true = refl
    or_true false = refl

module _ (b : Bench) (h : Handle) (e : node_named b h ≡ None) where
  is_stale : stale b h ≡ true
  is_stale = ap (λ o. not (is_some o)) e

  first_eight : (t : Bool) (ts : List (Bool × ℕ)) → t ≡ true → first ((t, 8) ∷ ts) ≡ 8
  unfolding first
  first_eight true ts z = refl
  first_eight false ts z = absurd (true≢false (sym z))

  node_eight : first (node_tests b h) ≡ 8
  unfolding node_tests
  node_eight = first_eight (stale b h) [] is_stale

  not_here : (t : Bool) → (not (stale b h) && t) ≡ false
  not_here t = ap (λ (s : Bool). not s && t) is_stale

  said_false : (n : ℕ) (t : Bool) → t ≡ false → (said n t false).1 ≡ false
  unfolding said
  said_false zero t z = z
  said_false (suc n) t z = refl

  tests_refused : (c : Call) → In h (names c) → Refused (first (tests_of b c))
  unfolding names tests_of blossom_tests expand_tests state_tests
  tests_refused (Defect u v) i = absurd (not_in_nil i)
  tests_refused (Blossom u hs ts) i =
      low_then (outside u) 3 _ (λ z. omega (arith, z)) (omega arith)
      (low_then (child b u) 4 _ (λ z. omega (arith, z)) (omega arith)
      (low_then (empty hs || ltb 64 (length hs)) 6 _ (λ z. omega (arith, z)) (omega arith)
      (low_then (not (empty ts) && not (eqb (length ts) (length hs))) 7 _ (λ z. omega (arith, z)) (omega arith)
      (at_eight (any (stale b) (hs ++ both ts)) _ (any_yes (stale b) h (hs ++ both ts) i is_stale)))))
  tests_refused (Expand u g) i =
      low_then (outside u) 3 _ (λ z. omega (arith, z)) (omega arith) (low_then (child b u) 4 _ (λ z. omega (arith, z)) (omega arith) (at_eight (stale b g) _ (same g i)))
    where
      same : (g : Handle) → In h (g ∷ []) → stale b g ≡ true
      same g (here k) = ap (stale b) (sym k) ∙ is_stale
      same g (there j) = absurd (not_in_nil j)
  tests_refused (SetState u g s) i =
      low_then (outside u) 3 _ (λ z. omega (arith, z)) (omega arith) (low_then (child b u) 4 _ (λ z. omega (arith, z)) (omega arith) (at_eight (stale b g) _ (same g i)))
    where
      same : (g : Handle) → In h (g ∷ []) → stale b g ≡ true
      same g (here k) = ap (stale b) (sym k) ∙ is_stale
      same g (there j) = absurd (not_in_nil j)
  tests_refused (Grow u l) i = absurd (not_in_nil i)
  tests_refused (Fuse p l r) i = absurd (not_in_nil i)
  tests_refused (Clear u) i = absurd (not_in_nil i)
  tests_refused (Mark u k) i = absurd (not_in_nil i)

  pub nameless : Nameless b h
  unfolding value_of outer_of below_of first_vertex vertices_into belongs below_tests size_tests
  nameless = record {
    value = said_eight _ _ (pos 0) node_eight;
    outer = said_eight _ _ (nobody, 0) node_eight;
    under = said_eight _ _ nobody (first_eight (stale b h) _ is_stale);
    vertex = said_eight _ _ 0 node_eight;
    vertices = λ out. said_eight _ _ (0, out) (first_eight (stale b h) _ is_stale);
    belonging = λ u. said_false _ _ (not_here (not (foreign b u h)));
    calls = λ z c i. let R = tests_refused c i in let n = answer_number b c z in record { some_number = λ y. R.some_number (sym n ∙ y); at_most = omega (arith, n, R.at_most) };
  }
