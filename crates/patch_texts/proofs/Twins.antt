-- A line finds a node by its serial: the node of the handle that was given out, or none where that is stale; either way a call answers the same.
-- Assumes nothing.
use Rattle.std.specs.Prelude.{None, Option, Some}
use Prim.Native.Nat.{ℕ, zero, suc}
use mathlib.Core.Path.{◌≡◌, refl, sym, ◌∙◌, ap, ap₂, subst}
use mathlib.Core.Logic.{◌≢◌, ◌⊎◌, inl, inr}
use mathlib.Core.Bool.{Bool, true, false, ◌||◌, not}
use mathlib.Core.List.{List, [], ◌∷◌, ◌++◌, map}
use native.Mathlib.Omega.{arith}
use native.Mathlib.Decide.{ℕ_discrete}
use lib.Dec.{ltb}
use lib.ListN.{length, get_or-map}
use Rattle.ledger_spec.specs.Bench.{Handle, State, Node, Bench}
use Rattle.ledger_spec.specs.Look.{slot_of, node_named}
use Rattle.ledger_spec.specs.Tests.{first, any, is_some, empty, outside, child, stale, foreign, is_defect, has_parent, twice, full, worn, both}
use Rattle.ledger_spec.specs.Refuse.{blossom_tests, expand_tests, state_tests}
use Rattle.ledger_spec.specs.Calls.{nobody, Call, Blossom, Expand, SetState}
use Rattle.ledger_spec.specs.Answers.{Answer, answer}
use Rattle.ledger_spec.specs.Lines.{named}
use Rattle.ledger_spec.specs.Knit.{In, here, there}
use Rattle.ledger_spec.specs.Facts.{Sound}
use Rattle.ledger_spec.proofs.Knit.{none_some}
use Rattle.ledger_spec.proofs.Passed.{node_has, has_node}
use Rattle.ledger_spec.proofs.Gathered.{held_unit}
use Rattle.ledger_spec.proofs.Holds.{holds}
use Rattle.ledger_laws.proofs.Answered.{tests_of, answer_number, refused}
use Rattle.bench_serials.proofs.Seeking.{named_none, named_one}
use Rattle.patch_laws.specs.Patch.{Table, nowhere, given}
use Rattle.patch_texts.specs.Page.{serial_at}
use Rattle.patch_texts.proofs.Firm.{at, Firm}

-- one handle, or two that name no node
abbrev pub Twin : Bench → Handle → Handle → Type 0
Twin b g h = (g ≡ h) ⊎ ((stale b g ≡ true) × (stale b h ≡ true))

module _ (b : Bench) (S : Sound b) where
  gone : (h : Handle) → node_named b h ≡ None → stale b h ≡ true
  gone h e = ap (λ (o : Option Node). not (is_some o)) e

  no_eighth : (k : ℕ) → node_named b (record { unit = 8; slot = 0; serial = k }) ≡ None
  no_eighth k = go (node_named b (record { unit = 8; slot = 0; serial = k })) refl
    where
      go : (o : Option Node) → node_named b (record { unit = 8; slot = 0; serial = k }) ≡ o → node_named b (record { unit = 8; slot = 0; serial = k }) ≡ None
      go None e = e
      go (Some n) e = absurd (omega (arith, held_unit b S.frame 8 0 n (node_has b (record { unit = 8; slot = 0; serial = k }) n e).stands))

  pub twin_of : (h : Handle) → Firm b h → Twin b (named b h.serial) h
  twin_of h f = go (node_named b h) refl
    where
      go : (o : Option Node) → node_named b h ≡ o → Twin b (named b h.serial) h
      go (Some n) e = let H = node_has b h n e in inl (named_one b h.serial S.frame S.sewn.knit h.unit h.slot n H.stands H.serial)
      go None e = inr (ap (stale b) (named_none b h.serial nowhere_else) ∙ gone (record { unit = 8; slot = 0; serial = h.serial }) (no_eighth h.serial), gone h e)
        where
          nowhere_else : (u s : ℕ) (x : Node) → slot_of b u s ≡ Some x → x.serial ≡ h.serial → ⊥
          nowhere_else u s x q z = place (ℕ_discrete u h.unit) (ℕ_discrete s h.slot)
            where
              is : node_named b (at u s h) ≡ Some x
              is = has_node b (at u s h) x (record { stands = q; serial = z })

              place : Dec (u ≡ h.unit) → Dec (s ≡ h.slot) → ⊥
              place (yes i) (yes j) = none_some e (sym (λ k. node_named b (record { unit = i k; slot = j k; serial = h.serial })) ∙ is)
              place (yes i) (no j) = none_some (f u s (λ k. j k.1)) is
              place (no i) j = none_some (f u s (λ k. i k.0)) is

  -- a number that was not given out names no node either
  never_given : named b 0 ≡ nowhere
  never_given = named_none b 0 (λ u s n e z. omega (arith, S.sewn.knit.low u s n e, z))

  given_or : (t : Table) (k : ℕ) → In (given t k) t ⊎ (given t k ≡ nowhere)
  given_or [] k = inr refl
  given_or (h ∷ t) zero = inl (here refl)
  given_or (h ∷ t) (suc k) = go (given_or t k)
    where
      go : In (given t k) t ⊎ (given t k ≡ nowhere) → In (given t k) (h ∷ t) ⊎ (given t k ≡ nowhere)
      go (inl i) = inl (there i)
      go (inr e) = inr e

  module _ (t : Table) (firm : (h : Handle) → In h t → Firm b h) where
    serial_is : (k : ℕ) → serial_at (map (λ (h : Handle). h.serial) t) k ≡ (given t k).serial
    serial_is k = get_or-map (λ (h : Handle). h.serial) t k nowhere

    pub twin_at : (k : ℕ) → Twin b (named b (serial_at (map (λ (h : Handle). h.serial) t) k)) (given t k)
    twin_at k = go (given_or t k)
      where
        go : In (given t k) t ⊎ (given t k ≡ nowhere) → Twin b (named b (serial_at (map (λ (h : Handle). h.serial) t) k)) (given t k)
        go (inl i) = subst (λ (n : ℕ). Twin b (named b n) (given t k)) (sym (serial_is k)) (twin_of (given t k) (firm (given t k) i))
        go (inr e) = inl (ap (named b) (serial_is k ∙ ap (λ (h : Handle). h.serial) e) ∙ never_given ∙ sym e)

-- ---- tests that stop at the stale one
first_stops : (ts rs rs' : List (Bool × ℕ)) (n : ℕ) → first (ts ++ ((true, n) ∷ rs)) ≡ first (ts ++ ((true, n) ∷ rs'))
unfolding first
first_stops [] rs rs' n = refl
first_stops (t ∷ ts) rs rs' n = ap (λ (k : ℕ). elim t.0 as (λ x. ℕ) [ true ↦ t.1 | false ↦ k ]) (first_stops ts rs rs' n)

first_some : (x : Bool) (k : ℕ) (ts : List (Bool × ℕ)) → first ts ≢ 0 → first ((x, suc k) ∷ ts) ≢ 0
unfolding first
first_some true k ts q e = omega (arith, e)
first_some false k ts q e = q e

first_true : (k : ℕ) (ts : List (Bool × ℕ)) → first ((true, suc k) ∷ ts) ≢ 0
unfolding first
first_true k ts e = omega (arith, e)

-- two calls refused by one number answer the same
same_refusal : (b : Bench) → Sound b → (c d : Call) → first (tests_of b c) ≢ 0 → first (tests_of b c) ≡ first (tests_of b d) → answer b c ≡ answer b d
same_refusal b S c d q e = refused b c (λ z. q (sym (answer_number b c (holds b S)) ∙ z)) ∙ ap by_number numbers ∙ sym (refused b d (λ z. q (e ∙ sym (answer_number b d (holds b S)) ∙ z)))
  where
    numbers : (answer b c).number ≡ (answer b d).number
    numbers = answer_number b c (holds b S) ∙ e ∙ sym (answer_number b d (holds b S))

    by_number : ℕ → Answer
    by_number n = record { number = n; node = nobody; notices = []; bench = b }

module _ (b : Bench) (S : Sound b) (u : ℕ) where
  pub expand_twins : (g h : Handle) → Twin b g h → answer b (Expand u g) ≡ answer b (Expand u h)
  unfolding tests_of expand_tests
  expand_twins g h (inl e) = ap (λ (x : Handle). answer b (Expand u x)) e
  expand_twins g h (inr e) = same_refusal b S (Expand u g) (Expand u h) (λ z. some_test (sym (tests g e.0) ∙ z)) (tests g e.0 ∙ same ∙ sym (tests h e.1))
    where
      left : Handle → List (Bool × ℕ)
      left x = (foreign b u x, 9) ∷ (is_defect (node_named b x), 10) ∷ (has_parent (node_named b x), 11) ∷ []

      tests : (x : Handle) → stale b x ≡ true → first (expand_tests b u x) ≡ first ((outside u, 3) ∷ (child b u, 4) ∷ (true, 8) ∷ left x)
      tests x k = ap (λ (c : Bool). first ((outside u, 3) ∷ (child b u, 4) ∷ (c, 8) ∷ left x)) k

      some_test : first ((outside u, 3) ∷ (child b u, 4) ∷ (true, 8) ∷ left g) ≢ 0
      some_test = first_some (outside u) 2 _ (first_some (child b u) 3 _ (first_true 7 _))

      same : first ((outside u, 3) ∷ (child b u, 4) ∷ (true, 8) ∷ left g) ≡ first ((outside u, 3) ∷ (child b u, 4) ∷ (true, 8) ∷ left h)
      same = first_stops ((outside u, 3) ∷ (child b u, 4) ∷ []) (left g) (left h) 8

  pub state_twins : (g h : Handle) (s : State) → Twin b g h → answer b (SetState u g s) ≡ answer b (SetState u h s)
  unfolding tests_of state_tests
  state_twins g h s (inl e) = ap (λ (x : Handle). answer b (SetState u x s)) e
  state_twins g h s (inr e) = same_refusal b S (SetState u g s) (SetState u h s) (λ z. some_test (sym (tests g e.0) ∙ z)) (tests g e.0 ∙ same ∙ sym (tests h e.1))
    where
      left : Handle → List (Bool × ℕ)
      left x = (foreign b u x, 9) ∷ (has_parent (node_named b x), 11) ∷ []

      tests : (x : Handle) → stale b x ≡ true → first (state_tests b u x) ≡ first ((outside u, 3) ∷ (child b u, 4) ∷ (true, 8) ∷ left x)
      tests x k = ap (λ (c : Bool). first ((outside u, 3) ∷ (child b u, 4) ∷ (c, 8) ∷ left x)) k

      some_test : first ((outside u, 3) ∷ (child b u, 4) ∷ (true, 8) ∷ left g) ≢ 0
      some_test = first_some (outside u) 2 _ (first_some (child b u) 3 _ (first_true 7 _))

      same : first ((outside u, 3) ∷ (child b u, 4) ∷ (true, 8) ∷ left g) ≡ first ((outside u, 3) ∷ (child b u, 4) ∷ (true, 8) ∷ left h)
      same = first_stops ((outside u, 3) ∷ (child b u, 4) ∷ []) (left g) (left h) 8

  -- ---- members, pair by pair
  or_true : (x : Bool) → (x || true) ≡ true
  or_true true = refl
  or_true false = refl

  module _ {A : Type 0} (f g : A → Handle) (twin : (x : A) → Twin b (f x) (g x)) where
    any_stale : (l : List A) → (map f l ≡ map g l) ⊎ ((any (stale b) (map f l ++ []) ≡ true) × (any (stale b) (map g l ++ []) ≡ true))
    unfolding any
    any_stale [] = inl refl
    any_stale (x ∷ xs) = go (twin x) (any_stale xs)
      where
        go : Twin b (f x) (g x) → (map f xs ≡ map g xs) ⊎ ((any (stale b) (map f xs ++ []) ≡ true) × (any (stale b) (map g xs ++ []) ≡ true))
            → (map f (x ∷ xs) ≡ map g (x ∷ xs)) ⊎ ((any (stale b) (map f (x ∷ xs) ++ []) ≡ true) × (any (stale b) (map g (x ∷ xs) ++ []) ≡ true))
        go (inl e) (inl r) = inl (ap₂ {C = List Handle} ◌∷◌ e r)
        go (inl e) (inr r) = inr (ap (λ (c : Bool). stale b (f x) || c) r.0 ∙ or_true (stale b (f x)), ap (λ (c : Bool). stale b (g x) || c) r.1 ∙ or_true (stale b (g x)))
        go (inr e) r = inr (ap (λ (c : Bool). c || any (stale b) (map f xs ++ [])) e.0, ap (λ (c : Bool). c || any (stale b) (map g xs ++ [])) e.1)

    as_many : (l : List A) → length (map f l) ≡ length (map g l)
    as_many [] = refl
    as_many (x ∷ xs) = ap suc (as_many xs)

    as_empty : (l : List A) → empty (map f l) ≡ empty (map g l)
    as_empty [] = refl
    as_empty (x ∷ xs) = refl

    pub blossom_twins : (l : List A) → answer b (Blossom u (map f l) []) ≡ answer b (Blossom u (map g l) [])
    unfolding tests_of blossom_tests both
    blossom_twins l = go (any_stale l)
      where
        before : List Handle → List (Bool × ℕ)
        before hs = (outside u, 3) ∷ (child b u, 4) ∷ (empty hs || ltb 64 (length hs), 6) ∷ (false, 7) ∷ []

        left : List Handle → List (Bool × ℕ)
        left hs = (any (foreign b u) (hs ++ []), 9) ∷ (any (λ h. has_parent (node_named b h)) hs, 11) ∷ (twice hs, 13) ∷ (full b u, 14) ∷ (worn b, 15) ∷ []

        tests : (hs : List Handle) → any (stale b) (hs ++ []) ≡ true → first (blossom_tests b u hs []) ≡ first (before hs ++ ((true, 8) ∷ left hs))
        tests hs k = ap (λ (c : Bool). first (before hs ++ ((c, 8) ∷ left hs))) k

        some_test : (hs : List Handle) → first (before hs ++ ((true, 8) ∷ left hs)) ≢ 0
        some_test hs = first_some (outside u) 2 _ (first_some (child b u) 3 _ (first_some (empty hs || ltb 64 (length hs)) 5 _ (first_some false 6 _ (first_true 7 _))))

        same : first (before (map f l) ++ ((true, 8) ∷ left (map f l))) ≡ first (before (map g l) ++ ((true, 8) ∷ left (map g l)))
        same = (λ i. first ((outside u, 3) ∷ (child b u, 4) ∷ (as_empty l i || ltb 64 (as_many l i), 6) ∷ (false, 7) ∷ (true, 8) ∷ left (map f l))) ∙ first_stops (before (map g l)) (left (map f l)) (left (map g l)) 8

        go : (map f l ≡ map g l) ⊎ ((any (stale b) (map f l ++ []) ≡ true) × (any (stale b) (map g l ++ []) ≡ true)) → answer b (Blossom u (map f l) []) ≡ answer b (Blossom u (map g l) [])
        go (inl e) = ap (λ (hs : List Handle). answer b (Blossom u hs [])) e
        go (inr e) = same_refusal b S (Blossom u (map f l) []) (Blossom u (map g l) []) (λ z. some_test (map f l) (sym (tests (map f l) e.0) ∙ z)) (tests (map f l) e.0 ∙ same ∙ sym (tests (map g l) e.1))
