-- Touching handles are their words two by two; where one is left over, the handle that it goes with is stale. What members and touching handles are
-- refused by is the lower of each list's number, without "inside a blossom" for the touching ones. Assumes nothing.
use Rattle.std.specs.Prelude.{Option}
use Prim.Native.Nat.{ℕ, ◌%◌}
use mathlib.Core.Path.{◌≡◌, refl, sym, ◌∙◌, ap}
use mathlib.Core.Bool.{Bool, true, false, ◌||◌, not}
use mathlib.Core.List.{List, [], ◌∷◌}
use native.Mathlib.Omega.{arith}
use lib.ListN.{length}
use Rattle.ledger_spec.specs.Bench.{Handle, Bench, Node}
use Rattle.ledger_spec.specs.Look.{node_named}
use Rattle.ledger_spec.specs.Tests.{first, any, is_some, stale, foreign, has_parent, both}
use Rattle.bench_views.specs.View.{view}
use Rattle.bench_links.proofs.Finding.{out_unit}
use Rattle.bench_views.specs.Given.{nowhere, hand_given}
use Rattle.deed_circles.specs.Given.{hands_given, pairs_given}
use Rattle.refuse_circles.specs.Marks.{marks, list_mark, touch_mark, lower}
use Rattle.refuse_circles.specs.Parts.{nodes_tests}
use Rattle.refuse_circles.proofs.Any.{or_any, or_none, any_append}
use Rattle.refuse_circles.proofs.Lowest.{lower_marks}

-- ---- two by two
both_even : (ts : List ℕ) → (length ts % 2 ≡ 1 → ⊥) → both (pairs_given ts) ≡ hands_given ts
unfolding both pairs_given
both_even [] e = refl
both_even (x ∷ []) e = absurd (e refl)
both_even (x ∷ (y ∷ ts)) e = ap (λ (hs : List Handle). hand_given x ∷ (hand_given y ∷ hs)) (both_even ts (λ z. e (omega arith)))

both_odd : (p : Handle → Bool) → p nowhere ≡ true → (ts : List ℕ) → length ts % 2 ≡ 1 → any p (both (pairs_given ts)) ≡ true
unfolding both pairs_given any
both_odd p out [] e = absurd (omega arith)
both_odd p out (x ∷ []) e = or_any (p (hand_given x)) (any p (nowhere ∷ [])) (ap (λ (c : Bool). c || false) out)
both_odd p out (x ∷ (y ∷ ts)) e = let r = both_odd p out ts (omega arith) in
    or_any (p (hand_given x)) (any p (hand_given y ∷ both (pairs_given ts))) (or_any (p (hand_given y)) (any p (both (pairs_given ts))) r)

-- ---- a touching list's number
drop_11 : (a c e : Bool) → marks a c e ≡ 11 → 0 ≡ marks a c false
unfolding marks first
drop_11 true c e q = absurd (omega arith)
drop_11 false true e q = absurd (omega arith)
drop_11 false false e q = refl

keep_less : (a c e : Bool) → (marks a c e ≡ 11 → ⊥) → marks a c e ≡ marks a c false
unfolding marks first
keep_less true c e q = refl
keep_less false true e q = refl
keep_less false false true q = absurd (q refl)
keep_less false false false q = refl

stale_8 : (a c e : Bool) → a ≡ true → 8 ≡ marks a c e
unfolding marks first
stale_8 a c e q = rw q

abbrev inside : Bench → Handle → Bool
inside b h = has_parent (node_named b h)

module _ (b : List ℕ) (u : ℕ) (ts : List ℕ) where
  out_stale : stale (view b) nowhere ≡ true
  out_stale = ap (λ (o : Option Node). not (is_some o)) (out_unit b nowhere (omega arith))

  pub touch_odd : length ts % 2 ≡ 1 → 8 ≡ touch_mark (view b) u (both (pairs_given ts))
  touch_odd e = stale_8 _ (any (foreign (view b) u) (both (pairs_given ts))) false (both_odd (stale (view b)) out_stale ts e)

  module _ (even : length ts % 2 ≡ 1 → ⊥) (n : ℕ) (e : n ≡ list_mark (view b) u (hands_given ts)) where
    pub touch_inside : n ≡ 11 → 0 ≡ touch_mark (view b) u (both (pairs_given ts))
    touch_inside q = rw (both_even ts even) (drop_11 _ _ (any (inside (view b)) (hands_given ts)) (sym e ∙ q))

    pub touch_else : (n ≡ 11 → ⊥) → n ≡ touch_mark (view b) u (both (pairs_given ts))
    touch_else q = rw (both_even ts even) (e ∙ keep_less _ _ (any (inside (view b)) (hands_given ts)) (λ z. q (e ∙ z)))

-- ---- members and touching handles together
bare_marks : (a c e a' c' : Bool) → marks (a || a') (c || c') e ≡ lower (marks a c e) (marks a' c' false)
bare_marks a c e a' c' = ap (marks (a || a') (c || c')) (sym (or_none e)) ∙ lower_marks a c e a' c' false

pub both_lists : (b : Bench) (u : ℕ) (hs : List Handle) (ts : List (Handle × Handle)) → first (nodes_tests b u hs ts) ≡ lower (list_mark b u hs) (touch_mark b u (both ts))
unfolding marks
both_lists b u hs ts = rw (any_append (stale b) hs (both ts), any_append (foreign b u) hs (both ts))
    (bare_marks (any (stale b) hs) (any (foreign b u) hs) (any (inside b) hs) (any (stale b) (both ts)) (any (foreign b u) (both ts)))
