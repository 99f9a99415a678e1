-- Along the slots of one interface and then the rest: how many hold a node, and which is the next. By induction on the slots. Assumes nothing.
use Rattle.std.specs.Prelude.{None, Option, Some}
use Prim.Native.Nat.{ℕ, zero, suc, ◌+◌, ◌<◌, ◌≤◌}
use mathlib.Core.Path.{◌≡◌, refl, ap, ap₂, sym, ◌∙◌}
use mathlib.Core.Bool.{Bool, true, false}
use mathlib.Core.List.{List, [], ◌∷◌, ◌++◌}
use native.Mathlib.Nat.{add-zero}
use native.Mathlib.Omega.{arith}
use lib.Dec.{leb}
use lib.ListN.{length, get_or}
use borrow.Author.Tests.{leb-true, le-leb}
use Rattle.slot_map.specs.Slots.{digit, count_to}
use Rattle.slot_map.proofs.Counts.{count_front}
use Rattle.bench_words.specs.Codec.{pick}
use Rattle.ledger_spec.specs.Bench.{Handle, Node}
use Rattle.ledger_spec.specs.Tests.{is_some}
use Rattle.ledger_spec.specs.Reads.{slots_from, as_handle}
use Rattle.read_present.specs.Present.{one, present_in, or_else, next_from}

abbrev Entry : Type 0
Entry = ℕ × ℕ × Option Node

-- ---- how many
one_digit : (x : Option Node) → one x ≡ digit (is_some x)
one_digit None = refl
one_digit (Some n) = refl

pub present_slots : (u c : ℕ) (xs : List (Option Node)) (ts : List Entry) → present_in (slots_from u c xs ++ ts) ≡ count_to (λ s. is_some (get_or xs s None)) (length xs) + present_in ts
unfolding present_in slots_from count_to
present_slots u c [] ts = omega arith
present_slots u c (x ∷ xs) ts =
    omega (arith, one_digit x, present_slots u (suc c) xs ts, count_front (λ s. is_some (get_or (x ∷ xs) s None)) (length xs))

-- ---- the next
-- a slot that is before the index or empty is passed over
nothing : (k i u c : ℕ) (x : Option Node) → (k ≤ i → x ≡ None) → pick (leb k i) (as_handle (u, c, x)) None ≡ None
nothing k i u c x h = go (leb k i) refl
  where
    go : (t : Bool) → leb k i ≡ t → pick t (as_handle (u, c, x)) None ≡ None
    go true e = ap (λ (o : Option Node). as_handle (u, c, o)) (h (leb-true k i e))
    go false e = refl

pub next_none : (i k u c : ℕ) (xs : List (Option Node)) (ts : List Entry) → ((s : ℕ) → s < length xs → k ≤ i + s → get_or xs s None ≡ None) → next_from i k (slots_from u c xs ++ ts) ≡ next_from (i + length xs) k ts
unfolding next_from slots_from
next_none i k u c [] ts h = ap (λ (n : ℕ). next_from n k ts) (sym (add-zero i))
next_none i k u c (x ∷ xs) ts h =
    let e : suc i + length xs ≡ i + length (x ∷ xs) = omega arith in
    ap (λ (o : Option Handle). or_else o i (next_from (suc i) k (slots_from u (suc c) xs ++ ts))) (nothing k i u c x (λ l. h 0 (omega arith) (omega arith)))
    ∙ next_none (suc i) k u (suc c) xs ts (λ s l m. h (suc s) (omega arith) (omega arith)) ∙ ap (λ (n : ℕ). next_from n k ts) e

pub next_found : (i k u c : ℕ) (xs : List (Option Node)) (ts : List Entry) (t : ℕ) (n : Node) → t < length xs → k ≤ i + t → get_or xs t None ≡ Some n → ((s : ℕ) → s < t → k ≤ i + s → get_or xs s None ≡ None)
    → next_from i k (slots_from u c xs ++ ts) ≡ (i + t, Some (record { unit = u; slot = c + t; serial = n.serial }))
unfolding next_from slots_from
next_found i k u c [] ts t n l m e h = absurd (omega arith)
next_found i k u c (x ∷ xs) ts zero n l m e h =
    ap₂ (λ (t : Bool) (o : Option Node). or_else (pick t (as_handle (u, c, o)) None) i (next_from (suc i) k (slots_from u (suc c) xs ++ ts))) (le-leb k i (omega arith)) e
    ∙ ap₂ (λ (a b : ℕ). (a, Some (record { unit = u; slot = b; serial = n.serial }))) (sym (add-zero i)) (sym (add-zero c))
next_found i k u c (x ∷ xs) ts (suc t) n l m e h =
    let a : suc i + t ≡ i + suc t = omega arith in
    let b : suc c + t ≡ c + suc t = omega arith in
    ap (λ (o : Option Handle). or_else o i (next_from (suc i) k (slots_from u (suc c) xs ++ ts))) (nothing k i u c x (λ q. h 0 (omega arith) (omega arith)))
    ∙ next_found (suc i) k u (suc c) xs ts t n (omega arith) (omega arith) e (λ s ls ms. h (suc s) (omega arith) (omega arith))
    ∙ ap₂ (λ (x y : ℕ). (x, Some (record { unit = u; slot = y; serial = n.serial }))) a b
