-- A blossom whose pairs are its members is the blossom with no touching list: the same tests hold, and the circle is the same. Assumes nothing.
use Prim.Native.Nat.{ℕ}
use mathlib.Core.Path.{◌≡◌, refl, sym, ◌∙◌, ap}
use mathlib.Core.Bool.{Bool, true, false, ◌&&◌, ◌||◌, not}
use mathlib.Core.List.{List, [], ◌∷◌, ◌++◌, map, append-nil}
use lib.Dec.{eqb}
use lib.ListN.{length, length-map}
use borrow.Author.Tests.{eq-eqb}
use Rattle.ledger_spec.specs.Bench.{Handle, Member, Bench}
use Rattle.ledger_spec.specs.Tests.{first, any, empty, stale, foreign, both}
use Rattle.ledger_spec.specs.Refuse.{blossom_tests}
use Rattle.ledger_spec.specs.Deeds.{new_handle, circle, add_blossom}
use Rattle.ledger_spec.specs.Calls.{Reply, settle, Blossom, blossom_call, perform}
use Rattle.ledger_spec.specs.Notices.{tells}
use Rattle.ledger_spec.specs.Answers.{Answer, whole, broken, answer}
use Rattle.ledger_spec.specs.Sound.{sound}
use Rattle.ledger_spec.specs.Lines.{LineAnswer, shown, calls}

abbrev pub twin : Handle → Handle × Handle
twin h = (h, h)

-- ---- the tests

again : (a b : Bool) → a || (a || b) ≡ a || b
again true b = refl
again false b = refl

same_or : (a : Bool) → a || a ≡ a
same_or true = refl
same_or false = refl

or_assoc : (a b c : Bool) → (a || b) || c ≡ a || (b || c)
or_assoc true b c = refl
or_assoc false b c = refl

any_append : (p : Handle → Bool) (hs gs : List Handle) → any p (hs ++ gs) ≡ any p hs || any p gs
unfolding any
any_append p [] gs = refl
any_append p (h ∷ hs) gs = ap (λ (x : Bool). p h || x) (any_append p hs gs) ∙ sym (or_assoc (p h) (any p hs) (any p gs))

any_twins : (p : Handle → Bool) (hs : List Handle) → any p (both (map twin hs)) ≡ any p hs
unfolding any both
any_twins p [] = refl
any_twins p (h ∷ hs) = again (p h) (any p (both (map twin hs))) ∙ ap (λ (x : Bool). p h || x) (any_twins p hs)

any_same : (p : Handle → Bool) (hs : List Handle) → any p (hs ++ both []) ≡ any p (hs ++ both (map twin hs))
unfolding both
any_same p hs =
    ap (any p) (append-nil hs) ∙ sym (any_append p hs (both (map twin hs)) ∙ ap (λ (x : Bool). any p hs || x) (any_twins p hs) ∙ same_or (any p hs))

as_many : (hs : List Handle) → false ≡ (not (empty (map twin hs)) && not (eqb (length (map twin hs)) (length hs)))
as_many [] = refl
as_many (h ∷ hs) = sym (ap not (eq-eqb (length (map twin (h ∷ hs))) (length (h ∷ hs)) (length-map (h ∷ hs) twin)))

-- ---- the circle

same_circle : (hs : List Handle) → circle hs [] ≡ circle hs (map twin hs)
unfolding circle
same_circle [] = refl
same_circle (h ∷ hs) = ap (λ (ms : List Member). record { node = h; touch = (h, h) } ∷ ms) (same_circle hs)

-- ---- the call

module _ (b : Bench) (u : ℕ) (hs : List Handle) where
  same_tests : first (blossom_tests b u hs []) ≡ first (blossom_tests b u hs (map twin hs))
  unfolding blossom_tests
  same_tests = rw (any_same (stale b) hs, any_same (foreign b u) hs, ← as_many hs)

  same_deed : add_blossom b u hs [] ≡ add_blossom b u hs (map twin hs)
  unfolding add_blossom
  same_deed = rw (same_circle hs)

  same_reply : perform b (Blossom u hs []) ≡ perform b (Blossom u hs (map twin hs))
  unfolding perform blossom_call
  same_reply = λ i. settle (same_tests i) b (same_deed i) (new_handle b u)

  pub same_calls : (v : ℕ) → calls b v (Blossom u hs []) ≡ calls b v (Blossom u hs (map twin hs))
  unfolding calls answer tells
  same_calls v = ap (λ (r : Reply). told (elim (sound b) as (λ (x : Bool). Answer) [ true ↦ whole r (tells b (Blossom u hs [])) | false ↦ broken b ])) same_reply
    where
      told : Answer → LineAnswer
      told a = record { numbers = shown a.number a.node.serial a.bench v; bench = a.bench }
