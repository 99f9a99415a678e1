-- A blossom of more than 64 members is refused whatever they are, so that a program may hold the first 65 serials of a line and drop the rest.
-- Assumes nothing.
use Rattle.std.specs.Prelude.{Some}
use Prim.Native.Nat.{ℕ, ◌<◌}
use native.Mathlib.Omega.{arith}
use mathlib.Core.Bool.{Bool, true, false, ◌||◌}
use mathlib.Core.Path.{◌≡◌, refl, sym, ◌∙◌, ap}
use mathlib.Core.List.{List, [], ◌∷◌, map}
use lib.Dec.{ltb}
use lib.ListN.{length, take, length-map}
use lib.Seq.{length-take-le}
use borrow.Author.Tests.{lt-ltb}
use Rattle.ledger_spec.specs.Bench.{Handle, Bench}
use Rattle.ledger_spec.specs.Tests.{first, empty, outside, child}
use Rattle.ledger_spec.specs.Deeds.{new_handle, add_blossom}
use Rattle.ledger_spec.specs.Refuse.{blossom_tests}
use Rattle.ledger_spec.specs.Calls.{Reply, nobody, settle, Blossom, blossom_call, perform}
use Rattle.ledger_spec.specs.Notices.{Notice, tells}
use Rattle.ledger_spec.specs.Answers.{Answer, told, whole, broken, answer}
use Rattle.ledger_spec.specs.Sound.{sound}
use Rattle.ledger_spec.specs.Operations.{B}
use Rattle.ledger_spec.specs.Lines.{named, shown, calls, says}

-- UNIT, CHILD or CIRCLE
number : Bool → Bool → ℕ
number true c = 3
number false true = 4
number false false = 6

first_is : (o c x : Bool) (ts : List (Bool × ℕ)) → x ≡ true → first ((o, 3) ∷ (c, 4) ∷ (x, 6) ∷ ts) ≡ number o c
unfolding first number
first_is true c x ts e = refl
first_is false true x ts e = refl
first_is false false x ts e = rw e

refused : Bool → Bool → Bench → Reply
refused o c b = record { number = number o c; bench = b; node = nobody }

settled : (o c : Bool) (b b' : Bench) (h : Handle) → settle (number o c) b b' h ≡ refused o c b
unfolding settle number refused
settled true c b b' h = refl
settled false true b b' h = refl
settled false false b b' h = refl

untold : (o c : Bool) (ns : List Notice) → told (number o c) ns ≡ []
unfolding told number
untold true c ns = refl
untold false true ns = refl
untold false false ns = refl

too_many : (hs : List Handle) → 64 < length hs → empty hs || ltb 64 (length hs) ≡ true
too_many [] h = absurd (omega arith)
too_many (x ∷ hs) h = lt-ltb 64 (length (x ∷ hs)) h

-- the answer, which no member is part of
large : Bench → ℕ → Answer
large b u = elim (sound b) [ true ↦ record { number = number (outside u) (child b u); node = nobody; notices = []; bench = b } | false ↦ broken b ]

module _ (b : Bench) (u : ℕ) (hs : List Handle) (h : 64 < length hs) where
  performed : perform b (Blossom u hs []) ≡ refused (outside u) (child b u) b
  unfolding perform blossom_call blossom_tests
  performed =
      ap (λ (n : ℕ). settle n b (add_blossom b u hs []) (new_handle b u)) (first_is (outside u) (child b u) (empty hs || ltb 64 (length hs)) _ (too_many hs h))
      ∙ settled (outside u) (child b u) b (add_blossom b u hs []) (new_handle b u)

  replied : (ns : List Notice) → whole (perform b (Blossom u hs [])) ns ≡ record { number = number (outside u) (child b u); node = nobody; notices = []; bench = b }
  unfolding whole refused
  replied ns =
      ap (λ (r : Reply). whole r ns) performed
      ∙ ap (λ (ms : List Notice). record { number = number (outside u) (child b u); node = nobody; notices = ms; bench = b }) (untold (outside u) (child b u) ns)

  answered : answer b (Blossom u hs []) ≡ large b u
  unfolding answer large
  answered = ap (λ (x : Answer). elim (sound b) as (λ (s : Bool). Answer) [ true ↦ x | false ↦ broken b ]) (replied (tells b (Blossom u hs [])))

pub large_circle : (b : Bench) (u : ℕ) (ks js : List ℕ) → 64 < length ks → 64 < length js → says b (Some (B u ks)) ≡ says b (Some (B u js))
unfolding says calls
large_circle b u ks js h k =
    let e = answered b u (map (named b) ks) (rw length-map h) ∙ sym (answered b u (map (named b) js) (rw length-map k)) in
    ap (λ (a : Answer). record { numbers = shown a.number a.node.serial a.bench u; bench = a.bench }) e

-- 65 of them are enough
pub first_65 : (b : Bench) (u : ℕ) (ks : List ℕ) → 64 < length ks → says b (Some (B u ks)) ≡ says b (Some (B u (take 65 ks)))
first_65 b u ks h = large_circle b u ks (take 65 ks) h (omega (arith, length-take-le 65 ks h))
