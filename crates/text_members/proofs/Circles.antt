-- A blossom of members given by words is the blossom of the members named by serials: either each word gives the very handle, or some member is
-- stale on both sides, and then no member has a part in the answer. Assumes nothing.
use Rattle.std.specs.Prelude.{None}
use Prim.Native.Nat.{ℕ, suc, ◌≤◌, ◌<◌}
use native.Mathlib.Omega.{arith}
use mathlib.Core.Bool.{Bool, true, false, ◌||◌}
use mathlib.Core.Path.{◌≡◌, refl, sym, ◌∙◌, ap, ap₂}
use mathlib.Core.Logic.{◌⊎◌, inl, inr}
use mathlib.Core.List.{List, [], ◌∷◌, ◌++◌, map, append-nil}
use lib.Dec.{ltb}
use lib.ListN.{length, take, get_or, length-map}
use lib.Seq.{length-take-le, get_or-take}
use Rattle.ledger_spec.specs.Bench.{Handle, Bench}
use Rattle.ledger_spec.specs.Look.{node_named}
use Rattle.ledger_spec.specs.Tests.{first, any, empty, outside, child, stale, both}
use Rattle.ledger_spec.specs.Deeds.{new_handle, add_blossom}
use Rattle.ledger_spec.specs.Refuse.{blossom_tests}
use Rattle.ledger_spec.specs.Calls.{nobody, settle, Blossom, blossom_call, perform}
use Rattle.ledger_spec.specs.Lines.{named}
use Rattle.bench_views.specs.Given.{hand_given}
use Rattle.deed_circles.specs.Given.{hands_given}
use Rattle.text_members.specs.Names.{Names, AllNamed}

-- ---- a stale member: UNIT, CHILD, CIRCLE or STALE, whatever the members are

unfoldable pub number : Bool → Bool → Bool → ℕ
number true c x = 3
number false true x = 4
number false false true = 6
number false false false = 8

first_is : (o c x s : Bool) (ts : List (Bool × ℕ)) → s ≡ true → first ((o, 3) ∷ (c, 4) ∷ (x, 6) ∷ (false, 7) ∷ (s, 8) ∷ ts) ≡ number o c x
unfolding first number
first_is true c x s ts e = refl
first_is false true x s ts e = refl
first_is false false true s ts e = refl
first_is false false false s ts e = rw e

pub settled : (o c x : Bool) (b b' : Bench) (h : Handle) → settle (number o c x) b b' h ≡ record { number = number o c x; bench = b; node = nobody }
unfolding settle number
settled true c x b b' h = refl
settled false true x b b' h = refl
settled false false true b b' h = refl
settled false false false b b' h = refl

abbrev pub circle : List Handle → Bool
circle hs = empty hs || ltb 64 (length hs)

module _ (b : Bench) (u : ℕ) where
  stale_member : (hs : List Handle) → any (stale b) hs ≡ true
      → perform b (Blossom u hs []) ≡ record { number = number (outside u) (child b u) (circle hs); bench = b; node = nobody }
  unfolding perform blossom_call blossom_tests both
  stale_member hs e =
      ap (λ (n : ℕ). settle n b (add_blossom b u hs []) (new_handle b u))
      (first_is (outside u) (child b u) (circle hs) (any (stale b) (hs ++ [])) _ (ap (any (stale b)) (append-nil hs) ∙ e))
      ∙ settled (outside u) (child b u) (circle hs) b (add_blossom b u hs []) (new_handle b u)

  same_circle : (hs gs : List Handle) → length hs ≡ length gs → circle hs ≡ circle gs
  same_circle [] [] e = refl
  same_circle [] (g ∷ gs) e = absurd (omega arith)
  same_circle (h ∷ hs) [] e = absurd (omega arith)
  same_circle (h ∷ hs) (g ∷ gs) e = ap (ltb 64) e

  both_stale : (hs gs : List Handle) → length hs ≡ length gs → any (stale b) hs ≡ true → any (stale b) gs ≡ true → perform b (Blossom u hs []) ≡ perform b (Blossom u gs [])
  both_stale hs gs e p q =
      stale_member hs p
      ∙ ap (λ (x : Bool). record { number = number (outside u) (child b u) x; bench = b; node = nobody }) (same_circle hs gs e)
      ∙ sym (stale_member gs q)

-- ---- members by words and by serials

module _ (b : Bench) where
  unfoldable pub Alike : List ℕ → List ℕ → Type 0
  Alike ks ws = (hands_given ws ≡ map (named b) ks) ⊎ ((any (stale b) (hands_given ws) ≡ true) × (any (stale b) (map (named b) ks) ≡ true))

  pub any_here : (h : Handle) (hs : List Handle) → node_named b h ≡ None → any (stale b) (h ∷ hs) ≡ true
  unfolding any
  any_here h hs e = rw e

  pub any_there : (h : Handle) (hs : List Handle) → any (stale b) hs ≡ true → any (stale b) (h ∷ hs) ≡ true
  unfolding any
  any_there h hs e = either (stale b h) (any (stale b) hs) e
    where
      either : (a c : Bool) → c ≡ true → a || c ≡ true
      either true c q = refl
      either false c q = q

  alike_more : (k w : ℕ) (ks ws : List ℕ) → Names b k w → Alike ks ws → Alike (k ∷ ks) (w ∷ ws)
  unfolding Alike
  alike_more k w ks ws (inl e) (inl f) = inl (ap₂ (λ (h : Handle) (hs : List Handle). h ∷ hs) e f)
  alike_more k w ks ws (inl e) (inr f) = inr (any_there (hand_given w) (hands_given ws) f.0, any_there (named b k) (map (named b) ks) f.1)
  alike_more k w ks ws (inr e) f = inr (any_here (hand_given w) (hands_given ws) e.0, any_here (named b k) (map (named b) ks) e.1)

  pub alike : (ks ws : List ℕ) → length ws ≡ length ks → ((i : ℕ) → i < length ks → Names b (get_or ks i 0) (get_or ws i 0)) → Alike ks ws
  unfolding Alike
  alike [] [] e f = inl refl
  alike [] (w ∷ ws) e f = absurd (omega arith)
  alike (k ∷ ks) [] e f = absurd (omega arith)
  alike (k ∷ ks) (w ∷ ws) e f = alike_more k w ks ws (f 0 (omega arith)) (alike ks ws (omega arith) (λ i l. f (suc i) (omega arith)))

  pub same_blossom : (u n : ℕ) (ks ws : List ℕ) → n ≤ length ks → AllNamed b n ks ws
      → perform b (Blossom u (hands_given (take n ws)) []) ≡ perform b (Blossom u (map (named b) (take n ks)) [])
  unfolding Alike
  same_blossom u n ks ws l a =
      let p : length (take n ks) ≡ n = length-take-le n ks l in
      let q : length (take n ws) ≡ n = length-take-le n ws (omega (arith, a.long)) in
      go (alike (take n ks) (take n ws) (q ∙ sym p) (λ i m. let h : i < n = omega arith in rw (get_or-take, get_or-take) (a.each i h)))
    where
      go : Alike (take n ks) (take n ws) → perform b (Blossom u (hands_given (take n ws)) []) ≡ perform b (Blossom u (map (named b) (take n ks)) [])
      go (inl e) = ap (λ (hs : List Handle). perform b (Blossom u hs [])) e
      go (inr e) = both_stale b u (hands_given (take n ws)) (map (named b) (take n ks))
          (simp length-map (length-take-le n ws (omega (arith, a.long)) ∙ sym (length-take-le n ks l))) e.0 e.1
