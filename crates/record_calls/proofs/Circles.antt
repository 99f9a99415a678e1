-- A blossom of members and touching nodes given by words is the blossom of those that the serials name: either each word gives the very handle, or one is
-- stale on both sides, or there are too many; then no member has a part in the answer. Assumes nothing.
use Prim.Native.Nat.{ℕ, zero, suc, ◌+◌, ◌*◌, ◌<◌}
use native.Mathlib.Omega.{arith}
use mathlib.Core.Bool.{Bool, true, false, ◌||◌, ◌&&◌, not}
use mathlib.Core.Path.{◌≡◌, refl, sym, ◌∙◌, ap}
use mathlib.Core.Logic.{inl, inr}
use mathlib.Core.List.{List, [], ◌∷◌, ◌++◌, map}
use lib.Dec.{eqb, ltb}
use lib.ListN.{length, length-map}
use borrow.Author.Tests.{lt-ltb, eq-eqb}
use Rattle.ledger_spec.specs.Bench.{Handle, Bench}
use Rattle.ledger_spec.specs.Tests.{first, any, empty, outside, child, stale, both}
use Rattle.ledger_spec.specs.Deeds.{new_handle, add_blossom}
use Rattle.ledger_spec.specs.Refuse.{blossom_tests}
use Rattle.ledger_spec.specs.Calls.{Reply, nobody, settle, Blossom, blossom_call, perform}
use Rattle.ledger_spec.specs.Lines.{named}
use Rattle.bench_views.specs.Given.{hand_given}
use Rattle.deed_circles.specs.Given.{hands_given, pairs_given}
use Rattle.text_members.proofs.Circles.{number, settled, circle, Alike}
use Rattle.record_spec.specs.Operations.{Member, serial_of}
use Rattle.record_says.specs.Says.{member_named, pair_named}
use Rattle.record_calls.specs.Done.{touches}

-- ---- refused, whatever the members are

first_many : (o c x : Bool) (ts : List (Bool × ℕ)) → x ≡ true → first ((o, 3) ∷ (c, 4) ∷ (x, 6) ∷ ts) ≡ number o c true
unfolding first number
first_many true c x ts e = refl
first_many false true x ts e = refl
first_many false false x ts e = rw e

first_stale : (o c x t s : Bool) (ts : List (Bool × ℕ)) → t ≡ false → s ≡ true → first ((o, 3) ∷ (c, 4) ∷ (x, 6) ∷ (t, 7) ∷ (s, 8) ∷ ts) ≡ number o c x
unfolding first number
first_stale true c x t s ts e f = refl
first_stale false true x t s ts e f = refl
first_stale false false true t s ts e f = refl
first_stale false false false t s ts e f = rw (e, f)

abbrev touch : List Handle → List (Handle × Handle) → Bool
touch hs ts = not (empty ts) && not (eqb (length ts) (length hs))

as_many : (hs : List Handle) (ts : List (Handle × Handle)) → length ts ≡ length hs → touch hs ts ≡ false
as_many hs [] e = refl
as_many hs (t ∷ ts) e = ap not (eq-eqb (length (t ∷ ts)) (length hs) e)

abbrev refused_by : Bench → ℕ → Bool → Reply
refused_by b u x = record { number = number (outside u) (child b u) x; bench = b; node = nobody }

module _ (b : Bench) (u : ℕ) (hs : List Handle) (ts : List (Handle × Handle)) where
  too_many : circle hs ≡ true → perform b (Blossom u hs ts) ≡ refused_by b u true
  unfolding perform blossom_call blossom_tests
  too_many e =
      ap (λ (n : ℕ). settle n b (add_blossom b u hs ts) (new_handle b u)) (first_many (outside u) (child b u) (circle hs) _ e)
      ∙ settled (outside u) (child b u) true b (add_blossom b u hs ts) (new_handle b u)

  one_stale : length ts ≡ length hs → any (stale b) (hs ++ both ts) ≡ true → perform b (Blossom u hs ts) ≡ refused_by b u (circle hs)
  unfolding perform blossom_call blossom_tests
  one_stale e f =
      ap (λ (n : ℕ). settle n b (add_blossom b u hs ts) (new_handle b u))
      (first_stale (outside u) (child b u) (circle hs) (touch hs ts) (any (stale b) (hs ++ both ts)) _ (as_many hs ts e) f)
      ∙ settled (outside u) (child b u) (circle hs) b (add_blossom b u hs ts) (new_handle b u)

large : (hs : List Handle) → 64 < length hs → circle hs ≡ true
large [] h = absurd (omega arith)
large (x ∷ hs) h = lt-ltb 64 (length (x ∷ hs)) h

same_circle : (hs gs : List Handle) → length hs ≡ length gs → circle hs ≡ circle gs
same_circle [] [] e = refl
same_circle [] (g ∷ gs) e = absurd (omega arith)
same_circle (h ∷ hs) [] e = absurd (omega arith)
same_circle (h ∷ hs) (g ∷ gs) e = ap (ltb 64) e

-- ---- pairs, two by two

pairs_length : (k : ℕ) (vs : List ℕ) → length vs ≡ 2 * k → length (pairs_given vs) ≡ k
unfolding pairs_given
pairs_length zero [] e = refl
pairs_length zero (x ∷ vs) e = absurd (omega arith)
pairs_length (suc k) [] e = absurd (omega arith)
pairs_length (suc k) (x ∷ []) e = absurd (omega arith)
pairs_length (suc k) (x ∷ y ∷ vs) e = ap suc (pairs_length k vs (omega arith))

both_given : (k : ℕ) (vs : List ℕ) → length vs ≡ 2 * k → both (pairs_given vs) ≡ hands_given vs
unfolding pairs_given both
both_given zero [] e = refl
both_given zero (x ∷ vs) e = absurd (omega arith)
both_given (suc k) [] e = absurd (omega arith)
both_given (suc k) (x ∷ []) e = absurd (omega arith)
both_given (suc k) (x ∷ y ∷ vs) e = ap (λ (hs : List Handle). hand_given x ∷ hand_given y ∷ hs) (both_given k vs (omega arith))

pub touches_many : (ms : List Member) → length (touches ms) ≡ 2 * length ms
unfolding touches
touches_many [] = refl
touches_many (m ∷ ms) = omega (arith, touches_many ms)

module _ (b : Bench) where
  serials_named : (ms : List Member) → map (named b) (map serial_of ms) ≡ map (member_named b) ms
  serials_named [] = refl
  serials_named (m ∷ ms) = ap (λ (hs : List Handle). named b m.serial ∷ hs) (serials_named ms)

  both_named : (ms : List Member) → both (map (pair_named b) ms) ≡ map (named b) (touches ms)
  unfolding both touches
  both_named [] = refl
  both_named (m ∷ ms) = ap (λ (hs : List Handle). named b m.first ∷ named b m.second ∷ hs) (both_named ms)

  pairs_same : (ms : List Member) (vs : List ℕ) → length vs ≡ 2 * length ms → hands_given vs ≡ map (named b) (touches ms) → pairs_given vs ≡ map (pair_named b) ms
  unfolding pairs_given touches
  pairs_same [] [] e f = refl
  pairs_same [] (x ∷ vs) e f = absurd (omega arith)
  pairs_same (m ∷ ms) [] e f = absurd (omega arith)
  pairs_same (m ∷ ms) (x ∷ []) e f = absurd (omega arith)
  pairs_same (m ∷ ms) (x ∷ y ∷ vs) e f =
      let p : hand_given x ≡ named b m.first = cc in
      let q : hand_given y ≡ named b m.second = cc in
      let r : hands_given vs ≡ map (named b) (touches ms) = cc in
      λ i. (p i, q i) ∷ pairs_same ms vs (omega arith) r i

  any_left : (hs gs : List Handle) → any (stale b) hs ≡ true → any (stale b) (hs ++ gs) ≡ true
  unfolding any
  any_left [] gs e = absurd (let z : ◌≡◌ {A = ℕ} 0 1 = cc in omega arith)
  any_left (h ∷ hs) gs e = go (stale b h) e (any_left hs gs)
    where
      go : (x : Bool) → x || any (stale b) hs ≡ true → (any (stale b) hs ≡ true → any (stale b) (hs ++ gs) ≡ true) → x || any (stale b) (hs ++ gs) ≡ true
      go true p f = refl
      go false p f = f p

  any_right : (hs gs : List Handle) → any (stale b) gs ≡ true → any (stale b) (hs ++ gs) ≡ true
  unfolding any
  any_right [] gs e = e
  any_right (h ∷ hs) gs e = go (stale b h) (any_right hs gs e)
    where
      go : (x : Bool) → any (stale b) (hs ++ gs) ≡ true → x || any (stale b) (hs ++ gs) ≡ true
      go true p = refl
      go false p = p

-- ---- the call

module _ (b : Bench) (u : ℕ) (ms : List Member) (ws vs : List ℕ) (many : length ws ≡ length ms) (twice : length vs ≡ 2 * length ms) where
  abbrev spoken : Reply
  spoken = perform b (Blossom u (map (member_named b) ms) (map (pair_named b) ms))

  abbrev given : Reply
  given = perform b (Blossom u (hands_given ws) (pairs_given vs))

  both_stale : any (stale b) (hands_given ws ++ hands_given vs) ≡ true → any (stale b) (map (member_named b) ms ++ map (named b) (touches ms)) ≡ true → given ≡ spoken
  both_stale p q =
      let e : length (hands_given ws) ≡ length ms = length-map ws hand_given ∙ many in
      let f : length (map (member_named b) ms) ≡ length ms = length-map ms (member_named b) in
      one_stale b u (hands_given ws) (pairs_given vs) (pairs_length (length ms) vs twice ∙ sym e) (rw (both_given (length ms) vs twice) p)
      ∙ ap (refused_by b u) (same_circle (hands_given ws) (map (member_named b) ms) (e ∙ sym f))
      ∙ sym (one_stale b u (map (member_named b) ms) (map (pair_named b) ms) (length-map ms (pair_named b) ∙ sym f) (rw (both_named b ms) q))

  pub same_given : Alike b (map serial_of ms) ws → Alike b (touches ms) vs → given ≡ spoken
  unfolding Alike
  same_given (inl e) (inl f) =
      λ i. perform b (Blossom u ((e ∙ serials_named b ms) i) (pairs_same b ms vs twice f i))
  same_given (inl e) (inr f) = both_stale (any_right b (hands_given ws) (hands_given vs) f.0) (any_right b (map (member_named b) ms) (map (named b) (touches ms)) f.1)
  same_given (inr e) f =
      both_stale (any_left b (hands_given ws) (hands_given vs) e.0)
      (any_left b (map (member_named b) ms) (map (named b) (touches ms)) (ap (any (stale b)) (sym (serials_named b ms)) ∙ e.1))

-- more than 64: CIRCLE whatever they are
pub many_given : (b : Bench) (u : ℕ) (hs gs : List Handle) (ts rs : List (Handle × Handle)) → 64 < length hs → 64 < length gs → perform b (Blossom u hs ts) ≡ perform b (Blossom u gs rs)
many_given b u hs gs ts rs h k = too_many b u hs ts (large hs h) ∙ sym (too_many b u gs rs (large gs k))
