-- Every answer of a call is one that its words say (`Written`): its handles are packed ones, its notices at most 66. So the words that a call writes give the
-- node and the notices of the same call by value, whatever the words were before. Assumes nothing.
use Prim.Native.Nat.{ℕ, zero, suc, ◌+◌, ◌≤◌, ◌<◌, ◌^◌}
use mathlib.Core.Path.{◌≡◌, refl, sym, ◌∙◌, ap, subst}
use mathlib.Core.Bool.{Bool, true, false, true≢false}
use mathlib.Core.List.{List, [], ◌∷◌, ◌++◌, map, append-nil}
use native.Mathlib.Omega.{arith}
use borrow.Author.Tests.{ltb-false}
use lib.ListN.{length, get_or}
use lib.IntN.{ℤ, pos, negsuc, nat_abs, ◌+ℤ◌}
use lib.Signed.{lt_z}
use mir.Syntax.{w64}
use mir.Val.{SFits}
use Rattle.ledger_spec.specs.Bench.{Handle, State, stays, grows, Node, Bench}
use Rattle.ledger_spec.specs.Look.{interface, free_slot, slot_of, node_named}
use Rattle.ledger_spec.specs.Tests.{first}
use Rattle.ledger_spec.specs.Deeds.{new_handle, members}
use Rattle.ledger_spec.specs.Calls.{Call, Defect, Blossom, Expand, SetState, Grow, Fuse, Clear, Mark}
use Rattle.ledger_spec.specs.Notices.{Notice, defect_added, state_set, shrink_prepared, blossom_added, blossom_removed, grown, tells}
use Rattle.ledger_spec.specs.Answers.{Answer as Plain, broken, answer}
use Rattle.ledger_spec.specs.Knit.{mk, In, here, there, Has, Down}
use Rattle.ledger_spec.specs.Facts.{Sound, Touching}
use Rattle.ledger_spec.proofs.Says.{says}
use Rattle.ledger_spec.proofs.Passed.{Open}
use Rattle.ledger_spec.proofs.Accepted.{defect_passed, blossom_passed, ExpandPassed, expand_passed, state_passed, GrowPassed, grow_passed}
use Rattle.ledger_laws.proofs.CameCalls.{named_touch}
use Rattle.ledger_laws.proofs.Answered.{tests_of, node_of, zero_sound, zero_tests, zero_node, zero_notices, refused_node, refused_notices, few_notices}
use Rattle.bench_views.specs.View.{view}
use Rattle.bench_words.specs.Codec.{handle_of}
use Rattle.sound_bench.specs.Sound.{sound_words}
use Rattle.outcomes.specs.Outcome.{answer_on}
use Rattle.outcome_notices.specs.Laid.{circle_in}
use Rattle.call_told.specs.declared.Answer.{Answer as Value}
use Rattle.call_told.specs.Told.{Told, Called}
use Rattle.link_told.proofs.Back.{Good, GoodTold, GoodRing, notices_read, Written, says_notices, says_node}
use Rattle.dual_ledger.specs.Linked.{Wrote, ToldBy, CalledBy}

-- ---- notices whose handles are packed ones and whose lengths have 64 bits, and a circle of at most 64
abbrev GoodPlain : Notice → Type 0
GoodPlain (defect_added h) = Good h
GoodPlain (state_set h s) = Good h
GoodPlain (shrink_prepared hs) = GoodRing hs × (length hs ≤ 64)
GoodPlain (blossom_added h) = Good h
GoodPlain (blossom_removed h) = Good h
GoodPlain (grown l) = SFits w64 l

abbrev AllGood : List Notice → Type 0
AllGood [] = Unit {0}
AllGood (n ∷ ns) = GoodPlain n × AllGood ns

good_told : (ns : List Notice) → AllGood ns → GoodTold ns
good_told [] g = tt
good_told (defect_added h ∷ ns) g = (g.0, good_told ns g.1)
good_told (state_set h s ∷ ns) g = (g.0, good_told ns g.1)
good_told (shrink_prepared hs ∷ ns) g = (tt, good_told ns g.1)
good_told (blossom_added h ∷ ns) g = (g.0, good_told ns g.1)
good_told (blossom_removed h ∷ ns) g = (g.0, good_told ns g.1)
good_told (grown l ∷ ns) g = (g.0, good_told ns g.1)

good_circle : (ns : List Notice) → AllGood ns → GoodRing (circle_in ns) × (length (circle_in ns) ≤ 64)
unfolding circle_in
good_circle [] g = (tt, omega arith)
good_circle (defect_added h ∷ ns) g = good_circle ns g.1
good_circle (state_set h s ∷ ns) g = good_circle ns g.1
good_circle (shrink_prepared hs ∷ ns) g = g.0
good_circle (blossom_added h ∷ ns) g = good_circle ns g.1
good_circle (blossom_removed h ∷ ns) g = good_circle ns g.1
good_circle (grown l ∷ ns) g = good_circle ns g.1

good_ring : (hs : List Handle) → ((h : Handle) → In h hs → Good h) → GoodRing hs
good_ring [] f = tt
good_ring (h ∷ hs) f = (f h (here refl), good_ring hs (λ g i. f g (there i)))

good_states : (s : State) (hs : List Handle) → ((h : Handle) → In h hs → Good h) → (ns : List Notice) → AllGood ns → AllGood (map (λ (h : Handle). state_set h s) hs ++ ns)
good_states s [] f ns g = g
good_states s (h ∷ hs) f ns g = (f h (here refl), good_states s hs (λ x i. f x (there i)) ns g)

-- ---- the handles of an accepted call
module _ (b : Bench) (S : Sound b) where
  present : (h : Handle) (n : Node) → Has (slot_of b) h n → Good h
  present h n H = let T : Touching b h = named_touch b S h n H in (omega (arith, T.unit), omega (arith, T.slot), omega (arith, T.serial, S.worn))

  new : (u : ℕ) → Open b u → free_slot b u < 64 → b.next < 2 ^ 32 → Good (new_handle b u)
  new u O r w = (O.low, r, w)

  -- the members of a blossom
  below : (u : ℕ) (h : Handle) (P : ExpandPassed b u h) (g : Handle) → In g (members (node_named b h)) → Good g
  below u h P g i = present g D.node D.has
    where
      D : Down (slot_of b) g (mk h.unit h.slot P.named.node)
      D = S.sewn.knit.down h.unit h.slot P.named.node P.ms g P.named.has.stands P.ring (subst (In g) P.circle i)

  -- a length that passes is below 2^41
  short : (u : ℕ) (l : ℤ) → GrowPassed b u l → SFits w64 l
  short u (pos y) P = record { sfits = omega (arith, ltb-false (2 ^ 40) (nat_abs (interface b u).progress + y) (ap (λ (x : ℤ). lt_z (pos (2 ^ 40)) (x +ℤ pos y)) (sym (S.forward u)) ∙ P.limit)) }
  short u (negsuc y) P = absurd (true≢false P.forward)

  good_tells : (c : Call) → first (tests_of b c) ≡ 0 → AllGood (tells b c)
  unfolding tells tests_of
  good_tells (Defect u v) e = let P = defect_passed b u e in (new u P.here P.room P.unworn, tt)
  good_tells (Blossom u hs ts) e =
      let P = blossom_passed b u hs ts e in
      let f : (h : Handle) → In h hs → Good h = λ h i. present h (P.member h i).node (P.member h i).has in
      good_states stays hs f (shrink_prepared hs ∷ blossom_added (new_handle b u) ∷ []) ((good_ring hs f, P.most), (new u P.here P.room P.unworn, tt))
  good_tells (Expand u h) e =
      let P = expand_passed b u h e in
      (present h P.named.node P.named.has, subst AllGood (append-nil (map (λ (g : Handle). state_set g grows) (members (node_named b h)))) (good_states grows (members (node_named b h)) (below u h P) [] tt))
  good_tells (SetState u h s) e = let P = state_passed b u h e in (present h P.named.node P.named.has, tt)
  good_tells (Grow u l) e = (short u l (grow_passed b u l e), tt)
  good_tells (Fuse p l r) e = tt
  good_tells (Clear u) e = tt
  good_tells (Mark u k) e = tt

  good_node : (c : Call) → first (tests_of b c) ≡ 0 → Good (node_of b c)
  unfolding node_of tests_of
  good_node (Defect u v) e = let P = defect_passed b u e in new u P.here P.room P.unworn
  good_node (Blossom u hs ts) e = let P = blossom_passed b u hs ts e in new u P.here P.room P.unworn
  good_node (Expand u h) e = let P = expand_passed b u h e in present h P.named.node P.named.has
  good_node (SetState u h s) e = let P = state_passed b u h e in present h P.named.node P.named.has
  good_node (Grow u l) e = (omega arith, omega arith, omega arith)
  good_node (Fuse p l r) e = (omega arith, omega arith, omega arith)
  good_node (Clear u) e = (omega arith, omega arith, omega arith)
  good_node (Mark u k) e = (omega arith, omega arith, omega arith)

-- ---- every answer, on any bench
written_of : (a : Plain) → length a.notices ≤ 66 → Good a.node → AllGood a.notices → Written a
written_of a few n g = record {
  few = few;
  most = (good_circle a.notices g).1;
  node = n;
  told = good_told a.notices g;
  ring = (good_circle a.notices g).0;
}

pub written : (b : Bench) (c : Call) → Written (answer b c)
written b c = go (answer b c).number refl
  where
    go : (n : ℕ) → (answer b c).number ≡ n → Written (answer b c)
    go zero e = let S = says b (zero_sound b c e) in
        written_of (answer b c) (few_notices b c) (subst Good (sym (zero_node b c e)) (good_node b S c (zero_tests b c e))) (subst AllGood (sym (zero_notices b c e)) (good_tells b S c (zero_tests b c e)))
    go (suc n) e = let q : (answer b c).number ≡ 0 → ⊥ = λ z. omega (arith, e, z) in
        written_of (answer b c) (few_notices b c) (subst Good (sym (refused_node b c q)) (omega arith, omega arith, omega arith)) (subst AllGood (sym (refused_notices b c q)) tt)

-- and of any words, with either verdict on them
pub written_on : (s : Bool) (ws : List ℕ) (c : Call) → Written (answer_on s ws c)
unfolding broken
written_on true ws c = written (view ws) c
written_on false ws c = written_of (broken (view ws)) (omega arith) (omega arith, omega arith, omega arith) tt

-- ---- the words that a call writes say what the call by value answers (crates call_told, call_any)
module _ {b : List ℕ} {c : Call} {n : ℕ} (ws : List ℕ) {ws' b' : List ℕ} {r : Value} {b'' : List ℕ} (long : length ws ≡ 199) where
  value_on : (s : Bool) → Wrote s b c n ws ws' b' → Called s b c r b'' → (n ≡ r.number) × ((handle_of (get_or ws' 0 0) ≡ r.node) × (notices_read ws' ≡ r.notices))
  value_on s x y =
      let W = written_on s b c in (
        x.0.number ∙ sym y.0.number,
        (
          ap (λ (v : List ℕ). handle_of (get_or v 0 0)) x.1 ∙ says_node W ws long ∙ sym (ap (λ (a : Value). a.node) y.1),
          ap notices_read x.1 ∙ says_notices W ws long ∙ sym (ap (λ (a : Value). a.notices) y.1),
        ),
      )

  pub told_value : ToldBy b c n ws ws' b' → Told b c r b'' → (n ≡ r.number) × ((handle_of (get_or ws' 0 0) ≡ r.node) × (notices_read ws' ≡ r.notices))
  told_value x y = value_on true x y

  pub called_value : CalledBy b c n ws ws' b' → Called (sound_words b) b c r b'' → (n ≡ r.number) × ((handle_of (get_or ws' 0 0) ≡ r.node) × (notices_read ws' ≡ r.notices))
  called_value x y = value_on (sound_words b) x y
