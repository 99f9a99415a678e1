-- An answer by its cases: a broken bench, a call that its tests refuse, a call that is done. What a refusal leaves, and how many notices there are.
-- Assumes nothing.
use Rattle.std.specs.Prelude.{None}
use Prim.Native.Nat.{ℕ, zero, suc, ◌≤◌}
use mathlib.Core.Path.{◌≡◌, refl, sym, ◌∙◌, ap, subst}
use mathlib.Core.Logic.{◌≢◌}
use mathlib.Core.Bool.{Bool, true, false}
use mathlib.Core.List.{List, [], ◌∷◌, map}
use native.Mathlib.Omega.{arith}
use lib.ListN.{length, length-append, length-map}
use Rattle.ledger_spec.specs.Bench.{Handle, stays, grows, Bench}
use Rattle.ledger_spec.specs.Look.{node_named}
use Rattle.ledger_spec.specs.Change.{mark}
use Rattle.ledger_spec.specs.Tests.{first}
use Rattle.ledger_spec.specs.Refuse.{unit_tests, defect_tests, blossom_tests, expand_tests, state_tests, grow_tests, fuse_tests, mark_tests}
use Rattle.ledger_spec.specs.Deeds.{new_handle, members, add_defect, add_blossom, remove_blossom, grow_by, join, wipe, choose}
use Rattle.ledger_spec.specs.Calls.{Reply, nobody, settle, defect_call, blossom_call, expand_call, state_call, grow_call, fuse_call, clear_call, mark_call, Call, Defect, Blossom, Expand, SetState, Grow, Fuse, Clear, Mark, perform}
use Rattle.ledger_spec.specs.Notices.{Notice, state_set, shrink_prepared, blossom_added, tells}
use Rattle.ledger_spec.specs.Sound.{sound}
use Rattle.ledger_spec.specs.Answers.{Answer, told, whole, broken, answer}
use Rattle.ledger_spec.specs.Facts.{Sound}
use Rattle.ledger_spec.proofs.Says.{says}
use Rattle.ledger_spec.proofs.Accepted.{BlossomPassed, blossom_passed, ExpandPassed, expand_passed}

-- ---- every call: its tests, what it does, the node it answers
unfoldable pub tests_of : Bench → Call → List (Bool × ℕ)
tests_of b (Defect u v) = defect_tests b u
tests_of b (Blossom u hs ts) = blossom_tests b u hs ts
tests_of b (Expand u h) = expand_tests b u h
tests_of b (SetState u h s) = state_tests b u h
tests_of b (Grow u l) = grow_tests b u l
tests_of b (Fuse p l r) = fuse_tests b p l r
tests_of b (Clear u) = unit_tests b u
tests_of b (Mark u k) = mark_tests b u

unfoldable pub deed_of : Bench → Call → Bench
deed_of b (Defect u v) = add_defect b u v
deed_of b (Blossom u hs ts) = add_blossom b u hs ts
deed_of b (Expand u h) = remove_blossom b h
deed_of b (SetState u h s) = mark b h s None
deed_of b (Grow u l) = grow_by b u l
deed_of b (Fuse p l r) = join b p l r
deed_of b (Clear u) = wipe b u
deed_of b (Mark u k) = choose b u k

-- the new node of a defect and a blossom, the named one of an expansion and a state, else none
unfoldable pub node_of : Bench → Call → Handle
node_of b (Defect u v) = new_handle b u
node_of b (Blossom u hs ts) = new_handle b u
node_of b (Expand u h) = h
node_of b (SetState u h s) = h
node_of b (Grow u l) = nobody
node_of b (Fuse p l r) = nobody
node_of b (Clear u) = nobody
node_of b (Mark u k) = nobody

pub perform_is : (b : Bench) (c : Call) → perform b c ≡ settle (first (tests_of b c)) b (deed_of b c) (node_of b c)
unfolding perform tests_of deed_of node_of defect_call blossom_call expand_call state_call grow_call fuse_call clear_call mark_call
perform_is b (Defect u v) = refl
perform_is b (Blossom u hs ts) = refl
perform_is b (Expand u h) = refl
perform_is b (SetState u h s) = refl
perform_is b (Grow u l) = refl
perform_is b (Fuse p l r) = refl
perform_is b (Clear u) = refl
perform_is b (Mark u k) = refl

module _ (b : Bench) (c : Call) where
  pub answer_true : sound b ≡ true → answer b c ≡ whole (perform b c) (tells b c)
  unfolding answer
  answer_true e = rw (e, answer)

  pub answer_false : sound b ≡ false → answer b c ≡ broken b
  unfolding answer
  answer_false e = rw (e, answer)

  -- on a bench that is sound: by the first test that holds
  pub answer_settled : sound b ≡ true → answer b c ≡ whole (settle (first (tests_of b c)) b (deed_of b c) (node_of b c)) (tells b c)
  answer_settled e = answer_true e ∙ ap (λ (r : Reply). whole r (tells b c)) (perform_is b c)

  -- the answer of a call that is done
  pub accepted : Answer
  accepted = record { number = 0; node = node_of b c; notices = tells b c; bench = deed_of b c }

  settled_zero : (n : ℕ) → n ≡ 0 → whole (settle n b (deed_of b c) (node_of b c)) (tells b c) ≡ accepted
  unfolding whole settle told accepted
  settled_zero zero e = refl
  settled_zero (suc n) e = absurd (omega arith)

  pub answer_accepted : sound b ≡ true → first (tests_of b c) ≡ 0 → answer b c ≡ accepted
  answer_accepted e z = answer_settled e ∙ settled_zero (first (tests_of b c)) z

  -- number 0 says that the bench is sound and every test failed
  settled_number : (n : ℕ) → (whole (settle n b (deed_of b c) (node_of b c)) (tells b c)).number ≡ n
  unfolding whole settle
  settled_number zero = refl
  settled_number (suc n) = refl

  pub answer_number : sound b ≡ true → (answer b c).number ≡ first (tests_of b c)
  answer_number e = ap (λ (a : Answer). a.number) (answer_settled e) ∙ settled_number (first (tests_of b c))

  pub number_broken : sound b ≡ false → (answer b c).number ≡ 2
  unfolding broken
  number_broken e = ap (λ (a : Answer). a.number) (answer_false e)

  pub zero_sound : (answer b c).number ≡ 0 → sound b ≡ true
  zero_sound z = go (sound b) refl
    where
      go : (s : Bool) → sound b ≡ s → sound b ≡ true
      go true e = e
      go false e = absurd (omega (arith, z, number_broken e))

  pub zero_tests : (answer b c).number ≡ 0 → first (tests_of b c) ≡ 0
  zero_tests z = sym (answer_number (zero_sound z)) ∙ z

  pub zero_accepted : (answer b c).number ≡ 0 → answer b c ≡ accepted
  zero_accepted z = answer_accepted (zero_sound z) (zero_tests z)

  pub zero_bench : (answer b c).number ≡ 0 → (answer b c).bench ≡ deed_of b c
  unfolding accepted
  zero_bench z = ap (λ (a : Answer). a.bench) (zero_accepted z)

  pub zero_node : (answer b c).number ≡ 0 → (answer b c).node ≡ node_of b c
  unfolding accepted
  zero_node z = ap (λ (a : Answer). a.node) (zero_accepted z)

  pub zero_notices : (answer b c).number ≡ 0 → (answer b c).notices ≡ tells b c
  unfolding accepted
  zero_notices z = ap (λ (a : Answer). a.notices) (zero_accepted z)

  -- ---- refused, on any bench: nothing changes, no node, no notices
  settled_refused : (n : ℕ) → n ≢ 0 → whole (settle n b (deed_of b c) (node_of b c)) (tells b c) ≡ record { number = n; node = nobody; notices = []; bench = b }
  unfolding whole settle told
  settled_refused zero q = absurd (q refl)
  settled_refused (suc n) q = refl

  pub refused : (answer b c).number ≢ 0 → answer b c ≡ record { number = (answer b c).number; node = nobody; notices = []; bench = b }
  unfolding broken
  refused q = go (sound b) refl
    where
      go : (s : Bool) → sound b ≡ s → answer b c ≡ record { number = (answer b c).number; node = nobody; notices = []; bench = b }
      go true e = answer_settled e ∙ settled_refused (first (tests_of b c)) (λ z. q (answer_number e ∙ z)) ∙ ap (λ (n : ℕ). record { number = n; node = nobody; notices = []; bench = b }) (sym (answer_number e))
      go false e = answer_false e ∙ ap (λ (n : ℕ). record { number = n; node = nobody; notices = []; bench = b }) (sym (number_broken e))

  pub refused_bench : (answer b c).number ≢ 0 → (answer b c).bench ≡ b
  refused_bench q = ap (λ (a : Answer). a.bench) (refused q)

  pub refused_node : (answer b c).number ≢ 0 → (answer b c).node ≡ nobody
  refused_node q = ap (λ (a : Answer). a.node) (refused q)

  pub refused_notices : (answer b c).number ≢ 0 → (answer b c).notices ≡ []
  refused_notices q = ap (λ (a : Answer). a.notices) (refused q)

-- ---- at most 66 notices
few_told : (b : Bench) → Sound b → (c : Call) → first (tests_of b c) ≡ 0 → length (tells b c) ≤ 66
unfolding tells tests_of
few_told b S (Defect u v) e = omega arith
few_told b S (Blossom u hs ts) e = let P : BlossomPassed b u hs ts = blossom_passed b u hs ts e in
    omega (arith, length-append (map (λ (h : Handle). state_set h stays) hs) (shrink_prepared hs ∷ blossom_added (new_handle b u) ∷ []), length-map hs (λ (h : Handle). state_set h stays), P.most)
few_told b S (Expand u h) e = let P : ExpandPassed b u h = expand_passed b u h e in
    omega (arith, length-map (members (node_named b h)) (λ (g : Handle). state_set g grows), ap length P.circle, length-map P.ms (λ m. m.node), ((S.rings h.unit h.slot P.named.node P.named.has.stands).circle P.ms P.ring).most)
few_told b S (SetState u h s) e = omega arith
few_told b S (Grow u l) e = omega arith
few_told b S (Fuse p l r) e = omega arith
few_told b S (Clear u) e = omega arith
few_told b S (Mark u k) e = omega arith

pub few_notices : (b : Bench) (c : Call) → length (answer b c).notices ≤ 66
few_notices b c = go (answer b c).number refl
  where
    go : (n : ℕ) → (answer b c).number ≡ n → length (answer b c).notices ≤ 66
    go zero e = subst (λ (l : List Notice). length l ≤ 66) (sym (zero_notices b c e)) (few_told b (says b (zero_sound b c e)) c (zero_tests b c e))
    go (suc n) e = subst (λ (l : List Notice). length l ≤ 66) (sym (refused_notices b c (λ z. omega (arith, e, z)))) (omega arith)
