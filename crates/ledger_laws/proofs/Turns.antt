-- Demand 3, the accounting: after any calls from set-up the stored sum and speed of every interface without a parent are right, and the check's
-- verdict 5 is what went from the tree. Assumes nothing.
use Rattle.std.specs.Prelude.{None, Option, Some}
use Prim.Native.Nat.{ℕ, zero, suc, ◌<◌}
use mathlib.Core.Path.{◌≡◌, refl, sym, ◌∙◌, ap, subst}
use mathlib.Core.Logic.{◌≢◌}
use mathlib.Core.Bool.{Bool, true, false}
use mathlib.Core.List.{List, [], ◌∷◌}
use native.Mathlib.Omega.{arith}
use borrow.Author.Tests.{eq-eqb, ne_eqb}
use lib.ListN.{get_or}
use lib.IntN.{ℤ, pos, ◌+ℤ◌, ◌-ℤ◌, +ℤ_comm, +ℤ_idr, +ℤ_invr, +ℤ-neg_ℤ_cancel}
use Rattle.ledger_spec.specs.Bench.{Handle, grows, stays, Node, Bench, set_up}
use Rattle.ledger_spec.specs.Look.{interface, free_slot, slot_of, node_named, tree}
use Rattle.ledger_spec.specs.Change.{worth, place, mark_all}
use Rattle.ledger_spec.specs.Tests.{first}
use Rattle.ledger_spec.specs.Refuse.{set_up_no}
use Rattle.ledger_spec.specs.Deeds.{new_handle, members, remove_blossom}
use Rattle.ledger_spec.specs.Calls.{nobody, settle, set_up_call, Call, Defect, Blossom, Expand, SetState, Grow, Fuse, Clear, Mark}
use Rattle.ledger_spec.specs.Reads.{slots_of}
use Rattle.ledger_spec.specs.Check.{total_of}
use Rattle.ledger_spec.specs.Answers.{answer}
use Rattle.ledger_spec.specs.Book.{Book, Gone, wrote, writes, noted, turn, turns, new_book}
use Rattle.ledger_spec.specs.Account.{slot_sum, total, values_at, rates_at, Right}
use Rattle.ledger_spec.specs.Frame.{Frame}
use Rattle.ledger_spec.specs.Facts.{Sound}
use Rattle.ledger_spec.proofs.Says.{says}
use Rattle.ledger_spec.proofs.Knit.{none_some}
use Rattle.ledger_spec.proofs.Tops.{climb_none}
use Rattle.ledger_spec.proofs.Trees.{along, along_add, gather_total, tree_sum_lem}
use Rattle.ledger_spec.proofs.Passed.{fusable}
use Rattle.ledger_spec.proofs.Accepted.{defect_passed, BlossomPassed, blossom_passed, ExpandPassed, expand_passed, grow_passed}
use Rattle.ledger_spec.proofs.Slots.{free_vacant}
use Rattle.ledger_spec.proofs.Gathered.{held_unit}
use Rattle.ledger_spec.proofs.DeedReadings.{defect_node, defect_is, blossom_node, blossom_vacant, blossom_is, expand_is}
use Rattle.ledger_laws.proofs.Quiet.{quiet_frame, mark_all_quiet, place_quiet}
use Rattle.ledger_laws.proofs.Linked.{opened_frame}
use Rattle.ledger_laws.proofs.Paced.{Paced, opened_paced}
use Rattle.ledger_laws.proofs.SoundCalls.{paced_of}
use Rattle.ledger_laws.proofs.Booked.{Booked, set_nil, place_booked, mark_booked, mark_all_booked, push_booked, grow_booked, fuse_booked, choose_booked, clear_booked, opened_booked}
use Rattle.ledger_laws.proofs.Answered.{tests_of, deed_of, zero_sound, zero_tests, zero_bench, refused_bench}
use Rattle.ledger_laws.proofs.Always.{deed_sound}

-- ---- expansion: the value goes from the slots to the book
note : Gone → ℕ → ℤ → Bool → List ℤ
note g w x c = elim c [ true ↦ x ∷ g w | false ↦ g w ]

module _ (b : Bench) (S : Sound b) (u : ℕ) (h : Handle) (P : ExpandPassed b u h) (g : Gone) where
  abbrev g' : Gone
  g' = noted g h.unit (worth (node_named b h))

  stands : node_named b h ≡ slot_of b h.unit h.slot
  stands = P.named.is ∙ sym P.named.has.stands

  noted_here : g' h.unit ≡ worth (slot_of b h.unit h.slot) ∷ g h.unit
  unfolding note
  noted_here = ap (note g h.unit (worth (node_named b h))) (eq-eqb h.unit h.unit refl) ∙ ap (λ (o : Option Node). worth o ∷ g h.unit) stands

  noted_else : (w : ℕ) → w ≢ h.unit → g' w ≡ g w
  unfolding note
  noted_else w q = ap (note g w (worth (node_named b h))) (ne_eqb w h.unit q)

  filled : (interface b h.unit).slots ≡ [] → ⊥
  filled e = none_some (ap (λ (l : List (Option Node)). get_or l h.slot None) e) P.named.has.stands

  expand_booked : Booked b g → Booked (remove_blossom b h) g'
  unfolding total
  expand_booked K = subst (λ (c : Bench). Booked c g') (sym (expand_is b h))
      (mark_all_booked (place b h.unit h.slot None) (quiet_frame b _ (place_quiet b h.unit h.slot None) S.frame) (members (node_named b h)) grows None g'
      (place_booked b S.frame h.unit h.slot None g g' (held_unit b S.frame h.unit h.slot P.named.node P.named.has.stands) (λ x. refl)
      (ap total noted_here ∙ +ℤ_comm (worth (slot_of b h.unit h.slot)) (total (g h.unit))
      ∙ ap (λ (z : ℤ). total (g h.unit) +ℤ z) (sym (+ℤ_idr (worth (slot_of b h.unit h.slot)))))
      noted_else (λ e. absurd (filled (set_nil (interface b h.unit).slots h.slot None e))) K))

blossom_booked : (b : Bench) → Sound b → (u : ℕ) (hs : List Handle) (ts : List (Handle × Handle)) → BlossomPassed b u hs ts → (g : Gone) → Booked b g → Booked (deed_of b (Blossom u hs ts)) g
unfolding deed_of
blossom_booked b S u hs ts P g K = subst (λ (c : Bench). Booked c g) (sym (blossom_is b u hs ts))
    (push_booked c (quiet_frame b c (mark_all_quiet b hs stays (Some (new_handle b u))) S.frame) u (free_slot b u) (blossom_node b hs ts) g P.here.low (blossom_vacant b u hs ts) refl (mark_all_booked b S.frame hs stays (Some (new_handle b u)) g K))
  where
    c : Bench
    c = mark_all b hs stays (Some (new_handle b u))

-- ---- each call
pub deed_booked : (b : Bench) → Sound b → (c : Call) → first (tests_of b c) ≡ 0 → (g : Gone) → Booked b g → Booked (deed_of b c) (wrote g b c)
unfolding tests_of deed_of wrote
deed_booked b S (Defect u v) e g K = subst (λ (c : Bench). Booked c g) (sym (defect_is b u v)) (push_booked b S.frame u (free_slot b u) (defect_node b v) g (defect_passed b u e).here.low (free_vacant b u) refl K)
deed_booked b S (Blossom u hs ts) e g K = blossom_booked b S u hs ts (blossom_passed b u hs ts e) g K
deed_booked b S (Expand u h) e g K = expand_booked b S u h (expand_passed b u h e) g K
deed_booked b S (SetState u h s) e g K = mark_booked b S.frame h s None g K
deed_booked b S (Grow u l) e g K = grow_booked b S.frame (paced_of b S) u l g (grow_passed b u l e).here.low K
deed_booked b S (Fuse p l r) e g K = fuse_booked b S.frame p l r g (fusable b p l r e) K
deed_booked b S (Clear u) e g K = clear_booked b S.frame u g K
deed_booked b S (Mark u m) e g K = choose_booked b u m g K

-- ---- all calls: a call that is accepted finds the bench sound, whatever the first serial was
pub record Kept (k : Book) : Type 0 where
  pub frame : Frame k.bench
  pub paced : Paced k.bench
  pub booked : Booked k.bench k.gone

pub turn_kept : (k : Book) (c : Call) → Kept k → Kept (turn k c)
unfolding turn writes
turn_kept k c K = go (answer b c).number refl
  where
    b : Bench
    b = k.bench

    book : Bench → ℕ → Book
    book d n = record { bench = d; gone = writes n k.gone (wrote k.gone b c) }

    go : (n : ℕ) → (answer b c).number ≡ n → Kept (book (answer b c).bench (answer b c).number)
    go zero e = subst (λ (d : Bench). Kept (book d (answer b c).number)) (sym (zero_bench b c e)) (subst (λ (n : ℕ). Kept (book (deed_of b c) n)) (sym e)
        (record { frame = S'.frame; paced = paced_of (deed_of b c) S'; booked = deed_booked b (says b (zero_sound b c e)) c (zero_tests b c e) k.gone K.booked }))
      where
        S' : Sound (deed_of b c)
        S' = deed_sound b (says b (zero_sound b c e)) c (zero_tests b c e)
    go (suc n) e = subst (λ (d : Bench). Kept (book d (answer b c).number)) (sym (refused_bench b c (λ z. omega (arith, e, z)))) (subst (λ (n : ℕ). Kept (book b n)) (sym e) K)

pub turns_kept : (k : Book) (cs : List Call) → Kept k → Kept (turns k cs)
unfolding turns
turns_kept k [] K = K
turns_kept k (c ∷ cs) K = turns_kept (turn k c) cs (turn_kept k c K)

pub begun_kept : (n : ℕ) → Kept (new_book n)
unfolding set_up_call settle
begun_kept n = go (set_up_no n)
  where
    opened : (m : ℕ) → Kept (record { bench = set_up m; gone = λ w. [] })
    opened m = record { frame = opened_frame m; paced = opened_paced m; booked = opened_booked m }

    go : (k : ℕ) → Kept (record { bench = (settle k (set_up 1) (set_up n) nobody).bench; gone = λ w. [] })
    go zero = opened n
    go (suc k) = opened 1

-- a sum that leaves x as it is
cancel : (x y : ℤ) → x +ℤ y ≡ x → y ≡ pos 0
cancel x y p = sym (+ℤ-neg_ℤ_cancel y x) ∙ ap (λ (z : ℤ). z -ℤ x) (+ℤ_comm y x ∙ p) ∙ +ℤ_invr x

-- along the tree in the order of the index: the check's total of values and what went, and the growing nodes less the shrinking ones
pub record Listed (k : Book) (i : ℕ) : Type 0 where
  pub sum : (interface k.bench i).sum ≡ total_of (slots_of k.bench i) +ℤ along (λ u. total (k.gone u)) (tree 8 k.bench i)
  pub speed : (interface k.bench i).speed ≡ along (rates_at k) (tree 8 k.bench i)

module _ (k : Book) (K : Kept k) (i : ℕ) (h : i < 8) (free : (interface k.bench i).parent ≡ None) where
  pub kept_right : Right k i
  kept_right = record { sum = K.booked.sums i h (climb_none 8 k.bench i free); speed = K.paced i h (climb_none 8 k.bench i free) }

  pub kept_listed : Listed k i
  kept_listed = record {
    sum = kept_right.sum ∙ sym (tree_sum_lem b K.frame (values_at k) i h free)
        ∙ along_add (λ u. slot_sum worth (interface b u).slots) (λ u. total (k.gone u)) (tree 8 b i)
        ∙ ap (λ (z : ℤ). z +ℤ along (λ u. total (k.gone u)) (tree 8 b i)) (sym (gather_total b (tree 8 b i)));
    speed = kept_right.speed ∙ sym (tree_sum_lem b K.frame (rates_at k) i h free);
  }
    where
      b : Bench
      b = k.bench

-- ---- demand 3, from set-up's own answer, for any first serial and any calls
module _ (n : ℕ) (cs : List Call) where
  abbrev pub after : Book
  after = turns (new_book n) cs

  module _ (i : ℕ) (h : i < 8) (free : (interface after.bench i).parent ≡ None) where
    pub right : Right after i
    right = kept_right after (turns_kept (new_book n) cs (begun_kept n)) i h free

    pub right_listed : Listed after i
    right_listed = kept_listed after (turns_kept (new_book n) cs (begun_kept n)) i h free

    -- the stored sum is the check's total exactly where what went from the tree adds up to 0
    pub total_agrees : along (λ u. total (after.gone u)) (tree 8 after.bench i) ≡ pos 0 → (interface after.bench i).sum ≡ total_of (slots_of after.bench i)
    total_agrees e = right_listed.sum ∙ ap (λ (z : ℤ). total_of (slots_of after.bench i) +ℤ z) e ∙ +ℤ_idr _

    pub agrees_total : (interface after.bench i).sum ≡ total_of (slots_of after.bench i) → along (λ u. total (after.gone u)) (tree 8 after.bench i) ≡ pos 0
    agrees_total e = cancel (total_of (slots_of after.bench i)) (along (λ u. total (after.gone u)) (tree 8 after.bench i)) (sym right_listed.sum ∙ e)
