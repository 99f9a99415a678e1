-- The words of an answer say it: read back, they give its node and its notices as the value that stands for them, where its handles are packed ones, whatever
-- the words were that it is written over. So two such answers with the same words are one. Assumes nothing.
use Prim.Native.Nat.{ℕ, suc, ◌+◌, ◌*◌, ◌<◌, ◌≤◌}
use mathlib.Core.Path.{◌≡◌, refl, ap, ap₂, sym, ◌∙◌}
use mathlib.Core.List.{List, [], ◌∷◌, ◌++◌, map, append_assoc}
use native.Mathlib.Omega.{arith}
use lib.Dec.{eqb}
use lib.IntN.{ℤ, pos, negsuc}
use lib.ListN.{length, take, drop, get_or, set, length-map}
use lib.Seq.{sets, sets-eq, length-sets, take-set-le, take_at, drop_at, get_or-take, get_or-set_same, get_or-set_other, length-take-le}
use mir.Syntax.{w64}
use mir.Val.{SFits, to_z, of_z}
use mir.Facts.{to_z-of_z}
use Rattle.kinds.specs.declared.Handle.{Handle as Packed}
use Rattle.kinds.specs.declared.GrowState.TheVariants.{Grow, Stay, Shrink}
use Rattle.kinds.specs.declared.Notice.{Notice as Code}
use Rattle.kinds.specs.declared.Notice.TheVariants.{DefectAdded, StateSet, ShrinkPrepared, BlossomAdded, BlossomRemoved, Grown}
use Rattle.bench_words.specs.Codec.{pick, handle_of}
use Rattle.bench_words.proofs.Laws.{GoodHandle, handle_back}
use Rattle.ledger_spec.specs.Bench.{Handle, grows, stays, shrinks}
use Rattle.ledger_spec.specs.Notices.{Notice, defect_added, state_set, shrink_prepared, blossom_added, blossom_removed, grown}
use Rattle.ledger_spec.specs.Answers.{Answer}
use Rattle.outcome_notices.specs.Laid.{packed, code, entry, circle_in, filled, laid}
use Rattle.outcome_notices.specs.declared.Told.{Told}
use Rattle.outcome_notices.specs.declared.Notices.{Notices}
use Rattle.link_answers.specs.Forms.{node_word, signed_word}
use Rattle.link_told.specs.Answers.{kind_word, what_word, told_words, front_words, said_over, answer_over}
use Rattle.link_told.proofs.Writing.{told_long}

-- ---- one notice

abbrev notice_of : ℕ → ℕ → Code
notice_of k w =
    pick (eqb k 1) (DefectAdded (handle_of w))
    (pick (eqb k 2) (StateSet (handle_of w) Stay)
    (pick (eqb k 3) (StateSet (handle_of w) Grow)
    (pick (eqb k 4) (StateSet (handle_of w) Shrink)
    (pick (eqb k 5) ShrinkPrepared
    (pick (eqb k 6) (BlossomAdded (handle_of w))
    (pick (eqb k 7) (BlossomRemoved (handle_of w)) (Grown (to_z w64 w))))))))

abbrev pub Good : Handle → Type 0
Good h = GoodHandle (packed h)

-- its handles are packed ones, its length has 64 bits
abbrev pub GoodNotice : Notice → Type 0
GoodNotice (defect_added h) = Good h
GoodNotice (state_set h s) = Good h
GoodNotice (shrink_prepared hs) = Unit
GoodNotice (blossom_added h) = Good h
GoodNotice (blossom_removed h) = Good h
GoodNotice (grown l) = SFits w64 l

same_bits : (l : ℤ) → signed_word l ≡ of_z w64 l
same_bits (pos n) = refl
same_bits (negsuc n) = omega arith

notice_back : (n : Notice) → GoodNotice n → notice_of (kind_word n) (what_word n) ≡ code n
notice_back (defect_added h) g = ap DefectAdded (handle_back (packed h) g)
notice_back (state_set h grows) g = ap (λ (x : Packed). StateSet x Grow) (handle_back (packed h) g)
notice_back (state_set h stays) g = ap (λ (x : Packed). StateSet x Stay) (handle_back (packed h) g)
notice_back (state_set h shrinks) g = ap (λ (x : Packed). StateSet x Shrink) (handle_back (packed h) g)
notice_back (shrink_prepared hs) g = refl
notice_back (blossom_added h) g = ap BlossomAdded (handle_back (packed h) g)
notice_back (blossom_removed h) g = ap BlossomRemoved (handle_back (packed h) g)
notice_back (grown l) g = ap Grown (ap (to_z w64) (same_bits l) ∙ to_z-of_z g)

-- ---- the lists

abbrev pairs_of : List ℕ → List Told
pairs_of [] = []
pairs_of (k ∷ []) = []
pairs_of (k ∷ (w ∷ ws)) = record { notice = notice_of k w } ∷ pairs_of ws

abbrev pub GoodTold : List Notice → Type 0
GoodTold [] = Unit
GoodTold (n ∷ ns) = GoodNotice n × GoodTold ns

abbrev pub GoodRing : List Handle → Type 0
GoodRing [] = Unit
GoodRing (h ∷ hs) = Good h × GoodRing hs

told_back : (ns : List Notice) → GoodTold ns → pairs_of (told_words ns) ≡ map entry ns
told_back [] g = refl
told_back (n ∷ ns) g = ap₂ (λ (x : Code) (l : List Told). record { notice = x } ∷ l) (notice_back n g.0) (told_back ns g.1)

ring_back : (hs : List Handle) → GoodRing hs → map handle_of (map node_word hs) ≡ map packed hs
ring_back [] g = refl
ring_back (h ∷ hs) g = ap₂ (λ (x : Packed) (l : List Packed). x ∷ l) (handle_back (packed h) g.0) (ring_back hs g.1)

-- ---- the words

-- the notices are the pairs of words from the third on, the circle the words from 135 on, each as many as is said
abbrev pub notices_read : List ℕ → Notices
notices_read ws = filled (pairs_of (drop 3 (take (3 + get_or ws 1 0 * 2) ws))) (map handle_of (take (get_or ws 2 0) (drop 135 ws)))

take_sets : (n : ℕ) (vs l : List ℕ) (i : ℕ) → n ≤ i → take n (sets l i vs) ≡ take n l
take_sets n [] l i h = refl
take_sets n (v ∷ vs) l i h = take_sets n vs (set l i v) (suc i) (omega arith) ∙ take-set-le n l i v h

first_kept : (vs l : List ℕ) (i : ℕ) → get_or (sets l (suc i) vs) 0 0 ≡ get_or l 0 0
first_kept [] l i = refl
first_kept (v ∷ vs) l i = first_kept vs (set l (suc i) v) (suc i) ∙ get_or-set_other l (suc i) 0 v 0 (λ e. omega (arith, e))

-- the first word is the node, whatever else is told
pub said_first : (ws : List ℕ) → 0 < length ws → (a : Answer) → get_or (answer_over ws a) 0 0 ≡ node_word a.node
unfolding said_over
said_first ws l a =
    let w = node_word a.node in
    let vs = length a.notices ∷ length (circle_in a.notices) ∷ told_words a.notices in
    first_kept (map node_word (circle_in a.notices)) (sets (set ws 0 w) 1 vs) 134 ∙ first_kept vs (set ws 0 w) 0 ∙ get_or-set_same ws 0 w 0 l

module _ (ws : List ℕ) (long : length ws ≡ 199) (h : Handle) (ns : List Notice) (few : length ns ≤ 66) (most : length (circle_in ns) ≤ 64) where
  abbrev front : List ℕ
  front = front_words h ns

  abbrev ring : List ℕ
  ring = map node_word (circle_in ns)

  abbrev half : List ℕ
  half = sets ws 0 front

  front_long : length front ≡ 3 + length ns * 2
  front_long = omega (arith, told_long ns)

  front_kept : take (3 + length ns * 2) (said_over ws h ns) ≡ front
  unfolding said_over
  front_kept =
      take_sets (3 + length ns * 2) ring half 135 (omega arith)
      ∙ ap (take (3 + length ns * 2)) (sets-eq front ws 0 (omega (arith, front_long)))
      ∙ take_at front (drop (0 + length front) ws) (3 + length ns * 2) front_long

  ring_kept : take (length (circle_in ns)) (drop 135 (said_over ws h ns)) ≡ ring
  unfolding said_over
  ring_kept =
      let n : length half ≡ 199 = length-sets ws 0 front ∙ long in
      let m : length ring ≡ length (circle_in ns) = length-map (circle_in ns) node_word in
      let rest = drop (135 + length ring) half in
      ap (λ (l : List ℕ). take (length (circle_in ns)) (drop 135 l)) (sets-eq ring half 135 (omega (arith, n, m)) ∙ append_assoc (take 135 half) ring rest)
      ∙ ap (take (length (circle_in ns))) (drop_at (take 135 half) (ring ++ rest) 135 (length-take-le 135 half (omega (arith, n))))
      ∙ take_at ring rest (length (circle_in ns)) m

  kept_at : (i : ℕ) → i < 3 → get_or (said_over ws h ns) i 0 ≡ get_or front i 0
  kept_at i l = sym (get_or-take (3 + length ns * 2) (said_over ws h ns) i 0 (omega arith)) ∙ ap (λ (v : List ℕ). get_or v i 0) front_kept

  notices_back : GoodTold ns → GoodRing (circle_in ns) → notices_read (said_over ws h ns) ≡ laid ns
  unfolding laid
  notices_back g r =
      let v = said_over ws h ns in
      ap₂ filled
      (ap (λ (k : ℕ). pairs_of (drop 3 (take (3 + k * 2) v))) (kept_at 1 (omega arith)) ∙ ap (λ (x : List ℕ). pairs_of (drop 3 x)) front_kept ∙ told_back ns g)
      (ap (λ (k : ℕ). map handle_of (take k (drop 135 v))) (kept_at 2 (omega arith)) ∙ ap (map handle_of) ring_kept ∙ ring_back (circle_in ns) r)

-- ---- no two answers have the same words

-- an answer that the calls give: its lists fit, and its handles are packed ones
pub record Written (a : Answer) : Type 0 where
  pub few : length a.notices ≤ 66
  pub most : length (circle_in a.notices) ≤ 64
  pub node : Good a.node
  pub told : GoodTold a.notices
  pub ring : GoodRing (circle_in a.notices)

module _ {a : Answer} (W : Written a) (ws : List ℕ) (long : length ws ≡ 199) where
  pub says_notices : notices_read (answer_over ws a) ≡ laid a.notices
  says_notices = notices_back ws long a.node a.notices W.few W.most W.told W.ring

  pub says_node : handle_of (get_or (answer_over ws a) 0 0) ≡ packed a.node
  says_node = ap handle_of (said_first ws (omega arith) a) ∙ handle_back (packed a.node) W.node

pub same_words : {r s : Answer} → Written r → Written s → (ws vs : List ℕ) → length ws ≡ 199 → length vs ≡ 199 → answer_over ws r ≡ answer_over vs s
    → (packed r.node ≡ packed s.node) × (laid r.notices ≡ laid s.notices)
same_words X Y ws vs l m e = (
  sym (says_node X ws l) ∙ ap (λ (u : List ℕ). handle_of (get_or u 0 0)) e ∙ says_node Y vs m,
  sym (says_notices X ws l) ∙ ap notices_read e ∙ says_notices Y vs m,
)
