-- Words while an answer is written over them: a run of stores goes on where the one before it ended; a loop's run after one member more. Assumes nothing.
use Prim.Native.Nat.{ℕ, zero, suc, ◌+◌, ◌*◌, ◌/◌, ◌%◌, ◌<◌, ◌≤◌}
use mathlib.Core.Path.{◌≡◌, refl, ap, ap₂, sym, ◌∙◌, subst}
use mathlib.Core.List.{List, [], ◌∷◌, ◌++◌, map, map-append, map-map}
use native.Mathlib.Numerals.{add-one}
use native.Mathlib.Omega.{arith}
use lib.ListN.{length, take, get_or, set, length-append, length-map}
use lib.Seq.{sets, length-take-le, take_all}
use Rattle.bench_words.specs.Store.{node_at}
use Rattle.bench_words.specs.declared.Node.{Node}
use Rattle.ledger_spec.specs.Bench.{Handle, stays, grows}
use Rattle.ledger_spec.specs.Knit.{nodes}
use Rattle.ledger_spec.specs.Notices.{Notice, state_set, shrink_prepared, blossom_added, blossom_removed}
use Rattle.bench_views.specs.Canon.{walk}
use Rattle.bench_views.specs.Fit.{Fit}
use Rattle.bench_views.specs.Given.{hand_given}
use Rattle.bench_views.specs.View.{view, follow, handle_at}
use Rattle.outcome_notices.specs.Laid.{circle_in}
use Rattle.outcome_notices.specs.Lists.{Ring, blossom_made}
use Rattle.outcome_notices.proofs.Pads.{map_more}
use Rattle.outcome_notices.proofs.Reaching.{few, members_low}
use Rattle.outcome_notices.proofs.Telling.{nodes_suc, circle_made, circle_none}
use Rattle.link_answers.specs.Forms.{node_word}
use Rattle.link_told.specs.Answers.{kind_word, what_word, told_words, said_over}
use Rattle.link_told.specs.Circles.{staying, growing, Walked}

-- ---- runs of stores
pub sets_append : (xs ys ws : List ℕ) (k n : ℕ) → n ≡ k + length xs → sets (sets ws k xs) n ys ≡ sets ws k (xs ++ ys)
sets_append [] ys ws k n e = ap (λ (j : ℕ). sets ws j ys) (omega arith)
sets_append (x ∷ xs) ys ws k n e = sets_append xs ys (set ws k x) (suc k) n (omega arith)

module _ (ws : List ℕ) (k a b : ℕ) where
  pub two_set : set (set ws k a) (k + 1) b ≡ sets ws k (a ∷ b ∷ [])
  two_set = ap (λ (j : ℕ). set (set ws k a) j b) (add-one k)

  pub four_set : (c d : ℕ) → set (set (set (set ws k a) (k + 1) b) (k + 2) c) (k + 3) d ≡ sets ws k (a ∷ b ∷ c ∷ d ∷ [])
  four_set c d =
      ap (λ (o : List ℕ). set (set o (k + 2) c) (k + 3) d) two_set
      ∙ ap (λ (j : ℕ). set (set (sets ws k (a ∷ b ∷ [])) j c) (k + 3) d) (omega arith)
      ∙ ap (λ (j : ℕ). set (set (sets ws k (a ∷ b ∷ [])) (suc (suc k)) c) j d) (omega arith)

-- ---- notices one after the other
told_append : (ns ms : List Notice) → told_words (ns ++ ms) ≡ told_words ns ++ told_words ms
told_append [] ms = refl
told_append (n ∷ ns) ms = ap (λ (l : List ℕ). kind_word n ∷ what_word n ∷ l) (told_append ns ms)

pub told_long : (ns : List Notice) → length (told_words ns) ≡ length ns * 2
told_long [] = refl
told_long (n ∷ ns) = let h = told_long ns in omega arith

told_more : (ns : List Notice) (n : Notice) (ws out : List ℕ) (k at : ℕ) → out ≡ sets ws k (told_words ns) → at ≡ k + length ns * 2
    → set (set out at (kind_word n)) (at + 1) (what_word n) ≡ sets ws k (told_words (ns ++ (n ∷ [])))
told_more ns n ws out k at e q =
    two_set out at (kind_word n) (what_word n)
    ∙ ap (λ (o : List ℕ). sets o at (kind_word n ∷ what_word n ∷ [])) e
    ∙ sets_append (told_words ns) (kind_word n ∷ what_word n ∷ []) ws k at (omega (arith, told_long ns, q))
    ∙ ap (sets ws k) (sym (told_append ns (n ∷ [])))

-- ---- the members of a blossom
module _ (ms : List ℕ) (i : ℕ) (ws out : List ℕ) (w : ℕ) (l : i < length ms) (e : w ≡ node_word (hand_given (get_or ms i 0))) where
  pub stay_more : out ≡ sets ws 3 (told_words (staying (take i ms))) → set (set out (i * 2 + 3) 2) (i * 2 + 3 + 1) w ≡ sets ws 3 (told_words (staying (take (i + 1) ms)))
  stay_more q =
      let f : ℕ → Notice = λ (x : ℕ). state_set (hand_given x) stays in
      let n : length (map f (take i ms)) ≡ i = length-map (take i ms) f ∙ length-take-le i ms (omega (arith, l)) in
      ap (λ (x : ℕ). set (set out (i * 2 + 3) 2) (i * 2 + 3 + 1) x) e
      ∙ told_more (map f (take i ms)) (f (get_or ms i 0)) ws out 3 (i * 2 + 3) q (omega (arith, n))
      ∙ ap (λ (ns : List Notice). sets ws 3 (told_words ns)) (sym (map_more f ms i 0 l))

  pub circle_more : out ≡ sets ws 135 (map node_word (map hand_given (take i ms))) → set out (i + 135) w ≡ sets ws 135 (map node_word (map hand_given (take (i + 1) ms)))
  circle_more q =
      let hs = map hand_given (take i ms) in
      let n : length (map node_word hs) ≡ i = length-map hs node_word ∙ length-map (take i ms) hand_given ∙ length-take-le i ms (omega (arith, l)) in
      ap₂ (λ (o : List ℕ) (x : ℕ). set o (i + 135) x) q e
      ∙ sets_append (map node_word hs) (node_word (hand_given (get_or ms i 0)) ∷ []) ws 135 (i + 135) (omega (arith, n))
      ∙ ap (sets ws 135) (sym (map-append node_word hs (hand_given (get_or ms i 0) ∷ [])) ∙ ap (map node_word) (sym (map_more hand_given ms i 0 l)))

pub stay_all : (ms : List ℕ) (i : ℕ) (ws out : List ℕ) → length ms ≤ i → out ≡ sets ws 3 (told_words (staying (take i ms))) → out ≡ sets ws 3 (told_words (staying ms))
stay_all ms i ws out l e = e ∙ ap (λ (x : List ℕ). sets ws 3 (told_words (staying x))) (take_all i ms l)

pub circle_all : (ms : List ℕ) (i : ℕ) (ws out : List ℕ) → length ms ≤ i → out ≡ sets ws 135 (map node_word (map hand_given (take i ms))) → out ≡ sets ws 135 (map node_word (map hand_given ms))
circle_all ms i ws out l e = e ∙ ap (λ (x : List ℕ). sets ws 135 (map node_word (map hand_given x))) (take_all i ms l)

-- heads, members, ends and circle are the words of a blossom made
module _ (ms ws : List ℕ) (q : Handle) where
  abbrev heads : List ℕ
  heads = node_word q ∷ (length ms + 2) ∷ length ms ∷ []

  abbrev ends : List ℕ
  ends = 5 ∷ 0 ∷ 6 ∷ node_word q ∷ []

  told_made : told_words (blossom_made (map hand_given ms) q) ≡ told_words (staying ms) ++ ends
  told_made =
      let es : List Notice = shrink_prepared (map hand_given ms) ∷ blossom_added q ∷ [] in
      told_append (map (λ (h : Handle). state_set h stays) (map hand_given ms)) es
      ∙ ap (λ (ns : List Notice). told_words ns ++ ends) (map-map (λ (h : Handle). state_set h stays) hand_given ms)

  count_made : length ms + 2 ≡ length (blossom_made (map hand_given ms) q)
  count_made =
      let hs = map hand_given ms in
      let f : Handle → Notice = λ (h : Handle). state_set h stays in
      omega (arith, length-append (map f hs) (shrink_prepared hs ∷ blossom_added q ∷ []), length-map hs f, length-map ms hand_given)

  made_words : sets (sets (sets (sets ws 0 heads) 3 (told_words (staying ms))) (length ms * 2 + 3) ends) 135 (map node_word (map hand_given ms))
      ≡ said_over ws q (blossom_made (map hand_given ms) q)
  unfolding said_over
  made_words =
      let hs = map hand_given ms in
      let S = told_words (staying ms) in
      let n : length S ≡ length ms * 2 = told_long (staying ms) ∙ ap (λ (x : ℕ). x * 2) (length-map ms (λ (w : ℕ). state_set (hand_given w) stays)) in
      let circle : hs ≡ circle_in (blossom_made hs q) = sym (circle_made hs hs (blossom_added q ∷ [])) in
      let long : length ms ≡ length (circle_in (blossom_made hs q)) = sym (length-map ms hand_given) ∙ ap length circle in
      ap (λ (o : List ℕ). sets (sets o (length ms * 2 + 3) ends) 135 (map node_word hs)) (sets_append heads S ws 0 3 refl)
      ∙ ap (λ (o : List ℕ). sets o 135 (map node_word hs)) (sets_append (heads ++ S) ends ws 0 (length ms * 2 + 3) (omega (arith, length-append heads S, n)))
      ∙ λ i. sets (sets ws 0 (node_word q ∷ count_made i ∷ long i ∷ sym told_made i)) 135 (map node_word (circle i))

  -- step by step
  pub made_steps : {w : ℕ} {o p r u : List ℕ} → w ≡ node_word q → o ≡ sets ws 0 (w ∷ (length ms + 2) ∷ length ms ∷ []) → p ≡ sets o 3 (told_words (staying ms))
      → r ≡ sets p (length ms * 2 + 3) (5 ∷ 0 ∷ 6 ∷ w ∷ []) → u ≡ sets r 135 (map node_word (map hand_given ms)) → u ≡ said_over ws q (blossom_made (map hand_given ms) q)
  made_steps {w} e h s a c =
      let C = map node_word (map hand_given ms) in
      let S = told_words (staying ms) in
      c
      ∙ ap (λ (l : List ℕ). sets l 135 C) (a ∙ ap (λ (l : List ℕ). sets l (length ms * 2 + 3) (5 ∷ 0 ∷ 6 ∷ w ∷ [])) (s ∙ ap (λ (l : List ℕ). sets l 3 S) h))
      ∙ ap (λ (x : ℕ). sets (sets (sets (sets ws 0 (x ∷ (length ms + 2) ∷ length ms ∷ [])) 3 S) (length ms * 2 + 3) (5 ∷ 0 ∷ 6 ∷ x ∷ [])) 135 C) e
      ∙ made_words

-- ---- the members of a blossom that is gone
growing_long : (A : ℕ → Node) (i k : ℕ) → length (map (λ (g : Handle). state_set g grows) (nodes (follow i A k))) ≡ i
unfolding follow
growing_long A zero k = refl
growing_long A (suc i) k = ap suc (growing_long A i (A k).next)

module _ (b : List ℕ) (k i p : ℕ) (m : Node) (ws out : List ℕ) (w : ℕ) (at : p ≡ walk i (node_at b) k) (load : m ≡ node_at b p) where
  pub grow_more : w ≡ node_word (record { unit = p / 64; slot = p % 64; serial = m.serial.0 }) → out ≡ sets ws 5 (told_words (growing b k i))
      → set (set out (i * 2 + 5) 3) (i * 2 + 5 + 1) w ≡ sets ws 5 (told_words (growing b k (i + 1)))
  grow_more e q =
      let A = node_at b in
      let f : Handle → Notice = λ (g : Handle). state_set g grows in
      let g : w ≡ node_word (handle_at A (walk i A k)) = e ∙ ap (λ (x : Node). node_word (record { unit = p / 64; slot = p % 64; serial = x.serial.0 })) load ∙ ap (λ (x : ℕ). node_word (handle_at A x)) at in
      let more : map f (nodes (follow (i + 1) A k)) ≡ map f (nodes (follow i A k)) ++ (f (handle_at A (walk i A k)) ∷ [])
      = ap (λ (j : ℕ). map f (nodes (follow j A k))) (add-one i) ∙ ap (map f) (nodes_suc A i k) ∙ map-append f (nodes (follow i A k)) (handle_at A (walk i A k) ∷ []) in
      ap (λ (x : ℕ). set (set out (i * 2 + 5) 3) (i * 2 + 5 + 1) x) g
      ∙ told_more (growing b k i) (f (handle_at A (walk i A k))) ws out 5 (i * 2 + 5) q (omega (arith, growing_long A i k))
      ∙ ap (λ (ns : List Notice). sets ws 5 (told_words ns)) (sym more)

pub grow_none : (b : List ℕ) (k : ℕ) (ws : List ℕ) → ws ≡ sets ws 5 (told_words (growing b k 0))
unfolding follow
grow_none b k ws = refl

-- the circle of a blossom that is present can be walked
pub walked : (b : List ℕ) (h : Handle) → Fit b → Ring (view b) h → (m : Node) → m ≡ node_at b (h.unit * 64 + h.slot) → Walked b m.first m.count
walked b h F R m e = subst (λ (x : Node). Walked b x.first x.count) (sym e) (record { few = few b h F R; low = members_low b h F R })

-- heads, the blossom and its members are the words of a blossom gone
module _ (b : List ℕ) (k n : ℕ) (h : Handle) (ws : List ℕ) (hs : List Handle) (e : hs ≡ nodes (follow n (node_at b) k)) where
  gone_words : sets (set (set (sets ws 0 (node_word h ∷ (n + 1) ∷ 0 ∷ [])) 3 7) 4 (node_word h)) 5 (told_words (growing b k n))
      ≡ said_over ws h (blossom_removed h ∷ map (λ (g : Handle). state_set g grows) hs)
  unfolding said_over circle_in
  gone_words =
      let f : Handle → Notice = λ (g : Handle). state_set g grows in
      let long : n + 1 ≡ suc (length (map f hs)) = add-one n ∙ ap suc (sym (growing_long (node_at b) n k) ∙ ap (λ (l : List Handle). length (map f l)) (sym e)) in
      let none : [] ≡ circle_in (map f hs) = sym (circle_none hs) in
      sets_append (node_word h ∷ (n + 1) ∷ 0 ∷ 7 ∷ node_word h ∷ []) (told_words (growing b k n)) ws 0 5 refl
      ∙ λ i. sets (sets ws 0 (node_word h ∷ long i ∷ length (none i) ∷ 7 ∷ node_word h ∷ told_words (map f (sym e i)))) 135 (map node_word (none i))

  pub gone_steps : {w : ℕ} {o u : List ℕ} → w ≡ node_word h → o ≡ sets ws 0 (w ∷ (n + 1) ∷ 0 ∷ []) → u ≡ sets (set (set o 3 7) 4 w) 5 (told_words (growing b k n))
      → u ≡ said_over ws h (blossom_removed h ∷ map (λ (g : Handle). state_set g grows) hs)
  gone_steps {w} f a g =
      let G = told_words (growing b k n) in
      g
      ∙ ap (λ (l : List ℕ). sets (set (set l 3 7) 4 w) 5 G) a
      ∙ ap (λ (x : ℕ). sets (set (set (sets ws 0 (x ∷ (n + 1) ∷ 0 ∷ [])) 3 7) 4 x) 5 G) f
      ∙ gone_words
