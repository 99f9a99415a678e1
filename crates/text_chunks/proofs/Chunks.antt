-- However an input is cut into chunks, its lines are those of the whole: what is held of a line is enough to go on. Assumes nothing.
use Rattle.std.specs.Prelude.{None, Some}
use Prim.Native.Nat.{ℕ, ◌≤◌, ◌<◌}
use native.Mathlib.Omega.{arith}
use native.Mathlib.Decide.{ℕ_discrete, dec_le}
use mathlib.Core.Path.{◌≡◌, refl, sym, ◌∙◌, ap}
use mathlib.Core.List.{List, [], ◌∷◌, ◌++◌, append_assoc, append-nil}
use lib.Dec.{lit<}
use lib.ListN.{length, take}
use lib.Seq.{take_all, length-take-le, take-append-le}
use borrow.Author.Tests.{eq-eqb, ne_eqb, lt-ltb}
use Rattle.ledger_spec.specs.Fields.{upto, parts_after}
use Rattle.ledger_spec.specs.Grammar.{Line, wrong, line_of}
use Rattle.ledger_spec.specs.Program.{ended, lines_of}
use Rattle.text_fields.proofs.Cuts.{upto_none, upto_here, upto_on, after_none, after_here, after_on}
use Rattle.text_chunks.specs.Chunks.{lines, left, first_line, last, joined, lines_in}

-- ---- a byte

pub lines_none : (p : List ℕ) → lines p [] ≡ []
unfolding lines
lines_none p = refl

pub lines_end : (p : List ℕ) (c : ℕ) (s : List ℕ) → c ≡ 10 → lines p (c ∷ s) ≡ line_of p ∷ lines [] s
unfolding lines
lines_end p c s e = rw (eq-eqb c 10 e, lines)

pub lines_on : (p : List ℕ) (c : ℕ) (s : List ℕ) → (c ≡ 10 → ⊥) → lines p (c ∷ s) ≡ lines (take 1024 (p ++ (c ∷ []))) s
unfolding lines
lines_on p c s e = rw (ne_eqb c 10 e, lines)

pub left_none : (p : List ℕ) → left p [] ≡ p
unfolding left
left_none p = refl

pub left_end : (p : List ℕ) (c : ℕ) (s : List ℕ) → c ≡ 10 → left p (c ∷ s) ≡ left [] s
unfolding left
left_end p c s e = rw (eq-eqb c 10 e, left)

pub left_on : (p : List ℕ) (c : ℕ) (s : List ℕ) → (c ≡ 10 → ⊥) → left p (c ∷ s) ≡ left (take 1024 (p ++ (c ∷ []))) s
unfolding left
left_on p c s e = rw (ne_eqb c 10 e, left)

pub first_none : (p : List ℕ) → first_line p [] ≡ None
unfolding first_line
first_none p = refl

pub first_end : (p : List ℕ) (c : ℕ) (s : List ℕ) → c ≡ 10 → first_line p (c ∷ s) ≡ Some (p, s)
unfolding first_line
first_end p c s e = rw (eq-eqb c 10 e, first_line)

pub first_on : (p : List ℕ) (c : ℕ) (s : List ℕ) → (c ≡ 10 → ⊥) → first_line p (c ∷ s) ≡ first_line (take 1024 (p ++ (c ∷ []))) s
unfolding first_line
first_on p c s e = rw (ne_eqb c 10 e, first_line)

-- ---- chunks make no difference

pub lines_append : (a b p : List ℕ) → lines p (a ++ b) ≡ lines p a ++ lines (left p a) b
lines_append [] b p = sym ((λ i. lines_none p i ++ lines (left_none p i) b))
lines_append (c ∷ a) b p = go (ℕ_discrete c 10) (lines_append a b []) (lines_append a b (take 1024 (p ++ (c ∷ []))))
  where
    go : Dec (c ≡ 10) → lines [] (a ++ b) ≡ lines [] a ++ lines (left [] a) b
        → lines (take 1024 (p ++ (c ∷ []))) (a ++ b) ≡ lines (take 1024 (p ++ (c ∷ []))) a ++ lines (left (take 1024 (p ++ (c ∷ []))) a) b
        → lines p (c ∷ (a ++ b)) ≡ lines p (c ∷ a) ++ lines (left p (c ∷ a)) b
    go (yes e) i j = lines_end p c (a ++ b) e ∙ ap (λ (l : List Line). line_of p ∷ l) i ∙ sym (λ k. lines_end p c a e k ++ lines (left_end p c a e k) b)
    go (no e) i j = lines_on p c (a ++ b) e ∙ j ∙ sym (λ k. lines_on p c a e k ++ lines (left_on p c a e k) b)

pub left_append : (a b p : List ℕ) → left p (a ++ b) ≡ left (left p a) b
left_append [] b p = ap (λ (q : List ℕ). left q b) (sym (left_none p))
left_append (c ∷ a) b p = go (ℕ_discrete c 10) (left_append a b []) (left_append a b (take 1024 (p ++ (c ∷ []))))
  where
    go : Dec (c ≡ 10) → left [] (a ++ b) ≡ left (left [] a) b → left (take 1024 (p ++ (c ∷ []))) (a ++ b) ≡ left (left (take 1024 (p ++ (c ∷ []))) a) b
        → left p (c ∷ (a ++ b)) ≡ left (left p (c ∷ a)) b
    go (yes e) i j = left_end p c (a ++ b) e ∙ i ∙ sym (ap (λ (q : List ℕ). left q b) (left_end p c a e))
    go (no e) i j = left_on p c (a ++ b) e ∙ j ∙ sym (ap (λ (q : List ℕ). left q b) (left_on p c a e))

-- ---- the lines are those of the whole input

line_long : (s : List ℕ) → 1023 < length s → line_of s ≡ wrong
unfolding line_of
line_long s h = rw (lt-ltb 1023 (length s) h)

pub line_kept : (p : List ℕ) → line_of (take 1024 p) ≡ line_of p
line_kept p = go (dec_le (length p) 1024)
  where
    go : Dec (length p ≤ 1024) → line_of (take 1024 p) ≡ line_of p
    go (yes h) = ap line_of (take_all 1024 p h)
    go (no h) = let l : 1024 < length p = omega arith in line_long (take 1024 p) (rw (length-take-le 1024 p (omega arith)) (lit< tt)) ∙ sym (line_long p (omega arith))

pub keep_more : (p : List ℕ) (c : ℕ) → take 1024 (take 1024 p ++ (c ∷ [])) ≡ take 1024 (p ++ (c ∷ []))
keep_more p c = go (dec_le (length p) 1024)
  where
    go : Dec (length p ≤ 1024) → take 1024 (take 1024 p ++ (c ∷ [])) ≡ take 1024 (p ++ (c ∷ []))
    go (yes h) = ap (λ (q : List ℕ). take 1024 (q ++ (c ∷ []))) (take_all 1024 p h)
    go (no h) =
        let l : 1024 ≤ length p = omega arith in
        let k : length (take 1024 p) ≡ 1024 = length-take-le 1024 p l in
        take-append-le 1024 (take 1024 p) (c ∷ []) (omega (arith, k)) ∙ take_all 1024 (take 1024 p) (omega (arith, k)) ∙ sym (take-append-le 1024 p (c ∷ []) l)

pub last_ended : (p : List ℕ) → last (take 1024 p) ≡ ended (p ∷ [])
unfolding ended
last_ended [] = refl
last_ended (c ∷ p) = refl

ended_more : (l m : List ℕ) (ls : List (List ℕ)) → ended (l ∷ m ∷ ls) ≡ line_of l ∷ ended (m ∷ ls)
unfolding ended
ended_more l m ls = refl

whole_from : (s p : List ℕ) → lines (take 1024 p) s ++ last (left (take 1024 p) s) ≡ ended ((p ++ upto 10 s) ∷ parts_after 10 s)
whole_from [] p =
    (λ i. lines_none (take 1024 p) i ++ last (left_none (take 1024 p) i)) ∙ last_ended p
    ∙ sym (λ i. ended ((ap (λ (q : List ℕ). p ++ q) (upto_none 10) ∙ append-nil p) i ∷ after_none 10 i))
whole_from (c ∷ s) p = go (ℕ_discrete c 10) (whole_from s []) (whole_from s (p ++ (c ∷ [])))
  where
    go : Dec (c ≡ 10) → lines [] s ++ last (left [] s) ≡ ended (upto 10 s ∷ parts_after 10 s)
        → lines (take 1024 (p ++ (c ∷ []))) s ++ last (left (take 1024 (p ++ (c ∷ []))) s) ≡ ended (((p ++ (c ∷ [])) ++ upto 10 s) ∷ parts_after 10 s)
        → lines (take 1024 p) (c ∷ s) ++ last (left (take 1024 p) (c ∷ s)) ≡ ended ((p ++ upto 10 (c ∷ s)) ∷ parts_after 10 (c ∷ s))
    go (yes e) i j =
        (λ k. lines_end (take 1024 p) c s e k ++ last (left_end (take 1024 p) c s e k))
        ∙ (λ k. line_kept p k ∷ i k)
        ∙ sym ((λ k. ended ((ap (λ (q : List ℕ). p ++ q) (upto_here 10 c s e) ∙ append-nil p) k ∷ after_here 10 c s e k)) ∙ ended_more p (upto 10 s) (parts_after 10 s))
    go (no e) i j =
        (λ k. lines_on (take 1024 p) c s e k ++ last (left_on (take 1024 p) c s e k))
        ∙ ap (λ (q : List ℕ). lines q s ++ last (left q s)) (keep_more p c)
        ∙ j
        ∙ sym (λ k. ended ((ap (λ (q : List ℕ). p ++ q) (upto_on 10 c s e) ∙ sym (append_assoc p (c ∷ []) (upto 10 s))) k ∷ after_on 10 c s e k))

pub whole : (s : List ℕ) → lines [] s ++ last (left [] s) ≡ lines_of s
unfolding lines_of
whole s = whole_from s []

-- ---- an input cut anyhow

chunked : (cs : List (List ℕ)) (p : List ℕ) → lines_in p cs ≡ lines p (joined cs) ++ last (left p (joined cs))
unfolding lines_in joined
chunked [] p = sym (λ i. lines_none p i ++ last (left_none p i))
chunked (c ∷ cs) p =
    ap (λ (l : List Line). lines p c ++ l) (chunked cs (left p c))
    ∙ sym (append_assoc (lines p c) (lines (left p c) (joined cs)) (last (left (left p c) (joined cs))))
    ∙ sym (λ i. lines_append c (joined cs) p i ++ last (left_append c (joined cs) p i))

pub cut_anyhow : (cs : List (List ℕ)) → lines_in [] cs ≡ lines_of (joined cs)
cut_anyhow cs = chunked cs [] ∙ whole (joined cs)
