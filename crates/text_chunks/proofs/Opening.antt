-- However an input is cut into chunks, what is written for it from its beginning is the program's: what is held of its first line is enough to tell whether
-- that line chooses an engine. Assumes nothing.
use Rattle.std.specs.Prelude.{None, Some}
use Prim.Native.Nat.{ℕ, ◌≤◌, ◌<◌}
use native.Mathlib.Omega.{arith}
use native.Mathlib.Decide.{ℕ_discrete, dec_le}
use mathlib.Core.Path.{◌≡◌, refl, sym, ◌∙◌, ap}
use mathlib.Core.List.{List, [], ◌∷◌, ◌++◌, append_assoc, append-nil}
use lib.ListN.{length, take}
use lib.Seq.{take_all, length-take-le}
use Rattle.ledger_spec.specs.Bench.{Bench, set_up}
use Rattle.ledger_spec.specs.Fields.{upto, parts_after}
use Rattle.ledger_spec.specs.Grammar.{Line}
use Rattle.ledger_spec.specs.Lines.{LineAnswer, says}
use Rattle.ledger_spec.specs.Opening.{chosen, opening}
use Rattle.ledger_spec.specs.Program.{ended, lines_of, answers, after_lines, text_of, texts, open_answers, open_after, program, program_leaves}
use Rattle.ledger_spec.proofs.Openings.{opening_none}
use Rattle.text_fields.proofs.Cuts.{upto_none, upto_here, upto_on, after_none, after_here, after_on}
use Rattle.text_chunks.specs.Chunks.{lines, left, first_line, last, joined}
use Rattle.text_chunks.specs.Answering.{replies}
use Rattle.text_chunks.specs.Opening.{open_bench, open_on, open_replies}
use Rattle.text_chunks.proofs.Chunks.{left_none, left_end, left_on, first_none, first_end, first_on, line_kept, keep_more, last_ended, whole}
use Rattle.text_chunks.proofs.Answering.{after_append, texts_more, replies_lines}

-- ---- the first 1,024 bytes of a line tell whether it chooses

pub chosen_long : (l : List ℕ) → 3 < length l → chosen l ≡ None
unfolding chosen
chosen_long [] h = absurd (omega arith)
chosen_long (m ∷ []) h = absurd (omega arith)
chosen_long (m ∷ s ∷ []) h = absurd (omega arith)
chosen_long (m ∷ s ∷ d ∷ []) h = absurd (omega arith)
chosen_long (m ∷ s ∷ d ∷ e ∷ l) h = refl

pub opening_kept : (l : List ℕ) → opening (take 1024 l) ≡ opening l
opening_kept l = go (dec_le (length l) 1024)
  where
    go : Dec (length l ≤ 1024) → opening (take 1024 l) ≡ opening l
    go (yes h) = ap opening (take_all 1024 l h)
    go (no h) =
        opening_none (take 1024 l) (chosen_long (take 1024 l) (omega (arith, length-take-le 1024 l (omega arith))))
        ∙ ap (says (set_up 1)) (line_kept l)
        ∙ sym (opening_none l (chosen_long l (omega arith)))

-- ---- a chunk, where p is what stands before it of the first line: it goes on with that line, or ends it

pub data Met (p c : List ℕ) : Type 0 where
  goes : first_line (take 1024 p) c ≡ None → left (take 1024 p) c ≡ take 1024 (p ++ c)
      → ((r : List ℕ) → (upto 10 (c ++ r) ≡ c ++ upto 10 r) × (parts_after 10 (c ++ r) ≡ parts_after 10 r)) → Met p c
  ends : (l t : List ℕ) → first_line (take 1024 p) c ≡ Some (take 1024 (p ++ l), t) → left (take 1024 p) c ≡ left [] t
      → ((r : List ℕ) → (upto 10 (c ++ r) ≡ l) × (parts_after 10 (c ++ r) ≡ upto 10 (t ++ r) ∷ parts_after 10 (t ++ r))) → Met p c

first_met : (c p : List ℕ) → Met p c
first_met [] p = goes (first_none (take 1024 p)) (left_none (take 1024 p) ∙ ap (take 1024) (sym (append-nil p))) (λ r. (refl, refl))
first_met (x ∷ c) p = go (ℕ_discrete x 10) (first_met c (p ++ (x ∷ [])))
  where
    on : (e : x ≡ 10 → ⊥) → first_line (take 1024 p) (x ∷ c) ≡ first_line (take 1024 (p ++ (x ∷ []))) c
    on e = first_on (take 1024 p) x c e ∙ ap (λ (q : List ℕ). first_line q c) (keep_more p x)

    left_more : (e : x ≡ 10 → ⊥) → left (take 1024 p) (x ∷ c) ≡ left (take 1024 (p ++ (x ∷ []))) c
    left_more e = left_on (take 1024 p) x c e ∙ ap (λ (q : List ℕ). left q c) (keep_more p x)

    go : Dec (x ≡ 10) → Met (p ++ (x ∷ [])) c → Met p (x ∷ c)
    go (yes e) m =
        ends [] c (first_end (take 1024 p) x c e ∙ ap (λ (q : List ℕ). Some (take 1024 q, c)) (sym (append-nil p))) (left_end (take 1024 p) x c e)
        (λ r. (upto_here 10 x (c ++ r) e, after_here 10 x (c ++ r) e))
    go (no e) (goes f k w) =
        goes (on e ∙ f) (left_more e ∙ k ∙ ap (take 1024) (append_assoc p (x ∷ []) c))
        (λ r. (upto_on 10 x (c ++ r) e ∙ ap (λ (q : List ℕ). x ∷ q) (w r).0, after_on 10 x (c ++ r) e ∙ (w r).1))
    go (no e) (ends l t f k w) =
        ends (x ∷ l) t (on e ∙ f ∙ ap (λ (q : List ℕ). Some (take 1024 q, t)) (append_assoc p (x ∷ []) l)) (left_more e ∙ k)
        (λ r. (upto_on 10 x (c ++ r) e ∙ ap (λ (q : List ℕ). x ∷ q) (w r).0, after_on 10 x (c ++ r) e ∙ (w r).1))

-- ---- chunks one after the other

-- the parts of an input's rest, where p stands before it of the first line
abbrev parts : List ℕ → List ℕ → List (List ℕ)
parts p s = (p ++ upto 10 s) ∷ parts_after 10 s

open_none : (p : List ℕ) → open_replies p [] ≡ texts (answers (set_up 1) (last p))
unfolding open_replies
open_none p = refl

open_more : (p c : List ℕ) (cs : List (List ℕ)) → open_replies p (c ∷ cs) ≡ open_on (first_line p c) (left p c) cs (open_replies (left p c) cs)
unfolding open_replies
open_more p c cs = refl

one_part : (l : List ℕ) → open_answers (l ∷ []) ≡ answers (set_up 1) (ended (l ∷ []))
unfolding open_answers
one_part l = refl

more_parts : (l m : List ℕ) (ls : List (List ℕ)) → open_answers (l ∷ m ∷ ls) ≡ (opening l).numbers ∷ answers (opening l).bench (ended (m ∷ ls))
unfolding open_answers
more_parts l m ls = refl

-- the first line ended, and x is its answer: the lines after it follow
followed : (x : LineAnswer) (t : List ℕ) (cs : List (List ℕ)) → texts (x.numbers ∷ answers x.bench (lines [] t)) ++ replies (after_lines x.bench (lines [] t)) (left [] t) cs
    ≡ texts (x.numbers ∷ answers x.bench (lines_of (t ++ joined cs)))
unfolding replies joined
followed x t cs =
    ap (λ (q : List ℕ). q ++ replies (after_lines x.bench (lines [] t)) (left [] t) cs) (texts_more x.numbers (answers x.bench (lines [] t)))
    ∙ append_assoc (text_of x.numbers) (texts (answers x.bench (lines [] t))) (replies (after_lines x.bench (lines [] t)) (left [] t) cs)
    ∙ ap (λ (q : List ℕ). text_of x.numbers ++ q) (replies_lines (t ∷ cs) x.bench)
    ∙ sym (texts_more x.numbers (answers x.bench (lines_of (t ++ joined cs))))

after_first : (l t : List ℕ) (cs : List (List ℕ)) (q : List ℕ) → q ≡ left [] t → (later : List ℕ)
    → open_on (Some (take 1024 l, t)) q cs later ≡ texts (open_answers (l ∷ upto 10 (t ++ joined cs) ∷ parts_after 10 (t ++ joined cs)))
unfolding lines_of
after_first l t cs q e later =
    (λ i. texts ((opening_kept l i).numbers ∷ answers (opening_kept l i).bench (lines [] t)) ++ replies (after_lines (opening_kept l i).bench (lines [] t)) (e i) cs)
    ∙ followed (opening l) t cs
    ∙ ap texts (sym (more_parts l (upto 10 (t ++ joined cs)) (parts_after 10 (t ++ joined cs))))

joined_none : joined [] ≡ []
unfolding joined
joined_none = refl

joined_more : (c : List ℕ) (cs : List (List ℕ)) → joined (c ∷ cs) ≡ c ++ joined cs
unfolding joined
joined_more c cs = refl

open_from : (cs : List (List ℕ)) (p : List ℕ) → open_replies (take 1024 p) cs ≡ texts (open_answers (parts p (joined cs)))
open_from [] p =
    open_none (take 1024 p) ∙ ap (λ (x : List Line). texts (answers (set_up 1) x)) (last_ended p) ∙ sym (ap texts (one_part p))
    ∙ sym (λ i. texts (open_answers ((ap (λ (q : List ℕ). p ++ q) (ap (upto 10) joined_none ∙ upto_none 10) ∙ append-nil p) i ∷ (ap (parts_after 10) joined_none ∙ after_none 10) i)))
open_from (c ∷ cs) p = go (first_met c p) (open_from cs (p ++ c))
  where
    go : Met p c → open_replies (take 1024 (p ++ c)) cs ≡ texts (open_answers (parts (p ++ c) (joined cs))) → open_replies (take 1024 p) (c ∷ cs) ≡ texts (open_answers (parts p (joined (c ∷ cs))))
    go (goes f k w) h =
        open_more (take 1024 p) c cs
        ∙ (λ i. open_on (f i) (k i) cs (open_replies (k i) cs))
        ∙ h
        ∙ (λ i. texts (open_answers ((append_assoc p c (upto 10 (joined cs)) ∙ ap (λ (q : List ℕ). p ++ q) (sym (w (joined cs)).0)) i ∷ sym (w (joined cs)).1 i)))
        ∙ ap (λ (s : List ℕ). texts (open_answers (parts p s))) (sym (joined_more c cs))
    go (ends l t f k w) h =
        open_more (take 1024 p) c cs
        ∙ (λ i. open_on (f i) (left (take 1024 p) c) cs (open_replies (left (take 1024 p) c) cs))
        ∙ after_first (p ++ l) t cs (left (take 1024 p) c) k (open_replies (left (take 1024 p) c) cs)
        ∙ (λ i. texts (open_answers ((p ++ sym (w (joined cs)).0 i) ∷ sym (w (joined cs)).1 i)))
        ∙ ap (λ (s : List ℕ). texts (open_answers (parts p s))) (sym (joined_more c cs))

-- THEOREM
pub opens_program : (cs : List (List ℕ)) → open_replies [] cs ≡ program (joined cs)
unfolding program
opens_program cs = open_from cs []

-- ---- the bench after an input: a last line without newline leaves it

last_leaves : (p : List ℕ) (b : Bench) → after_lines b (last p) ≡ b
unfolding after_lines says
last_leaves [] b = refl
last_leaves (c ∷ s) b = refl

bench_after : (t : List ℕ) (b : Bench) → after_lines b (lines [] t) ≡ after_lines b (lines_of t)
bench_after t b = sym (ap (after_lines b) (sym (whole t)) ∙ after_append (lines [] t) (last (left [] t)) b ∙ last_leaves (left [] t) (after_lines b (lines [] t)))

one_after : (l : List ℕ) → open_after (l ∷ []) ≡ set_up 1
unfolding open_after
one_after l = refl

more_after : (l m : List ℕ) (ls : List (List ℕ)) → open_after (l ∷ m ∷ ls) ≡ after_lines (opening l).bench (ended (m ∷ ls))
unfolding open_after
more_after l m ls = refl

pub opens_leaves : (s : List ℕ) → open_bench (first_line [] s) ≡ program_leaves s
unfolding program_leaves lines_of
opens_leaves s = go (first_met s [])
  where
    -- s and nothing after it
    bare : (u : List ℕ) (vs : List (List ℕ)) → upto 10 (s ++ []) ≡ u → parts_after 10 (s ++ []) ≡ vs → open_after (upto 10 s ∷ parts_after 10 s) ≡ open_after (u ∷ vs)
    bare u vs e f = (λ i. open_after ((ap (upto 10) (sym (append-nil s)) ∙ e) i ∷ (ap (parts_after 10) (sym (append-nil s)) ∙ f) i))

    go : Met [] s → open_bench (first_line [] s) ≡ open_after (upto 10 s ∷ parts_after 10 s)
    go (goes f k w) = ap open_bench f ∙ sym (bare (s ++ upto 10 []) [] (w []).0 ((w []).1 ∙ after_none 10) ∙ one_after (s ++ upto 10 []))
    go (ends l t f k w) =
        ap open_bench f
        ∙ ap (λ (x : LineAnswer). after_lines x.bench (lines [] t)) (opening_kept l)
        ∙ bench_after t (opening l).bench
        ∙ sym (bare l (upto 10 t ∷ parts_after 10 t) (w []).0 ((w []).1 ∙ ap (λ (x : List ℕ). upto 10 x ∷ parts_after 10 x) (append-nil t)) ∙ more_after l (upto 10 t) (parts_after 10 t))
