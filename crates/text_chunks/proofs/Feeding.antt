-- One call of `feed`: what is held and what is left of the chunk have the lines that are to come. Assumes nothing.
use Prim.Native.Nat.{ℕ, suc, ◌+◌, ◌≤◌, ◌<◌}
use native.Mathlib.Omega.{arith}
use native.Mathlib.Numerals.{add-one}
use mathlib.Core.Bool.{true, false, true≢false}
use mathlib.Core.Path.{◌≡◌, refl, sym, ◌∙◌, ap}
use mathlib.Core.List.{List, [], ◌∷◌, ◌++◌}
use lib.ListN.{length, take, drop, get_or, set, length-append, drop_of_length-le}
use lib.Seq.{take_all, length-take-le, take-append-le, take-suc-set, drop-cons}
use Rattle.text_chunks.specs.Chunks.{lines, left, first_line, Feeds}
use Rattle.text_chunks.proofs.Chunks.{lines_none, lines_end, lines_on, left_none, left_end, left_on, first_none, first_end, first_on}

pub push_in : (buf : List ℕ) (n b : ℕ) → length buf ≡ 1024 → n < 1024 → take (n + 1) (set buf n b) ≡ take 1024 (take n buf ++ (b ∷ []))
push_in buf n b h l =
    rw add-one (take-suc-set buf n b (omega arith)
    ∙ sym (take_all 1024 (take n buf ++ (b ∷ [])) (omega (arith, length-append (take n buf) (b ∷ []), length-take-le n buf (omega arith)))))

pub push_full : (buf : List ℕ) (n b : ℕ) → length buf ≡ 1024 → n ≤ 1024 → 1024 ≤ n → take n buf ≡ take 1024 (take n buf ++ (b ∷ []))
push_full buf n b h l m =
    let k : length (take n buf) ≡ n = length-take-le n buf (omega arith) in
    sym (take-append-le 1024 (take n buf) (b ∷ []) (omega arith) ∙ take_all 1024 (take n buf) (omega arith))

pub record Feeding (a : ℕ) (t p chunk buf : List ℕ) (n i : ℕ) : Type 0 where
  pub low : a ≤ i
  pub short : n ≤ 1024
  pub in_chunk : i ≤ length chunk
  pub long : length buf ≡ 1024
  pub lns : lines p t ≡ lines (take n buf) (drop i chunk)
  pub lft : left p t ≡ left (take n buf) (drop i chunk)
  pub fst : first_line p t ≡ first_line (take n buf) (drop i chunk)

pub feed_start : (chunk buf : List ℕ) (n i : ℕ) → i ≤ length chunk → length buf ≡ 1024 → n ≤ 1024 → Feeding i (drop i chunk) (take n buf) chunk buf n i
feed_start chunk buf n i a b c = record { low = omega arith; short = c; in_chunk = a; long = b; lns = refl; lft = refl; fst = refl }

module _ (a : ℕ) (t p chunk buf : List ℕ) (n i : ℕ) (g : Feeding a t p chunk buf n i) where
  pub feed_turn : i < length chunk → (get_or chunk i 0 ≡ 10 → ⊥) → (buf' : List ℕ) (r : ℕ) → length buf' ≡ length buf
      → (r ≤ 1024) × (take r buf' ≡ take 1024 (take n buf ++ (get_or chunk i 0 ∷ []))) → Feeding a t p chunk buf' r (i + 1)
  feed_turn h e buf' r l w = rw add-one (record {
    low = omega (arith, g.low);
    short = w.0;
    in_chunk = h;
    long = l ∙ g.long;
    lns = g.lns ∙ ap (lines (take n buf)) (drop-cons chunk i 0 h) ∙ lines_on (take n buf) (get_or chunk i 0) (drop (suc i) chunk) e ∙ ap (λ (q : List ℕ). lines q (drop (suc i) chunk)) (sym w.1);
    lft = g.lft ∙ ap (left (take n buf)) (drop-cons chunk i 0 h) ∙ left_on (take n buf) (get_or chunk i 0) (drop (suc i) chunk) e ∙ ap (λ (q : List ℕ). left q (drop (suc i) chunk)) (sym w.1);
    fst = g.fst ∙ ap (first_line (take n buf)) (drop-cons chunk i 0 h) ∙ first_on (take n buf) (get_or chunk i 0) (drop (suc i) chunk) e ∙ ap (λ (q : List ℕ). first_line q (drop (suc i) chunk)) (sym w.1);
  })

  pub feed_line : i < length chunk → get_or chunk i 0 ≡ 10 → Feeds a t p chunk buf true n (i + 1)
  feed_line h e = rw add-one (record {
    on = λ _. omega (arith, g.low);
    short = g.short;
    in_chunk = h;
    long = g.long;
    line = λ _. (
      g.lns ∙ ap (lines (take n buf)) (drop-cons chunk i 0 h) ∙ lines_end (take n buf) (get_or chunk i 0) (drop (suc i) chunk) e,
      g.lft ∙ ap (left (take n buf)) (drop-cons chunk i 0 h) ∙ left_end (take n buf) (get_or chunk i 0) (drop (suc i) chunk) e,
    );
    part = λ q. absurd (true≢false q);
    first = λ _. g.fst ∙ ap (first_line (take n buf)) (drop-cons chunk i 0 h) ∙ first_end (take n buf) (get_or chunk i 0) (drop (suc i) chunk) e;
    no_first = λ q. absurd (true≢false q);
  })

  pub feed_part : length chunk ≤ i → Feeds a t p chunk buf false n (length chunk)
  feed_part h =
      let d : drop i chunk ≡ [] = drop_of_length-le chunk h in
      record {
        on = λ q. absurd (true≢false (sym q));
        short = g.short;
        in_chunk = omega arith;
        long = g.long;
        line = λ q. absurd (true≢false (sym q));
        part = λ _. (g.lns ∙ ap (lines (take n buf)) d ∙ lines_none (take n buf), g.lft ∙ ap (left (take n buf)) d ∙ left_none (take n buf));
        first = λ q. absurd (true≢false (sym q));
        no_first = λ _. g.fst ∙ ap (first_line (take n buf)) d ∙ first_none (take n buf);
      }
