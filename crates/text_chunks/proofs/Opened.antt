-- The chunk in which an input's first line ends, or does not: the line is answered, and then the rest of the chunk. Assumes nothing.
use Rattle.std.specs.Prelude.{Option}
use Prim.Native.Nat.{ℕ, ◌≤◌}
use native.Mathlib.Omega.{arith}
use mathlib.Core.Bool.{true, false}
use mathlib.Core.Path.{◌≡◌, refl, sym, ◌∙◌, ap}
use mathlib.Core.List.{List, [], ◌∷◌, ◌++◌}
use borrow.Author.Tests.{ne_eqb}
use lib.IntN.{ℤ}
use lib.ListN.{length, take, drop, length-append}
use Rattle.text_decimals.specs.Wrote.{Wrote}
use Rattle.text_decimals.proofs.Writes.{chain, same_text}
use Rattle.ledger_spec.specs.Bench.{Bench, set_up}
use Rattle.ledger_spec.specs.Decimals.{decimal, signed}
use Rattle.ledger_spec.specs.Opening.{opening}
use Rattle.ledger_spec.specs.Program.{answers, after_lines, text_of, texts}
use Rattle.text_chunks.specs.Chunks.{lines, Feeds}
use Rattle.text_chunks.specs.Answering.{ChunkAnswered}
use Rattle.text_chunks.specs.Opening.{open_said, open_bench, is_none, FirstAnswered, OpeningAnswered}
use Rattle.text_chunks.proofs.Answering.{texts_none, texts_more}

-- an answer has its newline at least
text_some : (a : ℕ × ℕ × ℤ × ℤ) → 1 ≤ length (text_of a)
unfolding text_of
text_some a =
    let x = decimal a.0 in
    let y = decimal a.1 in
    let v = signed a.2 in
    let w = signed a.3 in
    omega (
      arith,
      length-append x ((32 ∷ y) ++ ((32 ∷ v) ++ ((32 ∷ w) ++ (10 ∷ [])))),
      length-append (32 ∷ y) ((32 ∷ v) ++ ((32 ∷ w) ++ (10 ∷ []))),
    )

module _ (chunk p buf : List ℕ) (n at : ℕ) (out : List ℕ) where
  -- the first line is not ended: nothing is written, and the bench is as set-up makes it
  pub opened_part : Feeds 0 chunk p chunk buf false n at → (b : Bench) → b ≡ set_up 1 → OpeningAnswered chunk p out b buf out n 0
  opened_part f b e =
      let z = f.no_first refl in
      record {
        bench = e ∙ ap open_bench (sym z);
        text = same_text out 0 [] _ out 0 (sym texts_none ∙ ap (λ (x : Option (List ℕ × List ℕ)). texts (open_said x)) (sym z)) (record { next = refl; stands = refl });
        kept = sym (f.part refl).1;
        unended = ap is_none (sym z);
        short = f.short;
        long = f.long;
      }

  -- it is ended, and the rest of the chunk was answered after it
  pub opened_line : Feeds 0 chunk p chunk buf true n at → (b : Bench) (out₁ : List ℕ) (w : ℕ) → FirstAnswered (opening (take n buf)) b out out₁ w
      → (b₂ : Bench) (buf₂ out₂ : List ℕ) (held wrote : ℕ) → ChunkAnswered b (drop at chunk) [] out₁ w b₂ buf₂ out₂ held wrote → OpeningAnswered chunk p out b₂ buf₂ out₂ held wrote
  opened_line f b out₁ w a b₂ buf₂ out₂ held wrote r =
      let z = f.first refl in
      let o = opening (take n buf) in
      let t = lines [] (drop at chunk) in
      let y : Wrote out₁ w (texts (answers o.bench t)) out₂ wrote = same_text out₁ w _ _ out₂ wrote (ap (λ (c : Bench). texts (answers c t)) a.bench) r.text in
      record {
        bench = r.bench ∙ ap (λ (c : Bench). after_lines c t) a.bench ∙ ap open_bench (sym z);
        text = same_text out 0 _ _ out₂ wrote (sym (texts_more o.numbers (answers o.bench t)) ∙ ap (λ (x : Option (List ℕ × List ℕ)). texts (open_said x)) (sym z))
            (chain out 0 (text_of o.numbers) out₁ w (texts (answers o.bench t)) out₂ wrote a.text y);
        kept = r.kept ∙ sym (f.line refl).1;
        unended = ne_eqb wrote 0 (λ e. omega (arith, e, y.next, a.text.next, text_some o.numbers)) ∙ ap is_none (sym z);
        short = r.short;
        long = r.long;
      }
