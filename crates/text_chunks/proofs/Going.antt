-- What is left of a chunk, answered line by line from a place of the output: the text written so far is that of the lines passed, at most 57 bytes for each
-- byte passed, and the rest is to come. Assumes nothing.
use Prim.Native.Nat.{ℕ, ◌+◌, ◌*◌, ◌≤◌, ◌<◌}
use native.Mathlib.Omega.{arith}
use mathlib.Core.Bool.{Bool, true, false}
use mathlib.Core.Path.{◌≡◌, refl, sym, subst}
use mathlib.Core.List.{List, [], ◌++◌}
use lib.ListN.{length, take, drop}
use lib.Seq.{drop-length}
use Rattle.text_decimals.specs.Wrote.{Wrote}
use Rattle.text_decimals.proofs.Writes.{chain, length_wrote}
use Rattle.ledger_spec.specs.Bench.{Bench}
use Rattle.ledger_spec.specs.Grammar.{line_of}
use Rattle.ledger_spec.specs.Lines.{says}
use Rattle.ledger_spec.specs.Program.{text_of}
use Rattle.text_chunks.specs.Chunks.{Feeds}
use Rattle.text_chunks.specs.Answering.{Answering, LineAnswered, ChunkAnswered}
use Rattle.text_chunks.proofs.Answering.{begin, one_line, no_line, used_up}

-- where the loop over a chunk stands
pub record Going (b₀ : Bench) (chunk t₀ p₀ out₀ : List ℕ) (w₀ : ℕ) (b : Bench) (buf out : List ℕ) (held wrote at : ℕ) : Type 0 where
  pub in_chunk : at ≤ length chunk
  pub short : held ≤ 1024
  pub long : length buf ≡ 1024
  pub few : wrote ≤ 57 * at
  pub text : List ℕ
  pub stands : Wrote out₀ w₀ text out wrote
  pub to_come : Answering b₀ p₀ t₀ b (take held buf) (drop at chunk) text

pub going_start : (b : Bench) (chunk buf out : List ℕ) (held wrote at : ℕ) → length buf ≡ 1024 → held ≤ 1024 → at ≤ length chunk → wrote ≤ 57 * at
    → Going b chunk (drop at chunk) (take held buf) out wrote b buf out held wrote at
going_start b chunk buf out held wrote at l h i f = record {
  in_chunk = i;
  short = h;
  long = l;
  few = f;
  text = [];
  stands = record { next = omega arith; stands = refl };
  to_come = begin b (take held buf) (drop at chunk);
}

module _ (b₀ : Bench) (chunk t₀ p₀ out₀ : List ℕ) (w₀ : ℕ) (b : Bench) (buf out : List ℕ) (held wrote at : ℕ) (g : Going b₀ chunk t₀ p₀ out₀ w₀ b buf out held wrote at) where
  -- the output has the same length, so there is room for another answer
  pub going_long : length out ≡ length out₀
  going_long = length_wrote out₀ w₀ g.text out wrote g.stands

  pub going_room : 57 * length chunk ≤ length out₀ → at < length chunk → wrote + 57 ≤ length out
  going_room r h = omega (arith, g.few, going_long)

  module _ (buf' : List ℕ) (ended : Bool) (n next : ℕ) (f : Feeds at (drop at chunk) (take held buf) chunk buf' ended n next) where
    -- a line ended, and was answered
    pub going_line : ended ≡ true → (b' : Bench) (out' : List ℕ) (wrote' : ℕ) → LineAnswered b (line_of (take n buf')) b' out wrote out' wrote'
        → Going b₀ chunk t₀ p₀ out₀ w₀ b' buf' out' 0 wrote' next
    going_line e b' out' wrote' a =
        let l = line_of (take n buf') in
        let x = text_of (says b l).numbers in
        let k = f.on e in
        record {
          in_chunk = f.in_chunk;
          short = omega arith;
          long = f.long;
          few = omega (arith, g.few, a.few, a.text.next, k);
          text = g.text ++ x;
          stands = chain out₀ w₀ g.text out wrote x out' wrote' g.stands a.text;
          to_come = subst (λ (c : Bench). Answering b₀ p₀ t₀ c [] (drop next chunk) (g.text ++ x)) (sym a.bench)
              (one_line b₀ p₀ t₀ b (take held buf) (drop at chunk) g.text g.to_come l (drop next chunk) (f.line e));
        }

    -- the chunk ended first
    pub going_part : ended ≡ false → Going b₀ chunk t₀ p₀ out₀ w₀ b buf' out n wrote (length chunk)
    going_part e = record {
      in_chunk = omega arith;
      short = f.short;
      long = f.long;
      few = omega (arith, g.few, g.in_chunk);
      text = g.text;
      stands = g.stands;
      to_come = rw (drop-length chunk) (no_line b₀ p₀ t₀ b (take held buf) (drop at chunk) g.text g.to_come (take n buf') (f.part e));
    }

  pub going_end : length chunk ≤ at → ChunkAnswered b₀ t₀ p₀ out₀ w₀ b buf out held wrote
  going_end h =
      let e : at ≡ length chunk = same at (length chunk) g.in_chunk h in
      let d : drop at chunk ≡ [] = rw e (drop-length chunk) in
      let u = used_up b₀ p₀ t₀ b (take held buf) g.text (subst (λ (t : List ℕ). Answering b₀ p₀ t₀ b (take held buf) t g.text) d g.to_come) in
      record {
        bench = u.bench;
        text = subst (λ (t : List ℕ). Wrote out₀ w₀ t out wrote) u.said g.stands;
        kept = u.held;
        short = g.short;
        long = g.long;
      }
    where
      same : (m n : ℕ) → m ≤ n → n ≤ m → m ≡ n
      same m n p q = omega arith
