-- A whole input is one chunk and its end. Assumes nothing.
use Rattle.std.specs.Prelude.{None, Option, Some}
use Prim.Native.Nat.{ℕ}
use mathlib.Core.Path.{◌≡◌, refl, ◌∙◌, ap}
use mathlib.Core.List.{List, [], ◌∷◌, ◌++◌, append-nil}
use native.Mathlib.Omega.{arith}
use lib.ListN.{length, take}
use lib.Seq.{length-take-le}
use Rattle.text_decimals.proofs.Writes.{chain, same_text}
use Rattle.ledger_spec.specs.Program.{answers, texts, program}
use Rattle.text_chunks.specs.Chunks.{left, first_line, last, joined}
use Rattle.text_chunks.specs.Answering.{replies}
use Rattle.text_chunks.specs.Opening.{open_said, open_bench, open_on, open_replies}
use Rattle.text_chunks.proofs.Opening.{opens_program, opens_leaves}
use Rattle.text_sessions.specs.Session.{OpeningDone, Finished, AllDone}

-- a chunk in which the first line ends, or does not, and the input's end
ends_there : (x : Option (List ℕ × List ℕ)) (p : List ℕ) → texts (open_said x) ++ texts (answers (open_bench x) (last p)) ≡ open_on x p [] (open_replies p [])
unfolding texts replies open_replies
ends_there None p = refl
ends_there (Some x) p = refl

one_chunk : (s : List ℕ) → texts (open_said (first_line [] s)) ++ texts (answers (open_bench (first_line [] s)) (last (left [] s))) ≡ program s
unfolding open_replies joined
one_chunk s = ends_there (first_line [] s) (left [] s) ∙ opens_program (s ∷ []) ∙ ap program (append-nil s)

pub all_done : (s buf out b' buf' out' : List ℕ) (held wrote : ℕ) → OpeningDone s (take 0 buf) out b' buf' out' held wrote
    → (out'' : List ℕ) (r : ℕ) → Finished held out' wrote out'' r → AllDone s out b' out'' r
all_done s buf out b' buf' out' held wrote C out'' r F =
    let a = C.answered in
    let x = first_line [] s in
    let l : length (take held buf') ≡ held = length-take-le held buf' (omega (arith, a.short, a.long)) in
    let y = same_text out' wrote _ _ out'' r (ap (λ (p : List ℕ). texts (answers (open_bench x) (last p))) a.kept) (F.text (open_bench x) (take held buf') l) in
    record {
      text = same_text out 0 _ _ out'' r (one_chunk s) (chain out 0 _ out' wrote _ out'' r a.text y);
      words = C.words;
      seen = a.bench ∙ opens_leaves s;
    }
