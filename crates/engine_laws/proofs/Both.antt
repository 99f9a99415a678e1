-- THEOREM. The same calls from set-up in both engines: the same answers, and benches that nobody can tell apart; the same lines: the same bytes. Assumes nothing.
use Prim.Native.Nat.{ℕ}
use mathlib.Core.Path.{◌≡◌, refl, sym, ap, subst, ◌∙◌}
use mathlib.Core.Bool.{Bool, true, false}
use mathlib.Core.List.{List, [], ◌∷◌}
use lib.Dec.{eqb}
use Rattle.ledger_spec.specs.Bench.{Bench, set_up_in}
use Rattle.ledger_spec.specs.Look.{node_named}
use Rattle.ledger_spec.specs.Calls.{Call, Defect, Blossom, Expand, SetState, Grow, Fuse, Clear, Mark}
use Rattle.ledger_spec.specs.Answers.{Answer, answer}
use Rattle.ledger_spec.specs.Grammar.{Line}
use Rattle.ledger_spec.specs.Program.{answers, texts}
use Rattle.ledger_spec.specs.Book.{Gone, wrote, writes, Book, turn, turns}
use Rattle.engine_laws.specs.Engines.{in_engine, book_in}
use Rattle.engine_laws.specs.Alike.{Heard, heard, after, Lookalikes, BothEngines}
use Rattle.engine_laws.proofs.Looks.{top_in}
use Rattle.engine_laws.proofs.Answered.{answer_engine}
use Rattle.engine_laws.proofs.Asked.{read_engine}
use Rattle.engine_laws.proofs.Lines.{texts_engine}

module _ (m : Bool) where
  -- ---- any calls on any bench
  pub heard_engine : (b : Bench) (cs : List Call) → heard (in_engine m b) cs ≡ heard b cs
  unfolding heard
  heard_engine b [] = refl
  heard_engine b (c ∷ cs) = ap (λ (a : Answer). one a ∷ heard a.bench cs) (answer_engine m b c) ∙ ap (◌∷◌ (one (answer b c))) (heard_engine (answer b c).bench cs)
    where
      one : Answer → Heard
      one a = record { number = a.number; node = a.node; notices = a.notices }

  pub after_engine : (b : Bench) (cs : List Call) → after (in_engine m b) cs ≡ in_engine m (after b cs)
  unfolding after
  after_engine b [] = refl
  after_engine b (c ∷ cs) = (λ i. after (answer_engine m b c i).bench cs) ∙ after_engine (answer b c).bench cs

  -- ---- the book of what went
  wrote_in : (g : Gone) (b : Bench) (c : Call) → wrote g (in_engine m b) c ≡ wrote g b c
  unfolding wrote node_named
  wrote_in g b (Defect u v) = refl
  wrote_in g b (Blossom u hs ts) = refl
  wrote_in g b (Expand u h) = refl
  wrote_in g b (SetState u h s) = refl
  wrote_in g b (Grow u l) = refl
  wrote_in g b (Fuse p l r) = refl
  wrote_in g b (Clear u) = λ i w. elim (eqb (top_in m b w i) u) [ true ↦ [] | false ↦ g w ]
  wrote_in g b (Mark u k) = refl

  pub turn_engine : (k : Book) (c : Call) → turn (book_in m k) c ≡ book_in m (turn k c)
  unfolding turn
  turn_engine k c = λ i. record { bench = (answer_engine m k.bench c i).bench; gone = writes (answer_engine m k.bench c i).number k.gone (wrote_in k.gone k.bench c i) }

  pub turns_engine : (k : Book) (cs : List Call) → turns (book_in m k) cs ≡ book_in m (turns k cs)
  unfolding turns
  turns_engine k [] = refl
  turns_engine k (c ∷ cs) = ap (λ (j : Book). turns j cs) (turn_engine k c) ∙ turns_engine (turn k c) cs

-- ---- from set-up
pub kept_through : (b : Bench) (cs : List Call) → (after b cs).plain ≡ b.plain
kept_through b cs = ap (λ (d : Bench). d.plain) (after_engine b.plain b cs)

module _ (n : ℕ) (cs : List Call) where
  abbrev lazy : Bench
  lazy = after (set_up_in false n) cs

  other : after (set_up_in true n) cs ≡ in_engine true lazy
  other = after_engine true (set_up_in false n) cs

  twins : Lookalikes (in_engine true lazy) lazy
  twins = record { plain = refl; lazy = kept_through (set_up_in false n) cs; next = refl; interfaces = refl; asked = read_engine true lazy }

  pub both_engines : BothEngines n cs
  both_engines = record { answers = heard_engine true (set_up_in false n) cs; benches = subst (λ (d : Bench). Lookalikes d lazy) (sym other) twins }

-- ---- lines
pub both_texts : (n : ℕ) (ls : List Line) → texts (answers (set_up_in true n) ls) ≡ texts (answers (set_up_in false n) ls)
both_texts n ls = texts_engine true (set_up_in false n) ls
