-- Words of which none is stale are packed handles, and two at one position have its node's serial, so they are the same. So are members that no test of
-- nodes refuses. Assumes nothing.
use Rattle.std.specs.Prelude.{Option}
use Prim.Native.Nat.{ℕ, ◌/◌, ◌%◌, ◌<◌}
use mathlib.Core.Path.{◌≡◌, sym, ◌∙◌, ap, subst}
use mathlib.Core.Bool.{false, not, true≢false}
use mathlib.Core.List.{List}
use native.Mathlib.Decide.{dec_lt}
use native.Mathlib.Omega.{arith}
use Rattle.bench_words.specs.Codec.{handle_of}
use Rattle.bench_words.specs.Store.{node_at}
use Rattle.ledger_spec.specs.Bench.{Handle, Node}
use Rattle.ledger_spec.specs.Knit.{In}
use Rattle.ledger_spec.specs.Named.{handle_named}
use Rattle.ledger_spec.specs.Tests.{first, any, is_some, stale, both}
use Rattle.ledger_spec.proofs.Lists.{or_false, any_no, in_map}
use Rattle.ledger_spec.proofs.Passed.{Failed, passed, has_of}
use Rattle.bench_views.specs.Canon.{Canon}
use Rattle.bench_views.specs.View.{view}
use Rattle.bench_links.specs.Find.{Stands}
use Rattle.bench_links.proofs.Finding.{no_handle, stands_by}
use Rattle.bench_views.specs.Given.{hand_given}
use Rattle.deed_circles.specs.Given.{hands_given}
use Rattle.deed_circles.proofs.Givens.{given_fine}
use Rattle.refuse_circles.specs.Parts.{nodes_tests}
use Rattle.refuse_circles.specs.Placed.{Placed}
use Rattle.refuse_circles.proofs.Any.{any_append}
use Rattle.refuse_circles.proofs.Twice.{word_of}

module _ (b : List ℕ) (w : ℕ) (e : stale (view b) (hand_given w) ≡ false) where
  word_sure : w < 2199023255552
  unfolding hand_given
  word_sure = go (dec_lt w 2199023255552)
    where
      go : Dec (w < 2199023255552) → w < 2199023255552
      go (yes l) = l
      go (no q) = absurd (true≢false (sym (ap (λ (o : Option Node). not (is_some o)) (no_handle b w (omega arith))) ∙ e))

  word_stands : Canon b → Stands b (handle_named (handle_of w))
  word_stands C = let p = has_of (view b) (hand_given w) e in
      subst (Stands b) (given_fine w word_sure) (stands_by b C (hand_given w) p.0 p.1.stands p.1.serial)

pub placed_of : (b : List ℕ) → Canon b → (ws : List ℕ) → any (stale (view b)) (hands_given ws) ≡ false → Placed ws
placed_of b C ws e = record {
  sure = λ w i. word_sure b w (fresh w i);
  apart = λ v w i j q.
      let u : w % 8 ≡ v % 8 = omega arith in
      let s : w / 8 % 64 ≡ v / 8 % 64 = omega arith in
      let n : w / 8 / 64 % 4294967296 ≡ v / 8 / 64 % 4294967296 = sym (word_stands b w (fresh w j) C).serial ∙ ap (λ (k : ℕ). (node_at b k).serial.0) (sym q) ∙ (word_stands b v (fresh v i) C).serial in
      let same : handle_named (handle_of w) ≡ handle_named (handle_of v) = λ k. record { unit = u k; slot = s k; serial = n k } in
      let lv = word_sure b v (fresh v i) in
      let lw = word_sure b w (fresh w j) in
      word_of v w lv lw (given_fine w lw ∙ same ∙ sym (given_fine v lv));
}
  where
    fresh : (w : ℕ) → In w ws → stale (view b) (hand_given w) ≡ false
    fresh w i = any_no (stale (view b)) (hands_given ws) e (in_map hand_given i)

pub placed : (b : List ℕ) → Canon b → (ms : List ℕ) (u : ℕ) (ts : List (Handle × Handle)) (n : ℕ) → n ≡ first (nodes_tests (view b) u (hands_given ms) ts) → n ≡ 0 → Placed ms
placed b C ms u ts n e z = placed_of b C ms (or_false (any (stale (view b)) (hands_given ms)) (any (stale (view b)) (both ts)) (sym (any_append (stale (view b)) (hands_given ms) (both ts)) ∙ p.0)).0
  where
    p : Failed (nodes_tests (view b) u (hands_given ms) ts)
    p = passed (nodes_tests (view b) u (hands_given ms) ts) tt (sym e ∙ z)
