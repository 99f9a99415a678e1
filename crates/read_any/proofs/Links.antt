-- The links that the read of the outermost blossom answers, on any words: the length of the one parent chain, at most the present blossoms of the tree. On
-- a sound bench the walk is the chain (ledger_spec, Chains); refused, the read follows none. Assumes nothing.
use Rattle.std.specs.Prelude.{None, Option, Some}
use Prim.Native.Nat.{ℕ, ◌≤◌}
use mathlib.Core.Path.{◌≡◌, refl, sym, ap, ◌∙◌, subst}
use mathlib.Core.Bool.{Bool, true, false}
use mathlib.Core.List.{List}
use native.Mathlib.Omega.{arith}
use lib.ListN.{length}
use Rattle.ledger_spec.specs.Bench.{Handle, Node, Bench}
use Rattle.ledger_spec.specs.Look.{node_named, top}
use Rattle.ledger_spec.specs.Calls.{nobody}
use Rattle.ledger_spec.specs.Walk.{parent_in, links_from, outermost, outer_of}
use Rattle.ledger_spec.specs.Chain.{Chain, end, link, blossoms_in}
use Rattle.ledger_spec.specs.Facts.{Sound}
use Rattle.ledger_spec.proofs.Chains.{chain, chain_one, links_few}
use Rattle.bench_views.specs.View.{view}
use Rattle.bench_views.proofs.Fits.{facts}
use Rattle.sound_bench.specs.Sound.{sound_words}
use Rattle.sound_bench.proofs.Theorem.{sound_says}
use Rattle.ledger_spec.specs.Answers.{outer_read}
use Rattle.sound_lent.specs.Verdict.{read_words}
use Rattle.sound_lent.proofs.Asking.{asked_by}
use Rattle.read_sound.specs.Shown.{shown_ancestor}
use Rattle.read_sound.specs.declared.Ancestor.{Ancestor}
use Rattle.read_sound.proofs.Numbers.{stale_no}
use Rattle.read_sound.proofs.Saying.{outer_no, outer_yes}
use Rattle.read_any.specs.Links.{Followed, Walked}

-- a chain of no link starts at its end
no_link : {b : Bench} {h t : Handle} {k : ℕ} → Chain b h k t → k ≡ 0 → parent_in (node_named b h) ≡ None
no_link (end e) z = e
no_link (link p e c) z = absurd (omega arith)

-- ---- of a present node
module _ (b : Bench) (S : Sound b) (h : Handle) (n : Node) (e : node_named b h ≡ Some n) where
  followed : Followed b h (outermost b h) (links_from 512 b h)
  followed = record {
    present = stale_no b h n e;
    chain = chain b S h n e;
    only = λ k g c. chain_one b c (chain b S h n e);
    few = links_few b S h n e;
    free = λ f. (chain_one b (chain b S h n e) (end f)).0;
    bare = no_link (chain b S h n e);
  }

-- ---- of an answer
module _ (b : Bench) (h : Handle) (r : Ancestor) where
  none_followed : (k : ℕ) → (k ≡ 0 → ⊥) → shown_ancestor r ≡ (k, (nobody, 0)) → Walked b h r
  none_followed k z q = record {
    accepted = λ a. absurd (z (sym (ap (λ (x : ℕ × (Handle × ℕ)). x.0) q) ∙ a));
    refused = λ _. ap (λ (x : ℕ × (Handle × ℕ)). x.1.1) q;
  }

  some_followed : (t : Handle) (k : ℕ) → Followed b h t k → shown_ancestor r ≡ (0, (t, k)) → Walked b h r
  some_followed t k F q = record {
    accepted = λ _. subst (λ (x : ℕ × (Handle × ℕ)). Followed b h x.1.0 x.1.1) (sym q) F;
    refused = λ z. absurd (z (ap (λ (x : ℕ × (Handle × ℕ)). x.0) q));
  }

-- ---- the read of any words, by its contract
module _ (b : List ℕ) (h : Handle) (r : Ancestor) where
  pub links_answered : length b ≡ 6273 → shown_ancestor r ≡ read_words b (outer_read (view b) h) → Walked (view b) h r
  links_answered len e = words (sound_words b) refl
    where
      node : (o : Option Node) → node_named (view b) h ≡ o → sound_words b ≡ true → shown_ancestor r ≡ outer_of (view b) h → Walked (view b) h r
      node None f w q = none_followed (view b) h r 8 (λ z. omega arith) (q ∙ sym (outer_no (view b) h f))
      node (Some n) f w q =
          some_followed (view b) h r (outermost (view b) h) (links_from 512 (view b) h) (followed (view b) (facts b (sound_says b len w)) h n f)
          (q ∙ sym (outer_yes (view b) h n f (outermost (view b) h) (links_from 512 (view b) h) refl refl))

      words : (s : Bool) → sound_words b ≡ s → Walked (view b) h r
      words false w = none_followed (view b) h r 2 (λ z. omega arith) (e ∙ asked_by b (nobody, 0) (outer_of (view b) h) false w)
      words true w = node (node_named (view b) h) refl w (e ∙ asked_by b (nobody, 0) (outer_of (view b) h) true w)
