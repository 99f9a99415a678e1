-- Up from a node by its parents: at the member the walk ends with 0, at a node without a parent with 6, and else it goes on at the parent, by the
-- definition's own steps. Assumes nothing.
use Rattle.std.specs.Prelude.{None, Some}
use Prim.Native.Nat.{ℕ, zero, suc, ◌+◌, ◌-◌, ◌<◌, ◌≤◌}
use mathlib.Core.Path.{◌≡◌, refl, ap, sym, ◌∙◌, subst}
use mathlib.Core.Bool.{Bool, true, false}
use mathlib.Core.List.{List}
use native.Mathlib.Omega.{arith}
use Rattle.bench_words.specs.Store.{node_at}
use Rattle.bench_words.specs.declared.Node.{Node as Words}
use Rattle.kinds.specs.declared.Handle.{Handle as Code}
use Rattle.ledger_spec.specs.Bench.{Handle, Node, Bench}
use Rattle.ledger_spec.specs.Look.{same_handle, node_named}
use Rattle.ledger_spec.specs.Named.{handle_named, parent_named}
use Rattle.ledger_spec.specs.Walk.{parent_in}
use Rattle.ledger_spec.specs.Check.{arrives, is_under}
use Rattle.ledger_spec.specs.Facts.{Sound}
use Rattle.ledger_spec.specs.Chain.{Chain, end, link}
use Rattle.ledger_spec.proofs.Knit.{some_eq, none_some, same_self}
use Rattle.ledger_spec.proofs.Chains.{chain, links_most}
use Rattle.ledger_laws.specs.Clean.{Descends, itself, inside}
use Rattle.bench_views.specs.View.{view}
use Rattle.bench_views.specs.Fit.{Fit}
use Rattle.bench_links.specs.Find.{spot, Stands}
use Rattle.bench_links.proofs.Rising.{parent_seen, stands_parent}
use Rattle.check_circles.specs.Found.{under_verdict}

-- ---- the definition, a node at a time
module _ (b : Bench) (m : Handle) where
  pub arrives_here : (k : ℕ) (t : Handle) → same_handle t m ≡ true → arrives k b t m ≡ true
  unfolding arrives
  arrives_here zero t e = e
  arrives_here (suc k) t e = rw (e, arrives)

  module _ (t : Handle) (e : same_handle t m ≡ false) where
    arrives_spent : arrives 0 b t m ≡ false
    unfolding arrives
    arrives_spent = e

    arrives_none : (k : ℕ) → parent_in (node_named b t) ≡ None → arrives k b t m ≡ false
    unfolding arrives
    arrives_none zero f = e
    arrives_none (suc k) f = rw (e, f, arrives)

    arrives_up : (k : ℕ) (p : Handle) → parent_in (node_named b t) ≡ Some p → arrives (suc k) b t m ≡ arrives k b p m
    unfolding arrives
    arrives_up k p f = rw (e, f, arrives)

  module _ (t : Handle) where
    verdict_yes : arrives 512 b t m ≡ true → 0 ≡ under_verdict b m t
    unfolding under_verdict is_under
    verdict_yes e = rw (e, under_verdict)

    verdict_no : arrives 512 b t m ≡ false → 6 ≡ under_verdict b m t
    unfolding under_verdict is_under
    verdict_no e = rw (e, under_verdict)

    -- the member itself; and a handle that names no node
    pub under_self : same_handle t m ≡ true → 0 ≡ under_verdict b m t
    under_self e = verdict_yes (arrives_here 512 t e)

    pub under_gone : same_handle t m ≡ false → node_named b t ≡ None → 6 ≡ under_verdict b m t
    under_gone e f = verdict_no (arrives_none t e 512 (ap parent_in f))

-- ---- where parents lead, the walk arrives
module _ (b : Bench) (m : Handle) where
  onward : {t top p : Handle} {j : ℕ} → Chain b t j top → parent_in (node_named b t) ≡ Some p → (i : ℕ) × (j ≡ suc i) × Chain b p i top
  onward (end e) f = absurd (none_some e f)
  onward (link {h} {k} {t} q e c) f = (k, refl, subst (λ (x : Handle). Chain b x k t) (some_eq e f) c)

  descended : {t top : Handle} {j : ℕ} → Descends b m t → Chain b t j top → (k : ℕ) → j ≤ k → arrives k b t m ≡ true
  descended itself c k l = arrives_here b m k m (same_self m)
  descended (inside p f d) c zero l = let r = onward c f in absurd (omega (arith, r.1))
  descended (inside {t} p f d) c (suc k) l = let r = onward c f in go (same_handle t m) refl (descended d r.2 k (omega (arith, r.1)))
    where
      go : (s : Bool) → same_handle t m ≡ s → arrives k b p m ≡ true → arrives (suc k) b t m ≡ true
      go true s ih = arrives_here b m (suc k) t s
      go false s ih = arrives_up b m t s k p f ∙ ih

  pub under_below : Sound b → (t : Handle) (n : Node) → node_named b t ≡ Some n → Descends b m t → 0 ≡ under_verdict b m t
  under_below S t n e d = verdict_yes b m t (descended d (chain b S t n e) 512 (links_most b 512 t))

-- ---- what holds at each turn of the walk from h: the node reached, and the links so far
pub record Rising (b : List ℕ) (m h at : Handle) (links : ℕ) : Type 0 where
  pub fit : Fit b
  pub stands : Stands b at
  pub few : links ≤ 512
  pub same : arrives (512 - links) (view b) at m ≡ arrives 512 (view b) h m

pub rising_starts : (b : List ℕ) (m h : Handle) → Fit b → Stands b h → Rising b m h h 0
rising_starts b m h F S = record { fit = F; stands = S; few = omega arith; same = refl }

module _ (b : List ℕ) (m h at : Handle) (links : ℕ) (R : Rising b m h at links) where
  pub spot_low : spot at < 512
  spot_low = let S = R.stands in omega arith

  pub rising_here : same_handle at m ≡ true → 0 ≡ under_verdict (view b) m h
  rising_here e = verdict_yes (view b) m h (sym R.same ∙ arrives_here (view b) m (512 - links) at e)

  pub rising_spent : 512 ≤ links → same_handle at m ≡ false → 6 ≡ under_verdict (view b) m h
  rising_spent l e =
      let few = R.few in
      let z : 512 - links ≡ 0 = omega arith in
      verdict_no (view b) m h (sym R.same ∙ ap (λ (k : ℕ). arrives k (view b) at m) z ∙ arrives_spent (view b) m at e)

  module _ (l : links < 512) where
    back : suc (512 - (links + 1)) ≡ 512 - links
    back = omega arith

    module _ (s : same_handle at m ≡ false) (n : Words) (e : n ≡ node_at b (spot at)) where
      parent_now : parent_in (node_named (view b) at) ≡ parent_named n.parent
      parent_now = parent_seen b at R.stands ∙ ap (λ (x : Words). parent_named x.parent) (sym e)

      pub rising_ends : n.parent ≡ None → 6 ≡ under_verdict (view b) m h
      rising_ends q = verdict_no (view b) m h (sym R.same ∙ arrives_none (view b) m at s (512 - links) (parent_now ∙ ap parent_named q))

      pub rising_on : (q : Code) → n.parent ≡ Some q → Rising b m h (handle_named q) (links + 1)
      rising_on q p = record {
        fit = R.fit;
        stands = stands_parent b at R.stands R.fit q (sym (ap (λ (x : Words). x.parent) e) ∙ p);
        few = omega arith;
        same = sym (arrives_up (view b) m at s (512 - (links + 1)) (handle_named q) (parent_now ∙ ap parent_named p)) ∙ ap (λ (k : ℕ). arrives k (view b) at m) back ∙ R.same;
      }
