-- What a deed leaves as it was: words are steady after a node is stored, and a climb goes by parents alone. Assumes nothing.
use Rattle.std.specs.Prelude.{None}
use Prim.Native.Nat.{ℕ, ◌<◌}
use mathlib.Core.Path.{◌≡◌, ap, sym, ◌∙◌}
use mathlib.Core.List.{List}
use native.Mathlib.Decide.{dec_lt}
use native.Mathlib.Omega.{arith}
use lib.ListN.{get_or-eq_default}
use Rattle.bench_words.specs.Store.{store_node}
use Rattle.bench_words.proofs.Laws.{length_store, store_node_interface}
use Rattle.bench_words.specs.declared.Node.{Node}
use Rattle.bench_words.specs.declared.Interface.{Interface}
use Rattle.ledger_spec.specs.Bench.{fresh}
use Rattle.ledger_spec.specs.Bench as plain
use Rattle.ledger_spec.specs.Look.{interface, climb}
use Rattle.ledger_spec.proofs.Tops.{climb_same}
use Rattle.bench_views.specs.Records.{Steady}
use Rattle.bench_views.specs.View.{view_in, up_seen}
use Rattle.bench_views.proofs.Views.{view_eight, view_parent}

pub node_steady : (b : List ℕ) (k : ℕ) (n : Node) → k < 512 → Steady b → Steady (store_node b k n)
node_steady b k n lk s =
    record {
      len = length_store b k n s.len lk;
      slots = λ v lv. rw (store_node_interface b k n s.len lk v lv) (s.slots v lv);
      progress = λ v lv. rw (store_node_interface b k n s.len lk v lv) (s.progress v lv);
      rising = λ v p lv e. s.rising v p lv (ap (λ (x : Interface). x.parent) (sym (store_node_interface b k n s.len lk v lv)) ∙ e);
    }

-- ---- two sights of interfaces and nodes
module _ (n n' : ℕ) (U U' : ℕ → Interface) (A A' : ℕ → Node) where
  -- an interface with the same parent shows the same parent; one that no bench has shows none
  pub parent_in : (v : ℕ) → (v < 8 → (U' v).parent ≡ (U v).parent) → (interface (view_in n' U' A') v).parent ≡ (interface (view_in n U A) v).parent
  parent_in v same = go (dec_lt v 8)
    where
      out : (m : ℕ) (W : ℕ → Interface) (B : ℕ → Node) → (v < 8 → ⊥) → (interface (view_in m W B) v).parent ≡ None
      out m W B q = ap (λ (f : plain.Interface). f.parent) (get_or-eq_default (view_in m W B).interfaces fresh (omega (arith, view_eight m W B, q)))

      go : Dec (v < 8) → (interface (view_in n' U' A') v).parent ≡ (interface (view_in n U A) v).parent
      go (yes l) = view_parent n' U' A' v l ∙ ap up_seen (same l) ∙ sym (view_parent n U A v l)
      go (no q) = out n' U' A' q ∙ sym (out n U A q)

  pub climb_in : ((v : ℕ) → v < 8 → (U' v).parent ≡ (U v).parent) → (k u : ℕ) → climb k (view_in n' U' A') u ≡ climb k (view_in n U A) u
  climb_in same k u = climb_same (view_in n U A) (view_in n' U' A') (λ v. parent_in v (same v)) k u
