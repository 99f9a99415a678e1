-- One turn of the walk up: at a node without a parent it ends, and else it goes on at the parent with one link more, by the definitions' own steps.
-- Assumes nothing.
use Rattle.std.specs.Prelude.{None, Some, Option}
use Prim.Native.Nat.{ℕ, suc, ◌+◌, ◌-◌, ◌<◌, ◌≤◌}
use mathlib.Core.Path.{◌≡◌, refl, ap, sym, ◌∙◌}
use mathlib.Core.List.{List}
use native.Mathlib.Omega.{arith}
use lib.ListN.{get_or}
use Rattle.bench_words.specs.Store.{node_at, interface_at}
use Rattle.bench_words.specs.declared.Node.{Node}
use Rattle.kinds.specs.declared.Handle.{Handle as Code}
use Rattle.ledger_spec.specs.Bench.{Handle, Bench}
use Rattle.ledger_spec.specs.Bench as plain
use Rattle.ledger_spec.specs.Look.{slot_of, top, node_named}
use Rattle.ledger_spec.specs.Named.{handle_named, parent_named}
use Rattle.ledger_spec.specs.Walk.{parent_in, outer_from, links_from, below_from}
use Rattle.ledger_spec.specs.Knit.{Up}
use Rattle.ledger_spec.proofs.Chains.{outer_none, outer_some, links_none, links_some, under_none, under_some}
use Rattle.bench_views.specs.View.{view, sum_up, circle_of, node_seen}
use Rattle.bench_views.specs.Fit.{Fit}
use Rattle.bench_views.proofs.Views.{view_slot}
use Rattle.bench_views.proofs.Rings.{slot_held}
use Rattle.bench_links.specs.declared.Outer.{Outer}
use Rattle.bench_links.specs.Find.{spot, Stands}
use Rattle.bench_links.specs.Outer.{Outers}
use Rattle.bench_links.proofs.Finding.{stands_by}

-- no link is followed exactly from a node without a parent
module _ (B : Bench) (h : Handle) where
  pub no_link : links_from 512 B h ≡ 0 → parent_in (node_named B h) ≡ None
  no_link z = go (parent_in (node_named B h)) refl
    where
      go : (o : Option Handle) → parent_in (node_named B h) ≡ o → parent_in (node_named B h) ≡ None
      go None e = e
      go (Some p) e = absurd (omega (arith, z, links_some B 511 h p e))

  pub some_link : (links_from 512 B h ≡ 0 → ⊥) → (p : Handle) × (parent_in (node_named B h) ≡ Some p)
  some_link z = go (parent_in (node_named B h)) refl
    where
      go : (o : Option Handle) → parent_in (node_named B h) ≡ o → (p : Handle) × (parent_in (node_named B h) ≡ Some p)
      go None e = absurd (z (links_none B 512 h e))
      go (Some p) e = (p, e)

-- ---- in words
module _ (b : List ℕ) (h : Handle) (S : Stands b h) where
  abbrev here : Node
  here = node_at b (spot h)

  pub seen_node : (c : plain.Class) × (node_named (view b) h ≡ Some (node_seen here (sum_up 8 (interface_at b) h.unit) c))
  seen_node = let k = slot_held here (sum_up 8 (interface_at b) h.unit) (circle_of (node_at b) (spot h)) S.present in (k.0, S.seen ∙ k.1)

  pub seen_some : (n : plain.Node) × (node_named (view b) h ≡ Some n)
  seen_some = (node_seen here (sum_up 8 (interface_at b) h.unit) seen_node.0, seen_node.1)

  pub parent_seen : parent_in (node_named (view b) h) ≡ parent_named here.parent
  parent_seen = ap parent_in seen_node.1

  -- a parent is present too
  pub stands_parent : Fit b → (q : Code) → here.parent ≡ Some q → Stands b (handle_named q)
  stands_parent F q e =
      let k = slot_held here (sum_up 8 (interface_at b) h.unit) (circle_of (node_at b) (spot h)) S.present in
      let n = node_seen here (sum_up 8 (interface_at b) h.unit) k.0 in
      let at = view_slot (get_or b 0 0) (interface_at b) (node_at b) h.unit h.slot S.unit S.slot ∙ k.1 in
      let up : Up (slot_of (view b)) (top (view b)) h.unit h.slot n (handle_named q) = F.sewn.knit.up h.unit h.slot n (handle_named q) at (ap parent_named e) in
      stands_by b F.canon (handle_named q) up.over up.has.stands up.has.serial

-- what holds at each turn of the walk from h: the node reached, the one before it, and the links so far
pub record Going (b : List ℕ) (h at under : Handle) (links : ℕ) : Type 0 where
  pub fit : Fit b
  pub stands : Stands b at
  pub few : links ≤ 512
  pub node : outer_from (512 - links) (view b) at ≡ outer_from 512 (view b) h
  pub below : below_from (512 - links) (view b) under at ≡ below_from 512 (view b) h h
  pub counted : links + links_from (512 - links) (view b) at ≡ links_from 512 (view b) h

pub going_starts : (b : List ℕ) (h : Handle) → Fit b → Stands b h → Going b h h h 0
going_starts b h F S = record { fit = F; stands = S; few = omega arith; node = refl; below = refl; counted = omega arith }

module _ (b : List ℕ) (h at under : Handle) (links : ℕ) (G : Going b h at under links) where
  pub spot_low : spot at < 512
  spot_low = let S = G.stands in omega arith

  pub going_spent : 512 ≤ links → (r : Outer) → handle_named r.node ≡ at → handle_named r.under ≡ under → r.links ≡ links → Outers b h r
  unfolding outer_from below_from links_from
  going_spent l r e f g =
      let few = G.few in
      let z : 512 - links ≡ 0 = omega arith in
      record {
        node = e ∙ sym (ap (λ (k : ℕ). outer_from k (view b) at) z) ∙ G.node;
        under = f ∙ sym (ap (λ (k : ℕ). below_from k (view b) under at) z) ∙ G.below;
        links = omega (arith, g, ap (λ (k : ℕ). links_from k (view b) at) z, G.counted);
        few = omega (arith, g, few);
        stands = rw e G.stands;
      }

  module _ (n : Node) (e : n ≡ node_at b (spot at)) where
    parent_now : parent_in (node_named (view b) at) ≡ parent_named n.parent
    parent_now = parent_seen b at G.stands ∙ ap (λ (x : Node). parent_named x.parent) (sym e)

    pub going_ends : n.parent ≡ None → (r : Outer) → handle_named r.node ≡ at → handle_named r.under ≡ under → r.links ≡ links → Outers b h r
    going_ends q r x y z =
        let top = parent_now ∙ ap parent_named q in
        record {
          node = x ∙ sym (outer_none (view b) (512 - links) at top) ∙ G.node;
          under = y ∙ sym (under_none (view b) (512 - links) under at top) ∙ G.below;
          links = omega (arith, z, links_none (view b) (512 - links) at top, G.counted);
          few = omega (arith, z, G.few);
          stands = rw x G.stands;
        }

    pub going_on : links < 512 → (q : Code) → n.parent ≡ Some q → Going b h (handle_named q) at (links + 1)
    going_on l q p =
        let up = parent_now ∙ ap parent_named p in
        let back : suc (512 - (links + 1)) ≡ 512 - links = omega arith in
        record {
          fit = G.fit;
          stands = stands_parent b at G.stands G.fit q (sym (ap (λ (x : Node). x.parent) e) ∙ p);
          few = omega arith;
          node = sym (outer_some (view b) (512 - (links + 1)) at (handle_named q) up) ∙ ap (λ (k : ℕ). outer_from k (view b) at) back ∙ G.node;
          below = sym (under_some (view b) (512 - (links + 1)) under at (handle_named q) up) ∙ ap (λ (k : ℕ). below_from k (view b) under at) back ∙ G.below;
          counted = omega (arith, links_some (view b) (512 - (links + 1)) at (handle_named q) up, ap (λ (k : ℕ). links_from k (view b) at) back, G.counted);
        }
