-- Clear, turn by turn: each interface of the tree is reset, from the lowest number up. A parent has a higher number, so a climb meets interfaces as
-- they were. Assumes nothing.
use Rattle.std.specs.Prelude.{None, Option, Some}
use Prim.Native.Nat.{ℕ, zero, suc, ◌+◌, ◌*◌, ◌<◌, ◌≤◌}
use mathlib.Core.Path.{◌≡◌, refl, ap, sym, ◌∙◌}
use mathlib.Core.Logic.{◌≢◌, by_cases}
use mathlib.Core.List.{List}
use native.Mathlib.Decide.{ℕ_discrete, dec_lt}
use native.Mathlib.Omega.{arith}
use lib.ListN.{get_or}
use Rattle.bench_words.specs.Store.{node_at, interface_at, no_interface, map_at}
use Rattle.bench_words.specs.declared.Interface.{Interface}
use Rattle.ledger_spec.specs.Bench.{Bench}
use Rattle.ledger_spec.specs.Look.{interface, top, climb}
use Rattle.ledger_spec.specs.Tests.{first}
use Rattle.ledger_spec.specs.Refuse.{unit_tests}
use Rattle.ledger_spec.specs.Frame.{Frame}
use Rattle.ledger_spec.proofs.Tops.{climb_none, climb_some}
use Rattle.ledger_spec.proofs.Accepted.{clear_passed}
use Rattle.bench_views.specs.Records.{Steady, no_node}
use Rattle.bench_views.specs.View.{view}
use Rattle.bench_views.specs.Canon.{Coded}
use Rattle.bench_views.specs.Fit.{Fit}
use Rattle.bench_trees.specs.Climb.{Climbs}
use Rattle.deed_raises.proofs.Kept.{parent_in}
use Rattle.deed_trees.specs.Empty.{Reset}

-- ---- climbs
-- a climb goes up
pub climb_up : (B : Bench) → Frame B → (k u : ℕ) → u ≤ climb k B u
unfolding climb
climb_up B F zero u = omega arith
climb_up B F (suc k) u = go (interface B u).parent refl (climb_up B F k)
  where
    go : (q : Option ℕ) → (interface B u).parent ≡ q → ((p : ℕ) → p ≤ climb k B p) → u ≤ climb (suc k) B u
    go None e ih = omega (arith, climb_none (suc k) B u e)
    go (Some p) e ih = omega (arith, climb_some k B u p e, ih p, (F.rising u p e).0)

-- and depends on what is above alone
climb_above : (B B' : Bench) → Frame B → (w : ℕ) → ((v : ℕ) → w ≤ v → (interface B' v).parent ≡ (interface B v).parent) → (k u : ℕ) → w ≤ u → climb k B' u ≡ climb k B u
unfolding climb
climb_above B B' F w same zero u l = refl
climb_above B B' F w same (suc k) u l = go (interface B u).parent refl (climb_above B B' F w same k)
  where
    go : (q : Option ℕ) → (interface B u).parent ≡ q → ((p : ℕ) → w ≤ p → climb k B' p ≡ climb k B p) → climb (suc k) B' u ≡ climb (suc k) B u
    go None e ih = climb_none (suc k) B' u (same u l ∙ e) ∙ sym (climb_none (suc k) B u e)
    go (Some p) e ih = climb_some k B' u p (same u l ∙ e) ∙ ih p (let r = (F.rising u p e).0 in omega arith) ∙ sym (climb_some k B u p e)

below : (v w : ℕ) → v < w + 1 → v ≢ w → v < w
below v w l ne = omega arith

-- ---- the interfaces below w are done
pub record Wiping (b : List ℕ) (u : ℕ) (b₁ : List ℕ) (w : ℕ) : Type 0 where
  pub within : w ≤ suc u
  pub steady : Steady b₁
  pub coded : Coded b₁
  pub next : get_or b₁ 0 0 ≡ get_or b 0 0
  pub gone : (v : ℕ) → v < 8 → v < w → top (view b) v ≡ u → interface_at b₁ v ≡ no_interface (interface_at b v).marks.plain
  pub bare : (v s : ℕ) → v < 8 → s < 64 → v < w → top (view b) v ≡ u → node_at b₁ (v * 64 + s) ≡ no_node
  pub kept : (v : ℕ) → v < 8 → (v < w → top (view b) v ≢ u) → interface_at b₁ v ≡ interface_at b v
  pub unmarked : (v : ℕ) → v < 8 → v < w → top (view b) v ≡ u → map_at b₁ v ≡ 0
  pub marked : (v : ℕ) → v < 8 → (v < w → top (view b) v ≢ u) → map_at b₁ v ≡ map_at b v
  pub same : (v s : ℕ) → v < 8 → s < 64 → (v < w → top (view b) v ≢ u) → node_at b₁ (v * 64 + s) ≡ node_at b (v * 64 + s)

module _ (b : List ℕ) (u : ℕ) (F : Fit b) (T : first (unit_tests (view b) u) ≡ 0) where
  pub wipe_low : u < 8
  wipe_low = (clear_passed (view b) u T).low

  -- the top is its own
  pub top_own : top (view b) u ≡ u
  top_own = climb_none 8 (view b) u (clear_passed (view b) u T).free

  pub wiping_begins : Wiping b u b 0
  wiping_begins =
      record {
        within = omega arith;
        steady = F.canon.steady;
        coded = F.canon.coded;
        next = refl;
        gone = λ v lv l. absurd (omega arith);
        bare = λ v s lv ls l. absurd (omega arith);
        kept = λ v lv h. refl;
        unmarked = λ v lv l. absurd (omega arith);
        marked = λ v lv h. refl;
        same = λ v s lv ls h. refl;
      }

  module _ (b₁ : List ℕ) (w : ℕ) (G : Wiping b u b₁ w) (l : w ≤ u) where
    lw : w < 8
    lw = let a = wipe_low in omega arith

    interface_now : interface_at b₁ w ≡ interface_at b w
    interface_now = G.kept w lw (λ z. absurd (omega arith))

    climb_now : climb 8 (view b₁) w ≡ top (view b) w
    climb_now = climb_above (view b) (view b₁) F.frame w
        (λ v lv. parent_in (get_or b 0 0) (get_or b₁ 0 0) (interface_at b) (interface_at b₁) (node_at b) (node_at b₁) v (λ l8. ap (λ (f : Interface). f.parent) (G.kept v l8 (λ z. absurd (omega arith))))) 8 w (omega arith)

    -- one that is not of the tree
    pub wiping_past : {t s : ℕ} → Climbs b₁ w t s → t ≢ u → Wiping b u b₁ (w + 1)
    wiping_past c ne =
        let other : top (view b) w ≢ u = λ e. ne (c.top ∙ climb_now ∙ e) in
        let aside : (v : ℕ) → (v < w + 1 → top (view b) v ≢ u) → v < w → top (view b) v ≢ u = λ v h z. h (omega arith) in
        let less : (v : ℕ) → v < w + 1 → top (view b) v ≡ u → v < w = λ v z e. below v w z (λ q. other (sym (ap (λ (x : ℕ). top (view b) x) q) ∙ e)) in
        record {
          within = omega arith;
          steady = G.steady;
          coded = G.coded;
          next = G.next;
          gone = λ v lv z e. G.gone v lv (less v z e) e;
          bare = λ v s lv ls z e. G.bare v s lv ls (less v z e) e;
          kept = λ v lv h. G.kept v lv (aside v h);
          unmarked = λ v lv z e. G.unmarked v lv (less v z e) e;
          marked = λ v lv h. G.marked v lv (aside v h);
          same = λ v s lv ls h. G.same v s lv ls (aside v h);
        }

    -- one that is
    pub of_tree : {t s : ℕ} → Climbs b₁ w t s → t ≡ u → top (view b) w ≡ u
    of_tree c e = sym climb_now ∙ sym c.top ∙ e

    pub wiping_reset : (b₂ : List ℕ) → top (view b) w ≡ u → Reset b₁ w b₂ → Wiping b u b₂ (w + 1)
    wiping_reset b₂ mine R =
        let st = G.steady in
        let few = st.slots w lw in
        let aside : (v : ℕ) → (v < w + 1 → top (view b) v ≢ u) → v < w → top (view b) v ≢ u = λ v h z. h (omega arith) in
        let apart : (v : ℕ) → (v < w + 1 → top (view b) v ≢ u) → v ≢ w = λ v h q. h (omega arith) (ap (λ (x : ℕ). top (view b) x) q ∙ mine) in
        let off : (v s : ℕ) → s < 64 → v ≢ w → (r : ℕ) → r < (interface_at b₁ w).used → v * 64 + s ≢ w * 64 + r = λ v s ls ne r lr z. ne (omega arith) in
        record {
          within = omega arith;
          steady = R.steady;
          coded = R.coded;
          next = R.serial ∙ G.next;
          gone = λ v lv z q. by_cases (ℕ_discrete v w)
              (λ (x : v ≡ w). rw x (R.here ∙ ap (λ (f : Interface). no_interface f.marks.plain) interface_now))
              (λ (ne : v ≡ w → ⊥). R.there v lv ne ∙ G.gone v lv (omega arith) q);
          bare = λ v s lv ls z q. by_cases (ℕ_discrete v w)
              (λ (x : v ≡ w). rw x (bare_here b₂ R s ls (dec_lt s (interface_at b₁ w).used)))
              (λ (ne : v ≡ w → ⊥). R.kept (v * 64 + s) (off v s ls ne) ∙ G.bare v s lv ls (omega arith) q);
          kept = λ v lv h. R.there v lv (apart v h) ∙ G.kept v lv (aside v h);
          unmarked = λ v lv z q. by_cases (ℕ_discrete v w)
              (λ (x : v ≡ w). rw x R.unmarked)
              (λ (ne : v ≡ w → ⊥). R.marked v lv ne ∙ G.unmarked v lv (omega arith) q);
          marked = λ v lv h. R.marked v lv (apart v h) ∙ G.marked v lv (aside v h);
          same = λ v s lv ls h. R.kept (v * 64 + s) (off v s ls (apart v h)) ∙ G.same v s lv ls (aside v h);
        }
      where
        bare_here : (b₂ : List ℕ) → Reset b₁ w b₂ → (s : ℕ) → s < 64 → Dec (s < (interface_at b₁ w).used) → node_at b₂ (w * 64 + s) ≡ no_node
        bare_here b₂ R s ls (yes z) = R.gone s z
        bare_here b₂ R s ls (no z) =
            R.kept (w * 64 + s) (λ r lr q. z (omega arith)) ∙ G.same w s lw ls (λ x. absurd (omega arith)) ∙ F.canon.past w s lw ls (omega (arith, z, ap (λ (f : Interface). f.used) interface_now))
