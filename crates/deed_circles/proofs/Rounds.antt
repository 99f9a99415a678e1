-- Nodes marked one after the other, over interfaces and nodes as functions, while the speed is kept aside: after i turns the view is the bench with
-- the first i handles marked. Each turn is one mark of the ledger, since the places are apart and no circle changes. Assumes nothing.
use Rattle.std.specs.Prelude.{Option}
use Prim.Native.Nat.{ℕ, zero, suc, ◌+◌, ◌*◌, ◌/◌, ◌%◌, ◌<◌, ◌≤◌}
use mathlib.Core.Path.{◌≡◌, refl, ap, ap₂, sym, ◌∙◌, fun_ext}
use mathlib.Core.Logic.{◌≢◌, by_cases}
use mathlib.Core.List.{List, [], ◌∷◌}
use native.Mathlib.Decide.{ℕ_discrete}
use native.Mathlib.Omega.{arith}
use lib.Dec.{eqb}
use lib.IntN.{pos}
use borrow.Author.Tests.{eq-eqb, ne_eqb}
use Rattle.kinds.specs.declared.GrowState.{GrowState}
use Rattle.kinds.specs.declared.Class.TheVariants.{Absent, Blossom}
use Rattle.bench_words.specs.Codec.{pick}
use Rattle.bench_words.proofs.Laws.{GoodUp}
use Rattle.bench_words.specs.declared.Node.{Node}
use Rattle.bench_words.specs.declared.Interface.{Interface}
use Rattle.ledger_spec.specs.Bench.{Handle, Bench}
use Rattle.ledger_spec.specs.Bench as plain
use Rattle.ledger_spec.specs.Look.{climb}
use Rattle.ledger_spec.specs.Change.{mark, mark_all}
use Rattle.ledger_spec.specs.Named.{state_named, parent_named}
use Rattle.bench_views.specs.Records.{rate_of}
use Rattle.bench_views.specs.Tab.{tab}
use Rattle.bench_views.specs.View.{off, up_seen, halves_seen, marks_seen, lag_of, sum_up, slot_seen, interface_in, view_in, circle_of, value_by}
use Rattle.bench_views.proofs.Sums.{sum_up_same}
use Rattle.bench_views.proofs.Views.{interface_in_lem, view_next, view_plain, view_eight, view_is}
use Rattle.deed_raises.proofs.Kept.{climb_in}
use Rattle.deed_nodes.specs.Steps.{remarked}
use Rattle.deed_nodes.specs.declared.Seat.{Seat}
use Rattle.deed_nodes.proofs.Puts.{mark_in}
use Rattle.bench_words.specs.Store.{set_speed}

-- ---- one node, one speed instead of another
unfoldable pub instead : (ℕ → Node) → ℕ → Node → ℕ → Node
instead A k x j = pick (eqb j k) x (A j)

unfoldable pub pacing : (ℕ → Interface) → ℕ → ℕ → ℕ → Interface
pacing U t s v = pick (eqb v t) (set_speed (U t) s) (U v)

pub instead_here : (A : ℕ → Node) (k : ℕ) (x : Node) (j : ℕ) → j ≡ k → instead A k x j ≡ x
unfolding instead
instead_here A k x j e = rw (eq-eqb j k e)

pub instead_else : (A : ℕ → Node) (k : ℕ) (x : Node) (j : ℕ) → j ≢ k → instead A k x j ≡ A j
unfolding instead
instead_else A k x j e = rw (ne_eqb j k e)

module _ (U : ℕ → Interface) (t s : ℕ) where
  pub pacing_here : pacing U t s t ≡ set_speed (U t) s
  unfolding pacing
  pacing_here = rw (eq-eqb t t refl)

  pub pacing_else : (v : ℕ) → v ≢ t → pacing U t s v ≡ U v
  unfolding pacing
  pacing_else v e = rw (ne_eqb v t e)

  pub pacing_part : {X : Type 0} (φ : Interface → X) → ((x : Interface) (z : ℕ) → φ (set_speed x z) ≡ φ x) → (v : ℕ) → φ (pacing U t s v) ≡ φ (U v)
  pacing_part φ e v = by_cases (ℕ_discrete v t) (λ (q : v ≡ t). rw (q, pacing_here) (e (U t) s)) (λ (q : v ≡ t → ⊥). rw (pacing_else v q))

pub pacing_self : (U : ℕ → Interface) (t : ℕ) → pacing U t (U t).speed ≡ U
pacing_self U t = fun_ext (λ v. by_cases (ℕ_discrete v t) (λ (q : v ≡ t). rw (q, pacing_here U t (U t).speed)) (λ (q : v ≡ t → ⊥). pacing_else U t (U t).speed v q))

-- one of n places, or none of them
pub data Among (at : ℕ → ℕ) (k n : ℕ) : Type 0 where
  yes_at : (j : ℕ) → j < n → k ≡ at j → Among at k n
  not_at : ((j : ℕ) → j < n → k ≢ at j) → Among at k n

pub among : (at : ℕ → ℕ) (k n : ℕ) → Among at k n
among at k zero = not_at (λ j l e. omega arith)
among at k (suc n) = go (among at k n) (ℕ_discrete k (at n))
  where
    go : Among at k n → Dec (k ≡ at n) → Among at k (suc n)
    go (yes_at j l e) d = yes_at j (omega arith) e
    go (not_at f) (yes e) = yes_at n (omega arith) e
    go (not_at f) (no ne) = not_at (λ j l e. by_cases (ℕ_discrete j n) (λ (q : j ≡ n). ne (e ∙ ap at q)) (λ (q : j ≡ n → ⊥). f j (omega arith) e))

-- the same interfaces below 8, the same view
pub view_interfaces : (n : ℕ) (U U' : ℕ → Interface) (A : ℕ → Node) → ((v : ℕ) → v < 8 → GoodUp (U v).parent) → ((v : ℕ) → v < 8 → U' v ≡ U v) → view_in n U' A ≡ view_in n U A
view_interfaces n U U' A good same = view_is n U' A (view_in n U A) (view_next n U A) (view_eight n U A) (view_plain n U A ∙ sym (ap (λ (f : Interface). f.marks.plain) (same 0 (omega arith)))) (λ v lv. shown v lv ∙ sym (interface_in_lem n U A v lv))
  where
    sums : (v : ℕ) → v < 8 → sum_up 8 U' v ≡ sum_up 8 U v
    sums v lv = sum_up_same U U' good (λ w lw. ap (λ (f : Interface). f.parent) (same w lw)) (λ w lw. ap (λ (f : Interface). lag_of f) (same w lw)) 8 v lv

    shown : (v : ℕ) → v < 8 → interface_in U' A v ≡ interface_in U A v
    shown v lv =
        ap₂
        (λ (f : Interface) (t : ℕ).
        record {
          slots = tab (λ r. slot_seen (A (v * 64 + r)) t (circle_of A (v * 64 + r))) 0 f.used;
          progress = pos f.progress;
          sum = off 4611686018427387904 f.sum;
          speed = off 1024 f.speed;
          parent = up_seen f.parent;
          halves = halves_seen f.left f.right;
          marks = marks_seen f.marks;
        })
        (same v lv) (sums v lv)

-- the definition's own clauses
marked_one : (B : Bench) (h : Handle) (l : List Handle) (s : plain.State) (p : Option Handle) → mark_all (mark B h s p) l s p ≡ mark_all B (h ∷ l) s p
unfolding mark_all
marked_one B h l s p = refl

marked_none : (B : Bench) (s : plain.State) (p : Option Handle) → mark_all B [] s p ≡ B
unfolding mark_all
marked_none B s p = refl

-- ---- the nodes after i turns
unfoldable pub turned : (ℕ → ℕ) → (ℕ → ℕ) → GrowState → (ℕ → Seat) → (ℕ → Node) → ℕ → ℕ → Node
turned at T g seat A zero = A
turned at T g seat A (suc i) = instead (turned at T g seat A i) (at i) (remarked (turned at T g seat A i (at i)) (T i) g (seat i))

-- what a mark leaves of a node
pub record Head (x y : Node) : Type 0 where
  pub serial : x.serial ≡ y.serial
  pub class : x.class ≡ y.class
  pub size : x.size ≡ y.size
  pub count : x.count ≡ y.count
  pub first : x.first ≡ y.first

pub head_self : {x y : Node} → x ≡ y → Head x y
head_self e = record { serial = ap (λ (n : Node). n.serial) e; class = ap (λ (n : Node). n.class) e; size = ap (λ (n : Node). n.size) e; count = ap (λ (n : Node). n.count) e; first = ap (λ (n : Node). n.first) e }

module _ (at T : ℕ → ℕ) (g : GrowState) (seat : ℕ → Seat) (A : ℕ → Node) where
  abbrev pub to : ℕ → ℕ → Node
  to = turned at T g seat A

  pub turn_here : (i k : ℕ) → k ≡ at i → to (suc i) k ≡ remarked (to i (at i)) (T i) g (seat i)
  unfolding turned
  turn_here i k e = instead_here (to i) (at i) (remarked (to i (at i)) (T i) g (seat i)) k e

  pub turn_else : (i k : ℕ) → k ≢ at i → to (suc i) k ≡ to i k
  unfolding turned
  turn_else i k e = instead_else (to i) (at i) (remarked (to i (at i)) (T i) g (seat i)) k e

  pub turn_none : to 0 ≡ A
  unfolding turned
  turn_none = refl

  -- a node that is none of them
  pub turn_off : (i k : ℕ) → ((j : ℕ) → j < i → k ≢ at j) → to i k ≡ A k
  turn_off zero k off = ap (λ (B : ℕ → Node). B k) turn_none
  turn_off (suc i) k off = turn_else i k (off i (omega arith)) ∙ turn_off i k (λ j l. off j (omega arith))

  pub turn_head : (i k : ℕ) → Head (to i k) (A k)
  turn_head zero k = head_self (ap (λ (B : ℕ → Node). B k) turn_none)
  turn_head (suc i) k = by_cases (ℕ_discrete k (at i))
      (λ (e : k ≡ at i).
      let h = turn_head i (at i) in
      rw (turn_here i k e, e) (record { serial = h.serial; class = h.class; size = h.size; count = h.count; first = h.first }))
      (λ (ne : k ≡ at i → ⊥). rw (turn_else i k ne) (turn_head i k))

  module _ (m : ℕ) (apart : (i j : ℕ) → i < m → j < m → i ≢ j → at i ≢ at j) where
    -- one that is to come, and one that is done
    pub turn_coming : (i j : ℕ) → i ≤ j → j < m → to i (at j) ≡ A (at j)
    turn_coming i j l lj = turn_off i (at j) (λ x lx. apart j x lj (omega arith) (λ e. omega arith))

    pub turn_done : (i j : ℕ) → i ≤ m → j < i → to i (at j) ≡ remarked (A (at j)) (T j) g (seat j)
    turn_done zero j l lj = absurd (omega arith)
    turn_done (suc i) j l lj = by_cases (ℕ_discrete j i)
        (λ (e : j ≡ i). rw e (turn_here i (at i) refl ∙ ap (λ (n : Node). remarked n (T i) g (seat i)) (turn_coming i i (omega arith) (omega arith))))
        (λ (ne : j ≡ i → ⊥). turn_else i (at j) (apart j i (omega arith) (omega arith) ne) ∙ turn_done i j (omega arith) (omega arith))

    -- ---- what the view makes of a turn
    module _ (n : ℕ) (U : ℕ → Interface) (t : ℕ) (sp : ℕ → ℕ) (good : (v : ℕ) → v < 8 → GoodUp (U v).parent) (few : (v : ℕ) → v < 8 → (U v).used ≤ 64) (lt : t < 8)
        (low : (i : ℕ) → i < m → at i / 64 < 8) (slot : (i : ℕ) → i < m → at i % 64 < (U (at i / 64)).used) (under : (i : ℕ) → i < m → climb 8 (view_in n U A) (at i / 64) ≡ t)
        (total : (i : ℕ) → i < m → T i ≡ sum_up 8 U (at i / 64)) (present : (i : ℕ) → i < m → (A (at i)).class ≡ Absent → ⊥)
        (least : (i : ℕ) → i < m → T i ≤ value_by (A (at i)).state (A (at i)).bias (T i))
        (speed : (i : ℕ) → i < m → sp (suc i) + rate_of (A (at i)).state ≡ sp i + rate_of g)
        (circles : (i v r : ℕ) → i ≤ m → v < 8 → r < (U v).used → (to i (v * 64 + r)).class ≡ Blossom → circle_of (to i) (v * 64 + r) ≡ circle_of A (v * 64 + r)) where
      abbrev pub seen : ℕ → Bench
      seen i = view_in n (pacing U t (sp i)) (to i)

      turn_view : (i serial : ℕ) → i < m → seen (suc i) ≡ mark (seen i) (record { unit = at i / 64; slot = at i % 64; serial = serial }) (state_named g) (parent_named (seat i).parent)
      turn_view i serial l =
          let k = at i in
          let back : k / 64 * 64 + k % 64 ≡ k = omega arith in
          let W = pacing U t (sp i) in
          let now : to i k ≡ A k = turn_coming i i (omega arith) l in
          let nowb : to i (k / 64 * 64 + k % 64) ≡ A k = ap (to i) back ∙ now in
          let parents = pacing_part U t (sp i) (λ x. x.parent) (λ x z. refl) in
          let used = pacing_part U t (sp i) (λ x. x.used) (λ x z. refl) in
          let sum : sum_up 8 W (k / 64) ≡ T i = sum_up_same U W good (λ v lv. parents v) (λ v lv. pacing_part U t (sp i) (λ x. lag_of x) (λ x z. refl) v) 8 (k / 64) (low i l) ∙ sym (total i l) in
          mark_in n W (pacing U t (sp (suc i))) (to i) (to (suc i)) (k / 64) (k % 64) t (sp (suc i))
          (λ v lv. rw (parents v) (good v lv)) (λ v lv. rw (used v) (few v lv)) (low i l) (rw (used (k / 64)) (slot i l)) lt
          (climb_in n n U W A (to i) (λ v lv. parents v) 8 (k / 64) ∙ under i l)
          (pacing_here U t (sp (suc i)) ∙ sym (ap (λ (x : Interface). set_speed x (sp (suc i))) (pacing_here U t (sp i))))
          (λ v lv ne. pacing_else U t (sp (suc i)) v ne ∙ sym (pacing_else U t (sp i) v ne))
          (λ j ne. turn_else i j (λ e. ne (e ∙ sym back)))
          (λ v r lv lr e.
          let lr' : r < (U v).used = rw (used v) at lr in
          let e' = (turn_head i (v * 64 + r)).class ∙ sym (turn_head (suc i) (v * 64 + r)).class ∙ e in
          circles (suc i) v r l lv lr' e ∙ sym (circles i v r (omega arith) lv lr' e'))
          g (seat i) serial
          (turn_here i (k / 64 * 64 + k % 64) back ∙ ap₂ (λ (x : Node) (w : ℕ). remarked x w g (seat i)) (ap (to i) (sym back)) (sym sum))
          (rw nowb (present i l))
          (rw (nowb, sum) (least i l))
          (rw nowb (speed i l ∙ ap (λ (x : Interface). x.speed + rate_of g) (sym (pacing_here U t (sp i)))))

      -- all turns: the handles that are left, marked
      module _ (p : Option Handle) (same : (i : ℕ) → i < m → parent_named (seat i).parent ≡ p) (serial : ℕ → ℕ) (hs : ℕ → List Handle)
          (more : (i : ℕ) → i < m → hs i ≡ record { unit = at i / 64; slot = at i % 64; serial = serial i } ∷ hs (suc i)) (end : hs m ≡ []) where
        rest : (i : ℕ) → i ≤ m → mark_all (seen i) (hs i) (state_named g) p ≡ mark_all (seen 0) (hs 0) (state_named g) p
        rest zero l = refl
        rest (suc i) l =
            let h : Handle = record { unit = at i / 64; slot = at i % 64; serial = serial i } in
            ap (λ (B : Bench). mark_all B (hs (suc i)) (state_named g) p) (turn_view i (serial i) (omega arith) ∙ ap (mark (seen i) h (state_named g)) (same i (omega arith)))
            ∙ marked_one (seen i) h (hs (suc i)) (state_named g) p
            ∙ ap (λ (l : List Handle). mark_all (seen i) l (state_named g) p) (sym (more i (omega arith)))
            ∙ rest i (omega arith)

        pub turns_view : seen m ≡ mark_all (view_in n (pacing U t (sp 0)) A) (hs 0) (state_named g) p
        turns_view =
            sym (marked_none (seen m) (state_named g) p) ∙ ap (λ (l : List Handle). mark_all (seen m) l (state_named g) p) (sym end) ∙ rest m (omega arith)
            ∙ ap (λ (B : ℕ → Node). mark_all (view_in n (pacing U t (sp 0)) B) (hs 0) (state_named g) p) turn_none
