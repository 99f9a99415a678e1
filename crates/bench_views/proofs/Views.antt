-- The view over units and nodes as functions: its parts, and what makes it the bench that a step of the ledger gives. Assumes nothing.
use Rattle.std.specs.Prelude.{None, Option, Some}
use Prim.Native.Nat.{ℕ, zero, suc, ◌+◌, ◌*◌, ◌<◌, ◌≤◌, max}
use mathlib.Core.Path.{◌≡◌, refl, ap, ap₂, sym, ◌∙◌}
use mathlib.Core.Logic.{◌≢◌, by_cases}
use mathlib.Core.List.{List, map}
use mathlib.Core.Bool.{Bool, true, false}
use native.Mathlib.Decide.{ℕ_discrete}
use native.Mathlib.Omega.{arith}
use lib.Dec.{eqb}
use borrow.Author.Tests.{eq-eqb, ne_eqb}
use lib.ListN.{length, get_or, set, get_or-eq_default}
use lib.Seq.{ext_get_or}
use lib.IntN.{ℤ, pos, ◌+ℤ◌, ◌-ℤ◌, ◌*ℤ◌}
use Rattle.bench_words.specs.Codec.{pick}
use Rattle.bench_words.proofs.Laws.{GoodUp}
use Rattle.kinds.specs.declared.Class.{Class}
use Rattle.kinds.specs.declared.Class.TheVariants.{Absent, Blossom, Defect}
use Rattle.bench_words.specs.declared.Node.{Node}
use Rattle.bench_words.specs.declared.Interface.{Interface}
use Rattle.bench_words.specs.declared.Marks.{Marks}
use Rattle.ledger_spec.specs.Bench.{rate, Member, Bench, fresh}
use Rattle.ledger_spec.specs.Bench as plain
use Rattle.ledger_spec.specs.Look.{interface, slot_of, top, climb}
use Rattle.ledger_spec.specs.Change.{share, place, put, push, faster}
use Rattle.ledger_spec.specs.Deeds.{booked, grow_by, grow_slot, choose}
use Rattle.ledger_spec.proofs.Tops.{climb_none, climb_some}
use Rattle.ledger_spec.proofs.Slots.{put_at, put_off, put_count}
use Rattle.ledger_spec.proofs.Readings.{place_field, place_else, place_here, place_slow, place_fast, place_length, place_plain, push_field, push_else, push_here, push_slow, push_fast, push_length, push_plain}
use Rattle.ledger_spec.proofs.TreeReadings.{grow_field, grow_under, grow_else, grow_sum, grow_sum_else, grow_length, grow_plain, grow_progress, grow_progress_else, choose_field, choose_here, choose_else, choose_length, choose_plain}
use Rattle.bench_views.specs.Tab.{tab}
use Rattle.bench_views.specs.View.{off, up_seen, halves_seen, marks_seen, lag_of, raised, value_by, sum_up, over, slot_seen, slot_in, interface_in, view_in, circle_of}
use Rattle.bench_views.specs.Records.{with_used, with_growth}
use Rattle.bench_views.proofs.Tabs.{length_tab, get_d_tab, tab_same, tab_set, tab_map}
use Rattle.bench_views.proofs.Offsets.{value_grown}
use Rattle.bench_views.proofs.Sums.{sum_up_same}
use Rattle.kinds.specs.declared.GrowState.{GrowState}
use Rattle.kinds.specs.declared.GrowState.TheVariants.{Grow as Growing, Stay, Shrink}
use Rattle.bench_words.specs.Store.{set_speed, set_marks}

-- ---- the parts of a view
module _ (n : ℕ) (U : ℕ → Interface) (A : ℕ → Node) where
  pub interface_in_lem : (v : ℕ) → v < 8 → interface (view_in n U A) v ≡ interface_in U A v
  unfolding view_in
  interface_in_lem v l = get_d_tab (interface_in U A) 8 v fresh l

  pub view_eight : length (view_in n U A).interfaces ≡ 8
  unfolding view_in
  view_eight = length_tab (interface_in U A) 0 8

  pub view_next : (view_in n U A).next ≡ n
  unfolding view_in
  view_next = refl

  pub view_count : (v : ℕ) → v < 8 → length (interface (view_in n U A) v).slots ≡ (U v).used
  view_count v l = ap (λ (f : plain.Interface). length f.slots) (interface_in_lem v l) ∙ length_tab (slot_in U A v) 0 (U v).used

  pub view_slot : (v s : ℕ) → v < 8 → s < (U v).used → slot_of (view_in n U A) v s ≡ slot_in U A v s
  view_slot v s l k = ap (λ (f : plain.Interface). get_or f.slots s None) (interface_in_lem v l) ∙ get_d_tab (slot_in U A v) (U v).used s None k

  pub view_past : (v s : ℕ) → v < 8 → (U v).used ≤ s → slot_of (view_in n U A) v s ≡ None
  view_past v s l k =
      let e : length (interface (view_in n U A) v).slots ≤ s = omega (arith, view_count v l) in
      get_or-eq_default (interface (view_in n U A) v).slots None e

  pub view_out : (v s : ℕ) → 8 ≤ v → slot_of (view_in n U A) v s ≡ None
  view_out v s l =
      let e : length (view_in n U A).interfaces ≤ v = omega (arith, view_eight) in
      ap (λ (f : plain.Interface). get_or f.slots s None) (get_or-eq_default (view_in n U A).interfaces fresh e)

  pub view_parent : (v : ℕ) → v < 8 → (interface (view_in n U A) v).parent ≡ up_seen (U v).parent
  view_parent v l = ap (λ (f : plain.Interface). f.parent) (interface_in_lem v l)

  pub view_plain : (view_in n U A).plain ≡ (U 0).marks.plain
  unfolding view_in
  view_plain = refl

  -- a bench with the same parts
  pub view_is : (B : Bench) → B.next ≡ n → length B.interfaces ≡ 8 → B.plain ≡ (U 0).marks.plain → ((v : ℕ) → v < 8 → interface_in U A v ≡ interface B v) → view_in n U A ≡ B
  unfolding view_in
  view_is B e l p h =
      let fs : tab (interface_in U A) 0 8 ≡ B.interfaces =
      ext_get_or fresh (tab (interface_in U A) 0 8) B.interfaces (length_tab (interface_in U A) 0 8 ∙ sym l)
      (λ v lv. let l8 : v < 8 = rw (length_tab (interface_in U A) 0 8) at lv in get_d_tab (interface_in U A) 8 v fresh l8 ∙ h v l8) in
      λ i. record { next = sym e i; interfaces = fs i; plain = sym p i }

pub interface_is : (f g : plain.Interface) → f.slots ≡ g.slots → f.progress ≡ g.progress → f.sum ≡ g.sum → f.speed ≡ g.speed → f.parent ≡ g.parent → f.halves ≡ g.halves → f.marks ≡ g.marks → f ≡ g
interface_is f g a b c d e h m = λ i. record { slots = a i; progress = b i; sum = c i; speed = d i; parent = e i; halves = h i; marks = m i }

-- ---- a slot changed
module _ (n : ℕ) (U U' : ℕ → Interface) (A A' : ℕ → Node) (u s t sp : ℕ) (y : Option plain.Node)
    (lu : u < 8) (ls : s < (U u).used) (lt : t < 8) (tops : top (view_in n U A) u ≡ t)
    (here : U' t ≡ set_speed (U t) sp) (there : (v : ℕ) → v < 8 → v ≢ t → U' v ≡ U v) where
  pub unit_kept : {X : Type 0} (φ : Interface → X) → ((x : Interface) (z : ℕ) → φ (set_speed x z) ≡ φ x) → (v : ℕ) → v < 8 → φ (U' v) ≡ φ (U v)
  unit_kept φ e v lv = by_cases (ℕ_discrete v t) (λ (q : v ≡ t). rw (q, here) (e (U t) sp)) (λ (q : v ≡ t → ⊥). rw (there v lv q))

  module _ (fast : off 1024 sp ≡ off 1024 (U t).speed +ℤ (share y -ℤ share (slot_in U A u s)))
      (slot-here : slot_in U' A' u s ≡ y)
      (slot_there : (v r : ℕ) → v < 8 → r < (U v).used → (v ≡ u → r ≡ s → ⊥) → slot_in U' A' v r ≡ slot_in U A v r) where
    abbrev B₀ : Bench
    B₀ = view_in n U A

    slots_now : (v : ℕ) → v < 8 → tab (slot_in U' A' v) 0 (U' v).used ≡ (interface (place B₀ u s y) v).slots
    slots_now v lv = ap (λ (k : ℕ). tab (slot_in U' A' v) 0 k) (unit_kept (λ x. x.used) (λ x z. refl) v lv)
        ∙ by_cases (ℕ_discrete v u)
        (λ (e : v ≡ u). rw e (tab_set (slot_in U A u) (slot_in U' A' u) (U u).used s y None ls slot-here (λ r lr ne. slot_there u r lu lr (λ a b. ne b))
        ∙ sym (place_here B₀ u s y (omega (arith, view_eight n U A)) ∙ ap (λ (f : plain.Interface). set f.slots s y) (interface_in_lem n U A u lu))))
        (λ (ne : v ≡ u → ⊥). tab_same (slot_in U' A' v) (slot_in U A v) (U v).used None (λ r lr. slot_there v r lv lr (λ a b. ne a))
        ∙ sym (place_else B₀ u s y v ne ∙ ap (λ (f : plain.Interface). f.slots) (interface_in_lem n U A v lv)))

    speed_now : (v : ℕ) → v < 8 → off 1024 (U' v).speed ≡ (interface (place B₀ u s y) v).speed
    speed_now v lv = by_cases (ℕ_discrete v t)
        (λ (e : v ≡ t). rw (e, here)
        (fast
        ∙ sym (ap (λ (w : ℕ). (interface (place B₀ u s y) w).speed) (sym tops)
        ∙ place_fast B₀ u s y (omega (arith, view_eight n U A, tops))
        ∙ ap₂ (λ (x z : ℤ). x +ℤ z) (ap (λ (w : ℕ). (interface B₀ w).speed) tops ∙ ap (λ (f : plain.Interface). f.speed) (interface_in_lem n U A t lt)) (ap (λ (o : Option plain.Node). share y -ℤ share o) (view_slot n U A u s lu ls)))))
        (λ (ne : v ≡ t → ⊥). rw (there v lv ne) (sym (place_slow B₀ u s y v (λ e. ne (e ∙ tops)) ∙ ap (λ (f : plain.Interface). f.speed) (interface_in_lem n U A v lv))))

    field : {X : Type 0} (φ : plain.Interface → X) (v : ℕ) → v < 8 → ((f : plain.Interface) (l : List (Option plain.Node)) → φ (plain.with_slots f l) ≡ φ f)
        → ((f : plain.Interface) (x : ℤ) → φ (plain.with_speed f x) ≡ φ f)
        → φ (interface_in U A v) ≡ φ (interface (place B₀ u s y) v)
    field φ v lv p q = sym (place_field B₀ u s y φ p q v ∙ ap φ (interface_in_lem n U A v lv))

    pub place_view : view_in n U' A' ≡ place B₀ u s y
    unfolding place faster
    place_view = view_is n U' A' (place B₀ u s y) (view_next n U A) (place_length B₀ u s y ∙ view_eight n U A) (place_plain B₀ u s y ∙ view_plain n U A ∙ sym (unit_kept (λ x. x.marks.plain) (λ x z. refl) 0 (omega arith)))
        (λ v lv. interface_is (interface_in U' A' v) (interface (place B₀ u s y) v)
        (slots_now v lv)
        (ap (λ (x : ℕ). pos x) (unit_kept (λ x. x.progress) (λ x z. refl) v lv) ∙ field (λ f. f.progress) v lv (λ f l. refl) (λ f x. refl))
        (ap (off 4611686018427387904) (unit_kept (λ x. x.sum) (λ x z. refl) v lv) ∙ field (λ f. f.sum) v lv (λ f l. refl) (λ f x. refl))
        (speed_now v lv)
        (ap up_seen (unit_kept (λ x. x.parent) (λ x z. refl) v lv) ∙ field (λ f. f.parent) v lv (λ f l. refl) (λ f x. refl))
        (ap₂ halves_seen (unit_kept (λ x. x.left) (λ x z. refl) v lv) (unit_kept (λ x. x.right) (λ x z. refl) v lv) ∙ field (λ f. f.halves) v lv (λ f l. refl) (λ f x. refl))
        (ap marks_seen (unit_kept (λ x. x.marks) (λ x z. refl) v lv) ∙ field (λ f. f.marks) v lv (λ f l. refl) (λ f x. refl)))

-- ---- a slot filled: one of those used, or the next
slots_put : (f g : ℕ → Option plain.Node) (m s : ℕ) (x : plain.Node) → s ≤ m → g s ≡ Some x → ((r : ℕ) → r < m → r ≢ s → g r ≡ f r) → tab g 0 (max m (suc s)) ≡ put (tab f 0 m) s x
slots_put f g m s x low here there =
    ext_get_or None (tab g 0 (max m (suc s))) (put (tab f 0 m) s x) (length_tab g 0 (max m (suc s)) ∙ sym (put_count (tab f 0 m) s x low' ∙ ap (λ (k : ℕ). max k (suc s)) (length_tab f 0 m)))
    (λ r lr.
    let l2 : r < max m (suc s) = rw (length_tab g 0 (max m (suc s))) at lr in
    get_d_tab g (max m (suc s)) r None l2
    ∙ by_cases (ℕ_discrete r s)
    (λ (e : r ≡ s). ap g e ∙ here ∙ sym (ap (λ (k : ℕ). get_or (put (tab f 0 m) s x) k None) e ∙ put_at (tab f 0 m) s x low'))
    (λ (ne : r ≡ s → ⊥). let l3 : r < m = omega (arith, l2, ne, low) in there r l3 ne ∙ sym (put_off (tab f 0 m) s x low' r ne ∙ get_d_tab f m r None l3)))
  where
    low' : s ≤ length (tab f 0 m)
    low' = rw (length_tab f 0 m) low

module _ (n : ℕ) (U U' : ℕ → Interface) (A A' : ℕ → Node) (u s sp : ℕ) (x : plain.Node) (lu : u < 8)
    (here : U' u ≡ with_used (U u) (max (U u).used (suc s)) sp) (there : (v : ℕ) → v < 8 → v ≢ u → U' v ≡ U v) where
  pub unit_held : {X : Type 0} (φ : Interface → X) → ((y : Interface) (m z : ℕ) → φ (with_used y m z) ≡ φ y) → (v : ℕ) → v < 8 → φ (U' v) ≡ φ (U v)
  unit_held φ e v lv = by_cases (ℕ_discrete v u) (λ (q : v ≡ u). rw (q, here) (e (U u) (max (U u).used (suc s)) sp)) (λ (q : v ≡ u → ⊥). rw (there v lv q))

  module _ (low : s ≤ (U u).used) (fast : off 1024 sp ≡ off 1024 (U u).speed +ℤ rate x.state)
      (slot-new : slot_in U' A' u s ≡ Some x)
      (slot_old : (v r : ℕ) → v < 8 → r < (U v).used → (v ≡ u → r ≡ s → ⊥) → slot_in U' A' v r ≡ slot_in U A v r) where
    abbrev W : Bench
    W = view_in n U A

    slots_more : (v : ℕ) → v < 8 → tab (slot_in U' A' v) 0 (U' v).used ≡ (interface (push W u s x) v).slots
    slots_more v lv = by_cases (ℕ_discrete v u)
        (λ (e : v ≡ u). rw (e, here)
        (slots_put (slot_in U A u) (slot_in U' A' u) (U u).used s x low slot-new (λ r lr ne. slot_old u r lu lr (λ a b. ne b))
        ∙ sym (push_here W u s x (omega (arith, view_eight n U A)) ∙ ap (λ (f : plain.Interface). put f.slots s x) (interface_in_lem n U A u lu))))
        (λ (ne : v ≡ u → ⊥). ap (λ (y : Interface). tab (slot_in U' A' v) 0 y.used) (there v lv ne)
        ∙ tab_same (slot_in U' A' v) (slot_in U A v) (U v).used None (λ r lr. slot_old v r lv lr (λ a b. ne a))
        ∙ sym (push_else W u s x v ne ∙ ap (λ (f : plain.Interface). f.slots) (interface_in_lem n U A v lv)))

    speed_more : (v : ℕ) → v < 8 → off 1024 (U' v).speed ≡ (interface (push W u s x) v).speed
    speed_more v lv = by_cases (ℕ_discrete v u)
        (λ (e : v ≡ u). rw (e, here) (fast ∙ sym (push_fast W u s x (omega (arith, view_eight n U A)) ∙ ap (λ (f : plain.Interface). f.speed +ℤ rate x.state) (interface_in_lem n U A u lu))))
        (λ (ne : v ≡ u → ⊥). rw (there v lv ne) (sym (push_slow W u s x v ne ∙ ap (λ (f : plain.Interface). f.speed) (interface_in_lem n U A v lv))))

    held : {X : Type 0} (φ : plain.Interface → X) (v : ℕ) → v < 8 → ((f : plain.Interface) (l : List (Option plain.Node)) → φ (plain.with_slots f l) ≡ φ f)
        → ((f : plain.Interface) (x : ℤ) → φ (plain.with_speed f x) ≡ φ f)
        → φ (interface_in U A v) ≡ φ (interface (push W u s x) v)
    held φ v lv p q = sym (push_field W u s x φ p q v ∙ ap φ (interface_in_lem n U A v lv))

    pub push_view : view_in (suc n) U' A' ≡ push W u s x
    unfolding push faster
    push_view = view_is (suc n) U' A' (push W u s x) (ap suc (view_next n U A)) (push_length W u s x ∙ view_eight n U A) (push_plain W u s x ∙ view_plain n U A ∙ sym (unit_held (λ y. y.marks.plain) (λ y m z. refl) 0 (omega arith)))
        (λ v lv. interface_is (interface_in U' A' v) (interface (push W u s x) v)
        (slots_more v lv)
        (ap (λ (y : ℕ). pos y) (unit_held (λ y. y.progress) (λ y m z. refl) v lv) ∙ held (λ f. f.progress) v lv (λ f l. refl) (λ f y. refl))
        (ap (off 4611686018427387904) (unit_held (λ y. y.sum) (λ y m z. refl) v lv) ∙ held (λ f. f.sum) v lv (λ f l. refl) (λ f y. refl))
        (speed_more v lv)
        (ap up_seen (unit_held (λ y. y.parent) (λ y m z. refl) v lv) ∙ held (λ f. f.parent) v lv (λ f l. refl) (λ f y. refl))
        (ap₂ halves_seen (unit_held (λ y. y.left) (λ y m z. refl) v lv) (unit_held (λ y. y.right) (λ y m z. refl) v lv) ∙ held (λ f. f.halves) v lv (λ f l. refl) (λ f y. refl))
        (ap marks_seen (unit_held (λ y. y.marks) (λ y m z. refl) v lv) ∙ held (λ f. f.marks) v lv (λ f l. refl) (λ f y. refl)))

-- ---- an interface marked
module _ (n : ℕ) (U U' : ℕ → Interface) (A : ℕ → Node) (u : ℕ) (k : plain.Marking) (m : Marks) (lu : u < 8) (with : marks_seen m ≡ plain.with_mark k (marks_seen (U u).marks)) (same-engine : m.plain ≡ (U u).marks.plain)
    (here : U' u ≡ set_marks (U u) m) (there : (v : ℕ) → v < 8 → v ≢ u → U' v ≡ U v)
    (sums : (v : ℕ) → v < 8 → sum_up 8 U' v ≡ sum_up 8 U v) where
  abbrev M₀ : Bench
  M₀ = view_in n U A

  unit_marked : {X : Type 0} (φ : Interface → X) → ((y : Interface) (z : Marks) → φ (set_marks y z) ≡ φ y) → (v : ℕ) → v < 8 → φ (U' v) ≡ φ (U v)
  unit_marked φ e v lv = by_cases (ℕ_discrete v u) (λ (q : v ≡ u). rw (q, here) (e (U u) m)) (λ (q : v ≡ u → ⊥). rw (there v lv q))

  kept_by : {X : Type 0} (φ : plain.Interface → X) (v : ℕ) → v < 8 → ((f : plain.Interface) (z : plain.Marks) → φ (plain.with_marks f z) ≡ φ f) → φ (interface_in U A v) ≡ φ (interface (choose M₀ u k) v)
  kept_by φ v lv p = sym (choose_field M₀ u k φ p v ∙ ap φ (interface_in_lem n U A v lv))

  marks_now : (v : ℕ) → v < 8 → marks_seen (U' v).marks ≡ (interface (choose M₀ u k) v).marks
  marks_now v lv = by_cases (ℕ_discrete v u)
      (λ (e : v ≡ u). rw (e, here) (with ∙ sym (choose_here M₀ u k (omega (arith, view_eight n U A)) ∙ ap (λ (f : plain.Interface). plain.with_mark k f.marks) (interface_in_lem n U A u lu))))
      (λ (ne : v ≡ u → ⊥). rw (there v lv ne) (sym (ap (λ (f : plain.Interface). f.marks) (choose_else M₀ u k v ne ∙ interface_in_lem n U A v lv))))

  plain_now : (v : ℕ) → v < 8 → (U' v).marks.plain ≡ (U v).marks.plain
  plain_now v lv = by_cases (ℕ_discrete v u) (λ (q : v ≡ u). rw (q, here) same-engine) (λ (q : v ≡ u → ⊥). rw (there v lv q))

  pub choose_view : view_in n U' A ≡ choose M₀ u k
  unfolding choose
  choose_view = view_is n U' A (choose M₀ u k) (view_next n U A) (choose_length M₀ u k ∙ view_eight n U A) (choose_plain M₀ u k ∙ view_plain n U A ∙ sym (plain_now 0 (omega arith)))
      (λ v lv. interface_is (interface_in U' A v) (interface (choose M₀ u k) v)
      (ap₂ (λ (t j : ℕ). tab (λ r. slot_seen (A (v * 64 + r)) t (circle_of A (v * 64 + r))) 0 j) (sums v lv) (unit_marked (λ y. y.used) (λ y z. refl) v lv) ∙ kept_by (λ f. f.slots) v lv (λ f z. refl))
      (ap (λ (y : ℕ). pos y) (unit_marked (λ y. y.progress) (λ y z. refl) v lv) ∙ kept_by (λ f. f.progress) v lv (λ f z. refl))
      (ap (off 4611686018427387904) (unit_marked (λ y. y.sum) (λ y z. refl) v lv) ∙ kept_by (λ f. f.sum) v lv (λ f z. refl))
      (ap (off 1024) (unit_marked (λ y. y.speed) (λ y z. refl) v lv) ∙ kept_by (λ f. f.speed) v lv (λ f z. refl))
      (ap up_seen (unit_marked (λ y. y.parent) (λ y z. refl) v lv) ∙ kept_by (λ f. f.parent) v lv (λ f z. refl))
      (ap₂ halves_seen (unit_marked (λ y. y.left) (λ y z. refl) v lv) (unit_marked (λ y. y.right) (λ y z. refl) v lv) ∙ kept_by (λ f. f.halves) v lv (λ f z. refl))
      (marks_now v lv))

-- ---- growth
pub slot_grown : (k : Node) (t l : ℕ) (ms : List Member) → ((k.class ≡ Absent → ⊥) → t + l ≤ k.bias) → slot_seen k (t + l) ms ≡ grow_slot (pos l) (slot_seen k t ms)
unfolding slot_seen grow_slot
slot_grown k t l ms h = go k.class refl
  where
    go : (c : Class) → k.class ≡ c → slot_seen k (t + l) ms ≡ grow_slot (pos l) (slot_seen k t ms)
    go Absent e = rw e
    go Blossom e = rw e (rw (value_grown 1152921504606846976 k.state k.bias t l (h (λ a. let z : Absent ≡ Blossom = sym a ∙ e in let z2 : ◌≡◌ {A = ℕ} 0 1 = cc in omega arith))))
    go (Defect v) e = rw e (rw (value_grown 1152921504606846976 k.state k.bias t l (h (λ a. let z : Absent ≡ Defect v = sym a ∙ e in let z2 : ◌≡◌ {A = ℕ} 0 1 = cc in omega arith))))

module _ (n : ℕ) (U U' : ℕ → Interface) (A A' : ℕ → Node) (u l s' : ℕ) (lu : u < 8)
    (here : U' u ≡ with_growth (U u) ((U u).progress + l) s') (there : (v : ℕ) → v < 8 → v ≢ u → U' v ≡ U v) where
  abbrev G : Bench
  G = view_in n U A

  unit_grown : {X : Type 0} (φ : Interface → X) → ((x : Interface) (p z : ℕ) → φ (with_growth x p z) ≡ φ x) → (v : ℕ) → v < 8 → φ (U' v) ≡ φ (U v)
  unit_grown φ e v lv = by_cases (ℕ_discrete v u) (λ (q : v ≡ u). rw (q, here) (e (U u) ((U u).progress + l) s')) (λ (q : v ≡ u → ⊥). rw (there v lv q))

  -- whatever holds the values: each slot of the tree grows, and no other
  module _ (sums : off 4611686018427387904 s' ≡ off 4611686018427387904 (U u).sum +ℤ pos l *ℤ off 1024 (U u).speed)
      (under : (v r : ℕ) → v < 8 → r < (U v).used → climb 8 G v ≡ u → slot_in U' A' v r ≡ grow_slot (pos l) (slot_in U A v r))
      (apart : (v r : ℕ) → v < 8 → r < (U v).used → (climb 8 G v ≡ u → ⊥) → slot_in U' A' v r ≡ slot_in U A v r) where
    slots_grown : (v : ℕ) → v < 8 → tab (slot_in U' A' v) 0 (U' v).used ≡ (interface (grow_by G u (pos l)) v).slots
    slots_grown v lv = ap (λ (k : ℕ). tab (slot_in U' A' v) 0 k) (unit_grown (λ x. x.used) (λ x p z. refl) v lv)
        ∙ by_cases (ℕ_discrete (climb 8 G v) u)
        (λ (e : climb 8 G v ≡ u).
        tab_same (slot_in U' A' v) (λ r. grow_slot (pos l) (slot_in U A v r)) (U v).used None (λ r lr. under v r lv lr e)
        ∙ sym (tab_map (grow_slot (pos l)) (slot_in U A v) (U v).used)
        ∙ sym (grow_under G u (pos l) v (omega (arith, view_eight n U A)) e ∙ ap (λ (f : plain.Interface). map (grow_slot (pos l)) f.slots) (interface_in_lem n U A v lv)))
        (λ (ne : climb 8 G v ≡ u → ⊥).
        tab_same (slot_in U' A' v) (slot_in U A v) (U v).used None (λ r lr. apart v r lv lr ne)
        ∙ sym (grow_else G u (pos l) v (omega (arith, view_eight n U A)) ne ∙ ap (λ (f : plain.Interface). f.slots) (interface_in_lem n U A v lv)))

    sum_now : (v : ℕ) → v < 8 → off 4611686018427387904 (U' v).sum ≡ (interface (grow_by G u (pos l)) v).sum
    sum_now v lv = by_cases (ℕ_discrete v u)
        (λ (e : v ≡ u). rw (e, here) (sums ∙ sym (grow_sum G u (pos l) (omega (arith, view_eight n U A)) ∙ ap (λ (f : plain.Interface). f.sum +ℤ pos l *ℤ f.speed) (interface_in_lem n U A u lu))))
        (λ (ne : v ≡ u → ⊥). rw (there v lv ne) (sym (grow_sum_else G u (pos l) v ne ∙ ap (λ (f : plain.Interface). f.sum) (interface_in_lem n U A v lv))))

    progress_now : (v : ℕ) → v < 8 → pos (U' v).progress ≡ (interface (grow_by G u (pos l)) v).progress
    progress_now v lv = by_cases (ℕ_discrete v u)
        (λ (e : v ≡ u). rw (e, here) (sym (grow_progress G u (pos l) (omega (arith, view_eight n U A)) ∙ ap (λ (f : plain.Interface). f.progress +ℤ pos l) (interface_in_lem n U A u lu))))
        (λ (ne : v ≡ u → ⊥). rw (there v lv ne) (sym (grow_progress_else G u (pos l) v ne ∙ ap (λ (f : plain.Interface). f.progress) (interface_in_lem n U A v lv))))

    field_grown : {X : Type 0} (φ : plain.Interface → X) (v : ℕ) → v < 8 → ((f : plain.Interface) (s : List (Option plain.Node)) → φ (plain.with_slots f s) ≡ φ f) → ((f : plain.Interface) → φ (booked f (pos l)) ≡ φ f)
        → φ (interface_in U A v) ≡ φ (interface (grow_by G u (pos l)) v)
    field_grown φ v lv p q = sym (grow_field G u (pos l) φ p q v ∙ ap φ (interface_in_lem n U A v lv))

    pub grown_view : view_in n U' A' ≡ grow_by G u (pos l)
    unfolding grow_by
    grown_view = view_is n U' A' (grow_by G u (pos l)) (view_next n U A) (grow_length G u (pos l) ∙ view_eight n U A) (grow_plain G u (pos l) ∙ view_plain n U A ∙ sym (unit_grown (λ x. x.marks.plain) (λ x p z. refl) 0 (omega arith)))
        (λ v lv. interface_is (interface_in U' A' v) (interface (grow_by G u (pos l)) v)
        (slots_grown v lv)
        (progress_now v lv)
        (sum_now v lv)
        (ap (off 1024) (unit_grown (λ x. x.speed) (λ x p z. refl) v lv) ∙ field_grown (λ f. f.speed) v lv (λ f s. refl) (λ f. refl))
        (ap up_seen (unit_grown (λ x. x.parent) (λ x p z. refl) v lv) ∙ field_grown (λ f. f.parent) v lv (λ f s. refl) (λ f. refl))
        (ap₂ halves_seen (unit_grown (λ x. x.left) (λ x p z. refl) v lv) (unit_grown (λ x. x.right) (λ x p z. refl) v lv) ∙ field_grown (λ f. f.halves) v lv (λ f s. refl) (λ f. refl))
        (ap marks_seen (unit_grown (λ x. x.marks) (λ x p z. refl) v lv) ∙ field_grown (λ f. f.marks) v lv (λ f s. refl) (λ f. refl)))

-- ---- growth where values are behind: one unit's progress
module _ (n : ℕ) (U U' : ℕ → Interface) (A : ℕ → Node) (u l s' : ℕ) (lu : u < 8)
    (root : (U u).parent ≡ None) (lazy : (U u).marks.plain ≡ false)
    (good : (v : ℕ) → v < 8 → GoodUp (U v).parent) (rising : (v p : ℕ) → v < 8 → (U v).parent ≡ Some p → v < p)
    (here : U' u ≡ with_growth (U u) ((U u).progress + l) s') (there : (v : ℕ) → v < 8 → v ≢ u → U' v ≡ U v) where
  abbrev L : Bench
  L = view_in n U A

  -- the sum above a unit grows if it stands under u
  pub sums_grow : (m v : ℕ) → v < 8 → 8 ≤ m + v → sum_up m U' v ≡ sum_up m U v + pick (eqb (climb m L v) u) l 0
  unfolding sum_up
  sums_grow zero v lv h = absurd (omega arith)
  sums_grow (suc m) v lv h =
      by_cases (ℕ_discrete v u)
      (λ (e : v ≡ u).
      let c : climb (suc m) L u ≡ u = climb_none (suc m) L u (view_parent n U A u lu ∙ ap up_seen root) in
      rw (e, here, root, lazy, c, eq-eqb u u refl) (omega arith))
      (λ (ne : v ≡ u → ⊥). rw (there v lv ne) (go (U v).parent refl ne (sums_grow m)))
    where
      go : (p : Option ℕ) → (U v).parent ≡ p → (v ≡ u → ⊥) → ((w : ℕ) → w < 8 → 8 ≤ m + w → sum_up m U' w ≡ sum_up m U w + pick (eqb (climb m L w) u) l 0)
          → lag_of (U v) + over (U v).parent 0 (sum_up m U') ≡ lag_of (U v) + over (U v).parent 0 (sum_up m U) + pick (eqb (climb (suc m) L v) u) l 0
      go None e ne ih =
          let c : climb (suc m) L v ≡ v = climb_none (suc m) L v (view_parent n U A v lv ∙ ap up_seen e) in
          rw (e, c, ne_eqb v u ne) (omega arith)
      go (Some p) e ne ih =
          let c : climb (suc m) L v ≡ climb m L p = climb_some m L v p (view_parent n U A v lv ∙ ap up_seen e) in
          let g : GoodUp (Some p) = rw e at (good v lv) in
          let r : v < p = rising v p lv e in
          rw (e, c) (omega (arith, ih p g (omega arith)))

  module _ (sums : off 4611686018427387904 s' ≡ off 4611686018427387904 (U u).sum +ℤ pos l *ℤ off 1024 (U u).speed)
      (room : (v r : ℕ) → v < 8 → r < (U v).used → ((A (v * 64 + r)).class ≡ Absent → ⊥) → sum_up 8 U v + l ≤ (A (v * 64 + r)).bias) where
    pub grow_view : view_in n U' A ≡ grow_by L u (pos l)
    grow_view = grown_view n U U' A A u l s' lu here there sums
        (λ v r lv lr e.
        let q : sum_up 8 U' v ≡ sum_up 8 U v + l = sums_grow 8 v lv (omega arith) ∙ ap (λ (c : Bool). sum_up 8 U v + pick c l 0) (eq-eqb (climb 8 L v) u e) in
        ap (λ (t : ℕ). slot_seen (A (v * 64 + r)) t (circle_of A (v * 64 + r))) q ∙ slot_grown (A (v * 64 + r)) (sum_up 8 U v) l (circle_of A (v * 64 + r)) (room v r lv lr))
        (λ v r lv lr ne.
        let z : sum_up 8 U v + 0 ≡ sum_up 8 U v = omega arith in
        let q : sum_up 8 U' v ≡ sum_up 8 U v = sums_grow 8 v lv (omega arith) ∙ ap (λ (c : Bool). sum_up 8 U v + pick c l 0) (ne_eqb (climb 8 L v) u ne) ∙ z in
        ap (λ (t : ℕ). slot_seen (A (v * 64 + r)) t (circle_of A (v * 64 + r))) q)

-- ---- growth in the plain engine: every node of the tree
value_raised : (g : GrowState) (b t l : ℕ) → value_by g (value_by g b l) t ≡ value_by g b (t + l)
value_raised Growing b t l = omega arith
value_raised Stay b t l = refl
value_raised Shrink b t l = omega arith

pub slot_raised : (k : Node) (t l : ℕ) (ms : List Member) → slot_seen (raised l k) t ms ≡ slot_seen k (t + l) ms
unfolding slot_seen
slot_raised k t l ms = go k.class refl
  where
    go : (c : Class) → k.class ≡ c → slot_seen (raised l k) t ms ≡ slot_seen k (t + l) ms
    go Absent e = rw e
    go Blossom e = rw (e, value_raised k.state k.bias t l)
    go (Defect v) e = rw (e, value_raised k.state k.bias t l)

module _ (n : ℕ) (U U' : ℕ → Interface) (A A' : ℕ → Node) (u l s' : ℕ) (lu : u < 8) (held : (U u).marks.plain ≡ true)
    (good : (v : ℕ) → v < 8 → GoodUp (U v).parent)
    (here : U' u ≡ with_growth (U u) ((U u).progress + l) s') (there : (v : ℕ) → v < 8 → v ≢ u → U' v ≡ U v) where
  abbrev H : Bench
  H = view_in n U A

  sums_held : (v : ℕ) → v < 8 → sum_up 8 U' v ≡ sum_up 8 U v
  sums_held v lv = sum_up_same U U' good (unit_grown n U U' A A' u l s' lu here there (λ x. x.parent) (λ x p z. refl))
      (λ w lw. by_cases (ℕ_discrete w u) (λ (q : w ≡ u). rw (q, here, held)) (λ (q : w ≡ u → ⊥). rw (there w lw q))) 8 v lv

  module _ (sums : off 4611686018427387904 s' ≡ off 4611686018427387904 (U u).sum +ℤ pos l *ℤ off 1024 (U u).speed)
      (room : (v r : ℕ) → v < 8 → r < (U v).used → ((A (v * 64 + r)).class ≡ Absent → ⊥) → sum_up 8 U v + l ≤ (A (v * 64 + r)).bias)
      (circles : (k : ℕ) → circle_of A' k ≡ circle_of A k)
      (up : (v r : ℕ) → v < 8 → r < (U v).used → climb 8 H v ≡ u → A' (v * 64 + r) ≡ raised l (A (v * 64 + r)))
      (off-tree : (v r : ℕ) → v < 8 → r < (U v).used → (climb 8 H v ≡ u → ⊥) → A' (v * 64 + r) ≡ A (v * 64 + r)) where
    pub held_view : view_in n U' A' ≡ grow_by H u (pos l)
    held_view = grown_view n U U' A A' u l s' lu here there sums
        (λ v r lv lr e.
        ap₂ (λ (k : Node) (t : ℕ). slot_seen k t (circle_of A' (v * 64 + r))) (up v r lv lr e) (sums_held v lv)
        ∙ ap (λ (ms : List Member). slot_seen (raised l (A (v * 64 + r))) (sum_up 8 U v) ms) (circles (v * 64 + r))
        ∙ slot_raised (A (v * 64 + r)) (sum_up 8 U v) l (circle_of A (v * 64 + r))
        ∙ slot_grown (A (v * 64 + r)) (sum_up 8 U v) l (circle_of A (v * 64 + r)) (room v r lv lr))
        (λ v r lv lr ne.
        ap₂ (λ (k : Node) (t : ℕ). slot_seen k t (circle_of A' (v * 64 + r))) (off-tree v r lv lr ne) (sums_held v lv)
        ∙ ap (λ (ms : List Member). slot_seen (A (v * 64 + r)) (sum_up 8 U v) ms) (circles (v * 64 + r)))
