-- Fuse: three interfaces' words change and no node's. The parent has grown nothing, so every T stays and with it every value; no class and no link of a
-- node changes. Assumes nothing.
use Rattle.std.specs.Prelude.{Some}
use Prim.Native.Nat.{ℕ, ◌+◌, ◌-◌, ◌*◌, ◌<◌, ◌≤◌}
use mathlib.Core.Path.{◌≡◌, refl, ap, ap₂, sym, ◌∙◌, fun_ext}
use mathlib.Core.Logic.{◌≢◌, by_cases}
use mathlib.Core.Bool.{Bool}
use mathlib.Core.List.{List}
use native.Mathlib.Decide.{ℕ_discrete}
use native.Mathlib.Omega.{arith}
use lib.IntN.{ℤ, pos, nat_abs, ◌+ℤ◌}
use lib.ListN.{length, get_or}
use borrow.Author.Tests.{ne_eqb}
use Rattle.bench_words.specs.Store.{node_at, interface_at, store_interface}
use Rattle.bench_words.proofs.Laws.{interface_same, interface_other, store_interface_out, store_interface_node, length_store_interface}
use Rattle.bench_words.proofs.Maps.{store_interface_map}
use Rattle.bench_words.specs.declared.Node.{Node}
use Rattle.bench_words.specs.declared.Interface.{Interface}
use Rattle.ledger_spec.specs.Bench as plain
use Rattle.ledger_spec.specs.Look.{interface}
use Rattle.ledger_spec.specs.Tests.{first}
use Rattle.ledger_spec.specs.Refuse.{fuse_tests}
use Rattle.ledger_spec.specs.Deeds.{join}
use Rattle.ledger_spec.proofs.Passed.{Open, Fusable, fusable}
use Rattle.ledger_spec.proofs.TreeReadings.{Joins, joins, join_slots, join_else, join_kept, join_l, join_r, join_p, join_length, join_next, join_plain}
use Rattle.bench_views.specs.Records.{Steady}
use Rattle.bench_views.specs.Tab.{tab}
use Rattle.bench_views.specs.View.{lag_of, off, up_seen, halves_seen, marks_seen, sum_up, slot_in, slot_seen, circle_of, interface_in, view_in, view}
use Rattle.bench_views.specs.Canon.{Coded}
use Rattle.bench_views.specs.Fit.{Fit, Done}
use Rattle.bench_views.proofs.Sums.{lag_le}
use Rattle.bench_views.proofs.Views.{interface_in_lem, interface_is, view_is, view_next, view_plain, view_eight, view_count}
use Rattle.bench_views.proofs.Codes.{coded_interface}
use Rattle.deed_nodes.proofs.Needs.{Paced, open_top, open_paced}
use Rattle.deed_nodes.proofs.Keeps.{sim_self, canon_like}
use Rattle.deed_trees.specs.Empty.{with_up, fused_words}
use Rattle.deed_trees.proofs.Fuses.{off_join, fuse_sums}

-- ---- the words
module _ (b : List ℕ) (p l r : ℕ) (F : Fit b) (T : first (fuse_tests (view b) p l r) ≡ 0) where
  abbrev B : plain.Bench
  B = view b

  abbrev U : ℕ → Interface
  U = interface_at b

  S : Fusable B p l r
  S = fusable B p l r T

  pub p<8 : p < 8
  p<8 = S.p<8

  pub l<8 : l < 8
  l<8 = let a = S.p<8 in let c = S.l<p in omega arith

  pub r<8 : r < 8
  r<8 = let a = S.p<8 in let c = S.r<p in omega arith

  open_l : Open B l
  open_l = record { low = l<8; free = S.l_none }

  open_r : Open B r
  open_r = record { low = r<8; free = S.r_none }

  both_paced : Paced (U l) × Paced (U r)
  both_paced = (open_paced b F l open_l, open_paced b F r open_r)

  no_progress : (U p).progress ≡ 0
  no_progress = ap (λ (f : plain.Interface). nat_abs f.progress) (sym (interface_in_lem (get_or b 0 0) U (node_at b) p p<8)) ∙ S.no_progress

  no_slots : (U p).used ≡ 0
  no_slots = sym (view_count (get_or b 0 0) U (node_at b) p p<8) ∙ ap length S.no_slots

  abbrev f₀ : Interface
  f₀ = fused_words (U p).marks (U l) (U r) l r

  abbrev b₁ : List ℕ
  b₁ = store_interface b l (with_up (U l) p)

  abbrev b₂ : List ℕ
  b₂ = store_interface b₁ r (with_up (interface_at b₁ r) p)

  abbrev b₃ : List ℕ
  b₃ = store_interface b₂ p f₀

  len₀ : length b ≡ 6273
  len₀ = F.canon.steady.len

  len₁ : length b₁ ≡ 6273
  len₁ = length_store_interface b l (with_up (U l) p) len₀ l<8

  len₂ : length b₂ ≡ 6273
  len₂ = length_store_interface b₁ r (with_up (interface_at b₁ r) p) len₁ r<8

  abbrev U₃ : ℕ → Interface
  U₃ = interface_at b₃

  here_p : U₃ p ≡ f₀
  here_p = interface_same b₂ p f₀ len₂ p<8 tt

  here_r : U₃ r ≡ with_up (U r) p
  here_r =
      interface_other b₂ p f₀ len₂ p<8 r (λ e. let a = S.r<p in omega arith) ∙ interface_same b₁ r (with_up (interface_at b₁ r) p) len₁ r<8 p<8
      ∙ ap (λ (f : Interface). with_up f p) (interface_other b l (with_up (U l) p) len₀ l<8 r (λ e. S.l≢r (sym e)))

  here_l : U₃ l ≡ with_up (U l) p
  here_l =
      interface_other b₂ p f₀ len₂ p<8 l (λ e. let a = S.l<p in omega arith) ∙ interface_other b₁ r (with_up (interface_at b₁ r) p) len₁ r<8 l S.l≢r
      ∙ interface_same b l (with_up (U l) p) len₀ l<8 p<8

  here_else : (v : ℕ) → v ≢ p → v ≢ l → v ≢ r → U₃ v ≡ U v
  here_else v np nl nr = interface_other b₂ p f₀ len₂ p<8 v np ∙ interface_other b₁ r (with_up (interface_at b₁ r) p) len₁ r<8 v nr ∙ interface_other b l (with_up (U l) p) len₀ l<8 v nl

  -- a part that a new parent leaves, of any interface but p
  part : {X : Type 0} (φ : Interface → X) → ((f : Interface) (q : ℕ) → φ (with_up f q) ≡ φ f) → (v : ℕ) → v ≢ p → φ (U₃ v) ≡ φ (U v)
  part φ e v np = by_cases (ℕ_discrete v l)
      (λ (q : v ≡ l). rw (q, here_l) (e (U l) p))
      (λ (nl : v ≡ l → ⊥). by_cases (ℕ_discrete v r)
      (λ (q : v ≡ r). rw (q, here_r) (e (U r) p))
      (λ (nr : v ≡ r → ⊥). ap φ (here_else v np nl nr)))

  -- and one that p keeps too
  whole_part : {X : Type 0} (φ : Interface → X) → ((f : Interface) (q : ℕ) → φ (with_up f q) ≡ φ f) → φ f₀ ≡ φ (U p) → (v : ℕ) → φ (U₃ v) ≡ φ (U v)
  whole_part φ e z v = by_cases (ℕ_discrete v p) (λ (q : v ≡ p). rw (q, here_p) z) (λ (np : v ≡ p → ⊥). part φ e v np)

  used₃ : (v : ℕ) → (U₃ v).used ≡ (U v).used
  used₃ = whole_part (λ f. f.used) (λ f q. refl) (sym no_slots)

  progress₃ : (v : ℕ) → (U₃ v).progress ≡ (U v).progress
  progress₃ = whole_part (λ f. f.progress) (λ f q. refl) (sym no_progress)

  no_lag : (f : Interface) → f.progress ≡ 0 → lag_of f ≡ 0
  no_lag f e = omega (arith, e, lag_le f)

  lag₃ : (v : ℕ) → lag_of (U₃ v) ≡ lag_of (U v)
  lag₃ = whole_part (λ f. lag_of f) (λ f q. refl) (no_lag f₀ refl ∙ sym (no_lag (U p) no_progress))

  plain₃ : (v : ℕ) → (U₃ v).marks.plain ≡ (U v).marks.plain
  plain₃ = whole_part (λ f. f.marks.plain) (λ f q. refl) refl

  parent₃ : (v : ℕ) → v ≢ l → v ≢ r → (U₃ v).parent ≡ (U v).parent
  parent₃ v nl nr = by_cases (ℕ_discrete v p)
      (λ (q : v ≡ p). rw (q, here_p) (sym (open_top b F p (record { low = p<8; free = S.p_none }))))
      (λ (np : v ≡ p → ⊥). ap (λ (f : Interface). f.parent) (here_else v np nl nr))

  sums₃ : (v : ℕ) → sum_up 8 U₃ v ≡ sum_up 8 U v
  sums₃ v = fuse_sums U U₃ p l r (open_top b F l open_l) (open_top b F r open_r) (no_lag (U p) no_progress) (ap (λ (f : Interface). f.parent) here_p) (ap (λ (f : Interface). f.parent) here_l) (ap (λ (f : Interface). f.parent) here_r) parent₃ lag₃ 8 v

  node₃ : (k : ℕ) → node_at b₃ k ≡ node_at b k
  node₃ k = store_interface_node b₂ p f₀ len₂ p<8 k ∙ store_interface_node b₁ r (with_up (interface_at b₁ r) p) len₁ r<8 k ∙ store_interface_node b l (with_up (U l) p) len₀ l<8 k

  next₃ : get_or b₃ 0 0 ≡ get_or b 0 0
  next₃ =
      store_interface_out b₂ p f₀ len₂ p<8 0 (λ i li e. omega arith) ∙ store_interface_out b₁ r (with_up (interface_at b₁ r) p) len₁ r<8 0 (λ i li e. omega arith)
      ∙ store_interface_out b l (with_up (U l) p) len₀ l<8 0 (λ i li e. omega arith)

  -- ---- the view
  abbrev J : plain.Bench
  J = join B p l r

  joining : Joins B p l r
  joining = joins F.frame S

  abbrev A : ℕ → Node
  A = node_at b

  is : {X : Type 0} (φ : plain.Interface → X) (v : ℕ) → v < 8 → φ (interface B v) ≡ φ (interface_in U A v)
  is φ v lv = ap φ (interface_in_lem (get_or b 0 0) U A v lv)

  slots₃ : (v : ℕ) → v < 8 → tab (slot_in U₃ A v) 0 (U₃ v).used ≡ (interface J v).slots
  slots₃ v lv =
      ap₂ (λ (t n : ℕ). tab (λ s. slot_seen (A (v * 64 + s)) t (circle_of A (v * 64 + s))) 0 n) (sums₃ v) (used₃ v)
      ∙ sym (join_slots B p l r joining v ∙ is (λ f. f.slots) v lv)

  -- a field of the ledger's that shows a part of the words'
  field : {X Y : Type 0} (φ : Interface → Y) (show : Y → X) (ψ : plain.Interface → X) → ((f : Interface) (q : ℕ) → φ (with_up f q) ≡ φ f) → ((f : plain.Interface) (q : ℕ) → ψ (plain.with_parent f (Some q)) ≡ ψ f)
      → ((v : ℕ) → v < 8 → ψ (interface B v) ≡ show (φ (U v))) → show (φ f₀) ≡ ψ (interface J p) → (v : ℕ) → v < 8 → show (φ (U₃ v)) ≡ ψ (interface J v)
  field φ show ψ e e' seen at_p v lv = by_cases (ℕ_discrete v p)
      (λ (q : v ≡ p). rw (q, here_p) at_p)
      (λ (np : v ≡ p → ⊥). ap show (part φ e v np) ∙ sym (seen v lv) ∙ sym (join_kept B p l r joining ψ e' v np))

  progress_now : (v : ℕ) → v < 8 → pos (U₃ v).progress ≡ (interface J v).progress
  progress_now = field (λ f. f.progress) pos (λ f. f.progress) (λ f q. refl) (λ f q. refl) (is (λ f. f.progress)) (sym (ap (λ (f : plain.Interface). f.progress) (join_p B p l r joining)))

  sum_now : (v : ℕ) → v < 8 → off 4611686018427387904 (U₃ v).sum ≡ (interface J v).sum
  sum_now = field (λ f. f.sum) (off 4611686018427387904) (λ f. f.sum) (λ f q. refl) (λ f q. refl) (is (λ f. f.sum))
      (off_join 4611686018427387904 (U l).sum (U r).sum (let x = both_paced.0.low in let y = both_paced.1.low in omega arith)
      ∙ ap₂ (λ (x y : ℤ). x +ℤ y) (sym (is (λ f. f.sum) l l<8)) (sym (is (λ f. f.sum) r r<8)) ∙ sym (ap (λ (f : plain.Interface). f.sum) (join_p B p l r joining)))

  speed_now : (v : ℕ) → v < 8 → off 1024 (U₃ v).speed ≡ (interface J v).speed
  speed_now = field (λ f. f.speed) (off 1024) (λ f. f.speed) (λ f q. refl) (λ f q. refl) (is (λ f. f.speed))
      (off_join 1024 (U l).speed (U r).speed (let x = both_paced.0.slow in let y = both_paced.1.slow in omega arith)
      ∙ ap₂ (λ (x y : ℤ). x +ℤ y) (sym (is (λ f. f.speed) l l<8)) (sym (is (λ f. f.speed) r r<8)) ∙ sym (ap (λ (f : plain.Interface). f.speed) (join_p B p l r joining)))

  halves_new : halves_seen (l + 1) (r + 1) ≡ Some (l, r)
  halves_new =
      let x : l + 1 - 1 ≡ l = omega arith in
      let y : r + 1 - 1 ≡ r = omega arith in
      rw (ne_eqb (l + 1) 0 (λ e. omega arith), x, y)

  halves_now : (v : ℕ) → v < 8 → halves_seen (U₃ v).left (U₃ v).right ≡ (interface J v).halves
  halves_now = field (λ f. (f.left, f.right)) (λ (x : ℕ × ℕ). halves_seen x.0 x.1) (λ f. f.halves) (λ f q. refl) (λ f q. refl) (is (λ f. f.halves))
      (halves_new ∙ sym (ap (λ (f : plain.Interface). f.halves) (join_p B p l r joining)))

  marks_now : (v : ℕ) → v < 8 → marks_seen (U₃ v).marks ≡ (interface J v).marks
  marks_now = field (λ f. f.marks) marks_seen (λ f. f.marks) (λ f q. refl) (λ f q. refl) (is (λ f. f.marks))
      (sym (ap (λ (f : plain.Interface). f.marks) (join_p B p l r joining) ∙ ap₂ (λ (m : plain.Marks) (x : Bool). plain.with_floor m x) (is (λ f. f.marks) p p<8) (is (λ f. f.marks.floored) l l<8)))

  parent_now : (v : ℕ) → v < 8 → up_seen (U₃ v).parent ≡ (interface J v).parent
  parent_now v lv = by_cases (ℕ_discrete v p)
      (λ (q : v ≡ p). rw (q, here_p) (sym (ap (λ (f : plain.Interface). f.parent) (join_p B p l r joining))))
      (λ (np : v ≡ p → ⊥). by_cases (ℕ_discrete v l)
      (λ (q : v ≡ l). rw (q, here_l) (sym (join_l B p l r joining)))
      (λ (nl : v ≡ l → ⊥). by_cases (ℕ_discrete v r)
      (λ (q : v ≡ r). rw (q, here_r) (sym (join_r B p l r joining)))
      (λ (nr : v ≡ r → ⊥). ap (λ (f : Interface). up_seen f.parent) (here_else v np nl nr) ∙ sym (is (λ f. f.parent) v lv) ∙ sym (ap (λ (f : plain.Interface). f.parent) (join_else B p l r joining v np nl nr)))))

  seen₃ : view b₃ ≡ J
  seen₃ =
      let same : node_at b₃ ≡ node_at b = fun_ext node₃ in
      ap₂ (λ (n : ℕ) (X : ℕ → Node). view_in n U₃ X) next₃ same
      ∙ view_is (get_or b 0 0) U₃ A J (join_next B p l r joining ∙ view_next (get_or b 0 0) U A) (join_length B p l r joining ∙ view_eight (get_or b 0 0) U A) (join_plain B p l r joining ∙ view_plain (get_or b 0 0) U A ∙ sym (plain₃ 0))
      (λ v lv. interface_is (interface_in U₃ A v) (interface J v) (slots₃ v lv) (progress_now v lv) (sum_now v lv) (speed_now v lv) (parent_now v lv) (halves_now v lv) (marks_now v lv))

  -- ---- the words stay canonical
  steady₃ : Steady b₃
  steady₃ =
      let st = F.canon.steady in
      record {
        len = length_store_interface b₂ p f₀ len₂ p<8;
        slots = λ v lv. rw (used₃ v) (st.slots v lv);
        progress = λ v lv. rw (progress₃ v) (st.progress v lv);
        rising = λ v q lv e. by_cases (ℕ_discrete v l)
            (λ (z : v ≡ l). let k = under_is (sym (ap (λ (x : ℕ). (U₃ x).parent) z ∙ ap (λ (f : Interface). f.parent) here_l) ∙ e) in let a = S.l<p in omega arith)
            (λ (nl : v ≡ l → ⊥). by_cases (ℕ_discrete v r)
            (λ (z : v ≡ r). let k = under_is (sym (ap (λ (x : ℕ). (U₃ x).parent) z ∙ ap (λ (f : Interface). f.parent) here_r) ∙ e) in let a = S.r<p in omega arith)
            (λ (nr : v ≡ r → ⊥). st.rising v q lv (sym (parent₃ v nl nr) ∙ e)));
      }
    where
      under_is : {x y : ℕ} → Some x ≡ Some y → x ≡ y
      under_is e = cc

  coded₃ : Coded b₃
  coded₃ = coded_interface b₂ p f₀ len₂ p<8 tt (coded_interface b₁ r (with_up (interface_at b₁ r) p) len₁ r<8 p<8 (coded_interface b l (with_up (U l) p) len₀ l<8 p<8 F.canon.coded))

  fused : Done b₃ J
  fused =
      let C = F.canon in
      record {
        canon = canon_like b b₃ C steady₃ coded₃ (λ v lv. plain₃ v) (λ v lv. used₃ v)
            (λ v lv e. by_cases (ℕ_discrete v p)
            (λ (q : v ≡ p). absurd (omega (arith, e, ap (λ (x : ℕ). (U₃ x).left) q, ap (λ (f : Interface). f.left) here_p)))
            (λ (np : v ≡ p → ⊥). part (λ f. f.right) (λ f q. refl) v np ∙ C.whole v lv (sym (part (λ f. f.left) (λ f q. refl) v np) ∙ e)))
            (λ v lv ne. by_cases (ℕ_discrete v p)
            (λ (q : v ≡ p). rw (q, here_p) (omega arith))
            (λ (np : v ≡ p → ⊥). rw (part (λ f. f.right) (λ f q. refl) v np) (C.both v lv (λ e. ne (part (λ f. f.left) (λ f q. refl) v np ∙ e)))))
            (λ v lv. store_interface_map b₂ p f₀ len₂ p<8 v ∙ store_interface_map b₁ r (with_up (interface_at b₁ r) p) len₁ r<8 v ∙ store_interface_map b l (with_up (U l) p) len₀ l<8 v)
            (λ k. sim_self (node₃ k)) (λ k e. node₃ k);
        seen = seen₃;
      }

  -- ---- the code's words
  pub record Room (L R : Interface) : Type 0 where
    pub sum_low : 4611686018427387904 ≤ L.sum + R.sum
    pub sum_high : L.sum + R.sum < 18446744073709551616
    pub speed_low : 1024 ≤ L.speed + R.speed
    pub speed_high : L.speed + R.speed ≤ 3072

  pub join_room : (L R : Interface) → L ≡ U l → R ≡ U r → Room L R
  join_room L R eL eR =
      let x = both_paced.0 in
      let y = both_paced.1 in
      rw (eL, eR)
      (record {
        sum_low = omega (arith, x.low, y.low);
        sum_high = omega (arith, x.high, y.high);
        speed_low = omega (arith, x.slow, y.slow);
        speed_high = omega (arith, x.fast, y.fast);
      })

  pub join_by : (L R P : Interface) {c₁ c₂ c₃ : List ℕ} → L ≡ U l → R ≡ U r → P ≡ U p → c₁ ≡ store_interface b l (with_up (U l) p) → c₂ ≡ store_interface c₁ r (with_up (interface_at c₁ r) p)
      → c₃ ≡ store_interface c₂ p (fused_words P.marks L R l r) → Done c₃ J
  join_by L R P {c₃ = c₃} eL eR eP e₁ e₂ e₃ =
      let q : c₃ ≡ b₃ = simp (e₃, e₂, e₁, eL, eR, eP) in
      rw q fused
