-- Along the used slots: those passed do not hold the serial, and past the used ones and past the eighth interface there is none. Assumes nothing.
use Rattle.std.specs.Prelude.{None, Option, Some}
use Prim.Native.Nat.{ℕ, ◌+◌, ◌/◌, ◌%◌, ◌<◌, ◌≤◌}
use mathlib.Core.Path.{◌≡◌, refl, ap, sym, ◌∙◌, subst}
use mathlib.Core.Logic.{by_cases}
use mathlib.Core.List.{List}
use native.Mathlib.Decide.{ℕ_discrete, dec_lt}
use native.Mathlib.Omega.{arith}
use lib.ListN.{get_or}
use Rattle.bench_words.specs.Store.{node_at, interface_at}
use Rattle.bench_words.specs.declared.Interface.{Interface}
use Rattle.ledger_spec.specs.Bench.{Handle}
use Rattle.ledger_spec.specs.Bench as plain
use Rattle.ledger_spec.specs.Look.{slot_of, node_named}
use Rattle.ledger_spec.proofs.Knit.{none_some}
use Rattle.bench_views.specs.View.{view, node_seen, sum_up, circle_of}
use Rattle.bench_views.specs.Fit.{Fit}
use Rattle.bench_views.proofs.Views.{view_slot, view_past, view_next}
use Rattle.bench_views.proofs.Rings.{slot_held}
use Rattle.bench_links.specs.Find.{spot, Held}
use Rattle.bench_links.proofs.Finding.{named_none, named_some, named_other, out_unit}
use Rattle.bench_serials.specs.Seek.{handle, Scans, ScansAll, Seeks}
use Rattle.bench_serials.proofs.Seeking.{named_none as none_named, named_one}

module _ (b : List ℕ) (n : ℕ) where
  -- a node found, by its position
  pub held_at : (h : Handle) (k : ℕ) → h.serial ≡ n → Held b h k → Held b (handle (k / 64) (k % 64) n) k
  held_at h k e H =
      let p = H.place in
      let s = H.stands.low in
      let x : h.unit ≡ k / 64 = omega arith in
      let y : h.slot ≡ k % 64 = omega arith in
      let q : h ≡ handle (k / 64) (k % 64) n = λ i. record { unit = x i; slot = y i; serial = e i } in
      subst (λ (g : Handle). Held b g k) q H

  -- ---- one interface
  pub one_more : (u s : ℕ) → ((t : ℕ) → t < s → node_named (view b) (handle u t n) ≡ None) → node_named (view b) (handle u s n) ≡ None
      → (t : ℕ) → t < s + 1 → node_named (view b) (handle u t n) ≡ None
  one_more u s w e t l = by_cases (ℕ_discrete t s) (λ (q : t ≡ s). ap (λ (x : ℕ). node_named (view b) (handle u x n)) q ∙ e) (λ (q : t ≡ s → ⊥). w t (omega arith))

  pub all_slots : (u s : ℕ) (f : Interface) → u < 8 → f ≡ interface_at b u → f.used ≤ s → ((t : ℕ) → t < s → node_named (view b) (handle u t n) ≡ None)
      → (t : ℕ) → node_named (view b) (handle u t n) ≡ None
  all_slots u s f l e m w t = by_cases (dec_lt t s)
      (λ (q : t < s). w t q)
      (λ (q : t < s → ⊥). named_none (view b) (handle u t n) (view_past (get_or b 0 0) (interface_at b) (node_at b) u t l (omega (arith, ap (λ (x : Interface). x.used) e))))

  -- ---- all interfaces
  abbrev pub Clear : ℕ → Type 0
  Clear u = (w s : ℕ) → w < u → node_named (view b) (handle w s n) ≡ None

  pub unit_more : (u : ℕ) → Clear u → ((s : ℕ) → node_named (view b) (handle u s n) ≡ None) → Clear (u + 1)
  unit_more u c e w s l = by_cases (ℕ_discrete w u) (λ (q : w ≡ u). ap (λ (x : ℕ). node_named (view b) (handle x s n)) q ∙ e s) (λ (q : w ≡ u → ⊥). c w s (omega arith))

  pub all_units : (u : ℕ) → 8 ≤ u → Clear u → (w s : ℕ) → node_named (view b) (handle w s n) ≡ None
  all_units u l c w s = by_cases (dec_lt w 8) (λ (q : w < 8). c w s (omega arith)) (λ (q : w < 8 → ⊥). out_unit b (handle w s n) (omega arith))

  module _ (F : Fit b) where
    missing : ((w s : ℕ) → node_named (view b) (handle w s n) ≡ None) → (w s : ℕ) (m : plain.Node) → slot_of (view b) w s ≡ Some m → m.serial ≡ n → ⊥
    missing c w s m e q = none_some (c w s) (named_some (view b) (handle w s n) m e q)

    -- a serial that was not given out
    pub not_yet : get_or b 0 0 ≤ n → (w s : ℕ) → node_named (view b) (handle w s n) ≡ None
    not_yet l w s = go (slot_of (view b) w s) refl
      where
        go : (o : Option plain.Node) → slot_of (view b) w s ≡ o → node_named (view b) (handle w s n) ≡ None
        go None e = named_none (view b) (handle w s n) e
        go (Some m) e = named_other (view b) (handle w s n) m e (λ q. omega (arith, l, q, (F.sewn.knit.low w s m e).1, view_next (get_or b 0 0) (interface_at b) (node_at b)))

    -- ---- what the search answers
    pub seeks_none : ((w s : ℕ) → node_named (view b) (handle w s n) ≡ None) → Seeks b n None
    seeks_none c = record { same = sym (none_named (view b) n (missing c)); finds = out_unit b (handle 8 0 n) (omega arith) }

    pub seeks_one : (k : ℕ) → Held b (handle (k / 64) (k % 64) n) k → Seeks b n (Some k)
    seeks_one k H =
        let h = handle (k / 64) (k % 64) n in
        let S = H.stands in
        let x = slot_held (node_at b (spot h)) (sum_up 8 (interface_at b) (k / 64)) (circle_of (node_at b) (spot h)) S.present in
        record {
          same = sym (named_one (view b) n F.frame F.sewn.knit (k / 64) (k % 64) (node_seen (node_at b (spot h)) (sum_up 8 (interface_at b) (k / 64)) x.0)
              (view_slot (get_or b 0 0) (interface_at b) (node_at b) (k / 64) (k % 64) S.unit S.slot ∙ x.1) S.serial);
          finds = H;
        }

    pub seeks_all : (r : Option ℕ) → ScansAll b n r → Seeks b n r
    seeks_all None f = seeks_none f
    seeks_all (Some k) f = seeks_one k f

-- ---- by what was found
pub scan_at : (b : List ℕ) (u n : ℕ) {r : Option ℕ} (k : ℕ) → Scans b u n r → r ≡ Some k → Held b (handle (k / 64) (k % 64) n) k
scan_at b u n k f e = subst (λ (x : Option ℕ). Scans b u n x) e f

pub scan_none : (b : List ℕ) (u n : ℕ) {r : Option ℕ} → Scans b u n r → r ≡ None → (s : ℕ) → node_named (view b) (handle u s n) ≡ None
scan_none b u n f e = subst (λ (x : Option ℕ). Scans b u n x) e f

pub seek_at : (b : List ℕ) (n : ℕ) {r : Option ℕ} (k : ℕ) → Seeks b n r → r ≡ Some k → Seeks b n (Some k)
seek_at b n k f e = subst (λ (x : Option ℕ). Seeks b n x) e f

pub seek_none : (b : List ℕ) (n : ℕ) {r : Option ℕ} → Seeks b n r → r ≡ None → Seeks b n None
seek_none b n f e = subst (λ (x : Option ℕ). Seeks b n x) e f
