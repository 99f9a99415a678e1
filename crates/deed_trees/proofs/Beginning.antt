-- Set-up: all words zero are empty slots, and then each interface is stored as empty. Zero is its own code, so the words are canonical. Assumes nothing.
use Rattle.std.specs.Prelude.{None, Option, Some}
use Prim.Native.Nat.{ℕ, zero, suc, ◌+◌, ◌*◌, ◌<◌, ◌≤◌}
use mathlib.Core.Path.{◌≡◌, refl, ap, sym, ◌∙◌}
use mathlib.Core.Logic.{by_cases}
use mathlib.Core.Bool.{Bool}
use mathlib.Core.List.{List}
use native.Mathlib.Decide.{ℕ_discrete}
use native.Mathlib.Omega.{arith}
use lib.IntN.{pos}
use lib.ListN.{length, get_or, set, length-set, replicate, length-replicate, get_or-replicate}
use lib.Seq.{get_or-set_same}
use Rattle.kinds.specs.declared.Class.TheVariants.{Absent}
use Rattle.bench_words.specs.Codec.{marks_word}
use Rattle.bench_words.specs.Store.{base, ibase, node_at, interface_at, store_interface, map_at, interface_of, interface_words, node_words, no_interface}
use Rattle.bench_words.proofs.Laws.{interface_same, interface_other, store_interface_node, length_store_interface, interface_first, node_first}
use Rattle.bench_words.proofs.Maps.{store_interface_map, map_first}
use Rattle.bench_words.specs.declared.Node.{Node}
use Rattle.bench_words.specs.declared.Interface.{Interface}
use Rattle.ledger_spec.specs.Bench.{fresh, set_up_in}
use Rattle.bench_views.specs.Records.{no_node}
use Rattle.bench_views.specs.Tab.{tab}
use Rattle.bench_views.specs.View.{off, up_seen, halves_seen, marks_seen, slot_in, interface_in}
use Rattle.bench_views.specs.Canon.{Coded}
use Rattle.bench_views.specs.Fit.{Done}
use Rattle.bench_views.proofs.Offsets.{off_zero}
use Rattle.bench_views.proofs.Views.{interface_is, view_is}
use Rattle.bench_views.proofs.Codes.{coded_interface, coded_first}
use Rattle.bench_views.proofs.Maps.{map_bare}
use Rattle.deed_nodes.proofs.Keeps.{not_blossom}
use Rattle.deed_trees.proofs.Cleared.{not_inside}

-- ---- zero words
blank : (n j : ℕ) → ◌≡◌ {A = ℕ} (get_or (replicate n 0) j 0) 0
blank zero j = refl
blank (suc n) zero = refl
blank (suc n) (suc j) = blank n j

blank_interface : (j : ℕ) → get_or (interface_words (interface_of 0 0 0 0 0 0 0 0)) j 0 ≡ 0
blank_interface j = blank 7 j

blank_node : (j : ℕ) → get_or (node_words no_node) j 0 ≡ 0
blank_node j = blank 12 j

module _ (b : List ℕ) (zeros : (m : ℕ) → get_or b m 0 ≡ 0) where
  zero_node : (k : ℕ) → node_at b k ≡ no_node
  unfolding node_at
  zero_node k = simp zeros

  zero_interface : (u : ℕ) → interface_at b u ≡ interface_of 0 0 0 0 0 0 0 0
  unfolding interface_at
  zero_interface u = simp zeros

  zero_map : (u : ℕ) → map_at b u ≡ 0
  unfolding map_at
  zero_map u = zeros (ibase u + 8)

  zero_coded : Coded b
  zero_coded =
      record {
        spare = λ m z l h. zeros m;
        units = λ u lu j lj. zeros (ibase u + (1 + j)) ∙ sym (ap (λ (f : Interface). get_or (interface_words f) j 0) (zero_interface u) ∙ blank_interface j);
        marks = λ u lu. zeros (ibase u + 9) ∙ sym (ap (λ (f : Interface). marks_word f.marks) (zero_interface u));
        nodes = λ k lk j lj. zeros (base k + (1 + j)) ∙ sym (ap (λ (n : Node). get_or (node_words n) j 0) (zero_node k) ∙ blank_node j);
      }

-- ---- interfaces stored one by one
pub record Filling (m : Bool) (b : List ℕ) (n : ℕ) : Type 0 where
  pub len : length b ≡ 6273
  pub coded : Coded b
  pub interfaces : (u : ℕ) → u < n → interface_at b u ≡ no_interface m
  pub maps : (u : ℕ) → map_at b u ≡ 0
  pub nodes : (k : ℕ) → node_at b k ≡ no_node

pub filling_begins : (m : Bool) (b : List ℕ) → (length b ≡ 6273) × ((m : ℕ) → get_or b m 0 ≡ 0) → Filling m b 0
filling_begins m b z = record { len = z.0; coded = zero_coded b z.1; interfaces = λ u l. absurd (omega arith); maps = zero_map b z.1; nodes = zero_node b z.1 }

pub filling_more : (m : Bool) (b b' : List ℕ) (n : ℕ) {f : Interface} → Filling m b n → n < 8 → f ≡ no_interface m → b' ≡ store_interface b n f → Filling m b' (n + 1)
filling_more m b b' n I l ef e =
    let none = no_interface m in
    let q : b' ≡ store_interface b n none = e ∙ ap (store_interface b n) ef in
    rw q
    (record {
      len = length_store_interface b n none I.len l;
      coded = coded_interface b n none I.len l tt I.coded;
      interfaces = λ u lu. by_cases (ℕ_discrete u n)
          (λ (z : u ≡ n). rw z (interface_same b n none I.len l tt))
          (λ (ne : u ≡ n → ⊥). interface_other b n none I.len l u ne ∙ I.interfaces u (omega arith));
      maps = λ u. store_interface_map b n none I.len l u ∙ I.maps u;
      nodes = λ k. store_interface_node b n none I.len l k ∙ I.nodes k;
    })

-- ---- the empty bench
not_under : {o : Option ℕ} {p : ℕ} → o ≡ None → o ≡ Some p → ⊥
not_under {p = p} z e = let y : Some p ≡ None = sym e ∙ z in let y2 : ◌≡◌ {A = ℕ} 0 1 = cc in omega arith

module _ (m : Bool) (b : List ℕ) (first : ℕ) (next : get_or b 0 0 ≡ first) (len : length b ≡ 6273) (coded : Coded b)
    (interfaces : (u : ℕ) → u < 8 → interface_at b u ≡ no_interface m) (maps : (u : ℕ) → map_at b u ≡ 0) (bare : (k : ℕ) → node_at b k ≡ no_node) where
  interface_seen : (v : ℕ) → v < 8 → interface_in (interface_at b) (node_at b) v ≡ fresh
  unfolding tab
  interface_seen v lv =
      let e = interfaces v lv in
      interface_is (interface_in (interface_at b) (node_at b) v) fresh
      (ap (λ (f : Interface). tab (slot_in (interface_at b) (node_at b) v) 0 f.used) e)
      (ap (λ (f : Interface). pos f.progress) e) (ap (λ (f : Interface). off 4611686018427387904 f.sum) e ∙ off_zero 4611686018427387904) (ap (λ (f : Interface). off 1024 f.speed) e ∙ off_zero 1024)
      (ap (λ (f : Interface). up_seen f.parent) e) (ap (λ (f : Interface). halves_seen f.left f.right) e) (ap (λ (f : Interface). marks_seen f.marks) e)

  engine : (v : ℕ) → v < 8 → (interface_at b v).marks.plain ≡ m
  engine v lv = ap (λ (f : Interface). f.marks.plain) (interfaces v lv)

  class_none : (k : ℕ) → (node_at b k).class ≡ Absent
  class_none k = ap (λ (n : Node). n.class) (bare k)

  begun : Done b (set_up_in m first)
  begun =
      record {
        seen = view_is (get_or b 0 0) (interface_at b) (node_at b) (set_up_in m first) (sym next) (length-replicate 8 fresh) (sym (engine 0 (omega arith))) (λ v lv. interface_seen v lv ∙ sym (get_or-replicate 8 v fresh fresh lv));
        canon = record {
          steady = record {
            len = len;
            slots = λ u lu. rw (interfaces u lu) (omega arith);
            progress = λ u lu. rw (interfaces u lu) (omega arith);
            rising = λ u p lu e. absurd (not_under (ap (λ (f : Interface). f.parent) (interfaces u lu)) e);
          };
          coded = coded;
          modes = λ u lu. engine u lu ∙ sym (engine 0 (omega arith));
          whole = λ u lu e. ap (λ (f : Interface). f.right) (interfaces u lu);
          both = λ u lu ne. absurd (ne (ap (λ (f : Interface). f.left) (interfaces u lu)));
          past = λ u s lu l h. bare (u * 64 + s);
          map = λ u lu. maps u ∙ sym (map_bare (node_at b) u (λ s ls. class_none (u * 64 + s)));
          empty = λ k lk e. bare k;
          defect = λ k v lk e. rw (bare k) (refl, refl);
          ring = λ k lk e. absurd (not_blossom (class_none k) e);
          chain = λ k i lk e l. absurd (not_blossom (class_none k) e);
          alone = λ k lk e. rw (bare k) (record { place = refl; next = refl; left = refl; right = refl });
          inside = λ k q lk e. absurd (not_inside (ap (λ (n : Node). n.parent) (bare k)) e);
        };
      }

pub filled : (m : Bool) (b b' : List ℕ) (n first : ℕ) → Filling m b n → 8 ≤ n → b' ≡ set b 0 first → Done b' (set_up_in m first)
filled m b b' n first I l e =
    rw e
    (begun m (set b 0 first) first (get_or-set_same b 0 first 0 (omega (arith, I.len))) (length-set b 0 first ∙ I.len) (coded_first b first I.coded)
    (λ u lu. interface_first b first u ∙ I.interfaces u (omega arith)) (λ u. map_first b first u ∙ I.maps u) (λ k. node_first b first k ∙ I.nodes k))
