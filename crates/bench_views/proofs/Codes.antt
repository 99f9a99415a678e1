-- Stores keep words coded, and what the view says of the units. Assumes nothing.
use Prim.Native.Nat.{ℕ, ◌+◌, ◌-◌, ◌%◌, ◌<◌, ◌≤◌}
use mathlib.Core.Path.{◌≡◌, refl, ap, sym, ◌∙◌, subst}
use mathlib.Core.Logic.{by_cases}
use mathlib.Core.List.{List}
use native.Mathlib.Decide.{ℕ_discrete, dec_lt}
use native.Mathlib.Omega.{arith}
use lib.ListN.{length, get_or, set, length-set}
use lib.Seq.{get_or-set_same, get_or-set_other, ext_get_or}
use Rattle.bench_words.specs.Codec.{marks_word}
use Rattle.bench_words.specs.Store.{node_at, interface_at, store_node, store_interface, store_map, store_bias, set_bias, base, ibase, interface_words, node_words}
use Rattle.bench_words.proofs.Laws.{Good, GoodUp, length_store, inside, inside_interface, inside_marks, store_out, store_interface_out, load_same, load_other, store_node_interface, interface_same, interface_other, store_interface_node, interface_first, node_first}
use Rattle.bench_words.proofs.Maps.{store_map_out, store_map_interface, store_map_node}
use Rattle.bench_words.specs.declared.Node.{Node}
use Rattle.bench_words.specs.declared.Interface.{Interface}
use Rattle.bench_views.specs.Canon.{Coded}

pub coded_node : (b : List ℕ) (k : ℕ) (n : Node) → length b ≡ 6273 → k < 512 → Good n → Coded b → Coded (store_node b k n)
coded_node b k n len lk g c =
    record {
      spare = λ m z l h. store_out b k n len lk m (λ i li e. omega arith) ∙ c.spare m z l h;
      units = λ u lu j lj.
          store_out b k n len lk (ibase u + (1 + j)) (λ i li e. omega arith) ∙ c.units u lu j lj ∙ ap (λ (x : Interface). get_or (interface_words x) j 0) (sym (store_node_interface b k n len lk u lu));
      marks = λ u lu. store_out b k n len lk (ibase u + 9) (λ i li e. omega arith) ∙ c.marks u lu ∙ ap (λ (x : Interface). marks_word x.marks) (sym (store_node_interface b k n len lk u lu));
      nodes = λ i li j lj. by_cases (ℕ_discrete i k)
          (λ (e : i ≡ k). subst (λ (x : ℕ). get_or (store_node b k n) (base x + (1 + j)) 0 ≡ get_or (node_words (node_at (store_node b k n) x)) j 0) (sym e) (inside b k n len lk j lj ∙ ap (λ (x : Node). get_or (node_words x) j 0) (sym (load_same b k n len lk g))))
          (λ (ne : i ≡ k → ⊥). store_out b k n len lk (base i + (1 + j)) (λ f lf e. omega arith) ∙ c.nodes i li j lj ∙ ap (λ (x : Node). get_or (node_words x) j 0) (sym (load_other b k n len lk i ne)));
    }

pub coded_interface : (b : List ℕ) (u : ℕ) (n : Interface) → length b ≡ 6273 → u < 8 → GoodUp n.parent → Coded b → Coded (store_interface b u n)
coded_interface b u n len lu g c =
    record {
      spare = λ m z l h. store_interface_out b u n len lu m (λ i li e. far m z l h i li e) ∙ c.spare m z l h;
      units = λ v lv j lj. by_cases (ℕ_discrete v u)
          (λ (e : v ≡ u). subst (λ (x : ℕ). get_or (store_interface b u n) (ibase x + (1 + j)) 0 ≡ get_or (interface_words (interface_at (store_interface b u n) x)) j 0) (sym e) (inside_interface b u n len lu j lj ∙ ap (λ (x : Interface). get_or (interface_words x) j 0) (sym (interface_same b u n len lu g))))
          (λ (ne : v ≡ u → ⊥). store_interface_out b u n len lu (ibase v + (1 + j)) (λ f lf e. omega arith) ∙ c.units v lv j lj ∙ ap (λ (x : Interface). get_or (interface_words x) j 0) (sym (interface_other b u n len lu v ne)));
      marks = λ v lv. by_cases (ℕ_discrete v u)
          (λ (e : v ≡ u). subst (λ (x : ℕ). get_or (store_interface b u n) (ibase x + 9) 0 ≡ marks_word (interface_at (store_interface b u n) x).marks) (sym e) (inside_marks b u n len lu ∙ ap (λ (x : Interface). marks_word x.marks) (sym (interface_same b u n len lu g))))
          (λ (ne : v ≡ u → ⊥). store_interface_out b u n len lu (ibase v + 9) (λ f lf e. omega arith) ∙ c.marks v lv ∙ ap (λ (x : Interface). marks_word x.marks) (sym (interface_other b u n len lu v ne)));
      nodes = λ i li j lj. store_interface_out b u n len lu (base i + (1 + j)) (λ f lf e. omega arith) ∙ c.nodes i li j lj ∙ ap (λ (x : Node). get_or (node_words x) j 0) (sym (store_interface_node b u n len lu i));
    }
  where
    far : (m : ℕ) → 0 < m → m ≤ 128 → 9 ≤ (m - 1) % 16 → (i : ℕ) → i < 9 → m ≡ ibase u + (1 + i) → ⊥
    far m z l h i li e = omega arith

pub coded_first : (b : List ℕ) (x : ℕ) → Coded b → Coded (set b 0 x)
coded_first b x c =
    record {
      spare = λ m z l h. get_or-set_other b 0 m x 0 (λ e. omega arith) ∙ c.spare m z l h;
      units = λ u lu j lj. get_or-set_other b 0 (ibase u + (1 + j)) x 0 (λ e. omega arith) ∙ c.units u lu j lj ∙ ap (λ (w : Interface). get_or (interface_words w) j 0) (sym (interface_first b x u));
      marks = λ u lu. get_or-set_other b 0 (ibase u + 9) x 0 (λ e. omega arith) ∙ c.marks u lu ∙ ap (λ (w : Interface). marks_word w.marks) (sym (interface_first b x u));
      nodes = λ i li j lj. get_or-set_other b 0 (base i + (1 + j)) x 0 (λ e. omega arith) ∙ c.nodes i li j lj ∙ ap (λ (w : Node). get_or (node_words w) j 0) (sym (node_first b x i));
    }

pub coded_map : (b : List ℕ) (u w : ℕ) → length b ≡ 6273 → u < 8 → Coded b → Coded (store_map b u w)
coded_map b u w len lu c =
    record {
      spare = λ m z l h. store_map_out b u w len lu m (λ e. omega arith) ∙ c.spare m z l h;
      units = λ v lv j lj. store_map_out b u w len lu (ibase v + (1 + j)) (λ e. omega arith) ∙ c.units v lv j lj ∙ ap (λ (x : Interface). get_or (interface_words x) j 0) (sym (store_map_interface b u w len lu v));
      marks = λ v lv. store_map_out b u w len lu (ibase v + 9) (λ e. omega arith) ∙ c.marks v lv ∙ ap (λ (x : Interface). marks_word x.marks) (sym (store_map_interface b u w len lu v));
      nodes = λ i li j lj. store_map_out b u w len lu (base i + (1 + j)) (λ e. omega arith) ∙ c.nodes i li j lj ∙ ap (λ (x : Node). get_or (node_words x) j 0) (sym (store_map_node b u w len lu i));
    }

-- a bias stored by itself, in coded words, is the node stored with it
pub bias_stored : (b : List ℕ) (k w : ℕ) → length b ≡ 6273 → k < 512 → Coded b → store_bias b k w ≡ store_node b k (set_bias (node_at b k) w)
unfolding store_bias
bias_stored b k w len lk c = ext_get_or 0 (set b (base k + 9) w) (store_node b k n) (length-set b (base k + 9) w ∙ len ∙ sym (length_store b k n len lk))
    (λ m l. by_cases (dec_lt m (base k + 1))
    (λ (h : m < base k + 1). out m (λ f lf e. omega arith) (λ e. omega arith))
    (λ (h : m < base k + 1 → ⊥). by_cases (dec_lt m (base k + 13))
    (λ (h2 : m < base k + 13). within (m - (base k + 1)) m (omega (arith, h, h2)) (omega (arith, h, h2)))
    (λ (h2 : m < base k + 13 → ⊥). out m (λ f lf e. omega (arith, h2)) (λ e. omega (arith, h2)))))
  where
    n : Node
    n = set_bias (node_at b k) w

    out : (m : ℕ) → ((f : ℕ) → f < 12 → m ≡ base k + (1 + f) → ⊥) → (m ≡ base k + 9 → ⊥) → get_or (set b (base k + 9) w) m 0 ≡ get_or (store_node b k n) m 0
    out m o ne = get_or-set_other b (base k + 9) m w 0 ne ∙ sym (store_out b k n len lk m o)

    words : (j : ℕ) → get_or (set (node_words (node_at b k)) 8 w) j 0 ≡ get_or (node_words n) j 0
    words j = refl

    within : (j m : ℕ) → m ≡ base k + (1 + j) → j < 12 → get_or (set b (base k + 9) w) m 0 ≡ get_or (store_node b k n) m 0
    within j m e lj = by_cases (ℕ_discrete j 8)
        (λ (z : j ≡ 8).
        ap (λ (x : ℕ). get_or (set b (base k + 9) w) x 0) (e ∙ ap (λ (x : ℕ). base k + (1 + x)) z) ∙ get_or-set_same b (base k + 9) w 0 (omega arith)
        ∙ sym (ap (λ (x : ℕ). get_or (store_node b k n) x 0) (e ∙ ap (λ (x : ℕ). base k + (1 + x)) z) ∙ inside b k n len lk 8 (omega arith)))
        (λ (z : j ≡ 8 → ⊥).
        ap (λ (x : ℕ). get_or (set b (base k + 9) w) x 0) e ∙ get_or-set_other b (base k + 9) (base k + (1 + j)) w 0 (λ q. omega (arith, z)) ∙ c.nodes k lk j lj
        ∙ sym (get_or-set_other (node_words (node_at b k)) 8 j w 0 z) ∙ words j ∙ sym (ap (λ (x : ℕ). get_or (store_node b k n) x 0) e ∙ inside b k n len lk j lj))
