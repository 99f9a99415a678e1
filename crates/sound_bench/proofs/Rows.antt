-- The code's tests one after the other are the definition's. Assumes nothing.
use Prim.Native.Nat.{ℕ, ◌<◌, ◌≤◌}
use mathlib.Core.Path.{◌≡◌, sym, ◌∙◌, ap, ap₂}
use mathlib.Core.Bool.{Bool, true, false, not, ◌&&◌}
use mathlib.Core.List.{List}
use lib.Dec.{eqb, leb}
use lib.ListN.{length, get_or}
use borrow.Author.Tests.{eq-eqb, ne_eqb, le-leb, lt-leb}
use Rattle.bench_views.specs.Records.{Steady}
use Rattle.sound_trees.specs.Below.{all_to}
use Rattle.sound_trees.proofs.Belows.{all_each}
use Rattle.sound_trees.specs.Links.{interface_test}
use Rattle.sound_trees.proofs.Framing.{interface_says, linked_steady}
use Rattle.sound_nodes.specs.Nodes.{slots_test}
use Rattle.sound_tops.specs.Tops.{top_test}
use Rattle.sound_serials.specs.Different.{once_test}
use Rattle.sound_floors.specs.Floors.{floor_test}
use Rattle.sound_bench.specs.Sound.{sound_words}

-- interfaces that pass are in range
pub steady_tested : (b : List ℕ) → length b ≡ 6273 → all_to (interface_test b) 8 ≡ true → Steady b
steady_tested b len e = linked_steady b (λ u l. interface_says b u (all_each (interface_test b) 8 e u l)) len

module _ (b : List ℕ) (n : ℕ) (e : n ≡ get_or b 0 0) where
  pub next_none : n ≡ 0 → false ≡ sound_words b
  unfolding sound_words
  next_none z = rw (eq-eqb (get_or b 0 0) 0 (sym e ∙ z))

  module _ (some : n ≡ 0 → ⊥) where
    some_next : not (eqb (get_or b 0 0) 0) ≡ true
    some_next = ap not (ne_eqb (get_or b 0 0) 0 (λ z. some (e ∙ z)))

    pub next_worn : 4294967296 < n → false ≡ sound_words b
    unfolding sound_words
    next_worn l = sym (ap₂ (λ (x y : Bool). x && (y && (all_to (interface_test b) 8 && (all_to (slots_test b) 8 && (all_to (top_test b) 8 && (all_to (once_test b) 512 && all_to (floor_test b) 8)))))) some_next (ap (λ (k : ℕ). leb k 4294967296) (sym e) ∙ lt-leb n 4294967296 l))

    module _ (low : n ≤ 4294967296) where
      opened : sound_words b ≡ (all_to (interface_test b) 8 && (all_to (slots_test b) 8 && (all_to (top_test b) 8 && (all_to (once_test b) 512 && all_to (floor_test b) 8))))
      unfolding sound_words
      opened = ap₂ (λ (x y : Bool). x && (y && (all_to (interface_test b) 8 && (all_to (slots_test b) 8 && (all_to (top_test b) 8 && (all_to (once_test b) 512 && all_to (floor_test b) 8)))))) some_next (ap (λ (k : ℕ). leb k 4294967296) (sym e) ∙ le-leb n 4294967296 low)

      module _ (t : Bool) (et : t ≡ all_to (interface_test b) 8) where
        pub no_trees : t ≡ false → false ≡ sound_words b
        no_trees f = sym (opened ∙ ap (λ (x : Bool). x && (all_to (slots_test b) 8 && (all_to (top_test b) 8 && (all_to (once_test b) 512 && all_to (floor_test b) 8)))) (sym et ∙ f))

        module _ (ft : t ≡ true) (s : Bool) (es : s ≡ all_to (slots_test b) 8) where
          pub no_nodes : s ≡ false → false ≡ sound_words b
          no_nodes f = sym (opened ∙ ap₂ (λ (x y : Bool). x && (y && (all_to (top_test b) 8 && (all_to (once_test b) 512 && all_to (floor_test b) 8)))) (sym et ∙ ft) (sym es ∙ f))

          module _ (fs : s ≡ true) (p : Bool) (ep : p ≡ all_to (top_test b) 8) where
            pub no_tops : p ≡ false → false ≡ sound_words b
            no_tops f = sym (opened ∙ ap₂ (λ (x y : Bool). x && (y && (all_to (top_test b) 8 && (all_to (once_test b) 512 && all_to (floor_test b) 8)))) (sym et ∙ ft) (sym es ∙ fs) ∙ ap (λ (x : Bool). x && (all_to (once_test b) 512 && all_to (floor_test b) 8)) (sym ep ∙ f))

            module _ (fp : p ≡ true) (d : Bool) (ed : d ≡ all_to (once_test b) 512) where
              serials_left : sound_words b ≡ (all_to (once_test b) 512 && all_to (floor_test b) 8)
              serials_left = opened ∙ ap₂ (λ (x y : Bool). x && (y && (all_to (top_test b) 8 && (all_to (once_test b) 512 && all_to (floor_test b) 8)))) (sym et ∙ ft) (sym es ∙ fs) ∙ ap (λ (x : Bool). x && (all_to (once_test b) 512 && all_to (floor_test b) 8)) (sym ep ∙ fp)

              pub not_once : d ≡ false → false ≡ sound_words b
              not_once f = sym (serials_left ∙ ap (λ (x : Bool). x && all_to (floor_test b) 8) (sym ed ∙ f))

              pub all_there : d ≡ true → (r : Bool) → r ≡ all_to (floor_test b) 8 → r ≡ sound_words b
              all_there f r er = er ∙ sym (serials_left ∙ ap (λ (x : Bool). x && all_to (floor_test b) 8) (sym ed ∙ f))
