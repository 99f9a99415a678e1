-- The code's tests of an interface, put together as the definitions have them. Assumes nothing.
use Rattle.std.specs.Prelude.{Option, Some}
use Prim.Native.Nat.{ℕ, ◌+◌, ◌-◌, ◌*◌, ◌<◌, ◌≤◌}
use mathlib.Core.Path.{◌≡◌, sym, ◌∙◌, ap, ap₂, subst}
use mathlib.Core.Bool.{Bool, false, not, ◌&&◌, ◌||◌}
use mathlib.Core.List.{List}
use native.Mathlib.Omega.{arith}
use lib.Dec.{eqb, leb, ltb}
use borrow.Author.Tests.{eq-eqb, ne_eqb, le-leb, lt-leb}
use Rattle.bench_words.specs.Store.{interface_at}
use Rattle.bench_words.specs.declared.Interface.{Interface}
use Rattle.bench_words.proofs.Laws.{GoodUp, good_interface}
use Rattle.ledger_spec.specs.Look.{top}
use Rattle.bench_views.specs.Records.{Steady}
use Rattle.bench_views.specs.View.{view}
use Rattle.bench_views.proofs.Sums.{bounded}
use Rattle.sound_trees.specs.Below.{sum_to}
use Rattle.bench_words.specs.Coding.{spare_at, link_at, flags_at}
use Rattle.sound_trees.proofs.Belows.{sum_none, sum_more}
use Rattle.sound_trees.specs.Links.{is_under, up_test, down_test, interface_test}
use Rattle.sound_trees.specs.Width.{progress_under, width_of}

pub under_known : (p : Option ℕ) (q u : ℕ) → p ≡ Some q → eqb q u ≡ is_under p u
under_known p q u e = sym (ap (λ (x : Option ℕ). is_under x u) e)

pub good_loaded : (b : List ℕ) (u : ℕ) (f : Interface) → f ≡ interface_at b u → GoodUp f.parent
good_loaded b u f e = subst (λ (x : Interface). GoodUp x.parent) (sym e) (good_interface b u)

pub good_under : (p : Option ℕ) (q : ℕ) → GoodUp p → p ≡ Some q → q < 8
good_under p q g e = subst GoodUp e g

pub half_known : (U : ℕ → Interface) (p : Option ℕ) (q u : ℕ) (f : Interface) → p ≡ Some q → f ≡ U q → (ltb u q && (eqb f.left (u + 1) || eqb f.right (u + 1))) ≡ up_test U p u
half_known U p q u f e g = ap (λ (x : Interface). ltb u q && (eqb x.left (u + 1) || eqb x.right (u + 1))) g ∙ sym (ap (λ (x : Option ℕ). up_test U x u) e)

module _ (U : ℕ → Interface) (l r u : ℕ) where
  pub down_none : l ≡ 0 → eqb r 0 ≡ down_test U l r u
  down_none e = rw (eq-eqb l 0 e)

  module _ (some : l ≡ 0 → ⊥) where
    pub down_high : u < l → false ≡ down_test U l r u
    down_high h = rw (ne_eqb l 0 some, lt-leb l u h)

    module _ (low : l ≤ u) where
      pub down_high_right : u < r → false ≡ down_test U l r u
      down_high_right h = rw (ne_eqb l 0 some, le-leb l u low, lt-leb r u h)

      module _ (low-right : r ≤ u) where
        pub down_alone : r ≡ 0 → false ≡ down_test U l r u
        down_alone h = rw (ne_eqb l 0 some, le-leb l u low, le-leb r u low-right, eq-eqb r 0 h)

        pub down_both : (r ≡ 0 → ⊥) → (f g : Interface) (s t : Bool) → f ≡ U (l - 1) → g ≡ U (r - 1) → s ≡ is_under f.parent u → t ≡ is_under g.parent u
            → (not (eqb l r) && (s && t)) ≡ down_test U l r u
        down_both ne f g s t e e' h h' =
            rw (ne_eqb l 0 some, le-leb l u low, le-leb r u low-right, ne_eqb r 0 ne)
            (ap₂ (λ (x y : Bool). not (eqb l r) && (x && y)) (h ∙ ap (λ (x : Interface). is_under x.parent u) e) (h' ∙ ap (λ (x : Interface). is_under x.parent u) e'))

pub interface_row : (b : List ℕ) (u : ℕ) (f : Interface) (s l g h d : Bool) → f ≡ interface_at b u → s ≡ spare_at b u → l ≡ link_at b u → g ≡ flags_at b u → h ≡ up_test (interface_at b) f.parent u → d ≡ down_test (interface_at b) f.left f.right u
    → ((s && (l && g)) && ((leb f.used 64 && leb f.progress 1099511627776) && (h && d))) ≡ interface_test b u
unfolding interface_test
interface_row b u f s l g h d e p q r x y = simp (p, q, r, x, y, e)

-- ---- W
module _ (b : List ℕ) (st : Steady b) (i u : ℕ) (lu : u < 8) (t : ℕ) (C : t ≡ top (view b) u) where
  pub not_under : (t ≡ i → ⊥) → (0 ≡ progress_under b i u) × (0 ≤ 1099511627776)
  not_under ne = (rw (ne_eqb (top (view b) u) i (λ e. ne (C ∙ e))), omega arith)

  pub is_under_lem : t ≡ i → (f : Interface) → f ≡ interface_at b u → (f.progress ≡ progress_under b i u) × (f.progress ≤ 1099511627776)
  is_under_lem e f q = (ap (λ (x : Interface). x.progress) q ∙ rw (eq-eqb (top (view b) u) i (sym C ∙ e)), bounded u st lu q)

pub record Adding (b : List ℕ) (i w u : ℕ) : Type 0 where
  pub sum : w ≡ sum_to (progress_under b i) u
  pub low : u ≤ 8
  pub small : w ≤ u * 1099511627776

pub adding_none : (b : List ℕ) (i : ℕ) → Adding b i 0 0
adding_none b i = record { sum = sym (sum_none (progress_under b i)); low = omega arith; small = omega arith }

pub adding_more : (b : List ℕ) (i w u p : ℕ) → Adding b i w u → u < 8 → (p ≡ progress_under b i u) × (p ≤ 1099511627776) → Adding b i (w + p) (u + 1)
adding_more b i w u p A l e = record { sum = ap₂ ◌+◌ A.sum e.0 ∙ sym (sum_more (progress_under b i) u); low = omega arith; small = omega (arith, e.1, A.small) }

pub adding_done : (b : List ℕ) (i w u : ℕ) → Adding b i w u → 8 ≤ u → (w ≡ width_of b i) × (w ≤ 8796093022208)
unfolding width_of
adding_done b i w u A l = let e : u ≡ 8 = omega (arith, A.low) in
    (A.sum ∙ ap (sum_to (progress_under b i)) e, omega (arith, A.small, A.low))
