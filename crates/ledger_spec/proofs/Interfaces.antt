-- What a bench says of an interface after another has been put in its place, and sums over slots after one has changed. Assumes nothing.
use Rattle.std.specs.Prelude.{None, Option}
use Prim.Native.Nat.{ℕ, zero, suc, ◌+◌, ◌≤◌, ◌<◌}
use mathlib.Core.Path.{◌≡◌, refl, sym, ◌∙◌, ap, subst}
use mathlib.Core.Logic.{◌≢◌}
use mathlib.Core.Bool.{Bool, true, false}
use mathlib.Core.List.{List, [], ◌∷◌, ◌++◌}
use native.Mathlib.Omega.{arith}
use native.Mathlib.Nat.{zero-add, add-zero}
use native.Mathlib.Decide.{ℕ_discrete, dec_lt}
use lib.Dec.{eqb}
use borrow.Author.Tests.{eq-eqb, ne_eqb}
use lib.ListN.{get_or, length, set}
use lib.Seq.{get_or-set_same, get_or-set_other, set_out}
use lib.IntN.{ℤ, pos, ◌+ℤ◌, ◌-ℤ◌, +ℤ_assoc, +ℤ_comm, +ℤ_idl, +ℤ_invr}
use Rattle.ledger_spec.specs.Bench.{Node, Interface, Bench, fresh}
use Rattle.ledger_spec.specs.Look.{interface, top}
use Rattle.ledger_spec.specs.Change.{with_interface}
use Rattle.ledger_spec.specs.Deeds.{across}
use Rattle.ledger_spec.specs.Account.{slot_sum}
use Rattle.ledger_spec.proofs.Ints.{add_diff}

module _ {X : Type 0} (φ : Interface → X) (b : Bench) (u : ℕ) (f : Interface) where
  pub put_here : u < length b.interfaces → φ (interface (with_interface b u f) u) ≡ φ f
  put_here h = ap φ (get_or-set_same b.interfaces u f fresh h)

  pub put_else : (w : ℕ) → w ≢ u → φ (interface (with_interface b u f) w) ≡ φ (interface b w)
  put_else w q = ap φ (get_or-set_other b.interfaces u w f fresh q)

  pub put_out : length b.interfaces ≤ u → with_interface b u f ≡ b
  put_out h = λ i. record { next = b.next; interfaces = set_out b.interfaces u f h i; plain = b.plain }

  -- a field that f has from the interface whose place it takes
  pub put_kept : φ f ≡ φ (interface b u) → (w : ℕ) → φ (interface (with_interface b u f) w) ≡ φ (interface b w)
  put_kept e w = go (ℕ_discrete w u) (dec_lt u (length b.interfaces))
    where
      go : Dec (w ≡ u) → Dec (u < length b.interfaces) → φ (interface (with_interface b u f) w) ≡ φ (interface b w)
      go (yes p) (yes h) = subst (λ (z : ℕ). φ (interface (with_interface b u f) z) ≡ φ (interface b z)) (sym p) (put_here h ∙ e)
      go (yes p) (no h) = ap (λ (c : Bench). φ (interface c w)) (put_out (omega arith))
      go (no q) h = put_else w q

pub nil_of : {A : Type 0} (l : List A) → length l ≡ 0 → l ≡ []
nil_of [] h = refl
nil_of (x ∷ xs) h = absurd (omega arith)

-- one slot changes
pub over_set : (φ : Option Node → ℤ) → φ None ≡ pos 0 → (l : List (Option Node)) (s : ℕ) (y : Option Node) → (length l ≤ s → y ≡ None)
    → slot_sum φ (set l s y) ≡ slot_sum φ l +ℤ (φ y -ℤ φ (get_or l s None))
unfolding slot_sum
over_set φ z [] s y out = sym (+ℤ_idl _ ∙ ap (λ (o : Option Node). φ o -ℤ φ None) (out (omega arith)) ∙ +ℤ_invr (φ None))
over_set φ z (x ∷ xs) zero y out = sym (ap (λ (t : ℤ). t +ℤ (φ y -ℤ φ x)) (+ℤ_comm (φ x) (slot_sum φ xs)) ∙ +ℤ_assoc (slot_sum φ xs) (φ x) (φ y -ℤ φ x) ∙ ap (λ (t : ℤ). slot_sum φ xs +ℤ t) (add_diff (φ x) (φ y)) ∙ +ℤ_comm (slot_sum φ xs) (φ y))
over_set φ z (x ∷ xs) (suc s) y out = ap (λ (t : ℤ). φ x +ℤ t) (over_set φ z xs s y (λ h. out (omega arith))) ∙ sym (+ℤ_assoc (φ x) (slot_sum φ xs) (φ y -ℤ φ (get_or xs s None)))

-- one slot more
pub over_snoc : (φ : Option Node → ℤ) (l : List (Option Node)) (y : Option Node) → slot_sum φ (l ++ (y ∷ [])) ≡ slot_sum φ l +ℤ φ y
unfolding slot_sum
over_snoc φ [] y = +ℤ_comm (φ y) (pos 0)
over_snoc φ (x ∷ xs) y = ap (λ (t : ℤ). φ x +ℤ t) (over_snoc φ xs y) ∙ sym (+ℤ_assoc (φ x) (slot_sum φ xs) (φ y))

-- f at the interfaces of a tree
pub across_length : (f : Interface → Interface) (b : Bench) (u k : ℕ) (xs : List Interface) → length (across f b u k xs) ≡ length xs
unfolding across
across_length f b u k [] = refl
across_length f b u k (x ∷ xs) = ap suc (across_length f b u (suc k) xs)

choose : (f : Interface → Interface) → Bool → Interface → Interface
choose f c x = elim c [ true ↦ f x | false ↦ x ]

across_at : (f : Interface → Interface) (b : Bench) (u k : ℕ) (xs : List Interface) (w : ℕ) → w < length xs → get_or (across f b u k xs) w fresh ≡ choose f (eqb (top b (k + w)) u) (get_or xs w fresh)
unfolding across choose
across_at f b u k [] w h = absurd (omega arith)
across_at f b u k (x ∷ xs) zero h = ap (λ (z : ℕ). choose f (eqb (top b z) u) x) (sym (add-zero k))
across_at f b u k (x ∷ xs) (suc w) h = across_at f b u (suc k) xs w (omega arith) ∙ ap (λ (z : ℕ). choose f (eqb (top b z) u) (get_or xs w fresh)) (omega arith)

module _ (f : Interface → Interface) (b : Bench) (u w : ℕ) (h : w < length b.interfaces) where
  pub across_yes : top b w ≡ u → get_or (across f b u 0 b.interfaces) w fresh ≡ f (interface b w)
  unfolding choose
  across_yes e = across_at f b u 0 b.interfaces w h ∙ ap (λ (z : ℕ). choose f (eqb (top b z) u) (interface b w)) (zero-add w) ∙ ap (λ (c : Bool). choose f c (interface b w)) (eq-eqb (top b w) u e)

  pub across_no : top b w ≢ u → get_or (across f b u 0 b.interfaces) w fresh ≡ interface b w
  unfolding choose
  across_no e = across_at f b u 0 b.interfaces w h ∙ ap (λ (z : ℕ). choose f (eqb (top b z) u) (interface b w)) (zero-add w) ∙ ap (λ (c : Bool). choose f c (interface b w)) (ne_eqb (top b w) u e)

-- a field that f keeps
pub across_kept : {X : Type 0} (φ : Interface → X) (f : Interface → Interface) → ((x : Interface) → φ (f x) ≡ φ x) → (b : Bench) (u k : ℕ) (xs : List Interface) (w : ℕ)
    → φ (get_or (across f b u k xs) w fresh) ≡ φ (get_or xs w fresh)
unfolding across
across_kept φ f e b u k [] w = refl
across_kept φ f e b u k (x ∷ xs) zero = go (eqb (top b k) u)
  where
    go : (c : Bool) → φ (elim c [ true ↦ f x | false ↦ x ]) ≡ φ x
    go true = e x
    go false = refl
across_kept φ f e b u k (x ∷ xs) (suc w) = across_kept φ f e b u (suc k) xs w
