-- The one on top of the first n entries and the first m stops of two arrays, and what is left of them once it and the first stop are gone.
-- Assumes nothing.
use Rattle.std.specs.Prelude.{None, Some}
use Prim.Native.Nat.{ℕ, zero, suc, ◌-◌, ◌≤◌, ◌<◌}
use mathlib.Core.Path.{◌≡◌, refl, sym, ap, ◌∙◌}
use mathlib.Core.List.{List, [], ◌∷◌, ◌++◌}
use native.Mathlib.Nat.{le_of_suc-le-suc}
use native.Mathlib.Omega.{arith}
use lib.ListN.{length, take, drop, get_or, length-drop}
use lib.Seq.{get_or-take, length-take-le}
use Rattle.kinds.specs.declared.Entry.{Entry}
use Rattle.kinds.specs.declared.Stop.{Stop}
use Rattle.ledger_spec.specs.Groups.{last_of, all_but_last}
use Rattle.groups.specs.View.{over}
use Rattle.groups.proofs.Lists.{over_same}
use Rattle.group_takes.specs.Takes.{top_by}

pub top_entry : (n m : ℕ) (e : Entry) (s : Stop) → 0 < n → Some e.obstacle ≡ top_by n e m s
top_entry zero m e s h = absurd (omega arith)
top_entry (suc n) m e s h = refl

pub top_stop : (n m : ℕ) (e : Entry) (s : Stop) → n ≤ 0 → 0 < m → Some s.obstacle ≡ top_by n e m s
top_stop (suc n) m e s h k = absurd (omega arith)
top_stop zero zero e s h k = absurd (omega arith)
top_stop zero (suc m) e s h k = refl

pub top_none : (n m : ℕ) (e : Entry) (s : Stop) → n ≤ 0 → m ≤ 0 → None ≡ top_by n e m s
top_none (suc n) m e s h k = absurd (omega arith)
top_none zero zero e s h k = refl
top_none zero (suc m) e s h k = absurd (omega arith)

last_top : (l : List Entry) (s : List Stop) (d : Entry) (n : ℕ) → length l ≡ suc n → last_of l s ≡ Some (get_or l n d).obstacle
unfolding last_of
last_top [] s d n h = absurd (omega arith)
last_top (e ∷ []) s d zero h = refl
last_top (e ∷ []) s d (suc n) h = absurd (omega arith)
last_top (e ∷ f ∷ es) s d zero h = absurd (omega arith)
last_top (e ∷ f ∷ es) s d (suc n) h = last_top (f ∷ es) s d n (omega arith)

pub top_is : (n m : ℕ) (l : List Entry) (s : List Stop) (d : Entry) (x : Stop) → n ≤ length l → m ≤ length s → top_by n (get_or l (n - 1) d) m (get_or s 0 x) ≡ last_of (take n l) (take m s)
unfolding last_of
top_is (suc n) m l s d x h k =
    let e : length (take (suc n) l) ≡ suc n = length-take-le (suc n) l h in
    let z : suc n - 1 ≡ n = omega arith in
    sym (last_top (take (suc n) l) (take m s) d n e ∙ ap (λ (i : Entry). Some i.obstacle) (get_or-take (suc n) l n d (omega arith) ∙ ap (λ (i : ℕ). get_or l i d) (sym z)))
top_is zero zero l s d x h k = refl
top_is zero (suc m) l [] d x h k = absurd (omega arith)
top_is zero (suc m) l (y ∷ s) d x h k = refl

module _ {A : Type 0} where
  front_take : (n : ℕ) (l : List A) → n < length l → all_but_last (take (suc n) l) ≡ take n l
  unfolding all_but_last
  front_take n [] h = absurd (omega arith)
  front_take zero (x ∷ l) h = refl
  front_take (suc n) (x ∷ []) h = absurd (omega arith)
  front_take (suc n) (x ∷ y ∷ l) h = ap (λ (r : List A). x ∷ r) (front_take n (y ∷ l) (le_of_suc-le-suc h))

  -- the last goes
  pub front_less : (n : ℕ) (l : List A) → n ≤ length l → all_but_last (take n l) ≡ take (n - 1) l
  unfolding all_but_last
  front_less zero l h = refl
  front_less (suc n) l h = let e : n ≡ suc n - 1 = omega arith in front_take n l h ∙ ap (λ (k : ℕ). take k l) e

  pub front_over : (n : ℕ) (l : List A) → n ≤ length l → l ≡ over (all_but_last (take n l)) l
  front_over n l h = sym (ap (λ (r : List A). over r l) (front_less n l h) ∙ over_same (n - 1) l (omega arith))

  pub front_long : (n : ℕ) (l : List A) → n ≤ length l → n - 1 ≡ length (all_but_last (take n l))
  front_long n l h = sym (ap length (front_less n l h) ∙ length-take-le (n - 1) l (omega arith))

  -- the first goes
  rest_is : (n : ℕ) (s : List A) → n ≤ length s → drop 1 (take n s) ≡ take (n - 1) (drop 1 s)
  rest_is zero s h = refl
  rest_is (suc n) [] h = absurd (omega arith)
  rest_is (suc n) (x ∷ s) h = let e : n ≡ suc n - 1 = omega arith in ap (λ (k : ℕ). take k s) e

  pub rest_long : (n : ℕ) (s : List A) → n ≤ length s → n - 1 ≡ length (drop 1 (take n s))
  rest_long n s h = let e : length (take n s) ≡ n = length-take-le n s h in omega (arith, length-drop 1 (take n s))

  pub rest_over : (n : ℕ) (s : List A) → n ≤ length s → take (n - 1) (drop 1 s) ++ drop (n - 1) s ≡ over (drop 1 (take n s)) s
  rest_over n s h = ap (λ (k : ℕ). take (n - 1) (drop 1 s) ++ drop k s) (rest_long n s h) ∙ ap (λ (r : List A). r ++ drop (length (drop 1 (take n s))) s) (sym (rest_is n s h))
