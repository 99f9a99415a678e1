-- Lists from functions.
use Prim.Native.Nat.{ℕ, zero, suc, ◌+◌, ◌<◌}
use mathlib.Core.Path.{◌≡◌, refl, ap, sym, ◌∙◌}
use mathlib.Core.List.{List, [], ◌∷◌, ◌++◌, map}
use mathlib.Core.Logic.{by_cases}
use native.Mathlib.Decide.{ℕ_discrete}
use native.Mathlib.Omega.{arith}
use lib.ListN.{length, get_or, set, length-set}
use lib.Seq.{ext_get_or, get_or-set_same, get_or-set_other}
use Rattle.bench_views.specs.Tab.{tab}

module _ {A : Type 0} where
  pub length_tab : (f : ℕ → A) (i n : ℕ) → length (tab f i n) ≡ n
  unfolding tab
  length_tab f i zero = refl
  length_tab f i (suc n) = ap suc (length_tab f (suc i) n)

  from : (f : ℕ → A) (i n k : ℕ) (d : A) → k < n → get_or (tab f i n) k d ≡ f (i + k)
  unfolding tab
  from f i zero k d l = absurd (omega arith)
  from f i (suc n) zero d l =
      let e : i ≡ i + 0 = omega arith in
      ap f e
  from f i (suc n) (suc k) d l =
      let e : suc i + k ≡ i + suc k = omega arith in
      from f (suc i) n k d (omega arith) ∙ ap f e

  pub get_d_tab : (f : ℕ → A) (n k : ℕ) (d : A) → k < n → get_or (tab f 0 n) k d ≡ f k
  get_d_tab f n k d l =
      let e : 0 + k ≡ k = omega arith in
      from f 0 n k d l ∙ ap f e

  pub tab_same : (f g : ℕ → A) (n : ℕ) (d : A) → ((k : ℕ) → k < n → f k ≡ g k) → tab f 0 n ≡ tab g 0 n
  tab_same f g n d h =
      ext_get_or d (tab f 0 n) (tab g 0 n) (length_tab f 0 n ∙ sym (length_tab g 0 n))
      (λ k l.
      let l2 : k < n = rw (length_tab f 0 n) at l in
      get_d_tab f n k d l2 ∙ h k l2 ∙ sym (get_d_tab g n k d l2))

  -- one element is another
  pub tab_set : (f g : ℕ → A) (n i : ℕ) (v d : A) → i < n → g i ≡ v → ((k : ℕ) → k < n → (k ≡ i → ⊥) → g k ≡ f k) → tab g 0 n ≡ set (tab f 0 n) i v
  tab_set f g n i v d li here there =
      ext_get_or d (tab g 0 n) (set (tab f 0 n) i v) (length_tab g 0 n ∙ sym (length_tab f 0 n) ∙ sym (length-set (tab f 0 n) i v))
      (λ k l.
      let l2 : k < n = rw (length_tab g 0 n) at l in
      let lf : i < length (tab f 0 n) = rw (length_tab f 0 n) li in
      get_d_tab g n k d l2
      ∙ by_cases (ℕ_discrete k i)
      (λ (e : k ≡ i). ap g e ∙ here ∙ sym (ap (λ (x : ℕ). get_or (set (tab f 0 n) i v) x d) e ∙ get_or-set_same (tab f 0 n) i v d lf))
      (λ (ne : k ≡ i → ⊥). there k l2 ne ∙ sym (get_or-set_other (tab f 0 n) i k v d ne ∙ get_d_tab f n k d l2)))

  -- one element more
  more : (f : ℕ → A) (i n : ℕ) → tab f i (suc n) ≡ tab f i n ++ (f (i + n) ∷ [])
  unfolding tab
  more f i zero =
      let e : i ≡ i + 0 = omega arith in
      ap (λ (k : ℕ). f k ∷ []) e
  more f i (suc n) =
      let e : suc i + n ≡ i + suc n = omega arith in
      ap (λ (l : List A). f i ∷ l) (more f (suc i) n ∙ ap (λ (k : ℕ). tab f (suc i) n ++ (f k ∷ [])) e)

  pub tab_snoc : (f : ℕ → A) (n : ℕ) → tab f 0 (suc n) ≡ tab f 0 n ++ (f n ∷ [])
  tab_snoc f n =
      let e : 0 + n ≡ n = omega arith in
      more f 0 n ∙ ap (λ (k : ℕ). tab f 0 n ++ (f k ∷ [])) e

  maps : (h : A → A) (f : ℕ → A) (i n : ℕ) → map h (tab f i n) ≡ tab (λ k. h (f k)) i n
  unfolding tab
  maps h f i zero = refl
  maps h f i (suc n) = ap (λ (l : List A). h (f i) ∷ l) (maps h f (suc i) n)

  pub tab_map : (h : A → A) (f : ℕ → A) (n : ℕ) → map h (tab f 0 n) ≡ tab (λ k. h (f k)) 0 n
  tab_map h f n = maps h f 0 n
