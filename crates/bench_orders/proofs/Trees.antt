-- The tree under an interface: halves have lower numbers, so more steps than its number change nothing, and each interface is listed once, so that
-- there are at most eight. Assumes nothing.
use Rattle.std.specs.Prelude.{None, Option, Some}
use Prim.Native.Nat.{ℕ, zero, suc, ◌+◌, ◌<◌, ◌≤◌}
use mathlib.Core.Path.{◌≡◌, refl, ap, ap₂, sym, ◌∙◌}
use mathlib.Core.Bool.{Bool, true, false}
use mathlib.Core.List.{List, [], ◌∷◌, ◌++◌}
use native.Mathlib.Omega.{arith}
use lib.Dec.{eqb}
use lib.ListN.{length, get_or}
use lib.IntN.{ℤ, pos, ◌+ℤ◌}
use Rattle.ledger_spec.specs.Bench.{Bench}
use Rattle.ledger_spec.specs.Look.{interface, top, tree}
use Rattle.ledger_spec.specs.Account.{Σ, gate}
use Rattle.ledger_spec.specs.Frame.{Frame}
use Rattle.ledger_spec.specs.Knit.{In, here, there}
use Rattle.ledger_spec.proofs.Trees.{along, tree_leaf, tree_fork, tree_sum_lem}
use Rattle.ledger_spec.proofs.Gathered.{in_tree}

module _ (b : Bench) (F : Frame b) where
  pub left_low : (u : ℕ) (lr : ℕ × ℕ) → (interface b u).halves ≡ Some lr → lr.0 < u
  left_low u lr e = (F.rising lr.0 u (F.left u lr.0 lr.1 e)).0

  pub right_low : (u : ℕ) (lr : ℕ × ℕ) → (interface b u).halves ≡ Some lr → lr.1 < u
  right_low u lr e = (F.rising lr.1 u (F.right u lr.0 lr.1 e)).0

  -- steps enough
  pub tree_more : (k u : ℕ) → u ≤ k → tree (suc k) b u ≡ tree k b u
  unfolding tree
  tree_more zero u l = go (interface b u).halves refl
    where
      go : (q : Option (ℕ × ℕ)) → (interface b u).halves ≡ q → tree 1 b u ≡ u ∷ []
      go None e = tree_leaf 0 b u e
      go (Some lr) e = absurd (omega (arith, l, left_low u lr e))
  tree_more (suc k) u l = go (interface b u).halves refl (tree_more k)
    where
      go : (q : Option (ℕ × ℕ)) → (interface b u).halves ≡ q → ((w : ℕ) → w ≤ k → tree (suc k) b w ≡ tree k b w) → tree (suc (suc k)) b u ≡ tree (suc k) b u
      go None e ih = tree_leaf (suc k) b u e ∙ sym (tree_leaf k b u e)
      go (Some lr) e ih =
          let x = left_low u lr e in
          let y = right_low u lr e in
          tree_fork (suc k) b u lr e
          ∙ ap₂ (λ (s t : List ℕ). (s ++ t) ++ (u ∷ [])) (ih lr.0 (omega arith)) (ih lr.1 (omega arith))
          ∙ sym (tree_fork k b u lr e)

  pub tree_halves : (u : ℕ) (lr : ℕ × ℕ) → u < 8 → (interface b u).halves ≡ Some lr → tree 8 b u ≡ (tree 8 b lr.0 ++ tree 8 b lr.1) ++ (u ∷ [])
  tree_halves u lr l e =
      let x = left_low u lr e in
      let y = right_low u lr e in
      tree_fork 7 b u lr e ∙ ap₂ (λ (s t : List ℕ). (s ++ t) ++ (u ∷ [])) (sym (tree_more 7 lr.0 (omega arith))) (sym (tree_more 7 lr.1 (omega arith)))

  -- ---- all below eight
  get_in : (us : List ℕ) (i : ℕ) → i < length us → In (get_or us i 0) us
  get_in [] i l = absurd (omega arith)
  get_in (u ∷ us) zero l = here refl
  get_in (u ∷ us) (suc i) l = there (get_in us i (omega arith))

  pub tree_low : (u i : ℕ) → u < 8 → i < length (tree 8 b u) → get_or (tree 8 b u) i 0 < 8
  tree_low u i l m = (in_tree b F 8 u (get_or (tree 8 b u) i 0) l (get_in (tree 8 b u) i m)).0

  -- ---- at most eight
  along_one : (us : List ℕ) → along (λ u. pos 1) us ≡ pos (length us)
  unfolding along
  along_one [] = refl
  along_one (u ∷ us) =
      let e : 1 + length us ≡ suc (length us) = omega arith in
      ap (λ (z : ℤ). pos 1 +ℤ z) (along_one us) ∙ ap pos e

  few : (n : ℕ) (c : ℕ → Bool) → (m : ℕ) × (Σ n (λ u. gate (c u) (pos 1)) ≡ pos m) × (m ≤ n)
  unfolding Σ gate
  few zero c = (0, refl, omega arith)
  few (suc n) c = go (c n) refl (few n c)
    where
      go : (q : Bool) → c n ≡ q → (m : ℕ) × (Σ n (λ u. gate (c u) (pos 1)) ≡ pos m) × (m ≤ n) → (m : ℕ) × (Σ (suc n) (λ u. gate (c u) (pos 1)) ≡ pos m) × (m ≤ suc n)
      go true e (m, p, l) = (m + 1, ap₂ (λ (x : ℤ) (t : Bool). x +ℤ gate t (pos 1)) p e, omega arith)
      go false e (m, p, l) = (m + 0, ap₂ (λ (x : ℤ) (t : Bool). x +ℤ gate t (pos 1)) p e, omega arith)

  pos_eq : {m n : ℕ} → pos m ≡ pos n → m ≡ n
  pos_eq e = cc

  pub tree_few : (u : ℕ) → u < 8 → (interface b u).parent ≡ None → length (tree 8 b u) ≤ 8
  tree_few u l free =
      let k = few 8 (λ w. eqb (top b w) u) in
      let e : length (tree 8 b u) ≡ k.0 = pos_eq (sym (along_one (tree 8 b u)) ∙ tree_sum_lem b F (λ w. pos 1) u l free ∙ k.1) in
      omega (arith, k.2, e)
