-- Words copied from one group to another: what stands where, and that a part which std copies stands so. Assumes nothing.
use Prim.Native.Nat.{ℕ, zero, suc, ◌+◌, ◌-◌, ◌*◌, ◌<◌, ◌≤◌}
use mathlib.Core.Path.{◌≡◌, refl, sym, ap, ◌∙◌}
use mathlib.Core.Bool.{true}
use mathlib.Core.List.{List, ◌∷◌, append_assoc}
use borrow.Rule.Slice.PartMut.{put_mid}
use Rattle.std.proofs.lemmas.List.Edits.{sets-eq}
use native.Mathlib.Omega.{arith}
use lib.ListN.{length, take, drop, get_or, length-drop}
use lib.Seq.{length-sets, length-take-le, get_or-take, get_or-drop, drop-drop}
use Rattle.group_lent.specs.Groups.{entry_form, entry_at}
use Rattle.group_lent.specs.Place.{run}
use Rattle.group_lent.proofs.Stores.{sets_in}
use Rattle.group_lent.proofs.Seen.{Reads, out_reads, five_reads}
use Rattle.group_lent_extends.specs.Extends.{copied}

module _ (ws : List ℕ) (at : ℕ) (vs : List ℕ) (from k : ℕ) (h : at + k ≤ length ws) (g : from + k ≤ length vs) where
  rest_long : length (take k (drop from vs)) ≡ k
  rest_long = length-take-le k (drop from vs) (rw (length-drop from vs) (omega arith))

  pub copied_long : length (copied ws at vs from k) ≡ length ws
  unfolding copied
  copied_long = length-sets ws at (take k (drop from vs))

  -- a window of the copy, and one that is not touched
  pub copied_reads : (m m' c : ℕ) → m' + from ≡ m + at → at ≤ m' → m' + c ≤ at + k → Reads vs m (copied ws at vs from k) m' c
  unfolding copied
  copied_reads m m' c z a b = λ x j j' l e e'.
      let t = j' - at in
      let y : from + t ≡ j = omega arith in
      let r = rest_long in
      sets_in ws at (take k (drop from vs)) t j' (omega arith) (omega arith) (omega arith)
      ∙ get_or-take k (drop from vs) t 0 (omega arith)
      ∙ get_or-drop from vs t 0
      ∙ ap (λ (n : ℕ). get_or vs n 0) y

  pub copied_apart : (m c : ℕ) → (at < m + c → at + k ≤ m) → Reads ws m (copied ws at vs from k) m c
  unfolding copied
  copied_apart m c d = out_reads ws at (take k (drop from vs)) m c (λ l. omega (arith, rest_long, d l))

  pub copied_part : (r : List ℕ) → r ≡ take (from + k - from) (drop from vs) → put_mid at (at + k - at) ws r ≡ copied ws at vs from k
  unfolding copied
  copied_part r e =
      let p : at + k - at ≡ k = omega arith in
      let q : from + k - from ≡ k = omega arith in
      let l = rest_long in
      rw (e, p, q, drop-drop k at ws) (sym (sets-eq (take k (drop from vs)) ws at (omega arith) ∙ rw (l, append_assoc)))

-- no words are copied
pub copied_none : (ws : List ℕ) (at : ℕ) (vs : List ℕ) (from : ℕ) → ws ≡ copied ws at vs from 0
unfolding copied
copied_none ws at vs from = refl

-- ---- entries at other places

module _ (ws ws' : List ℕ) (i k : ℕ) where
  pub entry_moved : Reads ws (5 + i * 5) ws' (5 + k * 5) 5 → entry_at ws' k ≡ entry_at ws i
  unfolding entry_at
  entry_moved r = rw (five_reads ws (5 + i * 5) ws' (5 + k * 5) r)

  pub form_moved : Reads ws (5 + i * 5) ws' (5 + k * 5) 5 → entry_form ws i ≡ true → entry_form ws' k ≡ true
  unfolding entry_form
  form_moved r e = rw (five_reads ws (5 + i * 5) ws' (5 + k * 5) r) e

module _ {A : Type 0} where
  pub run_moved : (f g : ℕ → A) (a b n : ℕ) → ((i : ℕ) → i < n → f (a + i) ≡ g (b + i)) → run f a n ≡ run g b n
  unfolding run
  run_moved f g a b zero e = refl
  run_moved f g a b (suc n) e =
      let p : a + 0 ≡ a = omega arith in
      let q : b + 0 ≡ b = omega arith in
      let first : f a ≡ g b = sym (ap f p) ∙ e 0 (omega arith) ∙ ap g q in
      let next : (i : ℕ) → i < n → f (suc a + i) ≡ g (suc b + i) = λ i h. let y : suc a + i ≡ a + suc i = omega arith in let z : b + suc i ≡ suc b + i = omega arith in ap f y ∙ e (suc i) (omega arith) ∙ ap g z in
      λ i. first i ∷ run_moved f g (suc a) (suc b) n next i
