-- The parts after a place, and how the end of a part is found: what was passed has no mark in it. Assumes nothing.
use Prim.Native.Nat.{ℕ, zero, suc, ◌+◌, ◌-◌, ◌≤◌, ◌<◌}
use native.Mathlib.Omega.{arith}
use native.Mathlib.Numerals.{add-one}
use native.Mathlib.Nat.{sub_self}
use mathlib.Core.Path.{◌≡◌, refl, sym, ◌∙◌, ap}
use mathlib.Core.List.{List, [], ◌∷◌, ◌++◌, append_assoc, append-nil}
use lib.ListN.{length, get_or, take, drop, length-drop}
use lib.Seq.{drop-cons, drop-length}
use Rattle.std.proofs.lemmas.List.{drop-drop}
use borrow.Author.Tests.{lt-ltb, le-ltb}
use Rattle.ledger_spec.specs.Fields.{upto, parts_after, cut}
use Rattle.text_fields.specs.Places.{parts_from, Ends}
use Rattle.text_fields.proofs.Cuts.{upto_none, upto_here, upto_on, after_none, after_here, after_on}

pub from_more : (mark : ℕ) (s : List ℕ) (e : ℕ) → e < length s → parts_from mark s e ≡ cut mark (drop (suc e) s)
unfolding parts_from
from_more mark s e h = rw (lt-ltb e (length s) h, parts_from)

pub from_none : (mark : ℕ) (s : List ℕ) (e : ℕ) → length s ≤ e → parts_from mark s e ≡ []
unfolding parts_from
from_none mark s e h = rw (le-ltb e (length s) h, parts_from)

-- no mark in the first i bytes: they are of the part that starts here, and what follows says the rest
pub passed : (mark : ℕ) (t : List ℕ) (i : ℕ) → i ≤ length t → ((k : ℕ) → k < i → get_or t k 0 ≡ mark → ⊥)
    → (upto mark t ≡ take i t ++ upto mark (drop i t)) × (parts_after mark t ≡ parts_after mark (drop i t))
passed mark t zero h n = (refl, refl)
passed mark [] (suc i) h n = absurd (omega arith)
passed mark (x ∷ t) (suc i) h n =
    let p = passed mark t i (omega arith) (λ k l. n (suc k) (omega arith)) in
    let f = n 0 (omega arith) in
    (upto_on mark x t f ∙ ap (λ (l : List ℕ). x ∷ l) p.0, after_on mark x t f ∙ p.1)

module _ (mark : ℕ) (s : List ℕ) (a : ℕ) (h : a ≤ length s) where
  -- the first mark ends the part
  pub ends_at : (i : ℕ) → i < length (drop a s) → get_or (drop a s) i 0 ≡ mark → ((k : ℕ) → k < i → get_or (drop a s) k 0 ≡ mark → ⊥) → Ends mark s a (a + i)
  ends_at i l m n =
      let t = drop a s in
      let p = passed mark t i (omega arith) n in
      let d = drop-cons t i 0 l in
      let f : a + suc i ≡ suc (a + i) = omega arith in
      let e : drop (suc i) t ≡ drop (suc (a + i)) s = drop-drop (suc i) a s ∙ ap (λ (k : ℕ). drop k s) f in
      let z : a + i < length s = omega (arith, length-drop a s) in
      let w : i ≡ a + i - a = omega arith in
      record {
        low = omega arith;
        high = omega arith;
        part = p.0 ∙ ap (λ (l : List ℕ). take i t ++ l) (ap (upto mark) d ∙ upto_here mark _ _ m) ∙ append-nil (take i t) ∙ ap (λ (k : ℕ). take k t) w;
        others = p.1 ∙ ap (parts_after mark) d ∙ after_here mark _ _ m ∙ ap (cut mark) e ∙ sym (from_more mark s (a + i) z);
      }

  -- with no mark the part ends with the bytes
  pub ends_out : ((k : ℕ) → k < length (drop a s) → get_or (drop a s) k 0 ≡ mark → ⊥) → Ends mark s a (length s)
  ends_out n =
      let t = drop a s in
      let p = passed mark t (length t) (omega arith) n in
      let d = drop-length t in
      record {
        low = h;
        high = omega arith;
        part = p.0 ∙ ap (λ (l : List ℕ). take (length t) t ++ l) (ap (upto mark) d ∙ upto_none mark) ∙ append-nil (take (length t) t)
            ∙ ap (λ (k : ℕ). take k t) (length-drop a s);
        others = p.1 ∙ ap (parts_after mark) d ∙ after_none mark ∙ sym (from_none mark s (length s) (omega arith));
      }
