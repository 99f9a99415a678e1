-- Calls that touch nodes only: links, progress and sums of every interface are as they were, and with them tops, trees and W. Assumes nothing.
use Rattle.std.specs.Prelude.{None, Option, Some}
use Prim.Native.Nat.{ℕ, zero, suc, ◌+◌}
use mathlib.Core.Path.{◌≡◌, refl, sym, ◌∙◌, ap, ap₂}
use mathlib.Core.List.{List, [], ◌∷◌, ◌++◌}
use lib.ListN.{length}
use lib.IntN.{ℤ, nat_abs}
use Rattle.ledger_spec.specs.Bench.{Handle, State, grows, stays, Node, Marking, Bench}
use Rattle.ledger_spec.specs.Look.{interface, node_named, top, tree}
use Rattle.ledger_spec.specs.Change.{place, push, mark, mark_all}
use Rattle.ledger_spec.specs.Tests.{is_some}
use Rattle.ledger_spec.specs.Deeds.{new_handle, add_defect, add_blossom, remove_blossom, members, choose}
use Rattle.ledger_spec.specs.SoundTree.{reach}
use Rattle.ledger_spec.specs.Frame.{Frame}
use Rattle.ledger_spec.specs.Facts.{W}
use Rattle.ledger_spec.proofs.Tops.{climb_same}
use Rattle.ledger_spec.proofs.Trees.{tree_leaf, tree_fork}
use Rattle.ledger_spec.proofs.TreeReadings.{choose_field, choose_length}
use Rattle.ledger_spec.proofs.Readings.{place_field, place_length, mark_field, mark_length, mark_all_field, mark_all_length, push_field, push_length}

-- links that are as they were
pub frame_same : (b b' : Bench) → length b'.interfaces ≡ length b.interfaces → ((w : ℕ) → (interface b' w).parent ≡ (interface b w).parent) → ((w : ℕ) → (interface b' w).halves ≡ (interface b w).halves) → Frame b → Frame b'
frame_same b b' l ps hs F = record {
  eight = l ∙ F.eight;
  rising = λ u p e. F.rising u p (sym (ps u) ∙ e);
  linked = λ u p e. ap is_some (hs p) ∙ F.linked u p (sym (ps u) ∙ e);
  up = λ w u l r e f. F.up w u l r (sym (ps w) ∙ e) (sym (hs u) ∙ f);
  left = λ u l r f. ps l ∙ F.left u l r (sym (hs u) ∙ f);
  right = λ u l r f. ps r ∙ F.right u l r (sym (hs u) ∙ f);
  apart = λ u l r f. F.apart u l r (sym (hs u) ∙ f);
}

pub tree_same : (b b' : Bench) → ((w : ℕ) → (interface b' w).halves ≡ (interface b w).halves) → (k u : ℕ) → tree k b' u ≡ tree k b u
unfolding tree
tree_same b b' hs zero u = refl
tree_same b b' hs (suc k) u = go (interface b u).halves refl (tree_same b b' hs k)
  where
    go : (q : Option (ℕ × ℕ)) → (interface b u).halves ≡ q → ((w : ℕ) → tree k b' w ≡ tree k b w) → tree (suc k) b' u ≡ tree (suc k) b u
    go None e ih = tree_leaf k b' u (hs u ∙ e) ∙ sym (tree_leaf k b u e)
    go (Some lr) e ih = tree_fork k b' u lr (hs u ∙ e) ∙ ap₂ (λ (x y : List ℕ). (x ++ y) ++ (u ∷ [])) (ih lr.0) (ih lr.1) ∙ sym (tree_fork k b u lr e)

pub reach_same : (b b' : Bench) → ((w : ℕ) → (interface b' w).progress ≡ (interface b w).progress) → (us : List ℕ) → reach b' us ≡ reach b us
unfolding reach
reach_same b b' ps [] = refl
reach_same b b' ps (u ∷ us) = ap₂ (λ (x : ℤ) (y : ℕ). nat_abs x + y) (ps u) (reach_same b b' ps us)

pub record Quiet (b b' : Bench) : Type 0 where
  pub long : length b'.interfaces ≡ length b.interfaces
  pub parent : (w : ℕ) → (interface b' w).parent ≡ (interface b w).parent
  pub halves : (w : ℕ) → (interface b' w).halves ≡ (interface b w).halves
  pub progress : (w : ℕ) → (interface b' w).progress ≡ (interface b w).progress
  pub sum : (w : ℕ) → (interface b' w).sum ≡ (interface b w).sum

module _ (b b' : Bench) (Q : Quiet b b') where
  pub quiet_frame : Frame b → Frame b'
  quiet_frame = frame_same b b' Q.long Q.parent Q.halves

  pub quiet_top : (w : ℕ) → top b' w ≡ top b w
  quiet_top w = climb_same b b' Q.parent 8 w

  pub quiet_tree : (u : ℕ) → tree 8 b' u ≡ tree 8 b u
  quiet_tree u = tree_same b b' Q.halves 8 u

  pub quiet-W : (i : ℕ) → W b' i ≡ W b i
  quiet-W i = ap (reach b') (quiet_tree i) ∙ reach_same b b' Q.progress (tree 8 b i)

pub quiet_trans : (b c d : Bench) → Quiet b c → Quiet c d → Quiet b d
quiet_trans b c d P Q = record {
  long = Q.long ∙ P.long;
  parent = λ w. Q.parent w ∙ P.parent w;
  halves = λ w. Q.halves w ∙ P.halves w;
  progress = λ w. Q.progress w ∙ P.progress w;
  sum = λ w. Q.sum w ∙ P.sum w;
}

-- ---- each step, and the calls that are made of them
pub place_quiet : (b : Bench) (u s : ℕ) (y : Option Node) → Quiet b (place b u s y)
place_quiet b u s y = record {
  long = place_length b u s y;
  parent = place_field b u s y (λ f. f.parent) (λ f l. refl) (λ f x. refl);
  halves = place_field b u s y (λ f. f.halves) (λ f l. refl) (λ f x. refl);
  progress = place_field b u s y (λ f. f.progress) (λ f l. refl) (λ f x. refl);
  sum = place_field b u s y (λ f. f.sum) (λ f l. refl) (λ f x. refl);
}

pub mark_quiet : (b : Bench) (h : Handle) (s : State) (p : Option Handle) → Quiet b (mark b h s p)
mark_quiet b h s p = record {
  long = mark_length b h s p;
  parent = mark_field b h s p (λ f. f.parent) (λ f l. refl) (λ f x. refl);
  halves = mark_field b h s p (λ f. f.halves) (λ f l. refl) (λ f x. refl);
  progress = mark_field b h s p (λ f. f.progress) (λ f l. refl) (λ f x. refl);
  sum = mark_field b h s p (λ f. f.sum) (λ f l. refl) (λ f x. refl);
}

pub mark_all_quiet : (b : Bench) (hs : List Handle) (s : State) (p : Option Handle) → Quiet b (mark_all b hs s p)
mark_all_quiet b hs s p = record {
  long = mark_all_length s p b hs;
  parent = mark_all_field s p (λ f. f.parent) (λ f l. refl) (λ f x. refl) b hs;
  halves = mark_all_field s p (λ f. f.halves) (λ f l. refl) (λ f x. refl) b hs;
  progress = mark_all_field s p (λ f. f.progress) (λ f l. refl) (λ f x. refl) b hs;
  sum = mark_all_field s p (λ f. f.sum) (λ f l. refl) (λ f x. refl) b hs;
}

pub push_quiet : (b : Bench) (u t : ℕ) (n : Node) → Quiet b (push b u t n)
push_quiet b u t n = record {
  long = push_length b u t n;
  parent = push_field b u t n (λ f. f.parent) (λ f l. refl) (λ f x. refl);
  halves = push_field b u t n (λ f. f.halves) (λ f l. refl) (λ f x. refl);
  progress = push_field b u t n (λ f. f.progress) (λ f l. refl) (λ f x. refl);
  sum = push_field b u t n (λ f. f.sum) (λ f l. refl) (λ f x. refl);
}

pub defect_quiet : (b : Bench) (u v : ℕ) → Quiet b (add_defect b u v)
unfolding add_defect
defect_quiet b u v = push_quiet b u _ _

pub blossom_quiet : (b : Bench) (u : ℕ) (hs : List Handle) (ts : List (Handle × Handle)) → Quiet b (add_blossom b u hs ts)
unfolding add_blossom
blossom_quiet b u hs ts = quiet_trans b (mark_all b hs stays (Some (new_handle b u))) _ (mark_all_quiet b hs stays (Some (new_handle b u))) (push_quiet (mark_all b hs stays (Some (new_handle b u))) u _ _)

pub expand_quiet : (b : Bench) (h : Handle) → Quiet b (remove_blossom b h)
unfolding remove_blossom
expand_quiet b h = quiet_trans b (place b h.unit h.slot None) _ (place_quiet b h.unit h.slot None) (mark_all_quiet (place b h.unit h.slot None) (members (node_named b h)) grows None)

pub choose_quiet : (b : Bench) (u : ℕ) (k : Marking) → Quiet b (choose b u k)
choose_quiet b u k = record {
  long = choose_length b u k;
  parent = choose_field b u k (λ f. f.parent) (λ f m. refl);
  halves = choose_field b u k (λ f. f.halves) (λ f m. refl);
  progress = choose_field b u k (λ f. f.progress) (λ f m. refl);
  sum = choose_field b u k (λ f. f.sum) (λ f m. refl);
}
