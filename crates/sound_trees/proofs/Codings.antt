-- Words in range are the code of what is loaded from them, and a code is in range: by cases of what is coded. Assumes nothing.
use Rattle.std.specs.Prelude.{None, Option, Some}
use Prim.Native.Nat.{ℕ, zero, suc, ◌+◌, ◌-◌, ◌/◌, ◌%◌, ◌<◌, ◌≤◌}
use mathlib.Core.Path.{◌≡◌, refl, sym, ◌∙◌, ap}
use mathlib.Core.Bool.{Bool, true, false}
use mathlib.Core.List.{List}
use native.Mathlib.Omega.{arith}
use native.Mathlib.Nat.{mod-eq_of_lt}
use lib.Dec.{eqb, leb, ltb}
use lib.ListN.{get_or}
use borrow.Author.Tests.{eqb-true, eq-eqb, ne_eqb, leb-true, le-leb, ltb-true, lt-ltb}
use Rattle.kinds.specs.declared.Class.{Class}
use Rattle.kinds.specs.declared.Class.TheVariants.{Absent, Blossom, Defect}
use Rattle.kinds.specs.declared.GrowState.{GrowState}
use Rattle.kinds.specs.declared.GrowState.TheVariants.{Grow, Stay, Shrink}
use Rattle.kinds.specs.declared.Handle.{Handle}
use Rattle.bench_words.specs.declared.Node.{Node}
use Rattle.bench_words.specs.declared.Marks.{Marks}
use Rattle.bench_words.specs.Codec.{state_of, state_word, handle_of, handle_word, class_of, class_word, parent_of, parent_word, up_of, up_word, marks_of, marks_word, pick}
use Rattle.bench_words.specs.Store.{base, ibase, node_at, node_words, interface_at, interface_words}
use Rattle.bench_words.proofs.Laws.{GoodHandle, GoodParent, GoodClass, GoodUp, good_node, good_interface}
use Rattle.ledger_spec.proofs.Lists.{and_true, both_true}
use Rattle.bench_views.specs.Records.{no_node}
use Rattle.bench_words.specs.Coding.{zero_at, blank_at, coded_at, spare_at, link_at, flags_at}

-- ---- a word in range is its own code
state_code : (w : ℕ) → w ≤ 2 → w ≡ state_word (state_of w)
state_code zero l = refl
state_code (suc zero) l = refl
state_code (suc (suc zero)) l = refl
state_code (suc (suc (suc w))) l = absurd (omega arith)

class_code : (w : ℕ) → w < 4294967298 → w ≡ class_word (class_of w)
class_code zero l = refl
class_code (suc zero) l = refl
class_code (suc (suc w)) l =
    let m : (suc (suc w) - 2) % 4294967296 ≡ w = omega arith in
    rw (ne_eqb (suc (suc w)) 0 (λ e. omega arith), ne_eqb (suc (suc w)) 1 (λ e. omega arith)) (omega arith)

handle_code : (w : ℕ) → w < 2199023255552 → w ≡ handle_word (handle_of w)
handle_code w l = omega arith

parent_code : (w : ℕ) → w ≤ 2199023255552 → w ≡ parent_word (parent_of w)
parent_code zero l = refl
parent_code (suc w) l = rw (ne_eqb (suc w) 0 (λ e. omega arith)) (omega (arith, handle_code w (omega arith)))

up_code : (w : ℕ) → w ≤ 8 → w ≡ up_word (up_of w)
up_code zero l = refl
up_code (suc w) l = rw (ne_eqb (suc w) 0 (λ e. omega arith)) (omega arith)

-- ---- a code is in range
state_small : (g : GrowState) → state_word g ≤ 2
state_small Grow = omega arith
state_small Stay = omega arith
state_small Shrink = omega arith

class_small : (c : Class) → GoodClass c → class_word c < 4294967298
class_small Absent g = omega arith
class_small Blossom g = omega arith
class_small (Defect v) g = omega arith

handle_small : (h : Handle) → GoodHandle h → handle_word h < 2199023255552
handle_small h g = omega arith

parent_small : (p : Option Handle) → GoodParent p → parent_word p ≤ 2199023255552
parent_small None g = omega arith
parent_small (Some h) g = omega (arith, handle_small h g)

up_small : (p : Option ℕ) → GoodUp p → up_word p ≤ 8
up_small None g = omega arith
up_small (Some p) g = omega arith

-- ---- row by row
seven : (P : ℕ → Type 0) → P 10 → P 11 → P 12 → P 13 → P 14 → P 15 → P 16 → (j : ℕ) → j < 7 → P (10 + j)
seven P a b c d e f g zero l = a
seven P a b c d e f g (suc zero) l = b
seven P a b c d e f g (suc (suc zero)) l = c
seven P a b c d e f g (suc (suc (suc zero))) l = d
seven P a b c d e f g (suc (suc (suc (suc zero)))) l = e
seven P a b c d e f g (suc (suc (suc (suc (suc zero))))) l = f
seven P a b c d e f g (suc (suc (suc (suc (suc (suc zero)))))) l = g
seven P a b c d e f g (suc (suc (suc (suc (suc (suc (suc j))))))) l = absurd (omega arith)

twelve : (P : ℕ → Type 0) → P 0 → P 1 → P 2 → P 3 → P 4 → P 5 → P 6 → P 7 → P 8 → P 9 → P 10 → P 11 → (j : ℕ) → j < 12 → P j
twelve P a b c d e f g h i k m n zero l = a
twelve P a b c d e f g h i k m n (suc zero) l = b
twelve P a b c d e f g h i k m n (suc (suc zero)) l = c
twelve P a b c d e f g h i k m n (suc (suc (suc zero))) l = d
twelve P a b c d e f g h i k m n (suc (suc (suc (suc zero)))) l = e
twelve P a b c d e f g h i k m n (suc (suc (suc (suc (suc zero))))) l = f
twelve P a b c d e f g h i k m n (suc (suc (suc (suc (suc (suc zero)))))) l = g
twelve P a b c d e f g h i k m n (suc (suc (suc (suc (suc (suc (suc zero))))))) l = h
twelve P a b c d e f g h i k m n (suc (suc (suc (suc (suc (suc (suc (suc zero)))))))) l = i
twelve P a b c d e f g h i k m n (suc (suc (suc (suc (suc (suc (suc (suc (suc zero))))))))) l = k
twelve P a b c d e f g h i k m n (suc (suc (suc (suc (suc (suc (suc (suc (suc (suc zero)))))))))) l = m
twelve P a b c d e f g h i k m n (suc (suc (suc (suc (suc (suc (suc (suc (suc (suc (suc zero))))))))))) l = n
twelve P a b c d e f g h i k m n (suc (suc (suc (suc (suc (suc (suc (suc (suc (suc (suc (suc j)))))))))))) l = absurd (omega arith)

-- ---- a node's words
module _ (b : List ℕ) (k : ℕ) where
  abbrev at : ℕ → ℕ
  at j = get_or b (base k + j) 0

  abbrev pub Coding : Type 0
  Coding = (j : ℕ) → j < 12 → get_or b (base k + (1 + j)) 0 ≡ get_or (node_words (node_at b k)) j 0

  in_range : at 1 < 4294967296 → at 2 < 4294967298 → at 3 ≤ 2 → at 4 ≤ 2199023255552 → at 7 < 2199023255552 → at 8 < 2199023255552 → Coding
  unfolding node_at
  in_range s c g p l r =
      twelve (λ j. get_or b (base k + (1 + j)) 0 ≡ get_or (node_words (node_at b k)) j 0)
      (sym (mod-eq_of_lt s)) (class_code (at 2) c) (state_code (at 3) g) (parent_code (at 4) p) refl refl (handle_code (at 7) l) (handle_code (at 8) r) refl refl refl refl

  pub coded_words : coded_at b k ≡ true → Coding
  unfolding coded_at
  coded_words e =
      let a1 = and_true (ltb (at 1) 4294967296) _ e in
      let a2 = and_true (ltb (at 2) 4294967298) _ a1.1 in
      let a3 = and_true (leb (at 3) 2) _ a2.1 in
      let a4 = and_true (leb (at 4) 2199023255552) _ a3.1 in
      let a7 = and_true (ltb (at 7) 2199023255552) _ a4.1 in
      in_range (ltb-true (at 1) _ a1.0) (ltb-true (at 2) _ a2.0) (leb-true (at 3) _ a3.0) (leb-true (at 4) _ a4.0) (ltb-true (at 7) _ a7.0) (ltb-true (at 8) _ a7.1)

  pub words_coded : Coding → coded_at b k ≡ true
  unfolding coded_at
  words_coded C =
      let G = good_node b k in
      both_true (lt-ltb (at 1) _ (omega (arith, C 0 (omega arith), G.serial)))
      (both_true (lt-ltb (at 2) _ (omega (arith, C 1 (omega arith), class_small (node_at b k).class G.class)))
      (both_true (le-leb (at 3) _ (omega (arith, C 2 (omega arith), state_small (node_at b k).state)))
      (both_true (le-leb (at 4) _ (omega (arith, C 3 (omega arith), parent_small (node_at b k).parent G.parent)))
      (both_true (lt-ltb (at 7) _ (omega (arith, C 6 (omega arith), handle_small (node_at b k).left G.left))) (lt-ltb (at 8) _ (omega (arith, C 7 (omega arith), handle_small (node_at b k).right G.right)))))))

  -- ---- a blank slot
  blank_zero : blank_at b k ≡ true → (j : ℕ) → j < 12 → get_or b (base k + (1 + j)) 0 ≡ 0
  unfolding blank_at
  blank_zero e =
      let a1 = and_true (zero_at b (base k + 1)) _ e in
      let a2 = and_true (zero_at b (base k + 2)) _ a1.1 in
      let a3 = and_true (zero_at b (base k + 3)) _ a2.1 in
      let a4 = and_true (zero_at b (base k + 4)) _ a3.1 in
      let a5 = and_true (zero_at b (base k + 5)) _ a4.1 in
      let a6 = and_true (zero_at b (base k + 6)) _ a5.1 in
      let a7 = and_true (zero_at b (base k + 7)) _ a6.1 in
      let a8 = and_true (zero_at b (base k + 8)) _ a7.1 in
      let a9 = and_true (zero_at b (base k + 9)) _ a8.1 in
      let a10 = and_true (zero_at b (base k + 10)) _ a9.1 in
      let a11 = and_true (zero_at b (base k + 11)) _ a10.1 in
      twelve (λ j. get_or b (base k + (1 + j)) 0 ≡ 0)
      (eqb-true (at 1) 0 a1.0) (eqb-true (at 2) 0 a2.0) (eqb-true (at 3) 0 a3.0) (eqb-true (at 4) 0 a4.0) (eqb-true (at 5) 0 a5.0) (eqb-true (at 6) 0 a6.0)
      (eqb-true (at 7) 0 a7.0) (eqb-true (at 8) 0 a8.0) (eqb-true (at 9) 0 a9.0) (eqb-true (at 10) 0 a10.0) (eqb-true (at 11) 0 a11.0) (eqb-true (at 12) 0 a11.1)

  zero_none : ((j : ℕ) → j < 12 → get_or b (base k + (1 + j)) 0 ≡ 0) → node_at b k ≡ no_node
  unfolding node_at
  zero_none z =
      simp (
        z 0 (omega arith),
        z 1 (omega arith),
        z 2 (omega arith),
        z 3 (omega arith),
        z 4 (omega arith),
        z 5 (omega arith),
        z 6 (omega arith),
        z 7 (omega arith),
        z 8 (omega arith),
        z 9 (omega arith),
        z 10 (omega arith),
        z 11 (omega arith),
      )

  pub blank_none : blank_at b k ≡ true → node_at b k ≡ no_node
  blank_none e = zero_none (blank_zero e)

  pub blank_coded : blank_at b k ≡ true → Coding
  blank_coded e = let z = blank_zero e in
      in_range (omega (arith, z 0 (omega arith))) (omega (arith, z 1 (omega arith))) (omega (arith, z 2 (omega arith))) (omega (arith, z 3 (omega arith))) (omega (arith, z 6 (omega arith))) (omega (arith, z 7 (omega arith)))

  pub none_blank : Coding → node_at b k ≡ no_node → blank_at b k ≡ true
  unfolding blank_at
  none_blank C e =
      both_true (z 0 (omega arith)) (both_true (z 1 (omega arith)) (both_true (z 2 (omega arith)) (both_true (z 3 (omega arith)) (both_true (z 4 (omega arith)) (both_true (z 5 (omega arith))
      (both_true (z 6 (omega arith)) (both_true (z 7 (omega arith)) (both_true (z 8 (omega arith)) (both_true (z 9 (omega arith)) (both_true (z 10 (omega arith)) (z 11 (omega arith))))))))))))
    where
      zeros : (j : ℕ) → j < 12 → get_or (node_words no_node) j 0 ≡ 0
      zeros = twelve (λ j. get_or (node_words no_node) j 0 ≡ 0) refl refl refl refl refl refl refl refl refl refl refl refl

      z : (j : ℕ) → j < 12 → zero_at b (base k + (1 + j)) ≡ true
      z j l = eq-eqb (get_or b (base k + (1 + j)) 0) 0 (C j l ∙ ap (λ (n : Node). get_or (node_words n) j 0) e ∙ zeros j l)

-- ---- an interface's words
module _ (b : List ℕ) (u : ℕ) where
  pub link_words : link_at b u ≡ true → (j : ℕ) → j < 7 → get_or b (ibase u + (1 + j)) 0 ≡ get_or (interface_words (interface_at b u)) j 0
  unfolding link_at interface_at
  link_words e zero l = refl
  link_words e (suc zero) l = refl
  link_words e (suc (suc zero)) l = refl
  link_words e (suc (suc (suc zero))) l = refl
  link_words e (suc (suc (suc (suc zero)))) l = up_code (get_or b (ibase u + 5) 0) (leb-true (get_or b (ibase u + 5) 0) 8 e)
  link_words e (suc (suc (suc (suc (suc zero))))) l = refl
  link_words e (suc (suc (suc (suc (suc (suc zero)))))) l = refl
  link_words e (suc (suc (suc (suc (suc (suc (suc j))))))) l = absurd (omega arith)

  pub words_link : get_or b (ibase u + 5) 0 ≡ up_word (interface_at b u).parent → link_at b u ≡ true
  unfolding link_at
  words_link e = le-leb (get_or b (ibase u + 5) 0) 8 (omega (arith, e, up_small (interface_at b u).parent (good_interface b u)))

  -- the marks' word, which has three bits
  marks_code : (w : ℕ) → w ≤ 7 → w ≡ marks_word (marks_of w)
  marks_code zero l = refl
  marks_code (suc zero) l = refl
  marks_code (suc (suc zero)) l = refl
  marks_code (suc (suc (suc zero))) l = refl
  marks_code (suc (suc (suc (suc zero)))) l = refl
  marks_code (suc (suc (suc (suc (suc zero))))) l = refl
  marks_code (suc (suc (suc (suc (suc (suc zero)))))) l = refl
  marks_code (suc (suc (suc (suc (suc (suc (suc zero))))))) l = refl
  marks_code (suc (suc (suc (suc (suc (suc (suc (suc w)))))))) l = absurd (omega arith)

  two_small : (p q : Bool) → pick p 1 0 + pick q 2 0 ≤ 3
  two_small true true = omega arith
  two_small true false = omega arith
  two_small false true = omega arith
  two_small false false = omega arith

  engine_bit : (m : Marks) → (marks_word m ≤ 7) × (marks_word m / 4 ≡ pick m.plain 1 0)
  engine_bit m = go m.plain (two_small m.fills m.floored)
    where
      go : (r : Bool) → pick m.fills 1 0 + pick m.floored 2 0 ≤ 3 → (pick m.fills 1 0 + pick m.floored 2 0 + pick r 4 0 ≤ 7) × ((pick m.fills 1 0 + pick m.floored 2 0 + pick r 4 0) / 4 ≡ pick r 1 0)
      go true l = (omega arith, omega arith)
      go false l = (omega arith, omega arith)

  pub flag_words : flags_at b u ≡ true → get_or b (ibase u + 9) 0 ≡ marks_word (interface_at b u).marks
  unfolding flags_at interface_at
  flag_words e = marks_code (get_or b (ibase u + 9) 0) (leb-true (get_or b (ibase u + 9) 0) 7 (and_true (leb (get_or b (ibase u + 9) 0) 7) _ e).0)

  pub flag_engine : flags_at b u ≡ true → (interface_at b u).marks.plain ≡ (interface_at b 0).marks.plain
  unfolding flags_at interface_at
  flag_engine e = ap (λ (w : ℕ). eqb (w % 2) 1) (eqb-true (get_or b (ibase u + 9) 0 / 4) (get_or b 9 0 / 4) (and_true (leb (get_or b (ibase u + 9) 0) 7) _ e).1)

  pub words_flag : get_or b (ibase u + 9) 0 ≡ marks_word (interface_at b u).marks → get_or b 9 0 ≡ marks_word (interface_at b 0).marks → (interface_at b u).marks.plain ≡ (interface_at b 0).marks.plain → flags_at b u ≡ true
  unfolding flags_at
  words_flag e z s =
      let x = engine_bit (interface_at b u).marks in
      let y = engine_bit (interface_at b 0).marks in
      both_true (le-leb (get_or b (ibase u + 9) 0) 7 (omega (arith, e, x.0)))
      (eq-eqb (get_or b (ibase u + 9) 0 / 4) (get_or b 9 0 / 4)
      (ap (λ (w : ℕ). w / 4) e ∙ x.1 ∙ ap (λ (p : Bool). pick p 1 0) s ∙ sym (ap (λ (w : ℕ). w / 4) z ∙ y.1)))

  spare_zero : spare_at b u ≡ true → (j : ℕ) → j < 7 → get_or b (ibase u + (10 + j)) 0 ≡ 0
  unfolding spare_at
  spare_zero e =
      let a1 = and_true (zero_at b (ibase u + 10)) _ e in
      let a2 = and_true (zero_at b (ibase u + 11)) _ a1.1 in
      let a3 = and_true (zero_at b (ibase u + 12)) _ a2.1 in
      let a4 = and_true (zero_at b (ibase u + 13)) _ a3.1 in
      let a5 = and_true (zero_at b (ibase u + 14)) _ a4.1 in
      let a6 = and_true (zero_at b (ibase u + 15)) _ a5.1 in
      seven (λ j. get_or b (ibase u + j) 0 ≡ 0)
      (eqb-true (get_or b (ibase u + 10) 0) 0 a1.0) (eqb-true (get_or b (ibase u + 11) 0) 0 a2.0) (eqb-true (get_or b (ibase u + 12) 0) 0 a3.0)
      (eqb-true (get_or b (ibase u + 13) 0) 0 a4.0) (eqb-true (get_or b (ibase u + 14) 0) 0 a5.0) (eqb-true (get_or b (ibase u + 15) 0) 0 a6.0) (eqb-true (get_or b (ibase u + 16) 0) 0 a6.1)

pub spare_words : (b : List ℕ) → ((u : ℕ) → u < 8 → spare_at b u ≡ true) → (m : ℕ) → 0 < m → m ≤ 128 → 9 ≤ (m - 1) % 16 → get_or b m 0 ≡ 0
spare_words b h m z l r =
    let u : ℕ = (m - 1) / 16 in
    let j : ℕ = (m - 1) % 16 - 9 in
    let e : m ≡ ibase u + (10 + j) = omega arith in
    ap (λ (x : ℕ). get_or b x 0) e ∙ spare_zero b u (h u (omega arith)) j (omega arith)

pub words_spare : (b : List ℕ) → ((m : ℕ) → 0 < m → m ≤ 128 → 9 ≤ (m - 1) % 16 → get_or b m 0 ≡ 0) → (u : ℕ) → u < 8 → spare_at b u ≡ true
unfolding spare_at
words_spare b h u lu =
    both_true (z 10 (omega arith) (omega arith)) (both_true (z 11 (omega arith) (omega arith)) (both_true (z 12 (omega arith) (omega arith))
    (both_true (z 13 (omega arith) (omega arith)) (both_true (z 14 (omega arith) (omega arith)) (both_true (z 15 (omega arith) (omega arith)) (z 16 (omega arith) (omega arith)))))))
  where
    z : (j : ℕ) → 10 ≤ j → j ≤ 16 → zero_at b (ibase u + j) ≡ true
    z j lo hi = eq-eqb (get_or b (ibase u + j) 0) 0 (h (ibase u + j) (omega arith) (omega arith) (omega arith))
