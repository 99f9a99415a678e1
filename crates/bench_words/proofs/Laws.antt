-- The laws of nodes in words: what a store gives back, what it leaves, and that codes read back.
use Rattle.std.specs.Prelude.{None, Option, Some}
use Prim.Native.Nat.{ℕ, zero, suc, ◌+◌, ◌-◌, ◌*◌, ◌%◌, ◌<◌, ◌≤◌}
use mathlib.Core.Path.{◌≡◌, refl, ap, ◌∙◌}
use mathlib.Core.Bool.{Bool, true, false}
use lib.Dec.{eqb}
use mathlib.Core.List.{List, [], ◌∷◌}
use native.Mathlib.Omega.{arith}
use lib.ListN.{length, get_or, set, length-set}
use lib.Seq.{get_or-set_same, get_or-set_other}
use lib.Arith.{digits_div, digits_mod}
use native.Mathlib.Nat.{mod-eq_of_lt}
use borrow.Author.Tests.{ne_eqb}
use Rattle.bench_words.specs.Codec.{state_of, state_word, handle_of, handle_word, class_of, class_word, parent_of, parent_word, up_of, up_word, marks_of, marks_word, pick}
use Rattle.bench_words.specs.Store.{base, node_at, store_node, writes, node_words, ibase, interface_at, store_interface, interface_words}
use Rattle.kinds.specs.declared.GrowState.{GrowState}
use Rattle.kinds.specs.declared.GrowState.TheVariants.{Grow, Stay, Shrink}
use Rattle.kinds.specs.declared.Class.{Class}
use Rattle.kinds.specs.declared.Class.TheVariants.{Absent, Blossom, Defect}
use Rattle.kinds.specs.declared.Handle.{Handle}
use Rattle.bench_words.specs.declared.Node.{Node}
use Rattle.bench_words.specs.declared.Interface.{Interface}
use Rattle.bench_words.specs.declared.Marks.{Marks}

pub length_writes : (ws b : List ℕ) (at f : ℕ) → length (writes b at f ws) ≡ length b
length_writes [] b at f = refl
length_writes (w ∷ ws) b at f = length_writes ws (set b (at + f) w) at (suc f) ∙ length-set b (at + f) w

pub writes_out : (ws b : List ℕ) (at f m : ℕ) → ((g : ℕ) → g < length ws → m ≡ at + (f + g) → ⊥) → get_or (writes b at f ws) m 0 ≡ get_or b m 0
writes_out [] b at f m h = refl
writes_out (w ∷ ws) b at f m h =
    writes_out ws (set b (at + f) w) at (suc f) m (λ g l e. h (suc g) (omega arith) (omega arith))
    ∙ get_or-set_other b (at + f) m w 0 (λ e. h 0 (omega arith) (omega arith))

pub writes_in : (ws b : List ℕ) (at f j m : ℕ) → m ≡ at + (f + j) → j < length ws → at + (f + length ws) ≤ length b → get_or (writes b at f ws) m 0 ≡ get_or ws j 0
writes_in [] b at f j m e l fits = omega arith
writes_in (w ∷ ws) b at f zero m e l fits =
    let here : m ≡ at + f = omega arith in
    writes_out ws (set b (at + f) w) at (suc f) m (λ g l e. omega arith)
    ∙ ap (λ (x : ℕ). get_or (set b (at + f) w) x 0) here
    ∙ get_or-set_same b (at + f) w 0 (omega arith)
writes_in (w ∷ ws) b at f (suc j) m e l fits =
    writes_in ws (set b (at + f) w) at (suc f) j m (omega arith) (omega arith) (omega (arith, length-set b (at + f) w))

-- ---- codes read back

abbrev ⊤₀ : Type 0
⊤₀ = Prim.Unit {0}

abbrev pub GoodHandle : Handle → Type 0
GoodHandle h = (h.unit < 8) × (h.slot < 64) × (h.serial.0 < 4294967296)

abbrev pub GoodParent : Option Handle → Type 0
GoodParent None = ⊤₀
GoodParent (Some h) = GoodHandle h

abbrev pub GoodClass : Class → Type 0
GoodClass Absent = ⊤₀
GoodClass Blossom = ⊤₀
GoodClass (Defect v) = v.0 < 4294967296

pub record Good (n : Node) : Type 0 where
  pub serial : n.serial.0 < 4294967296
  pub class : GoodClass n.class
  pub parent : GoodParent n.parent
  pub left : GoodHandle n.left
  pub right : GoodHandle n.right

pub handle_back : (h : Handle) → GoodHandle h → handle_of (handle_word h) ≡ h
handle_back h (u, s, l) =
    simp (digits_mod (h.serial.0 * 64 + h.slot) u, digits_div (h.serial.0 * 64 + h.slot) u, digits_mod h.serial.0 s, digits_div h.serial.0 s, mod-eq_of_lt l)

pub state_back : (g : GrowState) → state_of (state_word g) ≡ g
state_back Grow = refl
state_back Stay = refl
state_back Shrink = refl

pub class_back : (c : Class) → GoodClass c → class_of (class_word c) ≡ c
class_back Absent g = refl
class_back Blossom g = refl
class_back (Defect v) g =
    let a : (v.0 + 2 - 2) % 4294967296 ≡ v.0 = omega arith in
    simp (ne_eqb (v.0 + 2) 0 (λ e. omega arith), ne_eqb (v.0 + 2) 1 (λ e. omega arith), a)

pub parent_back : (l : Option Handle) → GoodParent l → parent_of (parent_word l) ≡ l
parent_back None g = refl
parent_back (Some h) g =
    let a : handle_word h + 1 - 1 ≡ handle_word h = omega arith in
    simp (ne_eqb (handle_word h + 1) 0 (λ e. omega arith), a, handle_back h g)

-- ---- load of a store

module _ (b : List ℕ) (k : ℕ) (n : Node) (len : length b ≡ 6273) (lk : k < 512) where
  pub length_store : length (store_node b k n) ≡ 6273
  unfolding store_node
  length_store = length_writes (node_words n) b (base k) 1 ∙ len

  pub inside : (j : ℕ) → j < 12 → get_or (store_node b k n) (base k + (1 + j)) 0 ≡ get_or (node_words n) j 0
  unfolding store_node
  inside j l = writes_in (node_words n) b (base k) 1 j (base k + (1 + j)) refl l (omega arith)

  -- every other word stays
  pub store_out : (m : ℕ) → ((g : ℕ) → g < 12 → m ≡ base k + (1 + g) → ⊥) → get_or (store_node b k n) m 0 ≡ get_or b m 0
  unfolding store_node
  store_out m h = writes_out (node_words n) b (base k) 1 m h

  pub load_same : Good n → node_at (store_node b k n) k ≡ n
  unfolding node_at
  load_same g =
      simp (
        inside 0 (omega arith),
        inside 1 (omega arith),
        inside 2 (omega arith),
        inside 3 (omega arith),
        inside 4 (omega arith),
        inside 5 (omega arith),
        inside 6 (omega arith),
        inside 7 (omega arith),
        inside 8 (omega arith),
        inside 9 (omega arith),
        inside 10 (omega arith),
        inside 11 (omega arith),
        class_back n.class g.class,
        state_back,
        parent_back n.parent g.parent,
        handle_back n.left g.left,
        handle_back n.right g.right,
        mod-eq_of_lt g.serial,
      )

  pub load_other : (j : ℕ) → (j ≡ k → ⊥) → node_at (store_node b k n) j ≡ node_at b j
  unfolding node_at
  load_other j ne =
      let o : (f : ℕ) → 0 < f → f < 13 → get_or (store_node b k n) (base j + f) 0 ≡ get_or b (base j + f) 0 = λ f z l. store_out (base j + f) (λ g l2 e. omega arith) in
      simp (
        o 1 (omega arith) (omega arith),
        o 2 (omega arith) (omega arith),
        o 3 (omega arith) (omega arith),
        o 4 (omega arith) (omega arith),
        o 5 (omega arith) (omega arith),
        o 6 (omega arith) (omega arith),
        o 7 (omega arith) (omega arith),
        o 8 (omega arith) (omega arith),
        o 9 (omega arith) (omega arith),
        o 10 (omega arith) (omega arith),
        o 11 (omega arith) (omega arith),
        o 12 (omega arith) (omega arith),
      )

  pub store_node_interface : (u : ℕ) → u < 8 → interface_at (store_node b k n) u ≡ interface_at b u
  unfolding interface_at
  store_node_interface u lu =
      let o : (f : ℕ) → f < 10 → get_or (store_node b k n) (ibase u + f) 0 ≡ get_or b (ibase u + f) 0 = λ f l. store_out (ibase u + f) (λ g l2 e. omega arith) in
      simp
      (o 1 (omega arith), o 2 (omega arith), o 3 (omega arith), o 4 (omega arith), o 5 (omega arith), o 6 (omega arith), o 7 (omega arith), o 9 (omega arith))

-- what is loaded is good
pub good_handle : (w : ℕ) → GoodHandle (handle_of w)
good_handle w = (omega arith, omega arith, omega arith)

good_class : (p q : Bool) (v : ℕ) → v < 4294967296 → GoodClass (pick p Absent (pick q Blossom (Defect (record { 0 = v }))))
good_class true q v l = tt
good_class false true v l = tt
good_class false false v l = l

good_parent : (p : Bool) (w : ℕ) → GoodParent (pick p None (Some (handle_of w)))
good_parent true w = tt
good_parent false w = good_handle w

pub good_node : (b : List ℕ) (k : ℕ) → Good (node_at b k)
unfolding node_at
good_node b k =
    record {
      serial = omega arith;
      class = good_class (eqb (get_or b (base k + 2) 0) 0) (eqb (get_or b (base k + 2) 0) 1) _ (omega arith);
      parent = good_parent (eqb (get_or b (base k + 4) 0) 0) (get_or b (base k + 4) 0 - 1);
      left = good_handle (get_or b (base k + 7) 0);
      right = good_handle (get_or b (base k + 8) 0);
    }

-- ---- units

abbrev pub GoodUp : Option ℕ → Type 0
GoodUp None = ⊤₀
GoodUp (Some p) = p < 8

pub up_back : (u : Option ℕ) → GoodUp u → up_of (up_word u) ≡ u
up_back None g = refl
up_back (Some p) g =
    let a : (p + 1 - 1) % 8 ≡ p = omega arith in
    simp (ne_eqb (p + 1) 0 (λ e. omega arith), a)

pub marks_back : (m : Marks) → marks_of (marks_word m) ≡ m
marks_back m = bits_back m.fills m.floored m.plain
  where
    bits_back : (p q r : Bool) → marks_of (pick p 1 0 + pick q 2 0 + pick r 4 0) ≡ record { fills = p; floored = q; plain = r }
    bits_back true true true = refl
    bits_back true true false = refl
    bits_back true false true = refl
    bits_back true false false = refl
    bits_back false true true = refl
    bits_back false true false = refl
    bits_back false false true = refl
    bits_back false false false = refl

good_up : (p : Bool) (w : ℕ) → w < 8 → GoodUp (pick p None (Some w))
good_up true w l = tt
good_up false w l = l

pub good_interface : (b : List ℕ) (u : ℕ) → GoodUp (interface_at b u).parent
unfolding interface_at
good_interface b u = good_up (eqb (get_or b (ibase u + 5) 0) 0) ((get_or b (ibase u + 5) 0 - 1) % 8) (omega arith)

module _ (b : List ℕ) (u : ℕ) (n : Interface) (len : length b ≡ 6273) (lu : u < 8) where
  abbrev low : List ℕ
  low = writes b (ibase u) 1 (interface_words n)

  length_low : length low ≡ 6273
  length_low = length_writes (interface_words n) b (ibase u) 1 ∙ len

  past : (m : ℕ) → (m ≡ ibase u + 9 → ⊥) → get_or (store_interface b u n) m 0 ≡ get_or low m 0
  unfolding store_interface
  past m ne = get_or-set_other low (ibase u + 9) m (marks_word n.marks) 0 ne

  pub length_store_interface : length (store_interface b u n) ≡ 6273
  unfolding store_interface
  length_store_interface = length-set low (ibase u + 9) (marks_word n.marks) ∙ length_low

  pub inside_interface : (j : ℕ) → j < 7 → get_or (store_interface b u n) (ibase u + (1 + j)) 0 ≡ get_or (interface_words n) j 0
  inside_interface j l = past (ibase u + (1 + j)) (λ e. omega arith) ∙ writes_in (interface_words n) b (ibase u) 1 j (ibase u + (1 + j)) refl l (omega arith)

  pub inside_marks : get_or (store_interface b u n) (ibase u + 9) 0 ≡ marks_word n.marks
  unfolding store_interface
  inside_marks = get_or-set_same low (ibase u + 9) (marks_word n.marks) 0 (omega (arith, length_low))

  -- every other word stays; word 8 is the map's
  pub store_interface_out : (m : ℕ) → ((g : ℕ) → g < 9 → m ≡ ibase u + (1 + g) → ⊥) → get_or (store_interface b u n) m 0 ≡ get_or b m 0
  store_interface_out m h = past m (h 8 (omega arith)) ∙ writes_out (interface_words n) b (ibase u) 1 m (λ g l. h g (omega arith))

  pub store_interface_eighth : (v : ℕ) → get_or (store_interface b u n) (ibase v + 8) 0 ≡ get_or b (ibase v + 8) 0
  store_interface_eighth v = past (ibase v + 8) (λ e. omega arith) ∙ writes_out (interface_words n) b (ibase u) 1 (ibase v + 8) (λ g l e. omega arith)

  pub interface_same : GoodUp n.parent → interface_at (store_interface b u n) u ≡ n
  unfolding interface_at
  interface_same g =
      simp (
        inside_interface 0 (omega arith),
        inside_interface 1 (omega arith),
        inside_interface 2 (omega arith),
        inside_interface 3 (omega arith),
        inside_interface 4 (omega arith),
        inside_interface 5 (omega arith),
        inside_interface 6 (omega arith),
        inside_marks,
        up_back n.parent g,
        marks_back n.marks,
      )

  pub interface_other : (j : ℕ) → (j ≡ u → ⊥) → interface_at (store_interface b u n) j ≡ interface_at b j
  unfolding interface_at
  interface_other j ne =
      let o : (f : ℕ) → 0 < f → f < 10 → get_or (store_interface b u n) (ibase j + f) 0 ≡ get_or b (ibase j + f) 0 = λ f z l. store_interface_out (ibase j + f) (λ g l2 e. omega arith) in
      simp
      (o 1 (omega arith) (omega arith), o 2 (omega arith) (omega arith), o 3 (omega arith) (omega arith), o 4 (omega arith) (omega arith), o 5 (omega arith) (omega arith), o 6 (omega arith) (omega arith), o 7 (omega arith) (omega arith), o 9 (omega arith) (omega arith))

  pub store_interface_node : (k : ℕ) → node_at (store_interface b u n) k ≡ node_at b k
  unfolding node_at
  store_interface_node k =
      let o : (f : ℕ) → 0 < f → f < 13 → get_or (store_interface b u n) (base k + f) 0 ≡ get_or b (base k + f) 0 = λ f z l. store_interface_out (base k + f) (λ g l2 e. omega arith) in
      simp (
        o 1 (omega arith) (omega arith),
        o 2 (omega arith) (omega arith),
        o 3 (omega arith) (omega arith),
        o 4 (omega arith) (omega arith),
        o 5 (omega arith) (omega arith),
        o 6 (omega arith) (omega arith),
        o 7 (omega arith) (omega arith),
        o 8 (omega arith) (omega arith),
        o 9 (omega arith) (omega arith),
        o 10 (omega arith) (omega arith),
        o 11 (omega arith) (omega arith),
        o 12 (omega arith) (omega arith),
      )

-- ---- the next serial is no part of an interface or a node
pub interface_first : (b : List ℕ) (x u : ℕ) → interface_at (set b 0 x) u ≡ interface_at b u
unfolding interface_at
interface_first b x u =
    let o : (f : ℕ) → 0 < f → get_or (set b 0 x) (ibase u + f) 0 ≡ get_or b (ibase u + f) 0 = λ f z. get_or-set_other b 0 (ibase u + f) x 0 (λ e. omega arith) in
    simp
    (o 1 (omega arith), o 2 (omega arith), o 3 (omega arith), o 4 (omega arith), o 5 (omega arith), o 6 (omega arith), o 7 (omega arith), o 9 (omega arith))

pub node_first : (b : List ℕ) (x k : ℕ) → node_at (set b 0 x) k ≡ node_at b k
unfolding node_at
node_first b x k =
    let o : (f : ℕ) → get_or (set b 0 x) (base k + f) 0 ≡ get_or b (base k + f) 0 = λ f. get_or-set_other b 0 (base k + f) x 0 (λ e. omega arith) in
    simp (o 1, o 2, o 3, o 4, o 5, o 6, o 7, o 8, o 9, o 10, o 11, o 12)
