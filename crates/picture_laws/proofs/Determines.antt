-- A picture determines what it shows: with the same names, two interfaces with one text have the same speed, sum, states, classes, circles, touching indices
-- and parents. It needs neither a sound bench nor a check of 0. Assumes nothing.
use Rattle.std.specs.Prelude.{None, Option, Some}
use Prim.Native.Nat.{ℕ}
use native.Mathlib.Omega.{arith}
use mathlib.Core.Path.{◌≡◌, refl, sym, ◌∙◌, ap, ap₂}
use mathlib.Core.Bool.{Bool}
use mathlib.Core.List.{List, [], ◌∷◌, ◌++◌, append_assoc, map}
use Rattle.ledger_spec.specs.Bench.{State, grows, stays, shrinks, Bench}
use Rattle.ledger_spec.specs.Bytes.{bytes}
use Rattle.ledger_spec.specs.Decimals.{decimal}
use Rattle.picture_spec.specs.Sketch.{Linked, Shape, vertex, circle, Seen, Sketch, sketch_of}
use Rattle.picture_spec.specs.Text.{Names, names_by, quoted, key, array, pair_text, index_text, circle_text, touch_text, vertex_text, state_text, growth_text, parent_text, node_text, slot_text, text_of}
use Rattle.picture_spec.specs.Picture.{picture}
use Rattle.picture_laws.proofs.Codes.{Stop, Tells, Opens, heads, tails, cancel, digits, not_digit, decimal_tells, signed_tells, array_tells}

-- ---- the members of a circle, by both lists
index_tells : Tells index_text (λ (m : Linked). m.0)
index_tells m n s t p q e = decimal_tells m.0 n.0 s t p q e

index_opens : Opens index_text
index_opens m s t e = not_digit (digits m.0) 93 s t refl e

pair_split : (m : Linked) (s : List ℕ) → pair_text m ++ s ≡ 91 ∷ (decimal m.1.0 ++ (44 ∷ (decimal m.1.1 ++ (93 ∷ s))))
unfolding pair_text
pair_split m s = ap (λ (l : List ℕ). 91 ∷ l) (append_assoc (decimal m.1.0) (44 ∷ (decimal m.1.1 ++ (93 ∷ []))) s
    ∙ ap (λ (l : List ℕ). decimal m.1.0 ++ (44 ∷ l)) (append_assoc (decimal m.1.1) (93 ∷ []) s))

pair_tells : Tells pair_text (λ (m : Linked). m.1)
pair_tells m n s t p q e =
    let a = tails (sym (pair_split m s) ∙ e ∙ pair_split n t) in
    let b = decimal_tells m.1.0 n.1.0 (44 ∷ (decimal m.1.1 ++ (93 ∷ s))) (44 ∷ (decimal n.1.1 ++ (93 ∷ t))) refl refl a in
    let c = decimal_tells m.1.1 n.1.1 (93 ∷ s) (93 ∷ t) refl refl (tails b.1) in
    (ap₂ (λ (x y : ℕ). (x, y)) b.0 c.0, tails c.1)

pair_opens : Opens pair_text
pair_opens m s t e = let h : ◌≡◌ {A = ℕ} 91 93 = heads (sym (pair_split m s) ∙ e) in omega arith

both : (xs ys : List Linked) → map (λ (m : Linked). m.0) xs ≡ map (λ (m : Linked). m.0) ys → map (λ (m : Linked). m.1) xs ≡ map (λ (m : Linked). m.1) ys → xs ≡ ys
both [] [] p q = refl
both [] (y ∷ ys) p q = let z : ◌≡◌ {A = List ℕ} [] (y.0 ∷ map (λ (m : Linked). m.0) ys) = p in let h : ◌≡◌ {A = ℕ} 0 1 = cc in absurd (omega arith)
both (x ∷ xs) [] p q = let z : ◌≡◌ {A = List ℕ} (x.0 ∷ map (λ (m : Linked). m.0) xs) [] = p in let h : ◌≡◌ {A = ℕ} 0 1 = cc in absurd (omega arith)
both (x ∷ xs) (y ∷ ys) p q =
    let r = both xs ys (later p) (later q) in
    ap₂ (λ (a : Linked) (l : List Linked). a ∷ l) (ap₂ (λ (a : ℕ) (b : ℕ × ℕ). (a, b)) (first 0 p) (first (0, 0) q)) r
  where
    later : {A : Type 0} {a b : A} {s t : List A} → ◌≡◌ {A = List A} (a ∷ s) (b ∷ t) → s ≡ t
    later e = cc

    first : {A : Type 0} {a b : A} {s t : List A} → A → ◌≡◌ {A = List A} (a ∷ s) (b ∷ t) → a ≡ b
    first d e = cc

-- ---- a node
state_tells : (x y : State) (s t : List ℕ) → state_text x ++ s ≡ state_text y ++ t → (x ≡ y) × (s ≡ t)
unfolding state_text quoted bytes
state_tells grows grows s t e = (refl, cancel (state_text grows) e)
state_tells stays stays s t e = (refl, cancel (state_text stays) e)
state_tells shrinks shrinks s t e = (refl, cancel (state_text shrinks) e)
state_tells grows stays s t e = let h : ◌≡◌ {A = ℕ} 103 115 = heads (tails e) in absurd (omega arith)
state_tells grows shrinks s t e = let h : ◌≡◌ {A = ℕ} 103 115 = heads (tails e) in absurd (omega arith)
state_tells stays grows s t e = let h : ◌≡◌ {A = ℕ} 115 103 = heads (tails e) in absurd (omega arith)
state_tells shrinks grows s t e = let h : ◌≡◌ {A = ℕ} 115 103 = heads (tails e) in absurd (omega arith)
state_tells stays shrinks s t e = let h : ◌≡◌ {A = ℕ} 116 104 = heads (tails (tails e)) in absurd (omega arith)
state_tells shrinks stays s t e = let h : ◌≡◌ {A = ℕ} 104 116 = heads (tails (tails e)) in absurd (omega arith)

parent_tells : Tells parent_text (λ (p : Option ℕ). p)
unfolding parent_text bytes
parent_tells None None s t p q e = (refl, tails (tails (tails (tails e))))
parent_tells None (Some n) s t p q e = absurd (not_digit (digits n) 110 t (117 ∷ 108 ∷ 108 ∷ s) refl (sym e))
parent_tells (Some m) None s t p q e = absurd (not_digit (digits m) 110 s (117 ∷ 108 ∷ 108 ∷ t) refl e)
parent_tells (Some m) (Some n) s t p q e = let r = decimal_tells m n s t p q e in (ap Some r.0, r.1)

-- a list does not begin as null does
not_null : {A : Type 0} (f : A → List ℕ) (xs : List A) (r t : List ℕ) → array f xs ++ r ≡ 110 ∷ t → ⊥
unfolding array
not_null f xs r t e = let h : ◌≡◌ {A = ℕ} 91 110 = heads e in omega arith

-- a node's three texts of its class
module _ (a b : List ℕ) where
  after : Shape → List ℕ → List ℕ
  after x s = a ++ (touch_text x ++ (b ++ (vertex_text x ++ s)))

  shape_tells : (x y : Shape) (s t : List ℕ) → Stop s → Stop t → circle_text x ++ after x s ≡ circle_text y ++ after y t → (x ≡ y) × (s ≡ t)
  unfolding after circle_text touch_text vertex_text bytes
  shape_tells (vertex v) (vertex w) s t p q e =
      let c = cancel a (tails (tails (tails (tails e)))) in
      let r = decimal_tells v w s t p q (cancel b (tails (tails (tails (tails c))))) in
      (ap vertex r.0, r.1)
  shape_tells (vertex v) (circle ms) s t p q e = absurd (not_null index_text ms (after (circle ms) t) _ (sym e))
  shape_tells (circle ms) (vertex w) s t p q e = absurd (not_null index_text ms (after (circle ms) s) _ e)
  shape_tells (circle ms) (circle ns) s t p q e =
      let x = array_tells index_text (λ (m : Linked). m.0) index_tells index_opens ms ns (after (circle ms) s) (after (circle ns) t) e in
      let y = array_tells pair_text (λ (m : Linked). m.1) pair_tells pair_opens ms ns (b ++ (vertex_text (circle ms) ++ s)) (b ++ (vertex_text (circle ns) ++ t)) (cancel a x.1) in
      (ap circle (both ms ns x.0 y.0), tails (tails (tails (tails (cancel b y.1)))))

module _ (ns : Names) where
  abbrev k : List ℕ → List ℕ
  k name = 44 ∷ key name

  -- what comes after the class, before more text
  rest : Seen → List ℕ → List ℕ
  rest n s = k ns.state ++ (state_text n.state ++ (k ns.growth ++ (growth_text n.state ++ (k ns.parent ++ (parent_text n.parent ++ (125 ∷ s))))))

  node_split : (n : Seen) (s : List ℕ) → node_text ns n ++ s ≡ (123 ∷ key ns.circle) ++ (circle_text n.shape ++ after (k ns.touching) (k ns.vertex) n.shape (rest n s))
  unfolding node_text rest after
  node_split n s = simp append_assoc

  rest_tells : (m n : Seen) (s t : List ℕ) → rest m s ≡ rest n t → (m.state ≡ n.state) × ((m.parent ≡ n.parent) × (s ≡ t))
  unfolding rest
  rest_tells m n s t e =
      let x = state_tells m.state n.state _ _ (cancel (k ns.state) e) in
      let g : growth_text m.state ≡ growth_text n.state = ap growth_text x.0 in
      let y = cancel (growth_text n.state) (ap (λ (l : List ℕ). l ++ (k ns.parent ++ (parent_text m.parent ++ (125 ∷ s)))) (sym g) ∙ cancel (k ns.growth) x.1) in
      let z = parent_tells m.parent n.parent (125 ∷ s) (125 ∷ t) refl refl (cancel (k ns.parent) y) in
      (x.0, (z.0, tails z.1))

  rest_stops : (n : Seen) (s : List ℕ) → Stop (rest n s)
  unfolding rest
  rest_stops n s = refl

  node_tells : Tells (node_text ns) (λ (n : Seen). n)
  node_tells m n s t p q e =
      let a = cancel (123 ∷ key ns.circle) (sym (node_split m s) ∙ e ∙ node_split n t) in
      let x = shape_tells (k ns.touching) (k ns.vertex) m.shape n.shape (rest m s) (rest n t) (rest_stops m s) (rest_stops n t) a in
      let y = rest_tells m n s t x.1 in
      ((λ i. record { shape = x.0 i; state = y.0 i; parent = y.1.0 i }), y.1.1)

  slot_tells : Tells (slot_text ns) (λ (n : Option Seen). n)
  unfolding slot_text bytes
  slot_tells None None s t p q e = (refl, tails (tails (tails (tails e))))
  slot_tells None (Some n) s t p q e = let h : ◌≡◌ {A = ℕ} 110 123 = heads (e ∙ node_split n t) in absurd (omega arith)
  slot_tells (Some m) None s t p q e = let h : ◌≡◌ {A = ℕ} 123 110 = heads (sym (node_split m s) ∙ e) in absurd (omega arith)
  slot_tells (Some m) (Some n) s t p q e = let r = node_tells m n s t p q e in (ap Some r.0, r.1)

  slot_opens : Opens (slot_text ns)
  unfolding slot_text bytes
  slot_opens None s t e = let h : ◌≡◌ {A = ℕ} 110 93 = heads e in omega arith
  slot_opens (Some n) s t e = let h : ◌≡◌ {A = ℕ} 123 93 = heads (sym (node_split n s) ∙ e) in omega arith

  same_map : (xs ys : List (Option Seen)) → map (λ (n : Option Seen). n) xs ≡ map (λ (n : Option Seen). n) ys → xs ≡ ys
  same_map xs ys e = sym (plain xs) ∙ e ∙ plain ys
    where
      plain : (zs : List (Option Seen)) → map (λ (n : Option Seen). n) zs ≡ zs
      plain [] = refl
      plain (z ∷ zs) = ap (λ (l : List (Option Seen)). z ∷ l) (plain zs)

  -- ---- the whole
  pub text_determines : (x y : Sketch) → text_of ns x ≡ text_of ns y → x ≡ y
  unfolding text_of
  text_determines x y e =
      let a = cancel (123 ∷ (key (bytes "interface") ++ (123 ∷ key ns.speed))) e in
      let s = signed_tells x.speed y.speed _ _ refl refl a in
      let d = signed_tells x.sum y.sum _ _ refl refl (cancel (k ns.sum) s.1) in
      let r = array_tells (slot_text ns) (λ (n : Option Seen). n) slot_tells slot_opens x.nodes y.nodes (125 ∷ []) (125 ∷ []) (cancel (125 ∷ 44 ∷ key (bytes "dual_nodes")) d.1) in
      let n = same_map x.nodes y.nodes r.0 in
      λ i. record { speed = s.0 i; sum = d.0 i; nodes = n i }

-- with the same names, equal pictures are of interfaces that show the same
pub picture_determines : (b c : Bench) (u w : ℕ) (a : Bool) → picture b u a ≡ picture c w a → sketch_of b u ≡ sketch_of c w
unfolding picture
picture_determines b c u w a e = text_determines (names_by a) (sketch_of b u) (sketch_of c w) e
