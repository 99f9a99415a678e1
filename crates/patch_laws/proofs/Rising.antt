-- A renaming of serials that keeps their order: what the patch's numbers do not feel, and that serials not yet given out may be renamed anew.
-- Assumes nothing.
use Rattle.std.specs.Prelude.{None, Option, Some}
use Prim.Native.Nat.{ℕ, zero, suc, ◌+◌, ◌-◌, ◌≤◌, ◌<◌}
use mathlib.Core.Path.{◌≡◌, refl, sym, ◌∙◌, ap, ap₂}
use mathlib.Core.Logic.{◌≢◌}
use mathlib.Core.Bool.{Bool, true, false, ◌&&◌}
use mathlib.Core.List.{List, [], ◌∷◌, map}
use native.Mathlib.Omega.{arith}
use native.Mathlib.Decide.{dec_lt}
use lib.Dec.{eqb, ltb}
use lib.ListN.{get_or}
use borrow.Author.Tests.{eq-eqb, ne_eqb, lt-ltb, le-ltb}
use Rattle.ledger_spec.specs.Bench.{Handle, Member, Class, defect, blossom, Node, Bench, with_slots}
use Rattle.ledger_spec.specs.Look.{interface, slot_of}
use Rattle.ledger_spec.specs.Notices.{Notice}
use Rattle.ledger_spec.specs.Knit.{In, here, there}
use Rattle.ledger_spec.specs.Facts.{Sound}
use Rattle.ledger_spec.proofs.Lists.{in_map}
use Rattle.patch_laws.specs.Patch.{Patch, Table, number_from, Name, name_of}
use Rattle.patch_laws.specs.Runs.{defect_added, state_set, shrink_prepared, blossom_added, blossom_removed, heard}
use Rattle.patch_laws.proofs.Renamed.{Renaming, re_parent, re_member, re_class, re_node, re_slot, re_face}
use Rattle.patch_laws.proofs.Faces.{Faces}
use Rattle.patch_laws.proofs.Alike.{Names}
use Rattle.patch_laws.proofs.Deeds.{re_notice}

abbrev pub by : (ℕ → ℕ) → Renaming
by ρ = record { serial = ρ; handle = λ h. record { unit = h.unit; slot = h.slot; serial = ρ h.serial } }

-- rising, and from n on, which was not given out yet, in step with m
pub record Rising (ρ : ℕ → ℕ) (n m : ℕ) : Type 0 where
  pub origin : ρ 0 ≡ 0
  pub order : (i j : ℕ) → i < j → ρ i < ρ j
  pub tail : (i : ℕ) → n ≤ i → ρ i + n ≡ m + i

module _ (ρ : ℕ → ℕ) (n m : ℕ) (r : Rising ρ n m) where
  pub rising_next : ρ n ≡ m
  rising_next = omega (arith, r.tail n (omega arith))

  pub rising_more : Rising ρ (suc n) (suc m)
  rising_more = record { origin = r.origin; order = r.order; tail = λ i h. omega (arith, r.tail i (omega arith)) }

  pub rising_above : (i : ℕ) → i ≤ ρ i
  rising_above zero = omega arith
  rising_above (suc i) = omega (arith, rising_above i, r.order i (suc i) (omega arith))

  pub rising_least : n ≤ m
  rising_least = omega (arith, rising_above n, rising_next)

  pub rising_one : (i j : ℕ) → eqb (ρ i) (ρ j) ≡ eqb i j
  rising_one i j = go (dec_lt i j) (dec_lt j i)
    where
      apart : ρ i ≢ ρ j → i ≢ j → eqb (ρ i) (ρ j) ≡ eqb i j
      apart x y = ne_eqb (ρ i) (ρ j) x ∙ sym (ne_eqb i j y)

      go : Dec (i < j) → Dec (j < i) → eqb (ρ i) (ρ j) ≡ eqb i j
      go (yes x) y = apart (λ z. omega (arith, z, r.order i j x)) (λ z. omega arith)
      go (no x) (yes y) = apart (λ z. omega (arith, z, r.order j i y)) (λ z. omega arith)
      go (no x) (no y) = let z : i ≡ j = omega arith in eq-eqb (ρ i) (ρ j) (ap ρ z) ∙ sym (eq-eqb i j z)

  pub rising_names : (p : Patch) → Names p (by ρ)
  rising_names p = record { plain = λ h k. refl; one = rising_one }

-- the same below n, and in step with a later m from n on
pick : Bool → ℕ → ℕ → ℕ
pick true x y = x
pick false x y = y

pub shifted : (ℕ → ℕ) → ℕ → ℕ → ℕ → ℕ
shifted ρ n m i = pick (ltb i n) (ρ i) (m + (i - n))

module _ (ρ : ℕ → ℕ) (n m : ℕ) where
  pub shifted_low : (i : ℕ) → i < n → shifted ρ n m i ≡ ρ i
  unfolding shifted pick
  shifted_low i h = ap (λ (c : Bool). pick c (ρ i) (m + (i - n))) (lt-ltb i n h)

  shifted_high : (i : ℕ) → n ≤ i → shifted ρ n m i ≡ m + (i - n)
  unfolding shifted pick
  shifted_high i h = ap (λ (c : Bool). pick c (ρ i) (m + (i - n))) (le-ltb i n h)

  pub rising_shift : (l : ℕ) → l ≤ m → 1 ≤ n → Rising ρ n l → Rising (shifted ρ n m) n m
  rising_shift l less begun r = record {
    origin = shifted_low 0 (omega arith) ∙ r.origin;
    order = λ i j h. go i j h (dec_lt i n) (dec_lt j n);
    tail = λ i h. omega (arith, shifted_high i h, h);
  }
    where
      go : (i j : ℕ) → i < j → Dec (i < n) → Dec (j < n) → shifted ρ n m i < shifted ρ n m j
      go i j h (yes x) (yes y) = omega (arith, shifted_low i x, shifted_low j y, r.order i j h)
      go i j h (yes x) (no y) = omega (arith, shifted_low i x, shifted_high j (omega arith), r.order i n x, rising_next ρ n l r)
      go i j h (no x) (yes y) = absurd (omega arith)
      go i j h (no x) (no y) = omega (arith, shifted_high i (omega arith), shifted_high j (omega arith))

-- ---- numbers do not feel it
module _ (ρ : ℕ → ℕ) (one : (i j : ℕ) → eqb (ρ i) (ρ j) ≡ eqb i j) where
  number_faces : (k : ℕ) (t : Table) (h : Handle) → number_from k (map (by ρ).handle t) ((by ρ).handle h) ≡ number_from k t h
  unfolding number_from
  number_faces k [] h = refl
  number_faces k (g ∷ t) h = ap₂ (λ (c : Bool) (o : Option ℕ). elim c as (λ x. Option ℕ) [ true ↦ Some k | false ↦ o ]) (ap (λ (c : Bool). (eqb g.unit h.unit && eqb g.slot h.slot) && c) (one g.serial h.serial)) (number_faces (suc k) t h)

  pub name_same : (t : Table) (h : Handle) → name_of (map (by ρ).handle t) ((by ρ).handle h) ≡ name_of t h
  name_same t h = λ i. record { unit = h.unit; slot = h.slot; number = number_faces 0 t h i }

  names_same : (t : Table) (hs : List Handle) → map (name_of (map (by ρ).handle t)) (map (by ρ).handle hs) ≡ map (name_of t) hs
  names_same t [] = refl
  names_same t (h ∷ hs) = ap₂ ◌∷◌ (name_same t h) (names_same t hs)

  heard_same : (t : Table) (x : Notice) → heard (map (by ρ).handle t) (re_notice (by ρ) x) ≡ heard t x
  heard_same t (Notice.defect_added h) = ap defect_added (name_same t h)
  heard_same t (Notice.state_set h s) = ap (λ (o : Name). state_set o s) (name_same t h)
  heard_same t (Notice.shrink_prepared hs) = ap shrink_prepared (names_same t hs)
  heard_same t (Notice.blossom_added h) = ap blossom_added (name_same t h)
  heard_same t (Notice.blossom_removed h) = ap blossom_removed (name_same t h)
  heard_same t (Notice.grown l) = refl

  pub all_heard : (t : Table) (xs : List Notice) → map (heard (map (by ρ).handle t)) (map (re_notice (by ρ)) xs) ≡ map (heard t) xs
  all_heard t [] = refl
  all_heard t (x ∷ xs) = ap₂ ◌∷◌ (heard_same t x) (all_heard t xs)

-- ---- two renamings that agree on the serials given out rename a bench alike
map_agree : {A B : Type 0} (f g : A → B) (l : List A) → ((x : A) → In x l → f x ≡ g x) → map f l ≡ map g l
map_agree f g [] e = refl
map_agree f g (x ∷ xs) e = ap₂ ◌∷◌ (e x (here refl)) (map_agree f g xs (λ y i. e y (there i)))

module _ (ρ σ : ℕ → ℕ) (s : Bench) (e : (i : ℕ) → i < s.next → ρ i ≡ σ i) where
  handle_agree : (h : Handle) → h.serial < s.next → (by ρ).handle h ≡ (by σ).handle h
  handle_agree h l = ap (λ (k : ℕ). record { unit = h.unit; slot = h.slot; serial = k }) (e h.serial l)

  pub table_agree : (t : Table) → ((h : Handle) → In h t → h.serial < s.next) → map (by ρ).handle t ≡ map (by σ).handle t
  table_agree t old = map_agree (by ρ).handle (by σ).handle t (λ h i. handle_agree h (old h i))

  slots_agree : (l : List (Option Node)) → ((k : ℕ) (n : Node) → get_or l k None ≡ Some n → re_node (by ρ) n ≡ re_node (by σ) n) → map (re_slot (by ρ)) l ≡ map (re_slot (by σ)) l
  slots_agree [] a = refl
  slots_agree (None ∷ xs) a = ap {B = List (Option Node)} (λ l. None ∷ l) (slots_agree xs (λ k. a (suc k)))
  slots_agree (Some n ∷ xs) a = ap₂ {C = List (Option Node)} (λ x l. Some x ∷ l) (a 0 n refl) (slots_agree xs (λ k. a (suc k)))

  module _ (S : Sound s) where
    low : (u k : ℕ) (n : Node) → slot_of s u k ≡ Some n → n.serial < s.next
    low u k n q = (S.sewn.knit.low u k n q).1

    member_agree : (u k : ℕ) (n : Node) → slot_of s u k ≡ Some n → (ms : List Member) → n.class ≡ blossom ms → (m : Member) → In m ms → re_member (by ρ) m ≡ re_member (by σ) m
    member_agree u k n q ms r m i =
        let D = S.sewn.knit.down u k n ms m.node q r (in_map (λ (x : Member). x.node) i) in
        let T = ((S.rings u k n q).circle ms r).touching m i in
        let a : m.node.serial < s.next = omega (arith, D.has.serial, low m.node.unit m.node.slot D.node D.has.stands) in
        λ j. record { node = handle_agree m.node a j; touch = (handle_agree m.touch.0 T.0.serial j, handle_agree m.touch.1 T.1.serial j) }

    node_agree : (u k : ℕ) (n : Node) → slot_of s u k ≡ Some n → re_node (by ρ) n ≡ re_node (by σ) n
    node_agree u k n q = λ j. record { serial = e n.serial (low u k n q) j; class = class n.class refl j; state = n.state; parent = parent n.parent refl j; value = n.value; size = n.size }
      where
        class : (c : Class) → n.class ≡ c → re_class (by ρ) c ≡ re_class (by σ) c
        class (defect v) r = refl
        class (blossom ms) r = ap blossom (map_agree (re_member (by ρ)) (re_member (by σ)) ms (member_agree u k n q ms r))

        parent : (o : Option Handle) → n.parent ≡ o → re_parent (by ρ) o ≡ re_parent (by σ) o
        parent None f = refl
        parent (Some h) f = let U = S.sewn.knit.up u k n h q f in
            ap Some (handle_agree h (omega (arith, U.has.serial, low h.unit h.slot U.over U.has.stands)))

    face_agree : (w : ℕ) → re_face (by ρ) (interface s w) ≡ re_face (by σ) (interface s w)
    face_agree w = ap (with_slots (interface s w))
        (slots_agree (interface s w).slots (λ k n q. node_agree w k n q))

    pub faces_agree : (p : Patch) (b : Bench) → Faces p (by ρ) s b → Faces p (by σ) s b
    faces_agree p b F = record { long = F.long; face = λ w m. F.face w m ∙ face_agree w }
