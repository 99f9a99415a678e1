-- The text of a picture: JSON without spaces or newline, with the names of its keys as a parameter. 34 is a quote, 44 a comma, 58 a colon, 91 and 93 are
-- brackets, 123 and 125 braces. Assumes nothing.
use Rattle.std.specs.Prelude.{ℕ, zero, suc, Bool, true, false, List, [], ◌∷◌, ◌++◌, None, Option, Some}
use Rattle.ledger_spec.specs.Bench.{State, grows, stays, shrinks, rate}
use Rattle.ledger_spec.specs.Bytes.{bytes}
use Rattle.ledger_spec.specs.Decimals.{decimal, signed}
use Rattle.picture_spec.specs.Sketch.{Linked, Shape, vertex, circle, Seen, Sketch}

-- ---- names

pub record Names : Type 0 where
  pub speed : List ℕ
  pub sum : List ℕ
  pub circle : List ℕ
  pub touching : List ℕ
  pub vertex : List ℕ
  pub state : List ℕ
  pub growth : List ℕ
  pub parent : List ℕ

unfoldable pub short : Names
short = record {
  speed = bytes "s";
  sum = bytes "d";
  circle = bytes "o";
  touching = bytes "t";
  vertex = bytes "s";
  state = bytes "g";
  growth = bytes "u";
  parent = bytes "p";
}

unfoldable pub full : Names
full = record {
  speed = bytes "sum_grow_speed";
  sum = bytes "sum_dual_variables";
  circle = bytes "blossom";
  touching = bytes "touching_children";
  vertex = bytes "defect_vertex";
  state = bytes "grow_state";
  growth = bytes "unit_growth";
  parent = bytes "parent_blossom";
}

-- abbreviated, or not
unfoldable pub names_by : Bool → Names
names_by true = short
names_by false = full

-- ---- parts

unfoldable pub quoted : List ℕ → List ℕ
quoted s = 34 ∷ (s ++ (34 ∷ []))

unfoldable pub key : List ℕ → List ℕ
key s = quoted s ++ (58 ∷ [])

abbrev pub null : List ℕ
null = bytes "null"

-- a comma before each item but the first, which has 0 items before it
abbrev pub comma : ℕ → List ℕ
comma zero = []
comma (suc i) = 44 ∷ []

unfoldable pub items : {A : Type 0} → (A → List ℕ) → ℕ → List A → List ℕ
items f i [] = []
items f i (x ∷ xs) = comma i ++ (f x ++ items f 1 xs)

unfoldable pub array : {A : Type 0} → (A → List ℕ) → List A → List ℕ
array f xs = 91 ∷ (items f 0 xs ++ (93 ∷ []))

-- ---- a node

unfoldable pub pair_text : Linked → List ℕ
pair_text m = 91 ∷ (decimal m.1.0 ++ (44 ∷ (decimal m.1.1 ++ (93 ∷ []))))

abbrev pub index_text : Linked → List ℕ
index_text m = decimal m.0

unfoldable pub circle_text : Shape → List ℕ
circle_text (vertex v) = null
circle_text (circle ms) = array index_text ms

unfoldable pub touch_text : Shape → List ℕ
touch_text (vertex v) = null
touch_text (circle ms) = array pair_text ms

unfoldable pub vertex_text : Shape → List ℕ
vertex_text (vertex v) = decimal v
vertex_text (circle ms) = null

unfoldable pub state_text : State → List ℕ
state_text grows = quoted (bytes "grow")
state_text stays = quoted (bytes "stay")
state_text shrinks = quoted (bytes "shrink")

unfoldable pub growth_text : State → List ℕ
growth_text s = signed (rate s)

unfoldable pub parent_text : Option ℕ → List ℕ
parent_text None = null
parent_text (Some k) = decimal k

module _ (ns : Names) where
  unfoldable pub node_text : Seen → List ℕ
  node_text n =
      (123 ∷ key ns.circle) ++ (circle_text n.shape
      ++ ((44 ∷ key ns.touching) ++ (touch_text n.shape
      ++ ((44 ∷ key ns.vertex) ++ (vertex_text n.shape
      ++ ((44 ∷ key ns.state) ++ (state_text n.state
      ++ ((44 ∷ key ns.growth) ++ (growth_text n.state
      ++ ((44 ∷ key ns.parent) ++ (parent_text n.parent
      ++ (125 ∷ []))))))))))))

  unfoldable pub slot_text : Option Seen → List ℕ
  slot_text None = null
  slot_text (Some n) = node_text n

  -- the whole
  unfoldable pub text_of : Sketch → List ℕ
  text_of s =
      (123 ∷ (key (bytes "interface") ++ (123 ∷ key ns.speed))) ++ (signed s.speed
      ++ ((44 ∷ key ns.sum) ++ (signed s.sum
      ++ ((125 ∷ 44 ∷ key (bytes "dual_nodes")) ++ (array slot_text s.nodes
      ++ (125 ∷ []))))))
