-- The look-up of vertices by their pairs (structural hashing), over lists of words.
--
-- `pairs` has two words a vertex. Inputs and merged vertices hold equal words, which are never entered and never asked for. `look` has a head for each of its
-- places, then a next word for each vertex. A head or a next word is a vertex number, 0 for none: vertex 0 is the constant and is never entered.
use Rattle.std.specs.Prelude.{◌%◌, ◌*◌, ◌+◌, ◌<◌, ◌^◌, ◌≤◌, suc, zero, ℕ, eqb, drop, get_or, length, replicate, set, Bool, ◌&&◌, cond, List, [], ◌++◌, ◌∷◌, ◌≡◌, Option, Some, None}

-- The first of the two words of a vertex.
abbrev pub first_word : List ℕ → ℕ → ℕ
first_word pairs v = get_or pairs (2 * v) 0

-- The second of the two words of a vertex.
abbrev pub second_word : List ℕ → ℕ → ℕ
second_word pairs v = get_or pairs (2 * v + 1) 0

-- The pairs with the words of vertex v set.
abbrev pub with_row : List ℕ → ℕ → ℕ → ℕ → List ℕ
with_row pairs v p q = set (set pairs (2 * v) p) (2 * v + 1) q

-- The words of n vertices from v on that stand for themselves: each holds its own literal twice.
unfoldable pub own_words : ℕ → ℕ → List ℕ
own_words v zero = []
own_words v (suc n) = 2 * v ∷ 2 * v ∷ own_words (suc v) n

-- Whether the words of vertex v are p and q.
abbrev pub has_pair : List ℕ → ℕ → ℕ → ℕ → Bool
has_pair pairs v p q = eqb (first_word pairs v) p && eqb (second_word pairs v) q

-- What was found, or else vertex v where it has the pair.
abbrev pub or_here : Option ℕ → Bool → ℕ → Option ℕ
or_here (Some u) b v = Some u
or_here None b v = cond b (Some v) None

-- "Found: the pair already has a vertex." The first vertex below a count whose words are p and q, or none. (RULES 3.5)
unfoldable pub first_vertex : List ℕ → ℕ → ℕ → ℕ → Option ℕ
first_vertex pairs p q zero = None
first_vertex pairs p q (suc n) = or_here (first_vertex pairs p q n) (has_pair pairs n p q) n

-- "A pair's first place in the look-up is a wrapping 32-bit sum of its references, reduced to the look-up's length; the search
-- goes on from there." (RULES 3.7)
unfoldable pub first_place : ℕ → ℕ → ℕ → ℕ
first_place places p q = (p + q) % 2 ^ 32 % places

-- The look-up with every head none.
abbrev pub cleared : List ℕ → ℕ → List ℕ
cleared look places = replicate places 0 ++ drop places look

-- The head of a place.
abbrev pub head_of : List ℕ → ℕ → ℕ
head_of look place = get_or look place 0

-- The next word of a vertex.
abbrev pub next_of : List ℕ → ℕ → ℕ → ℕ
next_of look places v = get_or look (places + v) 0

-- The look-up with vertex v at the head of its pair's place, before the vertex that was there.
abbrev pub entered : List ℕ → ℕ → ℕ → ℕ → ℕ → List ℕ
entered look places v p q =
    set (set look (places + v) (head_of look (first_place places p q))) (first_place places p q) v

-- The words of vertex v are p and q.
pub record HoldsRow (pairs : List ℕ) (v p q : ℕ) : Type 0 where
  pub first : first_word pairs v ≡ p
  pub second : second_word pairs v ≡ q

-- No vertex below n has the words p and q.
abbrev pub Unused : List ℕ → ℕ → ℕ → ℕ → Type 0
Unused pairs p q n = (v : ℕ) → v < n → HoldsRow pairs v p q → ⊥

-- Vertex v is the first below n with the words p and q.
pub record First (pairs : List ℕ) (p q n v : ℕ) : Type 0 where
  pub within : v < n
  pub holds : HoldsRow pairs v p q
  pub unused-before : Unused pairs p q v

-- Vertex v has an entry: its words differ.
abbrev pub Entered : List ℕ → ℕ → Type 0
Entered pairs v = first_word pairs v ≡ second_word pairs v → ⊥

-- The place of vertex v's own pair.
abbrev pub place_of : List ℕ → ℕ → ℕ → ℕ
place_of pairs places v = first_place places (first_word pairs v) (second_word pairs v)

-- Entry e is the highest vertex below n that is entered at a place, or none.
pub record Highest (pairs : List ℕ) (places place n e : ℕ) : Type 0 where
  pub within : 1 ≤ e → e < n
  pub is-entered : 1 ≤ e → Entered pairs e
  pub placed : 1 ≤ e → place_of pairs places e ≡ place
  pub none_above : (v : ℕ) → e < v → v < n → Entered pairs v → place_of pairs places v ≡ place → ⊥

-- The look-up holds the entered vertices below count, each once: a head is its place's highest vertex, a next word the next lower one of the same place.
pub record Indexed (pairs : List ℕ) (count : ℕ) (look : List ℕ) (places : ℕ) : Type 0 where
  pub some-place : 1 ≤ places
  pub count_fits : count ≤ places
  pub look-fits : 2 * places ≤ length look
  pub pairs-fit : 2 * count ≤ length pairs
  pub constant : 1 ≤ count → first_word pairs 0 ≡ second_word pairs 0
  pub once : (u v : ℕ) → u < count → v < count → Entered pairs u → HoldsRow pairs v (first_word pairs u) (second_word pairs u) → u ≡ v
  pub heads : (place : ℕ) → place < places → Highest pairs places place count (head_of look place)
  pub nexts : (v : ℕ) → v < count → Entered pairs v → Highest pairs places (place_of pairs places v) v (next_of look places v)

-- Two lists of words agree on the vertices below n.
abbrev pub Agree : List ℕ → List ℕ → ℕ → Type 0
Agree pairs other n = (i : ℕ) → i < 2 * n → get_or other i 0 ≡ get_or pairs i 0
