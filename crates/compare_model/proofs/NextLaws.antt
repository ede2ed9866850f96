-- A problem with further vertices after its own, each the AND of two literals of its own vertices.
use Prim.Native.Nat.{◌*◌, ◌+◌, ◌-◌, ◌<◌, ◌≤◌, suc, zero, ℕ}
use Rattle.aig.proofs.LiteralLaws.{vertex-below}
use Rattle.aig.specs.Literal.{vertex_of}
use Rattle.aig.specs.Lookup.{HoldsRow, first_word, second_word}
use Rattle.compare_model.specs.Compare.{row_words}
use Rattle.sweep_model.proofs.Functions.{literal-perfect}
use Rattle.sweep_model.specs.Fit.{Fit, Sound, vertex_count}
use Rattle.sweep_model.specs.State.{Problem, function_of, literal_function}
use Rattle.table.specs.Accepted.{RowBelow}
use Rattle.table.specs.Values.{Pair}
use Rattle.truth.proofs.Values.{perfect-conj}
use Rattle.truth.specs.Truth.{Perfect, Truth, conj, constantly}
use Rattle.std.proofs.lemmas.List.{get_or-map}
use lib.ListN.{get_or-append, get_or, length, length-append, length-map, take}
use lib.Seq.{get_or-append-add, get_or-take, length-take-le}
use mathlib.Core.Bool.{false}
use mathlib.Core.List.{List, [], ◌++◌, ◌∷◌, map}
use mathlib.Core.Path.{◌∙◌, ◌≡◌, ap, refl, subst}
use native.Mathlib.Decide.{dec_lt}
use native.Mathlib.Omega.{arith}

-- A row has two words.
pub length_row_words : (rs : List Pair) → length (row_words rs) ≡ 2 * length rs
unfolding row_words
length_row_words [] = refl
length_row_words (r ∷ rs) = omega (arith, length_row_words rs)

-- Row i has words 2i and 2i + 1.
row_words-at : (rs : List Pair) (i : ℕ) → i < length rs → HoldsRow (row_words rs) i (get_or rs i (0, 0)).0 (get_or rs i (0, 0)).1
unfolding row_words
row_words-at [] i h = absurd (omega arith)
row_words-at (r ∷ rs) zero h = record { first = refl; second = refl }
row_words-at (r ∷ rs) (suc i) h =
    let w = row_words-at rs i (omega arith) in
    let f : 2 * suc i ≡ suc (suc (2 * i)) = omega arith in
    let s : 2 * suc i + 1 ≡ suc (suc (2 * i + 1)) = omega arith in
    record {
      first = ap (λ (n : ℕ). get_or (r.0 ∷ r.1 ∷ row_words rs) n 0) f ∙ w.first;
      second = ap (λ (n : ℕ). get_or (r.0 ∷ r.1 ∷ row_words rs) n 0) s ∙ w.second;
    }

-- The words of some vertices' rows, and of further ones after them.
module _ (rows : List ℕ) (next : List Pair) (n : ℕ) (long : length rows ≡ 2 * n) where
  -- A vertex among the former has its row,
  pub row-front : (v : ℕ) → v < n → HoldsRow (rows ++ row_words next) v (first_word rows v) (second_word rows v)
  row-front v h =
      record {
        first = get_or-append rows (row_words next) 0 (2 * v) (omega arith);
        second = get_or-append rows (row_words next) 0 (2 * v + 1) (omega arith);
      }

  -- and a further one its own.
  pub row_next : (i : ℕ) → i < length next → HoldsRow (rows ++ row_words next) (n + i) (get_or next i (0, 0)).0 (get_or next i (0, 0)).1
  row_next i h =
      let w = row_words-at next i h in
      record {
        first = word (2 * i) (2 * (n + i)) (omega arith) ∙ w.first;
        second = word (2 * i + 1) (2 * (n + i) + 1) (omega arith) ∙ w.second;
      }
    where
      word : (j at : ℕ) → at ≡ length rows + j → get_or (rows ++ row_words next) at 0 ≡ get_or (row_words next) j 0
      word j at e = rw e (get_or-append-add rows (row_words next) j 0)

-- The function of a row of a problem's literals.
abbrev pub pair_function : Problem → Pair → Truth
pair_function p r = conj (literal_function p r.0) (literal_function p r.1)

-- The problem with the vertices of such rows, and two other literals looked at.
abbrev pub extended : Problem → List Pair → ℕ → ℕ → Problem
extended p next l r =
    record {
      inputs = p.inputs;
      functions = p.functions ++ map (pair_function p) next;
      first = p.first;
      left = l;
      right = r;
      limits = p.limits;
    }

module _ (p : Problem) (next : List Pair) (l r : ℕ) where
  abbrev more : Problem
  more = extended p next l r

  -- So many vertices more.
  pub count_extended : vertex_count (extended p next l r) ≡ vertex_count p + length next
  count_extended = length-append p.functions (map (pair_function p) next) ∙ ap (λ (n : ℕ). vertex_count p + n) (length-map next _)

  -- A vertex of its own keeps its function,
  pub function_front : (v : ℕ) → v < vertex_count p → function_of (extended p next l r) v ≡ function_of p v
  function_front v h = get_or-append p.functions (map (pair_function p) next) (constantly p.inputs false) v h

  -- and so does a literal,
  pub literal-front : (x : ℕ) → x < 2 * vertex_count p → literal_function (extended p next l r) x ≡ literal_function p x
  literal-front x h = rw (function_front (vertex_of x) (vertex-below x (vertex_count p) h))

  -- and a further vertex has its row's.
  pub function_next : (i : ℕ) → i < length next → function_of (extended p next l r) (vertex_count p + i) ≡ pair_function p (get_or next i (0, 0))
  function_next i h =
      get_or-append-add p.functions (map (pair_function p) next) i (constantly p.inputs false) ∙ get_or-map (pair_function p) next i (0, 0) _ h

  -- A vertex is one of its own or a further one.
  pub each-vertex : (P : ℕ → Type 0) → ((v : ℕ) → v < vertex_count p → P v) → ((i : ℕ) → i < length next → P (vertex_count p + i))
      → (v : ℕ) → v < vertex_count (extended p next l r) → P v
  each-vertex P own further v h =
      elim (dec_lt v (vertex_count p)) [
        | yes k ↦ own v k
        | no k ↦
            (let e : vertex_count p + (v - vertex_count p) ≡ v = omega arith in
            subst P e (further (v - vertex_count p) (omega (arith, count_extended))))
      ]

  module _ {rows : List ℕ} (fit : Fit p rows) (long : length rows ≡ 2 * vertex_count p)
      (below : (i : ℕ) → i < length next → RowBelow (2 * vertex_count p) (get_or next i (0, 0))) where
    abbrev words : List ℕ
    words = rows ++ row_words next

    further_perfect : (i : ℕ) → i < length next → Perfect p.inputs (function_of (extended p next l r) (vertex_count p + i))
    further_perfect i h =
        rw (function_next i h)
        (perfect-conj (literal-perfect p fit.well_formed (get_or next i (0, 0)).0) (literal-perfect p fit.well_formed (get_or next i (0, 0)).1))

    -- The further vertices' rows mean their functions.
    Means : ℕ → Type 0
    Means v = function_of more v ≡ conj (literal_function more (first_word words v)) (literal_function more (second_word words v))

    -- What a sweep is started on is so with the further vertices, whichever literals are looked at.
    pub extended_fits : l < 2 * (vertex_count p + length next) → r < 2 * (vertex_count p + length next) → Fit (extended p next l r) (rows ++ row_words next)
    unfolding Means
    extended_fits left right =
        record {
          well_formed =
              record {
                perfect = each-vertex (λ v. Perfect p.inputs (function_of more v))
                    (λ v h. rw (function_front v h) (fit.well_formed.perfect v h)) further_perfect;
                constant = function_front 0 (omega (arith, fit.well_formed.some_first, fit.well_formed.first-within)) ∙ fit.well_formed.constant;
                inputs = λ v m h. function_front v (omega (arith, fit.well_formed.first-within)) ∙ fit.well_formed.inputs v m h;
                some_first = fit.well_formed.some_first;
                first-few = fit.well_formed.first-few;
                first-within = omega (arith, count_extended, fit.well_formed.first-within);
                left-within = rw count_extended left;
                right-within = rw count_extended right;
              };
          sound =
              record {
                downward =
                    record {
                      long = omega (arith, count_extended, length-append rows (row_words next), length_row_words next);
                      own = λ v h.
                          let f = row-front rows next (vertex_count p) long v (omega (arith, fit.well_formed.first-within)) in
                          let o = fit.sound.downward.own v h in
                          record { first = f.first ∙ o.first; second = f.second ∙ o.second };
                      first_below = λ v m h.
                          each-vertex (λ u. p.first ≤ u → first_word words u < 2 * u)
                          (λ u k n. rw (row-front rows next (vertex_count p) long u k).first (fit.sound.downward.first_below u n k))
                          (λ i k n. rw (row_next rows next (vertex_count p) long i k).first (omega (arith, (below i k).first))) v h m;
                      second_below = λ v m h.
                          each-vertex (λ u. p.first ≤ u → second_word words u < 2 * u)
                          (λ u k n. rw (row-front rows next (vertex_count p) long u k).second (fit.sound.downward.second_below u n k))
                          (λ i k n. rw (row_next rows next (vertex_count p) long i k).second (omega (arith, (below i k).second))) v h m;
                    };
                means = λ v m h.
                    each-vertex (λ u. p.first ≤ u → Means u) own-means
                    (λ i k n.
                    rw ((row_next rows next (vertex_count p) long i k).first, (row_next rows next (vertex_count p) long i k).second, literal-front (get_or next i (0, 0)).0 (below i k).first, literal-front (get_or next i (0, 0)).1 (below i k).second)
                    (function_next i k)) v h m;
              };
        }
      where
        own-means : (u : ℕ) → u < vertex_count p → p.first ≤ u → Means u
        own-means u k n =
            rw (
              (row-front rows next (vertex_count p) long u k).first,
              (row-front rows next (vertex_count p) long u k).second,
              literal-front (first_word rows u) (omega (arith, fit.sound.downward.first_below u n k)),
              literal-front (second_word rows u) (omega (arith, fit.sound.downward.second_below u n k)),
            ) (function_front u k ∙ fit.sound.means u n k)

  -- The front of sound rows is sound for the vertices of its own.
  pub front-sound : {rows : List ℕ} → Sound (extended p next l r) rows → p.first ≤ vertex_count p → Sound p (take (2 * vertex_count p) rows)
  front-sound {rows} h few =
      record {
        downward =
            record {
              long = omega (arith, length-take-le (2 * vertex_count p) rows enough);
              own = λ v m.
                  let k = h.downward.own v m in
                  record { first = first v (omega arith) ∙ k.first; second = second v (omega arith) ∙ k.second };
              first_below = λ v m k. rw (first v k) (h.downward.first_below v m (inside v k));
              second_below = λ v m k. rw (second v k) (h.downward.second_below v m (inside v k));
            };
        means = λ v m k.
            rw (
              first v k,
              second v k,
              ← literal-front (first_word rows v) (omega (arith, h.downward.first_below v m (inside v k))),
              ← literal-front (second_word rows v) (omega (arith, h.downward.second_below v m (inside v k))),
              ← function_front v k,
            ) (h.means v m (inside v k));
      }
    where
      enough : 2 * vertex_count p ≤ length rows
      enough = omega (arith, h.downward.long, count_extended)

      inside : (v : ℕ) → v < vertex_count p → v < vertex_count (extended p next l r)
      inside v k = omega (arith, count_extended)

      first : (v : ℕ) → v < vertex_count p → first_word (take (2 * vertex_count p) rows) v ≡ first_word rows v
      first v k = get_or-take (2 * vertex_count p) rows (2 * v) 0 (omega arith)

      second : (v : ℕ) → v < vertex_count p → second_word (take (2 * vertex_count p) rows) v ≡ second_word rows v
      second v k = get_or-take (2 * vertex_count p) rows (2 * v + 1) 0 (omega arith)
