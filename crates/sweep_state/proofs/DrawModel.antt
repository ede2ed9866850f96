-- A vertex that gets its diagram: the words stand for the state in which it is swept.
use Prim.Native.Nat.{◌*◌, ◌+◌, ◌/◌, ◌<◌, ◌≤◌, suc, zero, ℕ}
use Rattle.aig.proofs.IndexLaws.{row-holds}
use Rattle.aig.specs.Lookup.{first_word, second_word, with_row}
use Rattle.bdd.proofs.AgreeLaws.{agree-self}
use Rattle.bdd.proofs.DiagramLaws.{frame, frame-reference}
use Rattle.bdd.proofs.OwnerLaws.{OwnerSet, owner_set}
use Rattle.bdd.proofs.RowsLaws.{length_put}
use Rattle.bdd.specs.Diagram.{Canonical, denote, store_of}
use Rattle.bdd.specs.code.Owners.{with_owner}
use Rattle.bdd.specs.code.Rows.{RADIX, high_at, owner_at, put}
use Rattle.bdd.specs.code.Store.{Agree, Store}
use Rattle.bdd_unique.proofs.MakeLaws.{grown-denote, grown-reference}
use Rattle.bdd_unique.specs.code.Unique.{Grown}
use Rattle.product.specs.Product.{book_of}
use Rattle.sweep_graph.proofs.StageLaws.{stages-set}
use Rattle.sweep_graph.specs.code.Stages.{with_stage, word_stage}
use Rattle.sweep_graph.specs.code.Takes.{has_word, held}
use Rattle.sweep_model.proofs.Rows.{row_other}
use Rattle.sweep_model.specs.code.Reachable.{Reachable}
use Rattle.sweep_model.specs.State.{has?, with_book}
use Rattle.sweep_model.specs.Sweep.{swept}
use Rattle.sweep_state.specs.code.Represents.{Drawing, Owners, Owns, Represents}
use Rattle.sweep_state.specs.code.Words.{Words, posed, state_of, words}
use Rattle.sweep_state.specs.declared.task.Task.{Task}
use Rattle.truth.proofs.Booleans.{clash}
use Rattle.truth.specs.Truth.{Truth}
use lib.ListN.{length, length-set, set}
use lib.Seq.{get_or-set_other, get_or-set_same, take-set-lt}
use mathlib.Core.Bool.{false, true}
use mathlib.Core.List.{List}
use mathlib.Core.Logic.{◌≢◌}
use mathlib.Core.Path.{◌∙◌, ◌≡◌, ap, refl, sym}
use native.Mathlib.Decide.{dec_le, ℕ_discrete}
use native.Mathlib.Omega.{arith}

-- A diagram stays one where rows agree up to those in use.
pub drawing-kept :
    {t : Task} {functions : List Truth} {rows after : List ℕ} {used v c n : ℕ} → Canonical rows used → Agree rows after used
    → Drawing t functions rows used v c n → Drawing t functions after used v c n
drawing-kept {t} {rows = rows} {after = after} {used = used} {c = c} canonical agree g =
    record {
      within = frame-reference rows used canonical after agree g.within;
      means = frame rows used canonical after agree t.inputs c g.within.stored ∙ g.means;
      sized = g.sized;
    }

-- What is drawn: vertex v, which has no diagram, gets that of a reference to one of the rows, which have grown.
pub record Draws (t : Task) (functions : List Truth) (w : Words) (rows : List ℕ) (u v reference count : ℕ) : Type 0 where
  pub grown : Grown w.rows rows t.rows w.used u
  pub long : length rows ≡ length w.rows
  pub drawing : Drawing t functions rows u v reference count
  pub some : 1 ≤ v
  pub within : v < t.count
  pub lacks : has_word w.stages v ≡ false

-- A row has the owner v; the constant has no row. Everything else is as it was.
pub record RowOwned (s rows : List ℕ) (limit n i v : ℕ) : Type 0 where
  pub store : Store rows limit n
  pub own : 1 ≤ i → owner_at rows i ≡ v
  pub others : (j : ℕ) → j ≢ i → owner_at rows j ≡ owner_at s j
  pub agree : (k : ℕ) → Agree s rows k
  pub denotes : (m r : ℕ) → r / 2 ≤ n → denote rows m r ≡ denote s m r
  pub functions : store_of rows n ≡ store_of s n

pub row-owned : (s : List ℕ) (limit n i v : ℕ) → Store s limit n → i ≤ n → v < RADIX → RowOwned s (with_owner s i v) limit n i v
unfolding with_owner put
row-owned s limit n zero v h le small =
    record {
      store = h;
      own = λ l. absurd (omega arith);
      others = λ j d. refl;
      agree = λ k. agree-self s k;
      denotes = λ m r l. refl;
      functions = refl;
    }
row-owned s limit n (suc i) v h le small =
    let o : OwnerSet s (with_owner s (suc i) v) limit n (suc i) v = owner_set s limit n (suc i) v h (omega arith) le small in
    record { store = o.store; own = λ l. o.own; others = o.others; agree = o.agree; denotes = o.denotes; functions = o.functions }

module _
    {t : Task} {functions : List Truth} {entry : List ℕ} {w : Words} (rep : Represents t functions entry w) {rows : List ℕ} {u v reference count : ℕ}
    (d : Draws t functions w rows u v reference count) where
  abbrev after : List ℕ
  after = with_owner rows (reference / 2) v

  -- The words that are left.
  abbrev pub drawn_words : ℕ → Words
  drawn_words k =
      words w.pairs (with_row w.diagrams v reference count) (with_stage w.stages v 1) after (set w.marks v 1) u k

  pub own : RowOwned rows after t.rows u (reference / 2) v
  own = row-owned rows t.rows u (reference / 2) v d.grown.store d.drawing.within.stored (omega (arith, d.within, rep.few))

  -- They stand for the state in which v is swept.
  pub drawn-state : (k : ℕ) → state_of t.count (drawn_words k) ≡ swept v (with_book (book_of rows u k) (state_of t.count w))
  unfolding swept word_stage
  drawn-state k =
      rw (stages-set w.stages t.count v 1 d.within rep.stages-long, take-set-lt t.count w.marks v 1 d.within, own.functions) refl

  -- The stages and diagrams of other vertices stay.
  pub other-stage : (x : ℕ) → x ≢ v → has_word (with_stage w.stages v 1) x ≡ has_word w.stages x
  other-stage x n = ap (λ (s : ℕ). has? (word_stage s)) (get_or-set_other w.stages (2 * v) (2 * x) 1 0 (λ e. n (omega arith)))

  pub own-stage : has_word (with_stage w.stages v 1) v ≡ true
  unfolding has? word_stage
  own-stage =
      ap (λ (s : ℕ). has? (word_stage s)) (get_or-set_same w.stages (2 * v) 1 0 (omega (arith, d.within, rep.stages-long)))

  pub own_first : first_word (with_row w.diagrams v reference count) v ≡ reference
  own_first = (row-holds w.diagrams v reference count (omega (arith, d.within, rep.diagrams-long))).first

  pub own-second : second_word (with_row w.diagrams v reference count) v ≡ count
  own-second = (row-holds w.diagrams v reference count (omega (arith, d.within, rep.diagrams-long))).second

  pub other-first : (x : ℕ) → x ≢ v → first_word (with_row w.diagrams v reference count) x ≡ first_word w.diagrams x
  other-first x n = (row_other w.diagrams v reference count x n).first

  pub other-second : (x : ℕ) → x ≢ v → second_word (with_row w.diagrams v reference count) x ≡ second_word w.diagrams x
  other-second x n = (row_other w.diagrams v reference count x n).second

  pub same-long : length after ≡ length w.rows
  unfolding with_owner
  same-long = length_put rows 1 (reference / 2) (high_at rows (reference / 2) * RADIX + v) ∙ d.long

  -- A diagram of the grown rows is one after the owner is set.
  owned : (x c s : ℕ) → Drawing t functions rows u x c s → Drawing t functions after u x c s
  owned x c s g = drawing-kept d.grown.store.canonical (own.agree u) g

  pub carried : (x c s : ℕ) → Drawing t functions w.rows w.used x c s → Drawing t functions rows u x c s
  carried x c s g =
      record {
        within = grown-reference d.grown g.within;
        means = grown-denote w.rows rows t.rows w.used u rep.store.canonical d.grown t.inputs c g.within.stored ∙ g.means;
        sized = g.sized;
      }

  -- Every vertex with a diagram still has it.
  all-drawn : (x : ℕ) → x < t.count → has_word (with_stage w.stages v 1) x ≡ true
      → Drawing t functions after u x (first_word (with_row w.diagrams v reference count) x) (second_word (with_row w.diagrams v reference count) x)
  all-drawn x h e =
      elim (ℕ_discrete x v) [
        | yes i ↦ rw (i, own_first, own-second) (owned v reference count d.drawing)
        | no n ↦ rw (other-first x n, other-second x n)
            (owned x (first_word w.diagrams x) (second_word w.diagrams x)
            (carried x (first_word w.diagrams x) (second_word w.diagrams x) (rep.drawn x h (sym (other-stage x n) ∙ e))))
      ]

  -- A row other than that of v has the owner that it had.
  old_owner : (i : ℕ) → i ≢ reference / 2 → i ≤ w.used → owner_at after i ≡ owner_at w.rows i
  old_owner i n h = own.others i n ∙ d.grown.kept.owners i h

  pub all-owners : Owners t.count u (held (with_stage w.stages v 1) (with_row w.diagrams v reference count) after)
  all-owners =
      record {
        rightly = λ i l h e.
            elim (ℕ_discrete i (reference / 2)) [
              | yes j ↦ rw (j, own.own (omega (arith, j))) (record { within = d.within; has_one = own-stage; there = ap (λ (x : ℕ). x / 2) own_first })
              | no n ↦ elim (dec_le i w.used) [
                | yes k ↦ rw (old_owner i n k) (moved i (rep.owners.rightly i l k (rw (old_owner i n k) at e)))
                | no k ↦ absurd (omega (arith, own.others i n, d.grown.fresh i (omega arith) h))
              ]
            ];
        named = λ x h e l.
            elim (ℕ_discrete x v) [
              | yes i ↦ rw (i, own_first, own.own (rw (i, own_first) at l)) d.some
              | no n ↦ rw (other-first x n) (still x n h e (rw (other-first x n) at l))
            ];
      }
    where
      moved : (i : ℕ) → Owns t.count i (held w.stages w.diagrams w.rows) (owner_at w.rows i)
          → Owns t.count i (held (with_stage w.stages v 1) (with_row w.diagrams v reference count) after) (owner_at w.rows i)
      moved i o =
          let n : owner_at w.rows i ≢ v = λ e. clash (rw e at o.has_one) d.lacks in
          record {
            within = o.within;
            has_one = other-stage (owner_at w.rows i) n ∙ o.has_one;
            there = ap (λ (x : ℕ). x / 2) (other-first (owner_at w.rows i) n) ∙ o.there;
          }

      still : (x : ℕ) → x ≢ v → x < t.count → has_word (with_stage w.stages v 1) x ≡ true → 1 ≤ first_word w.diagrams x / 2
          → 1 ≤ owner_at after (first_word w.diagrams x / 2)
      still x n h e l =
          let had = sym (other-stage x n) ∙ e in
          elim (ℕ_discrete (first_word w.diagrams x / 2) (reference / 2)) [
            | yes i ↦ rw (i, own.own (omega (arith, i))) d.some
            | no m ↦ rw (old_owner (first_word w.diagrams x / 2) m (rep.drawn x h had).within.stored) (rep.owners.named x h had l)
          ]

  -- The words are those of the state in which v is swept, if the sweep reaches it.
  pub drawn-represents :
      (k : ℕ) → Reachable (posed t functions) entry (swept v (with_book (book_of rows u k) (state_of t.count w)))
      → Represents t functions entry (drawn_words k)
  drawn-represents k reached =
      record {
        fit = rep.fit;
        reachable = rw (drawn-state k) reached;
        count = rep.count;
        few = rep.few;
        narrow = rep.narrow;
        short = rep.short;
        modest = rep.modest;
        store = own.store;
        stages-long = rw (length-set w.stages (2 * v) 1) rep.stages-long;
        diagrams-long = simp length-set rep.diagrams-long;
        marks-long = rw (length-set w.marks v 1) rep.marks-long;
        rows-within = λ x h.
            elim (ℕ_discrete x v) [
              | yes i ↦ rw (i, own_first, same-long)
                  (omega (arith, d.drawing.within.stored, d.grown.store.room.used, d.grown.store.room.long, d.long))
              | no n ↦ rw (other-first x n, same-long) (rep.rows-within x h)
            ];
        drawn = all-drawn;
        owners = all-owners;
      }
