-- Words of stages, one and many.
use Prim.Native.Nat.{◌*◌, ◌+◌, ◌<◌, ◌≤◌, suc, zero, ℕ}
use Rattle.aig.specs.Lookup.{first_word}
use Rattle.sweep_graph.specs.code.Stages.{staged, stage_word, stages_from, stages_of, with_stage, word_stage}
use Rattle.sweep_graph.specs.declared.stage.Stage as declared
use Rattle.sweep_graph.specs.declared.stage.Stage.TheVariants as code
use Rattle.sweep_model.specs.Normalise.{wake}
use Rattle.sweep_model.specs.State.{Stage, again, bare, bare?, dropped, gone, gone?, has?, open?, opened, stage_of, waiting, waits?}
use Rattle.truth.proofs.Booleans.{clash}
use Rattle.sweep_graph.specs.contracts.stage.Stage.{the_type}
use denote.Enum.Bare.{sameb}
use borrow.Author.Tests.{lt-leb, ne_eqb}
use lib.Dec.{eqb, leb}
use lib.ListN.{get_or, length, length-set, set}
use lib.Seq.{ext_get_or, get_or-set_other, get_or-set_same}
use mathlib.Core.Bool.{false, true}
use mathlib.Core.List.{List}
use mathlib.Core.Path.{◌∙◌, ◌≡◌, ap, refl, sym}
use native.Mathlib.Decide.{ℕ_discrete}
use native.Mathlib.Omega.{arith}

-- A stage's word has that stage.
pub stage_word_lem : (s : Stage) → word_stage (stage_word s) ≡ s
unfolding word_stage
stage_word_lem bare = refl
stage_word_lem waiting = refl
stage_word_lem opened = refl
stage_word_lem again = refl
stage_word_lem dropped = refl
stage_word_lem gone = refl

-- What holds of each stage at its word, and of gone at every later one, holds of every word.
word-cases :
    (P : ℕ → Stage → Type 0) → P 0 bare → P 1 waiting → P 2 opened → P 3 again → P 4 dropped → ((w : ℕ) → 5 ≤ w → P w gone) → (w : ℕ) → P w (word_stage w)
unfolding word_stage
word-cases P b w o a d g zero = b
word-cases P b w o a d g (suc zero) = w
word-cases P b w o a d g (suc (suc zero)) = o
word-cases P b w o a d g (suc (suc (suc zero))) = a
word-cases P b w o a d g (suc (suc (suc (suc zero)))) = d
word-cases P b w o a d g (suc (suc (suc (suc (suc x))))) = g (suc (suc (suc (suc (suc x))))) (omega arith)

-- A word other than bare's has a diagram where it is at most 3.
pub has_word_lem : (w : ℕ) → (w ≡ 0 → ⊥) → leb w 3 ≡ has? (word_stage w)
unfolding has?
has_word_lem w =
    word-cases (λ w s. (w ≡ 0 → ⊥) → leb w 3 ≡ has? s)
    (λ d. absurd (d refl)) (λ d. refl) (λ d. refl) (λ d. refl) (λ d. refl)
    (λ w h d. lt-leb w 3 (omega arith)) w

-- A word other than opened's is open where it is 3.
pub open_word_lem : (w : ℕ) → (w ≡ 2 → ⊥) → eqb w 3 ≡ open? (word_stage w)
unfolding open?
open_word_lem w =
    word-cases (λ w s. (w ≡ 2 → ⊥) → eqb w 3 ≡ open? s)
    (λ d. refl) (λ d. refl) (λ d. absurd (d refl)) (λ d. refl) (λ d. refl)
    (λ w h d. ne_eqb w 3 (omega arith)) w

-- A word other than waiting's waits where it is 3.
pub waits-word : (w : ℕ) → (w ≡ 1 → ⊥) → eqb w 3 ≡ waits? (word_stage w)
unfolding waits?
waits-word w =
    word-cases (λ w s. (w ≡ 1 → ⊥) → eqb w 3 ≡ waits? s)
    (λ d. refl) (λ d. absurd (d refl)) (λ d. refl) (λ d. refl) (λ d. refl)
    (λ w h d. ne_eqb w 3 (omega arith)) w

-- The tests of the other stages.
pub has_not : (s : declared.Stage) → (s ≡ code.Waiting → ⊥) → (s ≡ code.Opened → ⊥) → (s ≡ code.Again → ⊥) → false ≡ has? (staged s)
unfolding has?
has_not code.Bare a b c = refl
has_not code.Waiting a b c = absurd (a refl)
has_not code.Opened a b c = absurd (b refl)
has_not code.Again a b c = absurd (c refl)
has_not code.Dropped a b c = refl
has_not code.Gone a b c = refl

pub waits_not : (s : declared.Stage) → (s ≡ code.Waiting → ⊥) → (s ≡ code.Again → ⊥) → false ≡ waits? (staged s)
unfolding waits?
waits_not code.Bare a b = refl
waits_not code.Waiting a b = absurd (a refl)
waits_not code.Opened a b = refl
waits_not code.Again a b = absurd (b refl)
waits_not code.Dropped a b = refl
waits_not code.Gone a b = refl

pub open_not : (s : declared.Stage) → (s ≡ code.Opened → ⊥) → (s ≡ code.Again → ⊥) → false ≡ open? (staged s)
unfolding open?
open_not code.Bare a b = refl
open_not code.Waiting a b = refl
open_not code.Opened a b = absurd (a refl)
open_not code.Again a b = absurd (b refl)
open_not code.Dropped a b = refl
open_not code.Gone a b = refl

-- Equality with one stage is the test of it.
pub is_bare : (s : declared.Stage) → sameb the_type s code.Bare ≡ bare? (staged s)
unfolding bare?
is_bare code.Bare = refl
is_bare code.Waiting = refl
is_bare code.Opened = refl
is_bare code.Again = refl
is_bare code.Dropped = refl
is_bare code.Gone = refl

pub is_gone : (s : declared.Stage) → sameb the_type s code.Gone ≡ gone? (staged s)
unfolding gone?
is_gone code.Bare = refl
is_gone code.Waiting = refl
is_gone code.Opened = refl
is_gone code.Again = refl
is_gone code.Dropped = refl
is_gone code.Gone = refl

-- A woken stage: open and waiting again, or waiting.
pub wake-open : (s : Stage) → open? s ≡ true → again ≡ wake s
unfolding open? wake
wake-open bare e = clash e refl
wake-open waiting e = clash e refl
wake-open opened e = refl
wake-open again e = refl
wake-open dropped e = clash e refl
wake-open gone e = clash e refl

pub wake_shut : (s : Stage) → open? s ≡ false → waiting ≡ wake s
unfolding open? wake
wake_shut bare e = refl
wake_shut waiting e = refl
wake_shut opened e = clash refl e
wake_shut again e = clash refl e
wake_shut dropped e = refl
wake_shut gone e = refl

-- The stage of a vertex among the stages of all.
stage-from : (words : List ℕ) (n v i : ℕ) → i < n → get_or (stages_from words v n) i gone ≡ word_stage (first_word words (v + i))
unfolding stages_from
stage-from words zero v i h = absurd (omega arith)
stage-from words (suc n) v zero h = ap (λ (u : ℕ). word_stage (first_word words u)) (omega arith)
stage-from words (suc n) v (suc i) h = stage-from words n (suc v) i (omega arith) ∙ ap (λ (u : ℕ). word_stage (first_word words u)) (omega arith)

pub stage_at : (words : List ℕ) (count v : ℕ) → v < count → stage_of (stages_of words count) v ≡ word_stage (first_word words v)
stage_at words count v h = stage-from words count 0 v h ∙ ap (λ (u : ℕ). word_stage (first_word words u)) (omega arith)

stages_length_from : (words : List ℕ) (n v : ℕ) → length (stages_from words v n) ≡ n
unfolding stages_from
stages_length_from words zero v = refl
stages_length_from words (suc n) v = ap suc (stages_length_from words n (suc v))

-- There are as many as vertices.
pub stages_length : (words : List ℕ) (count : ℕ) → length (stages_of words count) ≡ count
stages_length words count = stages_length_from words count 0

-- One stage set.
pub stages-set :
    (words : List ℕ) (count v w : ℕ) → v < count → 2 * count ≤ length words
    → stages_of (with_stage words v w) count ≡ set (stages_of words count) v (word_stage w)
stages-set words count v w h room =
    ext_get_or gone (stages_of (with_stage words v w) count) (set (stages_of words count) v (word_stage w))
    (stages_length (with_stage words v w) count ∙ sym (length-set (stages_of words count) v (word_stage w) ∙ stages_length words count))
    (λ i l. at i (rw (stages_length (with_stage words v w) count) at l))
  where
    at : (i : ℕ) → i < count → get_or (stages_of (with_stage words v w) count) i gone ≡ get_or (set (stages_of words count) v (word_stage w)) i gone
    at i l =
        elim (ℕ_discrete i v) [
          | yes e ↦
              rw e
              (stage_at (with_stage words v w) count v h ∙ ap word_stage (get_or-set_same words (2 * v) w 0 (omega arith))
              ∙ sym (get_or-set_same (stages_of words count) v (word_stage w) gone (rw (stages_length words count) h)))
          | no d ↦
              stage_at (with_stage words v w) count i l ∙ ap word_stage (get_or-set_other words (2 * v) (2 * i) w 0 (λ e. d (omega arith)))
              ∙ sym (get_or-set_other (stages_of words count) v i (word_stage w) gone d ∙ stage_at words count i l)
        ]
