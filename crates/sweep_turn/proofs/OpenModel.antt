-- A vertex opened: the words stand for the model's state.
use Prim.Native.Nat.{◌*◌, ◌<◌, ℕ}
use Rattle.sweep_graph.proofs.StageLaws.{stages-set}
use Rattle.sweep_graph.specs.code.Stages.{with_stage, word_stage}
use Rattle.sweep_graph.specs.code.Takes.{has_word}
use Rattle.sweep_model.proofs.Reachable.{opened-reachable}
use Rattle.sweep_model.proofs.Stages.{waits-has}
use Rattle.sweep_model.proofs.Steady.{opened_at}
use Rattle.sweep_model.specs.State.{has?, stage_of, waits?}
use Rattle.sweep_state.proofs.LookModel.{has-stage}
use Rattle.sweep_state.specs.code.Represents.{Represents}
use Rattle.sweep_state.specs.code.Words.{Words, state_of, words}
use Rattle.sweep_state.specs.declared.task.Task.{Task}
use Rattle.truth.specs.Truth.{Truth}
use lib.ListN.{length-set}
use lib.Seq.{get_or-set_other, get_or-set_same}
use mathlib.Core.Bool.{true}
use mathlib.Core.List.{List}
use mathlib.Core.Path.{◌∙◌, ◌≡◌, ap, refl, sym}
use native.Mathlib.Decide.{ℕ_discrete}
use native.Mathlib.Omega.{arith}

module _
    {t : Task} {functions : List Truth} {entry : List ℕ} {w : Words} (rep : Represents t functions entry w) (v : ℕ) (inside : v < t.count)
    (waits : waits? (stage_of (state_of t.count w).stages v) ≡ true) where
  abbrev pub opened_words : Words
  opened_words = words w.pairs w.diagrams (with_stage w.stages v 2) w.rows w.marks w.used w.steps

  -- They stand for the state in which v has opened.
  pub opened-state : state_of t.count opened_words ≡ opened_at v (state_of t.count w)
  unfolding word_stage
  opened-state = rw (stages-set w.stages t.count v 2 inside rep.stages-long) refl

  -- The same vertices have diagrams.
  same-has : (x : ℕ) → has_word (with_stage w.stages v 2) x ≡ has_word w.stages x
  unfolding has? word_stage
  same-has x =
      elim (ℕ_discrete x v) [
        | yes e ↦
            ap (has_word (with_stage w.stages v 2)) e
            ∙ ap (λ (s : ℕ). has? (word_stage s)) (get_or-set_same w.stages (2 * v) 2 0 (omega (arith, rep.stages-long)))
            ∙ sym (sym (has-stage rep v inside) ∙ waits-has (stage_of (state_of t.count w).stages v) waits)
            ∙ sym (ap (has_word w.stages) e)
        | no n ↦ ap (λ (s : ℕ). has? (word_stage s)) (get_or-set_other w.stages (2 * v) (2 * x) 2 0 (λ e. n (omega arith)))
      ]

  pub opened-represents : Represents t functions entry opened_words
  opened-represents =
      record {
        fit = rep.fit;
        reachable = rw opened-state (opened-reachable rep.reachable v waits);
        count = rep.count;
        few = rep.few;
        narrow = rep.narrow;
        short = rep.short;
        modest = rep.modest;
        store = rep.store;
        stages-long = rw (length-set w.stages (2 * v) 2) rep.stages-long;
        diagrams-long = rep.diagrams-long;
        marks-long = rep.marks-long;
        rows-within = rep.rows-within;
        drawn = λ x h e. rep.drawn x h (sym (same-has x) ∙ e);
        owners = record {
          rightly = λ i l h e.
              let o = rep.owners.rightly i l h e in
              record { within = o.within; has_one = same-has _ ∙ o.has_one; there = o.there };
          named = λ x h e l. rep.owners.named x h (sym (same-has x) ∙ e) l;
        };
      }
