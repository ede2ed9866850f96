-- Demand 1 for a table: one that keeps the rules is not refused, and no other passes.
use Prim.Native.Nat.{◌*◌, ◌+◌, ◌<◌, ℕ}
use Rattle.table.proofs.AcceptedLaws.{accepted, accepts, row_words-below}
use Rattle.table.proofs.LayoutLaws.{length_output_words, length_rows, output-word_at, row_at_lem}
use Rattle.table.specs.Accepted.{Accepted, RowBelow}
use Rattle.table.specs.Fits.{Fits}
use Rattle.table.specs.Refusals.{first_refusal}
use Rattle.table.specs.Table.{inputs_of, made_of, outputs_of, table_tests}
use mathlib.Core.List.{List}
use mathlib.Core.Path.{◌≡◌, subst⁻¹}
use native.Mathlib.Omega.{arith}

-- What tests 10 and 11 leave holds of it.
pub fits-accepted : (ws : List ℕ) → Fits ws → Accepted ws
fits-accepted ws h =
    record {
      formed =
          record {
            header = h.header;
            inputs = h.inputs;
            made = h.made;
            some-output = h.some-output;
            outputs = h.outputs;
            whole = h.whole;
          };
      rows =
          λ i l.
          let at : i < made_of ws = omega (arith, length_rows ws) in
          subst⁻¹ (RowBelow (2 * (1 + inputs_of ws + i))) (row_at_lem ws i (0, 0) at) (record { first = h.firsts i at; second = h.seconds i at });
      references =
          λ k l.
          let at : k < 2 * outputs_of ws = omega (arith, length_output_words ws h.whole) in
          rw (output-word_at ws k at) (h.references k at);
      constraint = h.constraint;
    }

-- Neither 10 nor 11 applies to it.
pub fits-passes : (ws : List ℕ) → Fits ws → first_refusal 0 (table_tests ws) ≡ 0
fits-passes ws h = accepts ws (fits-accepted ws h)

-- Words that 10 and 11 leave keep the rules.
pub accepted-fits : {ws : List ℕ} → Accepted ws → Fits ws
accepted-fits {ws} h =
    record {
      header = h.formed.header;
      inputs = h.formed.inputs;
      made = h.formed.made;
      some-output = h.formed.some-output;
      outputs = h.formed.outputs;
      whole = h.formed.whole;
      firsts = λ i l. (row_words-below h i l).first;
      seconds = λ i l. (row_words-below h i l).second;
      references = λ k l. rw (← output-word_at ws k l) (h.references k (omega (arith, length_output_words ws h.formed.whole)));
      constraint = h.constraint;
    }

-- So do words to which neither applies.
pub passed-fits : (ws : List ℕ) → first_refusal 0 (table_tests ws) ≡ 0 → Fits ws
passed-fits ws e = accepted-fits (accepted ws e)
