-- The values of the inputs, then of the rows, then of the output's literal.
use Rattle.evaluate_model.proofs.ReadyLaws.{all-values, inputs_bits, output-bit, output-found, output-vertex}
use Rattle.std.proofs.Common.{rules, ◌∙◌}
use Rattle.evaluate.proofs.values.output_value.Goals as goal

pub fill_rows-requires-clause-bits : goal.fill_rows-requires-clause-bits
fill_rows-requires-clause-bits c = inputs_bits c.requires _ c.fill_inputs.ensures

pub literal_value-requires : goal.literal_value-requires
literal_value-requires c =
    let ready = c.requires in
    let found = all-values ready _ _ c.fill_inputs.ensures c.fill_rows.ensures in
    rw c.output_literal.ensures (record {
      literal_in_bounds = output-vertex ready _ found (search rules);
      literal_bound = output-bit ready _ found;
    })

pub returns : goal.returns
returns c =
    let ready = c.requires in
    let found = all-values ready _ _ c.fill_inputs.ensures c.fill_rows.ensures in
    c.literal_value.ensures ∙ rw c.output_literal.ensures (output-found ready _ found)
