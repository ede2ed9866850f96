-- load: its refusals in order, its result, and the table it leaves.
use Rattle.std.specs.Prelude.{◌*◌, ◌+◌, ◌-◌, ℕ, eqb, ltb, drop, length, Bool, ◌||◌, not, List, [], ◌++◌, ◌∷◌, Result, Err, Ok}
use Rattle.load_model.specs.Build.{PairBuilt, build_pair}
use Rattle.load_model.specs.declared.Loaded.{Loaded}
use Rattle.load_model.specs.declared.Refused.{Refused}
use Rattle.load_model.specs.declared.Tally.{Tally}
use Rattle.netlist_model.specs.code.Accepted.{counts_in}
use Rattle.netlist_model.specs.Check.{Counts, Read, read, read_netlist, unread}
use Rattle.netlist_model.specs.Limits.{max_bytes, number_of_edition}
use Rattle.netlist_model.specs.Names.{first_lacked}
use Rattle.netlist_model.specs.Netlist.{Netlist}
use Rattle.netlist_model.specs.Pairing.{paired}
use Rattle.netlist_model.specs.declared.Role.TheVariants.{First, Second}
use Rattle.refusal.specs.Number.{number_of}
use Rattle.table.specs.Limits.{max_ands, max_inputs, max_outputs}
use Rattle.table.specs.Refusals.{Test, first_refusal}
use Rattle.table.specs.Table.{Graph, graph_of}

-- The lengths of the lent slices: the table and four working slices.
pub record LoadRoom : Type 0 where
  pub table : ℕ
  pub pairs : ℕ
  pub look : ℕ
  pub literals : ℕ
  pub outputs : ℕ

-- "for 6,209 vertices": the constant, 64 inputs and 6,144 ANDs. (RULES 2.3, 8.2)
abbrev pub max_vertices : ℕ
max_vertices = 1 + max_inputs + max_ands

-- "12,420 words": a header, two words an AND, two sides of 64 outputs and the constraint. (RULES 2.3, 8.1)
abbrev pub max_table : ℕ
max_table = 3 + 2 * max_ands + 2 * max_outputs + 1

-- An answer: the edition of the pair and how the ANDs that were asked for ended, or the number, the file and the line of a
-- refusal. (RULES 3.8, 8.1)
pub data Answer : Type 0 where
  accepted : ℕ → Tally → Answer
  refused : ℕ → ℕ → ℕ → Answer

-- The rules' number and values for each case of the result. (RULES 8.1)
abbrev pub answer_of : Result Loaded Refused → Answer
answer_of (Ok l) = accepted (number_of_edition l.edition) l.tally
answer_of (Err r) = refused (number_of r.refusal) r.file r.line

-- "1. The file is longer than 65,536 bytes.", for both files; `refuse` is given the number, the file and the line.
abbrev pub length_tests : {A : Type 0} → (ℕ → ℕ → ℕ → A) → List ℕ → List ℕ → List (Test A)
length_tests refuse left right =
    record { answer = refuse 1 1 0; applies = ltb max_bytes (length left) }
    ∷ record { answer = refuse 1 2 0; applies = ltb max_bytes (length right) }
    ∷ []

-- "7. Input or output counts differ (file 2, line 1, after both files are read)." (RULES 8.1)
unfoldable pub counts_differ? : Counts → Counts → Bool
counts_differ? c d = not (eqb c.inputs d.inputs) || not (eqb c.outputs d.outputs)

-- "14. A working slice is short: four slices of 2 words a vertex (load: for 6,209 vertices)" (RULES 8.1, 8.2)
unfoldable pub short_slice? : LoadRoom → Bool
short_slice? r =
    ltb r.pairs (2 * max_vertices) || ltb r.look (2 * max_vertices) || ltb r.literals (2 * max_vertices) || ltb r.outputs (2 * max_vertices)

-- "then 7, 8, 9, 14", 19 "after 7": "19 a name that the first file lacks, at its line in the second file", whose first name is in line 2; "8. The
-- ANDs exceed 6,144. 9. The table is shorter than 12,420 words.". By the counts of both files and the place of the first name lacked. (RULES 9.1)
abbrev pub pair_tests : {A : Type 0} → (ℕ → ℕ → ℕ → A) → Counts → Counts → ℕ → LoadRoom → List (Test A)
pair_tests refuse c d lacked room =
    record { answer = refuse 7 2 1; applies = counts_differ? c d }
    ∷ record { answer = refuse 19 2 (2 + lacked); applies = ltb lacked d.names }
    ∷ record { answer = refuse 8 0 0; applies = ltb max_ands (c.ands + d.ands) }
    ∷ record { answer = refuse 9 0 0; applies = ltb room.table max_table }
    ∷ record { answer = refuse 14 0 0; applies = short_slice? room }
    ∷ []

-- "The result carries asked, folded, found and made" (RULES 3.8)
unfoldable pub tally_of : Netlist → Netlist → Tally
tally_of d e =
    let b = (build_pair d e).build in
    record { asked = b.asked; folded = b.folded; found = b.found; made = b.count - (1 + d.inputs) }

-- "then 2 to 6 line by line, first file first": the first file.
abbrev pub read_first : List ℕ → Read
read_first left = read_netlist First left

-- The second file, by the edition of the first: "a pair must be of one edition". (RULES 1.11)
unfoldable pub read_second : Read → List ℕ → Read
read_second (read d) right = read_netlist (Second d.edition) right
read_second (unread k n) right = unread k n

-- What both come to. (RULES 9.1)
unfoldable pub read_result : LoadRoom → Read → Read → Answer
read_result room (unread k n) e = refused k 1 n
read_result room (read d) (unread k n) = refused k 2 n
read_result room (read d) (read e) =
    first_refusal (accepted d.edition (tally_of d (paired d e)))
    (pair_tests refused (counts_in d) (counts_in e) (first_lacked d.names e.names) room)

-- "Load tests 1 for both files, then 2 to 6 line by line, first file first, then 7, 8, 9, 14, and names file and line" (RULES 8.1, 9.1)
unfoldable pub load_result : List ℕ → List ℕ → LoadRoom → Answer
load_result left right room =
    first_refusal (read_result room (read_first left) (read_second (read_first left) right)) (length_tests refused left right)

-- "The lent table of 32-bit words then holds: inputs; made; outputs; two words a made vertex; the first file's output references; the
-- second file's.", "The table holds r's reference after the outputs" (RULES 4.1)
unfoldable pub table_words : ℕ → PairBuilt → List ℕ
table_words inputs b =
    inputs
    ∷ (b.build.count - (1 + inputs))
    ∷ length b.left
    ∷ (drop (2 * (1 + inputs)) b.build.words ++ (b.left ++ (b.right ++ (b.constraint ∷ []))))

-- "Words after these are unchanged." (RULES 4.2)
unfoldable pub table_of : Netlist → Netlist → List ℕ → List ℕ
table_of d e old = let ws = table_words d.inputs (build_pair d e) in ws ++ drop (length ws) old

-- The graph that it holds.
abbrev pub loaded_graph : Netlist → Netlist → List ℕ → Graph
loaded_graph d e old = graph_of (table_of d e old)

-- The table after a load, the second file's inputs being in the first one's order: unchanged after a refusal. (RULES 1.11, 8.3)
unfoldable pub table_after : Answer → Read → Read → List ℕ → List ℕ
table_after (accepted x t) (read d) (read e) old = table_of d (paired d e) old
table_after (accepted x t) (read d) (unread k n) old = old
table_after (accepted x t) (unread k n) e old = old
table_after (refused k f n) d e old = old

-- The same, by the files.
abbrev pub table_loaded : Answer → List ℕ → List ℕ → List ℕ → List ℕ
table_loaded answer left right old = table_after answer (read_first left) (read_second (read_first left) right) old
