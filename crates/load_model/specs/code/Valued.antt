-- What a graph means, over any domain: values of its vertices, of gates by the ANDs that they stand for, and of both files' outputs.
use Rattle.std.specs.Prelude.{◌+◌, ◌<◌, ℕ, get_or, length, List, ◌++◌, map, ◌≡◌}
use Rattle.aig.specs.Lookup.{first_word, second_word}
use Rattle.aig.specs.Values.{Algebra, AllGood, literal_value}
use Rattle.load_model.specs.Build.{Build, Traced, build_pair, empty_build}
use Rattle.load_model.specs.code.From.{From}
use Rattle.load_model.specs.code.Grown.{Grown}
use Rattle.netlist_model.specs.Meaning.{and_result, ands_from, from_ands, gate_ands, vertex_results}
use Rattle.netlist_model.specs.Netlist.{Netlist, constraint_reference}
use Rattle.netlist_model.specs.declared.Operation.{Operation}
use Rattle.table.specs.Values.{Pair}

-- Values of all vertices, in a domain that obeys the laws; the constant is false.
pub record Valuation {A : Type 0} (Sound : A → Type 0) (invert : A → A) (both : A → A → A) (falsum : A) (vs : List A) : Type 0 where
  pub laws : Algebra Sound invert both falsum
  pub sound : AllGood Sound falsum vs
  pub constant : get_or vs 0 falsum ≡ falsum

-- The constant and n inputs have values that they are given.
pub record Begins {A : Type 0} (falsum : A) (vs : List A) (n : ℕ) (us : List A) : Type 0 where
  pub count : length us ≡ 1 + n
  pub each : (i : ℕ) → i < 1 + n → get_or vs i falsum ≡ get_or us i falsum

module _ {A : Type 0} (invert : A → A) (both : A → A → A) (falsum : A) where
  -- Every made vertex of a graph of n inputs has the value of its AND.
  abbrev pub Valued : List A → ℕ → Build → Type 0
  Valued vs n b =
      (v : ℕ) → n < v → v < b.count
      → get_or vs v falsum
      ≡ both (literal_value invert both falsum vs (first_word b.words v)) (literal_value invert both falsum vs (second_word b.words v))

  -- The values of a row's two operands.
  abbrev pub operands_of : List A → Pair → A × A
  operands_of vs r = (literal_value invert both falsum vs r.0, literal_value invert both falsum vs r.1)

  -- A gate's result, from the results of the ANDs that it stands for. (RULES 1.9)
  abbrev pub by_ands : Operation → A → A → A
  by_ands op x y = from_ands invert falsum op (map (and_result both) (gate_ands invert both op x y))

  -- An operation gives that result.
  abbrev pub StandsFor : (Operation → A → A → A) → Type 0
  StandsFor operation = (op : Operation) (x y : A) → operation op x y ≡ by_ands op x y

  -- The literals of a file's vertices have the values of these vertices.
  pub record Follows (vs : List A) (t : Traced) (us : List A) : Type 0 where
    pub count : length t.literals ≡ length us
    pub each : (i : ℕ) → literal_value invert both falsum vs (get_or t.literals i 0) ≡ get_or us i falsum

  -- Graph c has grown from graph b by rows that come from some ANDs.
  pub record Origin (vs : List A) (b c : Build) (ands : List (A × A)) : Type 0 where
    pub rows : List Pair
    pub grown : Grown b rows c
    pub from : From (map (operands_of vs) rows) ands

  -- The outputs of both files and the constraint have their files' values, given those of the constant and the inputs, and the rows come from
  -- their ANDs. (RULES 12.2)
  pub record PairMeans (operation : Operation → A → A → A) (vs us : List A) (d e : Netlist) : Type 0 where
    pub left : (k : ℕ) → k < length d.outputs
        → literal_value invert both falsum vs (get_or (build_pair d e).left k 0)
        ≡ literal_value invert both falsum (vertex_results invert both falsum operation us d.gates) (get_or d.outputs k 0)
    pub right : (k : ℕ) → k < length e.outputs
        → literal_value invert both falsum vs (get_or (build_pair d e).right k 0)
        ≡ literal_value invert both falsum (vertex_results invert both falsum operation us e.gates) (get_or e.outputs k 0)
    pub constraint : literal_value invert both falsum vs (build_pair d e).constraint
        ≡ literal_value invert both falsum (vertex_results invert both falsum operation us d.gates) (constraint_reference d)
    pub origin : Origin vs (empty_build d.inputs) (build_pair d e).build
        (ands_from invert both falsum operation us d.gates ++ ands_from invert both falsum operation us e.gates)
