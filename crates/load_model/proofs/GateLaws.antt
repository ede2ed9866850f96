-- Gates, files and both files: the graph stays good, and every AND is counted.
use Prim.Native.Nat.{◌*◌, ◌<◌, suc, zero, ℕ}
use Rattle.aig.proofs.LiteralLaws.{negate-below, onto-below}
use Rattle.aig.specs.Literal.{negate, vertex_of}
use Rattle.load_model.proofs.AskLaws.{ask_below, ask_step}
use Rattle.load_model.proofs.GrownLaws.{step_below, step_none, step_then}
use Rattle.load_model.specs.Build.{Build, Built, Traced, ask_and, ask_gate, ask_gates, ask_xor, literal_for, with_gate}
use Rattle.load_model.specs.code.Good.{Good}
use Rattle.load_model.specs.code.Grown.{Ready, Step}
use Rattle.netlist_model.specs.Check.{ands_of}
use Rattle.netlist_model.specs.Meaning.{and_count}
use Rattle.netlist_model.specs.Netlist.{Gate}
use Rattle.netlist_model.specs.declared.Operation.TheVariants.{And, Or, Xor}
use Rattle.netlist_model.specs.declared.Operation.{Operation}
use lib.ListN.{get_or}
use mathlib.Core.List.{List, [], ◌++◌, ◌∷◌}

-- The three ANDs of an xor, each asked for of the graph that the one before leaves.
abbrev pub xor_one : Build → ℕ → ℕ → Built
xor_one b p q = ask_and b p (negate q)

abbrev pub xor_two : Build → ℕ → ℕ → Built
xor_two b p q = ask_and (xor_one b p q).build (negate p) q

abbrev pub xor_three : Build → ℕ → ℕ → Built
xor_three b p q = ask_and (xor_two b p q).build (negate (xor_one b p q).literal) (negate (xor_two b p q).literal)

module _ {n : ℕ} {b : Build} (g : Good n b) (p q : ℕ) (hp : p < 2 * b.count) (hq : q < 2 * b.count) where
  not_q : negate q < 2 * b.count
  not_q = negate-below q b.count hq

  -- The first AND of an xor.
  pub xor_one_lem : Step n b 1 (xor_one b p q).build
  xor_one_lem = ask_step g p (negate q) hp not_q

  not_p : negate p < 2 * (xor_one b p q).build.count
  not_p = negate-below p (xor_one b p q).build.count (step_below xor_one_lem hp)

  -- The second.
  pub xor_two_lem : Step n (xor_one b p q).build 1 (xor_two b p q).build
  xor_two_lem = ask_step xor_one_lem.good (negate p) q not_p (step_below xor_one_lem hq)

  not_one : negate (xor_one b p q).literal < 2 * (xor_two b p q).build.count
  not_one =
      negate-below (xor_one b p q).literal (xor_two b p q).build.count (step_below xor_two_lem (ask_below g p (negate q) hp not_q))

  not_two : negate (xor_two b p q).literal < 2 * (xor_two b p q).build.count
  not_two =
      negate-below (xor_two b p q).literal (xor_two b p q).build.count
      (ask_below xor_one_lem.good (negate p) q not_p (step_below xor_one_lem hq))

  -- The third.
  pub xor_three_lem : Step n (xor_two b p q).build 1 (xor_three b p q).build
  xor_three_lem = ask_step xor_two_lem.good (negate (xor_one b p q).literal) (negate (xor_two b p q).literal) not_one not_two

  -- A gate keeps the graph good and asks for the ANDs that it stands for.
  pub gate_step : (op : Operation) → Step n b (ands_of op) (ask_gate b op p q).build
  unfolding ask_gate ask_xor
  gate_step And = ask_step g p q hp hq
  gate_step Or = ask_step g (negate p) (negate q) (negate-below p b.count hp) not_q
  gate_step Xor = step_then xor_one_lem (step_then xor_two_lem xor_three_lem)

  -- Its literal is that of a vertex of the graph.
  pub gate-below : (op : Operation) → (ask_gate b op p q).literal < 2 * (ask_gate b op p q).build.count
  unfolding ask_gate ask_xor
  gate-below And = ask_below g p q hp hq
  gate-below Or =
      let x = ask_and b (negate p) (negate q) in
      negate-below x.literal x.build.count (ask_below g (negate p) (negate q) (negate-below p b.count hp) not_q)
  gate-below Xor =
      negate-below (xor_three b p q).literal (xor_three b p q).build.count
      (ask_below xor_two_lem.good (negate (xor_one b p q).literal) (negate (xor_two b p q).literal) not_one not_two)

-- What holds of the members of a list, of one more and of the default holds of all of them.
pub get_or-more : {A : Type 0} (P : A → Type 0) (xs : List A) (x d : A) → ((i : ℕ) → P (get_or xs i d)) → P x → (i : ℕ) → P (get_or (xs ++ (x ∷ [])) i d)
get_or-more P [] x d h k zero = k
get_or-more P [] x d h k (suc i) = h i
get_or-more P (y ∷ xs) x d h k zero = h 0
get_or-more P (y ∷ xs) x d h k (suc i) = get_or-more P xs x d (λ j. h (suc j)) k i

-- What asking for a gate leaves.
abbrev pub after_gate : Traced → Gate → Traced
after_gate t x =
    with_gate t.literals (ask_gate t.build x.op (literal_for t.literals x.p) (literal_for t.literals x.q))

module _ {n : ℕ} {t : Traced} (h : Ready n t) where
  -- The literal for a file's reference is that of a vertex of the graph.
  pub literal_for-below : (r : ℕ) → literal_for t.literals r < 2 * t.build.count
  literal_for-below r = onto-below (get_or t.literals (vertex_of r) 0) r t.build.count (h.below (vertex_of r))

  module _ (x : Gate) where
    p : ℕ
    p = literal_for t.literals x.p

    q : ℕ
    q = literal_for t.literals x.q

    -- A gate of a file asks for its ANDs.
    pub after_gate_step : Step n t.build (ands_of x.op) (after_gate t x).build
    unfolding p q
    after_gate_step = gate_step h.good p q (literal_for-below x.p) (literal_for-below x.q) x.op

    -- Then the file's literals are still those of vertices of the graph.
    pub after_gate-ready : Ready n (after_gate t x)
    unfolding p q
    after_gate-ready =
        record {
          good = after_gate_step.good;
          below =
              get_or-more (λ (r : ℕ). r < 2 * (after_gate t x).build.count) t.literals (ask_gate t.build x.op p q).literal 0
              (λ i. step_below after_gate_step (h.below i))
              (gate-below h.good p q (literal_for-below x.p) (literal_for-below x.q) x.op);
        }

-- The gates of a file keep the graph good and ask for the ANDs that they stand for.
pub gates_step : {n : ℕ} {t : Traced} → Ready n t → (gs : List Gate) → Step n t.build (and_count gs) (ask_gates t gs).build
unfolding ask_gates and_count
gates_step {n = n} {t = t} h [] = step_none h.good
gates_step {n = n} {t = t} h (x ∷ gs) = step_then (after_gate_step h x) (gates_step {n = n} {t = after_gate t x} (after_gate-ready h x) gs)

-- Then the file's literals are those of vertices of the graph.
pub gates-ready : {n : ℕ} {t : Traced} → Ready n t → (gs : List Gate) → Ready n (ask_gates t gs)
unfolding ask_gates
gates-ready {n = n} {t = t} h [] = h
gates-ready {n = n} {t = t} h (x ∷ gs) = gates-ready {n = n} {t = after_gate t x} (after_gate-ready h x) gs
