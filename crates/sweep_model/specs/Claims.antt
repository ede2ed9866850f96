-- What the rules say of a reply: marks, rows, steps, rows added, and the conditions after each. (RULES 7.4 to 7.11)
use Rattle.std.specs.Prelude.{◌+◌, ◌-◌, ◌<◌, ◌≤◌, suc, zero, ℕ, eqb, drop, get_or, length, Bool, ◌||◌, cond, List, [], ◌∷◌, map, ◌⊎◌, ◌≡◌}
use Rattle.aig.specs.Literal.{vertex_of}
use Rattle.aig.specs.Lookup.{first_word, second_word}
use Rattle.product_model.specs.Run.{Book, Outcome, short_of_rows, short_of_steps}
use Rattle.sweep_model.specs.State.{Problem, literal_function, product_by}
use Rattle.sweep_model.specs.Sweep.{Verdict, undecided}
use Rattle.sweep_model.specs.declared.Cause.TheVariants.{Rows, Steps}
use Rattle.truth.specs.Distinct.{among}
use Rattle.truth.specs.Parts.{alike?, all_parts, together}
use Rattle.truth.specs.Steps.{steps}
use Rattle.truth.specs.Truth.{Truth, conj}

-- An AND: the functions of its two operands. Its function and its product steps. (RULES 5.7)
abbrev pub And : Type 0
And = Truth × Truth

abbrev pub and_function : And → Truth
and_function x = conj x.0 x.1

abbrev pub and_steps : And → ℕ
and_steps x = steps x.0 x.1

-- "they add up" (RULES 5.8)
unfoldable pub sum : List ℕ → ℕ
sum [] = 0
sum (n ∷ ns) = n + sum ns

-- "The steps of an AND are those of its two operand functions before it was itself merged.": n made vertices from v on, by given rows. (RULES 5.7)
unfoldable pub ands_from : Problem → List ℕ → ℕ → ℕ → List And
ands_from p rows v zero = []
ands_from p rows v (suc n) = (literal_function p (first_word rows v), literal_function p (second_word rows v)) ∷ ands_from p rows (suc v) n

unfoldable pub ands_of : Problem → List ℕ → List And
ands_of p rows = ands_from p rows p.first (length p.functions - p.first)

-- Those of some things whose mark passes a test.
unfoldable pub marked : {A : Type 0} → (ℕ → Bool) → List ℕ → List A → List A
marked test [] xs = []
marked test (m ∷ ms) [] = []
marked test (m ∷ ms) (x ∷ xs) = cond (test m) (x ∷ marked test ms xs) (marked test ms xs)

abbrev pub is : ℕ → ℕ → Bool
is k m = eqb m k

abbrev pub is_either : ℕ → ℕ → ℕ → Bool
is_either j k m = eqb m j || eqb m k

-- "Rows reported = distinct parts of the functions marked 1." (RULES 7.5)
abbrev pub rows_marked : Problem → List ℕ → ℕ
rows_marked p marks = together (marked (is 1) marks p.functions)

-- "the functions marked 1 or 3 have more parts than the row limit" (RULES 7.8)
abbrev pub rows_marked_with_last : Problem → List ℕ → ℕ
rows_marked_with_last p marks = together (marked (is_either 1 3) marks p.functions)

-- "the sum over ANDs marked 1 or 2", the operands by the entry rows. (RULES 7.6)
abbrev pub steps_marked : Problem → List ℕ → List ℕ → ℕ
steps_marked p rows marks = sum (map and_steps (marked (is_either 1 2) (drop p.first marks) (ands_of p rows)))

-- "the sum with the vertex marked 3" (RULES 7.7)
abbrev pub steps_marked_with_last : Problem → List ℕ → List ℕ → ℕ
steps_marked_with_last p rows marks =
    sum (map and_steps (marked (λ m. is_either 1 2 m || is 3 m) (drop p.first marks) (ands_of p rows)))

-- "After Equal, Different and Size, steps = the sum over ANDs marked 1 or 2.": no product broke, so the rows added are "0 where none broke".
-- (RULES 7.6, 7.11)
pub record Settled (p : Problem) (operands marks : List ℕ) (steps added : ℕ) : Type 0 where
  pub summed : steps ≡ steps_marked p operands marks
  pub none-added : added ≡ 0

-- "The product shall give, when it breaks off too, the steps taken and the rows it had added.": that of AND v, its operands by given rows. The
-- book that it began with holds, up to inversion, exactly the parts of the functions marked 1, as many as the rows reported, and the steps of
-- the ANDs marked 1 or 2; the book where it fell short has the rows added besides, and the steps reported. (RULES 7.8, 7.11)
pub record BrokeOff (p : Problem) (operands marks : List ℕ) (short : Book → Outcome) (v rows steps added : ℕ) : Type 0 where
  pub made : p.first ≤ v
  pub before : Book
  pub after : Book
  pub parts-before : (t : Truth) → among alike? t before.store ≡ among alike? t (all_parts (marked (is 1) marks p.functions))
  pub rows_before : length before.store ≡ rows
  pub steps-before : before.steps ≡ steps_marked p operands marks
  pub ran : product_by p operands v before ≡ short after
  pub rows_after : length after.store ≡ rows + added
  pub steps-after : after.steps ≡ steps

-- "after Rows the steps are the sum over the ANDs marked 1 or 2 plus the broken product's", "the rows added, 0 where none broke": at an AND
-- its product broke off, at an input none began. (RULES 7.8, 7.11)
pub data BrokeAt (p : Problem) (operands marks : List ℕ) (v rows steps added : ℕ) : Type 0 where
  at_and : BrokeOff p operands marks short_of_rows v rows steps added → BrokeAt p operands marks v rows steps added
  at-input : v < p.first → steps ≡ 0 → added ≡ 0 → BrokeAt p operands marks v rows steps added

-- "After Rows, the functions marked 1 or 3 have more parts than the row limit.", "they and the rows reported make the row limit": the rows added
-- are meant. (RULES 7.8, 7.11)
pub record AfterRows (p : Problem) (operands marks : List ℕ) (v rows steps added : ℕ) : Type 0 where
  pub over : p.limits.rows < rows_marked_with_last p marks
  pub full : rows + added ≡ p.limits.rows
  pub broke : BrokeAt p operands marks v rows steps added

-- "After Steps, steps = the limit, and the sum with the vertex marked 3 exceeds it.": that vertex's product broke off. (RULES 7.7, 7.11)
pub record AfterSteps (p : Problem) (operands marks : List ℕ) (v rows steps added : ℕ) : Type 0 where
  pub over : p.limits.steps < steps_marked_with_last p operands marks
  pub full : steps ≡ p.limits.steps
  pub broke : BrokeOff p operands marks short_of_steps v rows steps added

-- "3 the vertex named by Rows or Steps" (RULES 7.4)
pub data Names : Verdict → ℕ → Type 0 where
  by_rows : {v : ℕ} → Names (undecided (Rows v)) v
  by-steps : {v : ℕ} → Names (undecided (Steps v)) v

-- The conditions after Size, on count vertices of which some come first: marks and rows as a reply left them, and the rows by
-- which operands are read. (RULES 7.10)
module _ (first count : ℕ) (marks rows operands : List ℕ) where
  abbrev pub mark_of : ℕ → ℕ
  mark_of v = get_or marks v 0

  -- "A vertex merged into reference r has the row (r, r)." (RULES 6.1)
  abbrev pub Merged : ℕ → Type 0
  Merged v = first_word rows v ≡ second_word rows v

  -- An AND: a made vertex.
  pub record Made (v : ℕ) : Type 0 where
    pub made : first ≤ v
    pub there : v < count

  -- "has one marked 1 merged into it" (RULES 7.10)
  pub record TookOne (v : ℕ) : Type 0 where
    pub other : ℕ
    pub made : Made other
    pub mark : mark_of other ≡ 1
    pub merged : Merged other
    pub into : vertex_of (first_word rows other) ≡ v

  -- "an unmerged AND marked 2, or marked 0 with none marked 1 merged into it" (RULES 7.10)
  pub record Stuck (v : ℕ) : Type 0 where
    pub made : Made v
    pub unmerged : Merged v → ⊥
    pub mark : (mark_of v ≡ 2) ⊎ ((mark_of v ≡ 0) × (TookOne v → ⊥))

  -- "is merged, or has one marked 1 merged into it, or has an operand that is .." (RULES 7.10)
  pub data Excused (v : ℕ) : Type 0 where
    by_merging : Merged v → Excused v
    by_taking : TookOne v → Excused v
    by_first : Stuck (vertex_of (first_word operands v)) → Excused v
    by-second : Stuck (vertex_of (second_word operands v)) → Excused v

  -- "After Size, every input is marked 1, and every AND marked 0 ..". (RULES 7.10)
  pub record AtRest : Type 0 where
    pub inputs : (v : ℕ) → 1 ≤ v → v < first → mark_of v ≡ 1
    pub ands : (v : ℕ) → Made v → mark_of v ≡ 0 → Excused v
