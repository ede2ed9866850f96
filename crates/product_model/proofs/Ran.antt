-- What a run leaves, for each of its three endings: proved once, by induction over the two functions.
use Prim.Native.Nat.{◌+◌, ◌<◌, ◌≤◌, ℕ}
use Rattle.product_model.proofs.Cases.{Adding, Counting, add_cases, count-cases, found, full, impossible, new, room, spent}
use Rattle.product_model.proofs.Conjunction.{parts-made, parts-passed, terminal-leaves, terminal-stored}
use Rattle.product_model.proofs.Members.{within_append, within-left, within_none, within-one, within-right}
use Rattle.product_model.proofs.Plain.{alike-plain, plain_false, plain-self}
use Rattle.product_model.specs.code.Books.{Proper, Stored}
use Rattle.product_model.specs.Run.{Book, Outcome, ◌and_then◌, add_part, add_row, count_step, done, plain, run, short_of_rows, short_of_steps, with_step}
use Rattle.truth.proofs.Booleans.{or_left}
use Rattle.truth.proofs.Distinct.{Within, among-congruent, apart_distinct, distinct-within}
use Rattle.truth.proofs.Parts.{alike_sameness, part_high, part_low}
use Rattle.truth.proofs.Steps.{steps-node, steps-terminal}
use Rattle.truth.specs.Distinct.{among, apart, distinct}
use Rattle.truth.specs.Parts.{alike?, depends?, parts}
use Rattle.truth.specs.Steps.{steps, terminal?}
use Rattle.truth.specs.Truth.{Perfect, Truth, conj, halves, leaf, node, same?, value_at, whole}
use lib.ListN.{length}
use mathlib.Core.Bool.{Bool, ◌||◌, cond, false, true}
use mathlib.Core.List.Memᴰ
use mathlib.Core.List.{List, Memᴰ, [], ◌++◌, ◌∷◌, append_assoc}
use mathlib.Core.Logic.{⊎_elim}
use mathlib.Core.Path.{◌∙◌, ◌≡◌, ap, refl, sym}
use native.Mathlib.Omega.{arith}

-- Every function of the list is in plain form.
abbrev pub Plain : List Truth → Type 0
Plain fs = (f : Truth) → Memᴰ f fs → value_at f [] ≡ false

module _ (row_limit step_limit : ℕ) where
  -- The book c comes from b: a proper book, whose store is that of b and, before it, functions in plain form that are alike to
  -- members of ps.
  pub record Grown (ps : List Truth) (b c : Book) : Type 0 where
    pub added : List Truth
    pub store : c.store ≡ added ++ b.store
    pub added-plain : Plain added
    pub added-parts : Within alike? added ps
    pub proper : Proper row_limit step_limit c

  -- Done: n more steps, and every member of ps has its row.
  pub record Done (ps : List Truth) (n : ℕ) (b c : Book) : Type 0 where
    pub grown : Grown ps b c
    pub stored : Within alike? ps c.store
    pub steps : c.steps ≡ b.steps + n

  -- Short of rows: the store is full, and ps and the store at the start have together more rows than the limit. At least l and at
  -- most n more steps were taken.
  pub record ShortOfRows (ps : List Truth) (l n : ℕ) (b c : Book) : Type 0 where
    pub grown : Grown ps b c
    pub full : length c.store ≡ row_limit
    pub over : row_limit < length (distinct alike? (ps ++ b.store))
    pub least : b.steps + l ≤ c.steps
    pub most : c.steps ≤ b.steps + n

  -- Short of steps: the count is at the limit, and n more pass it.
  pub record ShortOfSteps (ps : List Truth) (n : ℕ) (b c : Book) : Type 0 where
    pub grown : Grown ps b c
    pub full : c.steps ≡ step_limit
    pub over : step_limit < b.steps + n

  -- How an outcome comes from b.
  pub data Ran (ps : List Truth) (l n : ℕ) (b : Book) : Outcome → Type 0 where
    ran-done : {c : Book} → Done ps n b c → Ran ps l n b (done c)
    ran-rows : {c : Book} → ShortOfRows ps l n b c → Ran ps l n b (short_of_rows c)
    ran-steps : {c : Book} → ShortOfSteps ps n b c → Ran ps l n b (short_of_steps c)

  -- A book with the same store.
  unchanged : (ps : List Truth) {b c : Book} → Proper row_limit step_limit c → c.store ≡ b.store → Grown ps b c
  unchanged ps P e =
      record {
        added = [];
        store = e;
        added-plain = λ f m. absurd (Memᴰ.not-nil m);
        added-parts = within_none alike? ps;
        proper = P;
      }

  -- What had its row has it still.
  pub kept : {ps : List Truth} {b c : Book} → Grown ps b c → Within alike? b.store c.store
  kept {b = b} G z h = ap (among alike? z) G.store ∙ within-right alike? G.added b.store z h

  -- Other names for the same functions.
  grown_as : {ps qs : List Truth} {b c : Book} → Within alike? ps qs → Grown ps b c → Grown qs b c
  grown_as w G =
      record {
        added = G.added;
        store = G.store;
        added-plain = G.added-plain;
        added-parts = λ z h. w z (G.added-parts z h);
        proper = G.proper;
      }

  grown-then : {ps qs : List Truth} {b c d : Book} → Grown ps b c → Grown qs c d → Grown (ps ++ qs) b d
  grown-then {ps} {qs} {b} G H =
      record {
        added = H.added ++ G.added;
        store = H.store ∙ ap (◌++◌ H.added) G.store ∙ sym (append_assoc H.added G.added b.store);
        added-plain = λ f m. ⊎_elim (H.added-plain f) (G.added-plain f) (Memᴰ.append_cases H.added m);
        added-parts =
            within_append alike? H.added G.added (ps ++ qs) (λ z h. within-right alike? ps qs z (H.added-parts z h))
            (λ z h. within-left alike? ps qs z (G.added-parts z h));
        proper = H.proper;
      }

  -- The rows are those of the start and members of ps.
  pub grown-from : {ps : List Truth} {b c : Book} → Grown ps b c → Within alike? c.store (ps ++ b.store)
  grown-from {ps} {b} G =
      rw G.store
      (within_append alike? G.added b.store (ps ++ b.store) (λ z h. within-left alike? ps b.store z (G.added-parts z h))
      (within-right alike? ps b.store))

  -- More functions make no fewer rows.
  over_as : (ps qs : List Truth) (b c : Book) → Within alike? ps qs → Within alike? b.store (qs ++ c.store)
      → row_limit < length (distinct alike? (ps ++ b.store)) → row_limit < length (distinct alike? (qs ++ c.store))
  over_as ps qs b c v w h =
      omega (
        arith,
        distinct-within alike? alike_sameness (ps ++ b.store) (qs ++ c.store)
            (within_append alike? ps b.store (qs ++ c.store) (λ z i. within-left alike? qs c.store z (v z i)) w),
      )

  pub ran_as : {ps qs : List Truth} {l n k : ℕ} {b : Book} {o : Outcome} → n ≡ k → ((t : Truth) → among alike? t ps ≡ among alike? t qs)
      → Ran ps l n b o → Ran qs l k b o
  ran_as e m (ran-done D) =
      ran-done (record { grown = grown_as (λ t h. sym (m t) ∙ h) D.grown; stored = λ t h. D.stored t (m t ∙ h); steps = omega arith })
  ran_as {ps} {qs} {b = b} e m (ran-rows R) =
      ran-rows
      (record {
        grown = grown_as (λ t h. sym (m t) ∙ h) R.grown;
        full = R.full;
        over = over_as ps qs b b (λ t h. sym (m t) ∙ h) (within-right alike? qs b.store) R.over;
        least = R.least;
        most = omega arith;
      })
  ran_as e m (ran-steps S) = ran-steps (record { grown = grown_as (λ t h. sym (m t) ∙ h) S.grown; full = S.full; over = omega arith })

  -- One after the other.
  after : {ps qs : List Truth} {l n j k : ℕ} {b c : Book} {o : Outcome} → l ≤ n + j → Done ps n b c → Ran qs j k c o → Ran (ps ++ qs) l (n + k) b o
  after {ps} {qs} e D (ran-done {c = d} H) =
      ran-done
      (record {
        grown = grown-then D.grown H.grown;
        stored = within_append alike? ps qs d.store (λ z h. kept H.grown z (D.stored z h)) H.stored;
        steps = omega arith;
      })
  after {ps} {qs} {b = b} {c = c} e D (ran-rows R) =
      ran-rows
      (record {
        grown = grown-then D.grown R.grown;
        full = R.full;
        over = over_as qs (ps ++ qs) c b (within-right alike? ps qs) (grown-from (grown_as (within-left alike? ps qs) D.grown)) R.over;
        least = omega arith;
        most = omega arith;
      })
  after e D (ran-steps S) = ran-steps (record { grown = grown-then D.grown S.grown; full = S.full; over = omega arith })

  then-ran : {ps qs : List Truth} {l n j k : ℕ} {b : Book} {o : Outcome} {next : Book → Outcome} → l ≤ n + j → Ran ps l n b o
      → ((c : Book) → Grown ps b c → Ran qs j k c (next c)) → Ran (ps ++ qs) l (n + k) b (o and_then next)
  unfolding ◌and_then◌
  then-ran e (ran-done {c = c} D) h = after e D (h c D.grown)
  then-ran {ps} {qs} {b = b} e (ran-rows R) h =
      ran-rows
      (record {
        grown = grown_as (within-left alike? ps qs) R.grown;
        full = R.full;
        over = over_as ps (ps ++ qs) b b (within-left alike? ps qs) (within-right alike? (ps ++ qs) b.store) R.over;
        least = R.least;
        most = omega arith;
      })
  then-ran {ps} {qs} e (ran-steps S) h =
      ran-steps (record { grown = grown_as (within-left alike? ps qs) S.grown; full = S.full; over = omega arith })

  -- One step, where the store has every member of ps already.
  count-ran : (ps : List Truth) {b : Book} → Proper row_limit step_limit b → Within alike? ps b.store → Ran ps 1 1 b (count_step step_limit b)
  count-ran ps {b} P w = go (count-cases step_limit b)
    where
      go : {o : Outcome} → Counting step_limit b o → Ran ps 1 1 b o
      go (room h) =
          ran-done {c = with_step b}
          (record { grown = unchanged ps (record { no_repeats = P.no_repeats; rows = P.rows; taken = omega arith }) refl; stored = w; steps = refl })
      go (spent h) = ran-steps (record { grown = unchanged ps P refl; full = omega arith; over = omega arith })

  -- No step, where the store has every member of ps already.
  done-ran : (ps : List Truth) {b : Book} → Proper row_limit step_limit b → Within alike? ps b.store → Ran ps 0 0 b (done b)
  done-ran ps P w = ran-done (record { grown = unchanged ps P refl; stored = w; steps = omega arith })

  -- One part.
  pub add_ran : {b : Book} → Proper row_limit step_limit b → (f : Truth) → Ran (f ∷ []) 0 0 b (add_part row_limit f b)
  unfolding among apart distinct
  add_ran {b} P f = go (add_cases row_limit f b)
    where
      go : {o : Outcome} → Adding row_limit f b o → Ran (f ∷ []) 0 0 b o
      go (found e) = done-ran (f ∷ []) P (within-one alike? alike_sameness f b.store e)
      go (new e h) =
          ran-done
          (record {
            grown =
                record {
                  added = plain f ∷ [];
                  store = refl;
                  added-plain = λ t m. ap (λ u. value_at u []) (Memᴰ.eq_of_singleton m) ∙ plain_false f;
                  added-parts = within-one alike? alike_sameness (plain f) (f ∷ []) (or_left (alike? (plain f) f) false (plain-self f));
                  proper =
                      record {
                        no_repeats = rw (among-congruent alike? alike_sameness (plain f) f b.store (plain-self f), e) P.no_repeats;
                        rows = h;
                        taken = P.taken;
                      };
                };
            stored =
                within-one alike? alike_sameness f (plain f ∷ b.store)
                (or_left (alike? f (plain f)) (among alike? f b.store) (alike-plain f f ∙ alike_sameness.reflexive f));
            steps = omega arith;
          })
      go (full e h) =
          ran-rows
          (record {
            grown = unchanged (f ∷ []) P refl;
            full = omega arith;
            over = rw (e, apart_distinct alike? alike_sameness b.store P.no_repeats) (omega arith);
            least = omega arith;
            most = omega arith;
          })

  -- The row of a function with these halves.
  row-ran : {b : Book} → Proper row_limit step_limit b → (low high : Truth) → Ran (cond (same? low high) [] (node low high ∷ [])) 0 0 b (add_row row_limit low high b)
  unfolding add_row
  row-ran {b} P low high = go (same? low high)
    where
      go : (s : Bool) → Ran (cond s [] (node low high ∷ [])) 0 0 b (cond s (done b) (add_part row_limit (node low high) b))
      go true = done-ran [] P (within_none alike? b.store)
      go false = add_ran P (node low high)

  -- The three ways of a pair of nodes.
  choose_ran : {ps : List Truth} {l i j k : ℕ} {b : Book} {o p q : Outcome} (s t : Bool)
      → (s ≡ true → Ran ps l i b o) → (t ≡ true → Ran ps l j b p) → (t ≡ false → Ran ps l k b q)
      → Ran ps l (cond s i (cond t j k)) b (cond s o (cond t p q))
  choose_ran true t f g h = f refl
  choose_ran false true f g h = g refl
  choose_ran false false f g h = h refl

  -- A run of two functions that have their rows.
  pub run_ran : {m : ℕ} {f g : Truth} {b : Book} → Perfect m f → Perfect m g → Proper row_limit step_limit b → Stored f b.store → Stored g b.store
      → Ran (parts (conj f g)) 1 (steps f g) b (run row_limit step_limit f g b)
  unfolding run conj
  run_ran {b = b} (whole {b = x}) (whole {b = y}) P v w =
      rw (steps-terminal (leaf x) (leaf y) (terminal-leaves x y))
      (count-ran (parts (conj (leaf x) (leaf y))) P (terminal-stored whole whole (terminal-leaves x y) b.store v w))
  run_ran {b = b} (halves {f = f₀} {g = f₁} p q) (halves {f = g₀} {g = g₁} r s) P v w =
      rw (steps-node f₀ f₁ g₀ g₁)
      (choose_ran (terminal? (node f₀ f₁) (node g₀ g₁)) (depends? (node f₀ f₁) || depends? (node g₀ g₁))
      (λ e. count-ran (parts (node (conj f₀ g₀) (conj f₁ g₁))) P (terminal-stored (halves p q) (halves r s) e b.store v w))
      (λ e.
      ran_as (omega arith) (λ t. parts-made t (conj f₀ g₀) (conj f₁ g₁))
      (then-ran (omega arith)
      (then-ran (omega arith)
      (then-ran (omega arith) (count-ran [] P (within_none alike? b.store))
      (λ c G. run_ran p r G.proper (λ t h. kept G t (v t (part_low t f₀ f₁ h))) (λ t h. kept G t (w t (part_low t g₀ g₁ h)))))
      (λ c G. run_ran q s G.proper (λ t h. kept G t (v t (part_high t f₀ f₁ h))) (λ t h. kept G t (w t (part_high t g₀ g₁ h)))))
      (λ c G. row-ran G.proper (conj f₀ g₀) (conj f₁ g₁))))
      (λ e. ran_as refl (parts-passed f₀ f₁ g₀ g₁ e) (run_ran p r P (λ t h. v t (part_low t f₀ f₁ h)) (λ t h. w t (part_low t g₀ g₁ h)))))

-- What an outcome that is known says.
module _ {row_limit step_limit : ℕ} {ps : List Truth} {l n : ℕ} {b : Book} where
  pub is-done : {o : Outcome} {c : Book} → Ran row_limit step_limit ps l n b o → o ≡ done c → Done row_limit step_limit ps n b c
  is-done {c = c} (ran-done {c = d} D) e = let i : d ≡ c = cc in rw i at D
  is-done (ran-rows R) e = impossible (cc)
  is-done (ran-steps S) e = impossible (cc)

  pub is-short_of_rows : {o : Outcome} {c : Book} → Ran row_limit step_limit ps l n b o → o ≡ short_of_rows c → ShortOfRows row_limit step_limit ps l n b c
  is-short_of_rows {c = c} (ran-rows {c = d} R) e = let i : d ≡ c = cc in rw i at R
  is-short_of_rows (ran-done D) e = impossible (cc)
  is-short_of_rows (ran-steps S) e = impossible (cc)

  pub is-short_of_steps : {o : Outcome} {c : Book} → Ran row_limit step_limit ps l n b o → o ≡ short_of_steps c → ShortOfSteps row_limit step_limit ps n b c
  is-short_of_steps {c = c} (ran-steps {c = d} S) e = let i : d ≡ c = cc in rw i at S
  is-short_of_steps (ran-done D) e = impossible (cc)
  is-short_of_steps (ran-rows R) e = impossible (cc)
