-- What holds after Size, and that Size is not said where the size limit suffices.
use Prim.Native.Nat.{◌*◌, ◌<◌, ◌≤◌, ℕ}
use Rattle.aig.specs.Literal.{vertex_of}
use Rattle.aig.specs.Lookup.{first_word, second_word}
use Rattle.sweep_model.proofs.Halt.{sweep_quiet}
use Rattle.sweep_model.proofs.Replies.{reachable-keeps}
use Rattle.sweep_model.proofs.ReplyLaws.{marked-unmerged, size-some, two_large, two_made}
use Rattle.sweep_model.proofs.Rows.{resolve-first, resolve_stays, resolve-vertex}
use Rattle.sweep_model.proofs.SomeDropped.{Lacking, Rest, is-bare, is-dropped, operand-lacks, sweep-rests}
use Rattle.sweep_model.proofs.Sources.{Recorded, Source, mark_at, sources_keep}
use Rattle.sweep_model.proofs.Stages.{bare-lacks, dropped-lacks, stage_cases}
use Rattle.sweep_model.proofs.Starving.{first_alive, second_alive}
use Rattle.sweep_model.proofs.Steady.{alive_unmerged, alive_within}
use Rattle.sweep_model.proofs.Takes.{target}
use Rattle.sweep_model.proofs.Tidy.{equal-merged, made-merged}
use Rattle.sweep_model.specs.Claims.{AtRest, Excused, Made, Stuck, TookOne, by_first, by_merging, by-second, by_taking}
use Rattle.sweep_model.specs.Fit.{Fit, vertex_count}
use Rattle.sweep_model.specs.Normalise.{merged?, resolve}
use Rattle.sweep_model.specs.code.Reachable.{Reachable}
use Rattle.sweep_model.specs.State.{Problem, State, bare?, dropped?, function_of, gone?, has?, stage_of}
use Rattle.sweep_model.specs.Sweep.{sweep, undecided}
use Rattle.sweep_model.specs.declared.Cause.TheVariants.{Size}
use Rattle.truth.proofs.Booleans.{bool_cases, clash}
use Rattle.truth.specs.Parts.{size}
use borrow.Author.Tests.{eqb-true}
use mathlib.Core.Bool.{cond, false, true}
use mathlib.Core.List.{List}
use mathlib.Core.Logic.{◌≢◌, ◌⊎◌, inl, inr, ⊎_elim}
use mathlib.Core.Path.{◌∙◌, ◌≡◌, ap, sym}
use native.Mathlib.Decide.{dec_lt}
use native.Mathlib.Omega.{arith}

-- A state in which none waits: what is known of its stages, its marks and the sources of its diagrams.
module _ {p : Problem} {entry : List ℕ} {s : State} (some : 1 ≤ p.first) (rest : Rest p entry s) (reach : Reachable p entry s)
    (origins : Recorded p s) where
  abbrev One : ℕ → Type 0
  One v = TookOne p.first (vertex_count p) s.marks s.rows s.rows v

  -- A vertex without a diagram has none marked 1 merged into it.
  none-taken : (v : ℕ) → has? (stage_of s.stages v) ≡ false → One v → ⊥
  none-taken v lacks t =
      clash
      (ap (λ (u : ℕ). has? (stage_of s.stages u)) (sym became)
      ∙ origins.swept_have (2 * t.other) (omega (arith, t.made.there)) (let e : vertex_of (2 * t.other) ≡ t.other = omega arith in rw e t.mark))
      lacks
    where
      became : vertex_of (resolve s.rows (2 * t.other)) ≡ v
      became =
          let e : vertex_of (2 * t.other) ≡ t.other = omega arith in
          resolve-vertex s.rows (2 * t.other) (rw e (equal-merged s.rows t.other t.merged)) ∙ ap (target s.rows) e ∙ t.into

  -- An AND with a diagram that is not marked 1 has one marked 1 merged into it.
  has-taken : (v : ℕ) → p.first ≤ v → mark_at s.marks v ≢ 1 → Source (vertex_count p) s.rows s.marks v → One v
  has-taken v made unswept f =
      elim (dec_lt u p.first) [
        | yes l ↦ absurd (let e = itself (resolve-first rest.steady.sound.downward r l) in omega arith)
        | no l ↦ elim (bool_cases (merged? s.rows u)) [
          | inl m ↦ record {
            other = u;
            made = record { made = omega arith; there = omega (arith, f.within) };
            mark = f.mark;
            merged = eqb-true (first_word s.rows u) (second_word s.rows u) m;
            into = sym (resolve-vertex s.rows r m) ∙ f.became;
          }
          | inr m ↦ absurd (unswept (ap (mark_at s.marks) (sym (itself (resolve_stays s.rows r m))) ∙ f.mark))
        ]
      ]
    where
      r : ℕ
      r = f.literal

      u : ℕ
      u = vertex_of r

      itself : resolve s.rows r ≡ r → u ≡ v
      itself e = ap vertex_of (sym e) ∙ f.became

  -- A vertex without a diagram is stuck: it is an unmerged AND marked 2, or marked 0 with none marked 1 merged into it.
  stuck : (v : ℕ) → gone? (stage_of s.stages v) ≡ false → Lacking s.stages v → Stuck p.first (vertex_count p) s.marks s.rows s.rows v
  stuck v alive l =
      record {
        made = record { made = made; there = alive_within rest.steady v alive };
        unmerged = λ m.
            clash (made-merged p.first s.rows v made ∙ equal-merged s.rows v m) (alive_unmerged rest.steady v alive);
        mark = mark l;
      }
    where
      lacks : Lacking s.stages v → has? (stage_of s.stages v) ≡ false
      lacks (is-bare e) = bare-lacks (stage_of s.stages v) e
      lacks (is-dropped e) = dropped-lacks (stage_of s.stages v) e

      made : p.first ≤ v
      made =
          elim (dec_lt v p.first) [
            | yes i ↦ clash (rest.first_have v i) (lacks l)
            | no i ↦ omega arith
          ]

      mark : Lacking s.stages v → (mark_at s.marks v ≡ 2) ⊎ ((mark_at s.marks v ≡ 0) × (One v → ⊥))
      mark (is-bare e) = inr ((reach.fits v).bare-unmarked e, none-taken v (lacks l))
      mark (is-dropped e) = inl ((reach.fits v).dropped_two e)

  -- "every input is marked 1, and every AND marked 0 is merged, or ..", operands by the rows as left.
  pub rest-claims : AtRest p.first (vertex_count p) s.marks s.rows s.rows
  rest-claims =
      record {
        inputs = λ v l h. (reach.fits v).input l h ∙ ap (λ b. cond b 1 0) (rest.first_have v h);
        ands = λ v m e.
            elim (bool_cases (merged? s.rows v)) [
              | inl i ↦ by_merging (eqb-true (first_word s.rows v) (second_word s.rows v) i)
              | inr i ↦ unmerged v m e
                  (stage_cases (stage_of s.stages v)
                  (rest.steady.staged.gone-merged v m.there ∙ made-merged p.first s.rows v m.made ∙ i))
            ];
      }
    where
      unmerged : (v : ℕ) → Made p.first (vertex_count p) s.marks s.rows s.rows v → mark_at s.marks v ≡ 0
          → (bare? (stage_of s.stages v) ≡ true) ⊎ ((dropped? (stage_of s.stages v) ≡ true) ⊎ (has? (stage_of s.stages v) ≡ true))
          → Excused p.first (vertex_count p) s.marks s.rows s.rows v
      unmerged v m e (inl i) =
          ⊎_elim (λ l. by_first (stuck (vertex_of (first_word s.rows v)) (first_alive rest.steady v m.made m.there) l))
          (λ l. by-second (stuck (vertex_of (second_word s.rows v)) (second_alive rest.steady v m.made m.there) l))
          (operand-lacks rest v m.made m.there i)
      unmerged v m e (inr (inl i)) = absurd (omega (arith, (reach.fits v).dropped_two i))
      unmerged v m e (inr (inr i)) =
          by_taking (has-taken v m.made (λ k. omega arith) (origins.sources v (λ k. omega (arith, m.made, some)) i))

module _ {p : Problem} {entry : List ℕ} (fit : Fit p entry) where
  -- After Size every input is marked 1, and every AND marked 0 has its excuse.
  pub after-rest :
      (sweep p entry).verdict ≡ undecided Size
      → AtRest p.first (vertex_count p) (sweep p entry).left.marks (sweep p entry).left.rows (sweep p entry).left.rows
  after-rest e =
      rest-claims fit.well_formed.some_first (sweep-rests fit e) (sweep_quiet fit (reachable-keeps fit) e).reached.kept
      (sweep_quiet fit (sources_keep fit) e).reached.kept

  -- Size is not said where no AND that was not merged at entry is larger than the size limit.
  pub size-suffices :
      ((v : ℕ) → p.first ≤ v → v < vertex_count p → merged? entry v ≡ false → size (function_of p v) ≤ p.limits.size)
      → (sweep p entry).verdict ≢ undecided Size
  size-suffices few e =
      let d = size-some fit e in
      let made = two_made fit d.0 d.2 in
      omega (arith, two_large fit d.0 d.2, few d.0 made d.1 (marked-unmerged fit d.0 made (λ z. omega arith)))
