-- Laws of the parts of several functions together.
use Prim.Native.Nat.{◌+◌, ◌≤◌}
use Rattle.truth.proofs.Booleans.{clash, or_cases, or_left, or_right}
use Rattle.truth.proofs.Distinct.{Within, among_append, distinct_append, distinct-within}
use Rattle.truth.proofs.Parts.{alike_sameness, parts-alike}
use Rattle.truth.specs.Distinct.{among, distinct, filter}
use Rattle.truth.specs.Parts.{alike?, all_parts, parts, size, together}
use Rattle.truth.specs.Truth.{Truth}
use lib.ListN.{length}
use mathlib.Core.Bool.{true}
use mathlib.Core.List.{List, [], ◌++◌, ◌∷◌, append_assoc, append-nil}
use mathlib.Core.Logic.{⊎_elim}
use mathlib.Core.Path.{◌∙◌, ◌≡◌, ap, refl, sym}
use native.Mathlib.Omega.{arith}

-- The parts of lists of functions after one another.
pub all_parts_append : (fs gs : List Truth) → all_parts (fs ++ gs) ≡ all_parts fs ++ all_parts gs
unfolding all_parts
all_parts_append [] gs = refl
all_parts_append (f ∷ fs) gs = ap (◌++◌ (parts f)) (all_parts_append fs gs) ∙ sym (append_assoc (parts f) (all_parts fs) (all_parts gs))

-- A part of a member is among the parts of all.
pub part_all : (t f : Truth) (gs : List Truth) → among alike? f gs ≡ true → among alike? t (parts f) ≡ true → among alike? t (all_parts gs) ≡ true
unfolding among all_parts
part_all t f [] h k = clash h refl
part_all t f (g ∷ gs) h k =
    among_append alike? t (parts g) (all_parts gs)
    ∙ ⊎_elim
    (λ e. or_left (among alike? t (parts g)) (among alike? t (all_parts gs)) (sym (parts-alike t f g e) ∙ k))
    (λ e. or_right (among alike? t (parts g)) (among alike? t (all_parts gs)) (part_all t f gs e k))
    (or_cases (alike? f g) (among alike? f gs) h)

-- Where every function of one list is, up to inversion, one of another, so is every part.
pub all_parts-within : (fs gs : List Truth) → Within alike? fs gs → Within alike? (all_parts fs) (all_parts gs)
unfolding among all_parts
all_parts-within [] gs h t k = clash k refl
all_parts-within (f ∷ fs) gs h t k =
    ⊎_elim
    (λ e. part_all t f gs (h f (or_left (alike? f f) (among alike? f fs) (alike_sameness.reflexive f))) e)
    (λ e. all_parts-within fs gs (λ u d. h u (or_right (alike? u f) (among alike? u fs) d)) t e)
    (or_cases (among alike? t (parts f)) (among alike? t (all_parts fs)) (sym (among_append alike? t (parts f) (all_parts fs)) ∙ k))

-- More functions have at least as many parts together.
pub together-within : (fs gs : List Truth) → Within alike? fs gs → together fs ≤ together gs
unfolding together
together-within fs gs h = distinct-within alike? alike_sameness (all_parts fs) (all_parts gs) (all_parts-within fs gs h)

pub together-more : (fs gs : List Truth) → together fs ≤ together (fs ++ gs)
together-more fs gs =
    together-within fs (fs ++ gs) (λ f e. among_append alike? f fs gs ∙ or_left (among alike? f fs) (among alike? f gs) e)

-- The number does not depend on the order of the functions, on their repetition or on inversions.
pub together-same : (fs gs : List Truth) → ((f : Truth) → among alike? f fs ≡ among alike? f gs) → together fs ≡ together gs
together-same fs gs h =
    omega (arith, together-within fs gs (λ f e. sym (h f) ∙ e), together-within gs fs (λ f e. h f ∙ e))

-- A shared part is counted once: the distinct parts of fs that gs has too are what the two numbers count twice.
pub together_append : (fs gs : List Truth) → together (fs ++ gs) + length (filter (λ t. among alike? t (all_parts gs)) (distinct alike? (all_parts fs)))
    ≡ together fs + together gs
unfolding together
together_append fs gs = rw (all_parts_append fs gs) (distinct_append alike? alike_sameness (all_parts fs) (all_parts gs))

-- One function has its size in parts.
pub together-one : (f : Truth) → together (f ∷ []) ≡ size f
unfolding together size all_parts
together-one f = rw (append-nil (parts f))
