-- What the endings say of the store: which rows it has, and how many.
use Prim.Native.Nat.{◌<◌, ◌≤◌, ℕ}
use Rattle.product_model.proofs.Members.{within_append}
use Rattle.product_model.proofs.Ran.{Done, Grown, ShortOfRows, grown-from, kept}
use Rattle.product_model.specs.code.Books.{HoldsParts, Proper}
use Rattle.product_model.specs.Run.{Book}
use Rattle.truth.proofs.Booleans.{iff_equal}
use Rattle.truth.proofs.Distinct.{among_append, apart_distinct, distinct-same}
use Rattle.truth.proofs.Parts.{alike_sameness}
use Rattle.truth.specs.Distinct.{among, distinct}
use Rattle.truth.specs.Parts.{alike?, all_parts, parts, together}
use Rattle.truth.specs.Truth.{Truth}
use lib.ListN.{length, length-append}
use mathlib.Core.Bool.{◌||◌, or_comm}
use mathlib.Core.List.{List, ◌++◌, ◌∷◌}
use mathlib.Core.Path.{◌∙◌, ◌≡◌, ap, sym}
use native.Mathlib.Omega.{arith}

holds_more : (f : Truth) {b : Book} {fs : List Truth} → HoldsParts b fs → (t : Truth) → among alike? t (parts f ++ b.store) ≡ among alike? t (all_parts (f ∷ fs))
unfolding all_parts
holds_more f {b} {fs} H t =
    among_append alike? t (parts f) b.store
    ∙ ap (◌||◌ (among alike? t (parts f))) (H.members t)
    ∙ sym (among_append alike? t (parts f) (all_parts fs))

-- "Functions together count a shared part once": the number of rows of such a store and of one function more.
pub holds-together : (f : Truth) {b : Book} {fs : List Truth} → HoldsParts b fs → length (distinct alike? (parts f ++ b.store)) ≡ together (f ∷ fs)
unfolding together
holds-together f {b} {fs} H = distinct-same alike? alike_sameness (parts f ++ b.store) (all_parts (f ∷ fs)) (holds_more f H)

module _ {row_limit step_limit : ℕ} where
  -- The number of rows of such a store.
  pub holds_rows : {b : Book} {fs : List Truth} → Proper row_limit step_limit b → HoldsParts b fs → length b.store ≡ together fs
  unfolding together
  holds_rows {b} {fs} P H =
      sym (ap length (apart_distinct alike? alike_sameness b.store P.no_repeats))
      ∙ distinct-same alike? alike_sameness b.store (all_parts fs) H.members

  -- No row is lost.
  pub grown_length : {ps : List Truth} {b c : Book} → Grown row_limit step_limit ps b c → length b.store ≤ length c.store
  grown_length {b = b} G = rw G.store (omega (arith, length-append G.added b.store))

  -- Done: the rows are those of the start and the members of ps.
  done_all : {ps : List Truth} {n : ℕ} {b c : Book} → Done row_limit step_limit ps n b c
      → (t : Truth) → among alike? t c.store ≡ among alike? t (ps ++ b.store)
  done_all {ps} {b = b} {c = c} D t =
      iff_equal (among alike? t c.store) (among alike? t (ps ++ b.store)) (grown-from row_limit step_limit D.grown t)
      (within_append alike? ps b.store c.store D.stored (kept row_limit step_limit D.grown) t)

  pub done-members : {ps : List Truth} {n : ℕ} {b c : Book} → Done row_limit step_limit ps n b c
      → (t : Truth) → among alike? t c.store ≡ among alike? t b.store || among alike? t ps
  done-members {ps} {b = b} D t =
      done_all D t ∙ among_append alike? t ps b.store ∙ or_comm (among alike? t ps) (among alike? t b.store)

  pub done-rows : {ps : List Truth} {n : ℕ} {b c : Book} → Done row_limit step_limit ps n b c → length c.store ≡ length (distinct alike? (ps ++ b.store))
  done-rows {ps} {b = b} {c = c} D =
      sym (ap length (apart_distinct alike? alike_sameness c.store D.grown.proper.no_repeats))
      ∙ distinct-same alike? alike_sameness c.store (ps ++ b.store) (done_all D)

  -- Done: the rows are then the parts of one function more.
  pub done-holds : (f : Truth) {fs : List Truth} {n : ℕ} {b c : Book} → HoldsParts b fs → Done row_limit step_limit (parts f) n b c → HoldsParts c (f ∷ fs)
  done-holds f {b = b} H D = record { members = λ t. done_all D t ∙ holds_more f H t }

  -- Short of rows: these functions have together more parts than the limit.
  pub rows-together : (f : Truth) {fs : List Truth} {l n : ℕ} {b c : Book} → HoldsParts b fs → ShortOfRows row_limit step_limit (parts f) l n b c
      → row_limit < together (f ∷ fs)
  rows-together f H R = rw (← (holds-together f H)) R.over
