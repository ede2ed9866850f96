-- What `make` gives, as laws on lists.
use Prim.Native.Nat.{◌%◌, ◌*◌, ◌+◌, ◌-◌, ◌/◌, ◌<◌, ◌≤◌, suc, ℕ}
use Rattle.bdd.proofs.AgreeLaws.{kept_self, kept_then}
use Rattle.bdd.proofs.DiagramLaws.{canonical, cofactor-hit, cofactor_miss, cofactor-reference, denote-inverse, denote-node, denote-perfect, denote_skip, denote-top, frame, node-high, node-low, one-row-alike, reference-more, row_of}
use Rattle.bdd.proofs.ReferenceLaws.{double_row, edge-bit, edge_injective, edge-plain, edge_row, edge-twice, row-reference}
use Rattle.bdd.proofs.StoreLaws.{row_zero, store-new, stored-among, stored_denoted}
use Rattle.bdd.specs.Diagram.{Canonical, Reference, Row, cofactor, denote, edge, row_function, store_of}
use Rattle.bdd.specs.code.Rows.{MARK, high_at, level_at, low_at}
use Rattle.bdd.specs.code.Store.{Agree, Kept, Store}
use Rattle.bdd_unique.proofs.ChainLaws.{added_is, added-kept, added-owner, added-store}
use Rattle.bdd_unique.specs.code.Unique.{Absent, FoundAt, Grown, Is, MadeAt, MadeFull, NewRow, add_part, added, join, plain}
use Rattle.truth.proofs.Booleans.{not_true}
use Rattle.truth.proofs.Equality.{invert-twice, same-equal, same-reflexive}
use Rattle.truth.proofs.Parts.{perfect_depth}
use Rattle.truth.proofs.Values.{value-invert}
use Rattle.truth.specs.Distinct.{among}
use Rattle.truth.specs.Parts.{alike?, depends?}
use Rattle.truth.specs.Truth.{Truth, halves, invert, node, same?, value_at}
use mathlib.Core.Bool.{Bool, ◌&&◌, cond, false, not, true}
use mathlib.Core.List.{List, [], ◌∷◌}
use mathlib.Core.Logic.{⊎_elim}
use mathlib.Core.Path.{◌∙◌, ◌≡◌, ap, ap₂, refl, subst, sym}
use native.Mathlib.Decide.{dec_le, ℕ_discrete}
use native.Mathlib.Numerals.{add-one}
use native.Mathlib.Omega.{arith}

-- Adding a part.
independent_stays : (f : Truth) (store : List Truth) → depends? f ≡ false → add_part f store ≡ store
unfolding add_part
independent_stays f store h = rw h

stored_stays : (f : Truth) (store : List Truth) → among alike? f store ≡ true → add_part f store ≡ store
unfolding add_part
stored_stays f store h = rw h (go (depends? f))
  where
    go : (b : Bool) → cond (b && false) (plain f ∷ store) store ≡ store
    go true = refl
    go false = refl

new_part : (f : Truth) (store : List Truth) → depends? f ≡ true → among alike? f store ≡ false → add_part f store ≡ plain f ∷ store
unfolding add_part
new_part f store h k = rw (h, k)

-- Of a function and its inverse the plain one is false where all inputs are 0.
plain-self : (f : Truth) → value_at f [] ≡ false → plain f ≡ f
unfolding plain
plain-self f h = rw h

plain-inverse : (f : Truth) → value_at f [] ≡ false → plain (invert f) ≡ f
unfolding plain
plain-inverse f h = rw (value-invert f [], h) (invert-twice f)

pub plain_row : (rows : List ℕ) (n : ℕ) → Canonical rows n → (m r : ℕ) → r / 2 ≤ n → level_at rows (r / 2) ≡ m → plain (denote rows m r) ≡ row_function rows (r / 2)
unfolding row_function
plain_row rows n C m r le e =
    ⊎_elim
    (λ h. ap plain (ap₂ (denote rows) (sym e) h) ∙ plain-self (row_function rows (r / 2)) (row_zero rows n C (r / 2) le))
    (λ h. ap plain (ap₂ (denote rows) (sym e) h ∙ denote-inverse rows (level_at rows (r / 2)) (r / 2 * 2)) ∙ plain-inverse (row_function rows (r / 2)) (row_zero rows n C (r / 2) le))
    (row-reference r)

pub stays : {s : List ℕ} {limit n : ℕ} → Store s limit n → Grown s s limit n n
stays {s} {limit} {n} S = record { store = S; kept = kept_self s n; more = omega arith; fresh = λ i above le. absurd (omega arith) }

-- A store that grew twice grew; what a reference denotes stays.
pub grown-then : {s t v : List ℕ} {limit n a b : ℕ} → Grown s t limit n a → Grown t v limit a b → Grown s v limit n b
grown-then {a = a} G H =
    record {
      store = H.store;
      kept = kept_then G.kept H.kept G.more;
      more = omega (arith, G.more, H.more);
      fresh = λ i above le. elim (dec_le i a) [ yes o ↦ H.kept.owners i o ∙ G.fresh i above o | no o ↦ H.fresh i (omega arith) le ];
    }

pub grown-reference : {s t : List ℕ} {limit n u m r : ℕ} → Grown s t limit n u → Reference s n m r → Reference t u m r
grown-reference {r = r} G R = record { stored = omega (arith, R.stored, G.more); fits = rw (G.kept.agree.levels (r / 2) R.stored) R.fits }

pub grown-denote : (s t : List ℕ) (limit n u : ℕ) → Canonical s n → Grown s t limit n u → (m r : ℕ) → r / 2 ≤ n → denote t m r ≡ denote s m r
grown-denote s t limit n u C G m r le = frame s n C t G.kept.agree m r le

-- What `make` asks for.
pub record MakeAsked (s : List ℕ) (limit n level a b : ℕ) : Type 0 where
  pub store : Store s limit n
  pub deep : 1 ≤ level
  pub small : level < MARK
  pub low : Reference s n (level - 1) a
  pub high : Reference s n (level - 1) b

-- The edges c and d of the row, of which the low one is not inverted.
pub record Edges (a b c d : ℕ) : Type 0 where
  pub differ : a ≡ b → ⊥
  pub low : c ≡ edge a a
  pub high : d ≡ edge b a

module _ {s : List ℕ} {limit n level a b : ℕ} (Q : MakeAsked s limit n level a b) where
  S : Store s limit n
  S = Q.store

  A : Reference s n (level - 1) a
  A = Q.low

  B : Reference s n (level - 1) b
  B = Q.high

  abbrev m : ℕ
  m = level - 1

  abbrev f : Truth
  f = join s level a b

  top : level ≡ suc m
  top = omega (arith, Q.deep)

  -- Equal halves: no row.
  pub make_same : a ≡ b → MadeAt s s limit n level a b a n
  unfolding depends?
  make_same e =
      record {
        grown = stays S;
        reference = reference-more A (omega (arith, Q.deep));
        denotes = ap (λ x. denote s x a) top ∙ denote_skip s m a A.fits ∙ ap (λ x. node (denote s m a) (denote s m x)) e;
        functions = sym (independent_stays f (store_of s n) (subst (λ (x : ℕ). depends? (join s level a x) ≡ false) e (ap not (same-reflexive (denote s m a)))));
      }

  -- The edges of a row with the halves a and b, the low one not inverted.
  pub make_row : {c d : ℕ} → Edges a b c d → NewRow s n level c d
  make_row E =
      rw (E.low, E.high)
      (record {
        deep = Q.deep;
        small = Q.small;
        low-stored = rw (edge_row a a) A.stored;
        high-stored = rw (edge_row b a) B.stored;
        low-level = rw (edge_row a a) (omega (arith, A.fits, Q.deep));
        high-level = rw (edge_row b a) (omega (arith, B.fits, Q.deep));
        plain = edge-bit a a ∙ even a;
        differ = λ e. E.differ (edge_injective a b a e);
      })
    where
      even : (a : ℕ) → (a + a) % 2 ≡ 0
      even a = omega arith

  f_depends : (a ≡ b → ⊥) → depends? f ≡ true
  unfolding depends?
  f_depends differ =
      ap not (not_true (same? (denote s m a) (denote s m b))
      (λ h. differ (canonical s n S.canonical m a b A B (same-equal (denote s m a) (denote s m b) h))))

  -- A row that holds the edges has the function, or its inverse.
  module _ {t : List ℕ} {i r : ℕ} (I : Is t i level (edge a a) (edge b a)) (G : Agree s t n) (er : r ≡ edge (i * 2) a) where
    row_is : r / 2 ≡ i
    row_is = ap (λ x. x / 2) er ∙ edge_row (i * 2) a ∙ double_row i

    bit_is : r % 2 ≡ a % 2
    bit_is = ap (λ x. x % 2) er ∙ edge-bit (i * 2) a ∙ go
      where
        go : (i * 2 + a) % 2 ≡ a % 2
        go = omega arith

    level-is : level_at t (r / 2) ≡ level
    level-is = ap (level_at t) row_is ∙ I.level

    low-is : cofactor t false level r ≡ a
    low-is =
        cofactor-hit t false level r level-is
        ∙ ap (λ x. edge x r) (ap (low_at t) row_is ∙ I.low)
        ∙ edge-twice a a r (sym bit_is)

    high_is : cofactor t true level r ≡ b
    high_is =
        cofactor-hit t true level r level-is
        ∙ ap (λ x. edge x r) (ap (high_at t) row_is ∙ I.high)
        ∙ edge-twice b a r (sym bit_is)

    row-denotes : denote t level r ≡ f
    row-denotes =
        denote-top t level r Q.deep
        ∙ ap₂ node
        (ap (denote t m) low-is ∙ frame s n S.canonical t G m a A.stored)
        (ap (denote t m) high_is ∙ frame s n S.canonical t G m b B.stored)

  -- A reference that denotes the function has a row that holds the edges.
  holds : (a ≡ b → ⊥) → (r : ℕ) → Reference s n (suc m) r → denote s (suc m) r ≡ f → Is s (r / 2) level (edge a a) (edge b a) × (1 ≤ r / 2)
  holds differ r R e =
      elim (ℕ_discrete (level_at s (r / 2)) (suc m)) [
        | yes h ↦ hit h
        | no h ↦ absurd (differ (sym low ∙ cofactor_miss s false (suc m) r h ∙ sym (cofactor_miss s true (suc m) r h) ∙ high))
      ]
    where
      low : cofactor s false (suc m) r ≡ a
      low =
          canonical s n S.canonical m (cofactor s false (suc m) r) a (cofactor-reference s n S.canonical false m r R) A
          (node-low (sym (denote-node s m r) ∙ e))

      high : cofactor s true (suc m) r ≡ b
      high =
          canonical s n S.canonical m (cofactor s true (suc m) r) b (cofactor-reference s n S.canonical true m r R) B
          (node-high (sym (denote-node s m r) ∙ e))

      hit : level_at s (r / 2) ≡ suc m → Is s (r / 2) level (edge a a) (edge b a) × (1 ≤ r / 2)
      hit h =
          let w : Row s (r / 2) = row_of s n S.canonical r (omega arith) R.stored in
          let el : edge (low_at s (r / 2)) r ≡ a = sym (cofactor-hit s false (suc m) r h) ∙ low in
          let eh : edge (high_at s (r / 2)) r ≡ b = sym (cofactor-hit s true (suc m) r h) ∙ high in
          let bit : r % 2 ≡ a % 2 = edge-plain (low_at s (r / 2)) r w.plain ∙ ap (λ x. x % 2) el in (
            record {
              level = h ∙ sym top;
              low = sym (edge-twice (low_at s (r / 2)) r a bit) ∙ ap (λ x. edge x a) el;
              high = sym (edge-twice (high_at s (r / 2)) r a bit) ∙ ap (λ x. edge x a) eh;
            },
            omega (arith, w.earlier false),
          )

  module _ {c d : ℕ} (F : Edges a b c d) where
    -- A row is found.
    pub make_found : {i r : ℕ} → FoundAt s n level c d i → r ≡ edge (i * 2) a → MadeAt s s limit n level a b r n
    unfolding row_function
    make_found {i} {r} at er =
        let I : Is s i level (edge a a) (edge b a) = rw (F.low, F.high) at at.is in
        let G : Agree s s n = (kept_self s n).agree in
        let D : denote s level r ≡ f = row-denotes I G er in
        let w : r / 2 ≡ i = row_is I G er in
        record {
          grown = stays S;
          reference = record { stored = rw w at.stored; fits = omega (arith, level-is I G er) };
          denotes = D;
          functions = sym (stored_stays f (store_of s n)
              (stored-among s n f i at.pos at.stored
              (rw (I.level, ← D) (one-row-alike s level r (i * 2) (w ∙ sym (double_row i))))));
        }

    -- No row is found: the function is not among those stored.
    module _ (N : Absent s n level c d) where
      f_absent : among alike? f (store_of s n) ≡ false
      f_absent =
          not_true (among alike? f (store_of s n))
          (λ h. let D = stored_denoted s n f h in met D.inputs D.reference D.here D.is)
        where
          met : (k r : ℕ) → Reference s n k r → denote s k r ≡ f → ⊥
          met k r R e =
              let same : k ≡ suc m = perfect_depth (denote-perfect s k r) (rw e (halves (denote-perfect s m a) (denote-perfect s m b))) in
              let H = holds F.differ r (subst (λ (x : ℕ). Reference s n x r) same R) (subst (λ (x : ℕ). denote s x r ≡ f) same e) in
              N.none (r / 2) H.1 R.stored (rw (F.low, F.high) H.0)

      pub make_full : n ≡ limit → MadeFull s s limit n level a b
      make_full full = record { full = full; depends = f_depends F.differ; absent = f_absent; same = refl }

      -- The row is added.
      module _ (room : n ≡ limit → ⊥) where
        abbrev after : List ℕ
        after = added s limit n level c d

        free : suc n ≤ limit
        free = omega (arith, S.room.used)

        W : NewRow s n level c d
        W = make_row F

        pub added_one : {t : List ℕ} → t ≡ after → Store t limit (n + 1)
        added_one e = rw (e, add-one n) (added-store S free W N.none)

        T : Store after limit (suc n)
        T = added-store S free W N.none

        K : Kept s after n
        K = added-kept S free W N.none

        I : Is after (suc n) level (edge a a) (edge b a)
        I = let J = added_is S free W N.none in record { level = J.level; low = J.low ∙ F.low; high = J.high ∙ F.high }

        added-at : {r : ℕ} → r ≡ edge (suc n * 2) a → MadeAt s after limit n level a b r (suc n)
        added-at {r} er =
            let D : denote after level r ≡ f = row-denotes I K.agree er in
            let w : r / 2 ≡ suc n = row_is I K.agree er in
            let v : level_at after (r / 2) ≡ level = level-is I K.agree er in
            record {
              grown = record {
                store = T;
                kept = K;
                more = omega arith;
                fresh = λ j above le. let e : j ≡ suc n = omega arith in rw e (added-owner S free W N.none);
              };
              reference = record { stored = omega arith; fits = omega arith };
              denotes = D;
              functions =
                  store-new s after n S.canonical K.agree
                  ∙ ap (λ g. g ∷ store_of s n) (ap (row_function after) (sym w) ∙ sym (plain_row after (suc n) T.canonical level r (omega arith) v) ∙ ap plain D)
                  ∙ sym (new_part f (store_of s n) (f_depends F.differ) f_absent);
            }

        pub make_added : {t : List ℕ} → t ≡ after → {r : ℕ} → r ≡ edge ((n + 1) * 2) a → MadeAt s t limit n level a b r (n + 1)
        make_added et er = rw (et, add-one n) (added-at (rw (add-one n) at er))
