-- No public clause names this.
-- Laws of what follows: with them a reader shows that its steps follow the tests of its format.
use Rattle.std.specs.Prelude.{◌≡◌, List, [], ◌∷◌, ◌++◌, Bool, true, false, Result, Ok, Err, None, refl}
use Rattle.std.specs.Option.{option_or}
use Rattle.std.proofs.Common.{◌∙◌, sym, ap, subst, append_assoc, append-nil}
use Rattle.mp_text.specs.declared.refusals.Refusal.{Refusal}
use Rattle.mp_text.specs.declared.refusals.Refusal.TheVariants as refusals
use Rattle.mp_text.specs.Grammar.{Test, test, first_failure, tests_of_all}
use Rattle.mp_text.specs.Reading.{◌>>=◌, tested, steps_of_all, Fails, Steps, Follows, Judges}

pub Follows-same : {K S : Type 0} (xs ys : List (Test K)) (P : S → Type 0) (r : Result S (Refusal K))
    → first_failure xs ≡ first_failure ys → Follows ys P r → Follows xs P r
Follows-same xs ys P (Ok s) e (none, here) = (e ∙ none, here)
Follows-same xs ys P (Err refusal) e fails = e ∙ fails

pub Follows-weaker : {K S : Type 0} (tests : List (Test K)) (P Q : S → Type 0) (r : Result S (Refusal K))
    → ((s : S) → P s → Q s) → Follows tests P r → Follows tests Q r
Follows-weaker tests P Q (Ok s) more (none, here) = (none, more s here)
Follows-weaker tests P Q (Err refusal) more fails = fails

-- a call that does the step judges as its tests say
pub Steps-judge : {K S Y : Type 0} (tests : List (Test K)) (P : S → Type 0) (step : Result S (Refusal K)) (answer : Result Y (Refusal K))
    (new : S) → Follows tests P step → Steps step answer new → Judges tests P answer new
Steps-judge tests P step (Ok y) new follows does = rw does at follows
Steps-judge tests P step (Err refusals.NoMemory) new follows does = tt
Steps-judge tests P step (Err (refusals.Format f)) new follows does = rw does at follows
Steps-judge tests P step (Err (refusals.Limit l)) new follows does = rw does at follows

-- what is tested follows its tests
pub tested-follows : {K S : Type 0} (tests : List (Test K)) (value : S) (P : S → Type 0)
    → (first_failure tests ≡ None → P value) → Follows tests P (tested tests value)
tested-follows [] value P = λ here. (refl, here refl)
tested-follows {K} {S} (t ∷ ts) value P =
    let one : Bool → List (Test K) = λ holds. test holds t.refusal ∷ ts in
    elim t.holds as (λ holds. (first_failure (one holds) ≡ None → P value) → Follows (one holds) P (tested (one holds) value)) [
      | true ↦ λ here. Follows-same (one true) ts P (tested ts value) refl (tested-follows ts value P here)
      | false ↦ λ here. refl
    ]

-- the first failure of tests in a row is that of the first that has one
pub first_failure-append : {K : Type 0} (xs ys : List (Test K)) → first_failure (xs ++ ys) ≡ option_or (first_failure xs) (first_failure ys)
first_failure-append [] ys = refl
first_failure-append {K} (t ∷ ts) ys =
    let one : Bool → List (Test K) = λ holds. test holds t.refusal ∷ ts in
    elim t.holds as (λ holds. first_failure (one holds ++ ys) ≡ option_or (first_failure (one holds)) (first_failure ys)) [
      | true ↦ first_failure-append ts ys
      | false ↦ refl
    ]

-- a step and what follows it follow the tests of both, in a row
pub Follows->>= : {K S T : Type 0} (xs ys : List (Test K)) (P : S → Type 0) (Q : T → Type 0) (r : Result S (Refusal K))
    (f : S → Result T (Refusal K)) → Follows xs P r → ((s : S) → P s → Follows ys Q (f s)) → Follows (xs ++ ys) Q (r >>= f)
Follows->>= xs ys P Q (Ok s) f (none, here) next =
    Follows-same (xs ++ ys) ys Q (f s) (first_failure-append xs ys ∙ ap (λ o. option_or o (first_failure ys)) none) (next s here)
Follows->>= xs ys P Q (Err refusal) f fails next = first_failure-append xs ys ∙ ap (λ o. option_or o (first_failure ys)) fails

-- steps over the elements of a list, as the tokens of a line, follow their tests
pub Follows-steps_of_all : {K S X : Type 0} (tests : List X → X → List (Test K)) (P : S → List X → Type 0)
    (step : S → X → Result S (Refusal K))
    → ((s : S) (before : List X) (x : X) → P s before → Follows (tests before x) (λ t. P t (before ++ x ∷ [])) (step s x))
    → (s : S) (before xs : List X) → P s before → Follows (tests_of_all tests before xs) (λ t. P t (before ++ xs)) (steps_of_all step s xs)
Follows-steps_of_all tests P step each s before [] here = (refl, subst (P s) (sym (append-nil before)) here)
Follows-steps_of_all {K} {S} {X} tests P step each s before (x ∷ xs) here =
    let more : List X = before ++ x ∷ [] in
    let rest : List (Test K) = tests_of_all tests more xs in
    Follows->>= (tests before x) rest (λ t. P t more) (λ t. P t (before ++ x ∷ xs)) (step s x) (λ t. steps_of_all step t xs)
    (each s before x here)
    (λ t there. Follows-weaker rest (λ u. P u (more ++ xs)) (λ u. P u (before ++ x ∷ xs)) (steps_of_all step t xs)
    (λ u. subst (P u) (append_assoc before (x ∷ []) xs)) (Follows-steps_of_all tests P step each t more xs there))

-- a refusal does not depend on the value that would follow
tested-err : {K S T : Type 0} (tests : List (Test K)) (v : S) (w : T) (e : Refusal K) → tested tests v ≡ Err e → tested tests w ≡ Err e
tested-err {K} {S} {T} [] v w e h = absurd cc
tested-err {K} {S} {T} (t ∷ ts) v w e h = go t.holds refl h (tested-err ts v w e) where
  go : (b : Bool) → t.holds ≡ b → tested (t ∷ ts) v ≡ Err e → (tested ts v ≡ Err e → tested ts w ≡ Err e) → tested (t ∷ ts) w ≡ Err e
  go true same h rest = rw same (rest (rw same at h))
  go false same h rest = (let is : t.refusal ≡ e = cc (rw same at h) in rw (same, is) refl)

pub Fails-tested : {K S T : Type 0} (tests : List (Test K)) (v : S) (w : T) (e : Refusal K) → Fails (tested tests v) e
    → Fails (tested tests w) e
Fails-tested tests v w refusals.NoMemory h = tt
Fails-tested tests v w (refusals.Format f) h = tested-err tests v w (refusals.Format f) h
Fails-tested tests v w (refusals.Limit l) h = tested-err tests v w (refusals.Limit l) h
