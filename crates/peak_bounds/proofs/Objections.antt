-- Evidence that holds has no objection, and evidence has one objection at most.
use Rattle.std.proofs.Common.{◌≡◌, ℕ, ◌≤◌, List, [], length, inl, inr, refl, sym, ap, subst, ◌∙◌, arith}
use Rattle.std.proofs.lemmas.Bool.{cases_lt}
use Rattle.shared_systems.specs.Shared.{SharedTaskSystem}
use Rattle.peak_bounds.specs.declared.evidence.Evidence.{Evidence}
use Rattle.peak_bounds.specs.declared.evidence.Evidence.TheVariants.{Start, Need, Set}
use Rattle.peak_bounds.specs.declared.evidence.BlockerTest.{BlockerTest}
use Rattle.peak_bounds.specs.declared.evidence.BlockerTest.TheVariants as tests
use Rattle.peak_bounds.specs.declared.evidence.Objection.{Objection}
use Rattle.peak_bounds.specs.declared.evidence.Objection.TheVariants as objections
use Rattle.peak_bounds.specs.EventSets.{BlockerValue, EventSetValue}
use Rattle.peak_bounds.specs.Evidence.{Passes, EachPasses, EarlierPass, IsFirstFailing, IsObjection}

-- ---- one test that fails first

module _ (system : SharedTaskSystem) (set : EventSetValue) (bound : ℕ) where
  one_place : (test : BlockerTest) (p q : ℕ) → IsFirstFailing system set bound test p → IsFirstFailing system set bound test q → p ≡ q
  one_place test p q a b = elim (cases_lt p q) [
    | inl less ↦ absurd (a.first.fails (b.first.before p a.first.is_place.0 less))
    | inr high ↦ elim (cases_lt q p) [
      | inl less ↦ absurd (b.first.fails (a.first.before q b.first.is_place.0 less))
      | inr low ↦ omega (arith, high, low)
    ]
  ]

  fails_none : (test : BlockerTest) (p : ℕ) → IsFirstFailing system set bound test p → EachPasses system set bound test → ⊥
  fails_none test p a each = a.first.fails (each p a.first.is_place)

  -- where two tests are tried blocker by blocker, and the second at a place at which the first passes
  apart : (t u : BlockerTest) (p q : ℕ) → IsFirstFailing system set bound t p → IsFirstFailing system set bound u q
      → EarlierPass system set bound p → EarlierPass system set bound q → Passes system set bound t q → ⊥
  apart t u p q a b before_p before_q passes = elim (cases_lt p q) [
    | inl less ↦ a.first.fails (before_q t p a.first.is_place.0 less)
    | inr high ↦ elim (cases_lt q p) [
      | inl less ↦ b.first.fails (before_p u q b.first.is_place.0 less)
      | inr low ↦ a.first.fails (subst (Passes system set bound t) (let e : q ≡ p = omega (arith, high, low) in e) passes)
    ]
  ]

  one_failing : (t u : BlockerTest) (p q : ℕ) → IsFirstFailing system set bound t p → IsFirstFailing system set bound u q
      → objections.Blocker t p ≡ objections.Blocker u q
  one_failing tests.Task tests.Task p q a b = ap (objections.Blocker tests.Task) (one_place tests.Task p q a b)
  one_failing tests.Task tests.Rising p q a b = absurd (fails_none tests.Task p a (b.before))
  one_failing tests.Task tests.Amounts p q a b = absurd (fails_none tests.Task p a (b.before.0))
  one_failing tests.Task tests.Sizes p q a b = absurd (fails_none tests.Task p a (b.before.0.0))
  one_failing tests.Task tests.Open p q a b = absurd (fails_none tests.Task p a (b.before.0.0))
  one_failing tests.Task tests.Level p q a b = absurd (fails_none tests.Task p a (b.before.0.0))
  one_failing tests.Rising tests.Task p q a b = absurd (fails_none tests.Task q b (a.before))
  one_failing tests.Rising tests.Rising p q a b = ap (objections.Blocker tests.Rising) (one_place tests.Rising p q a b)
  one_failing tests.Rising tests.Amounts p q a b = absurd (fails_none tests.Rising p a (b.before.1))
  one_failing tests.Rising tests.Sizes p q a b = absurd (fails_none tests.Rising p a (b.before.0.1))
  one_failing tests.Rising tests.Open p q a b = absurd (fails_none tests.Rising p a (b.before.0.1))
  one_failing tests.Rising tests.Level p q a b = absurd (fails_none tests.Rising p a (b.before.0.1))
  one_failing tests.Amounts tests.Task p q a b = absurd (fails_none tests.Task q b (a.before.0))
  one_failing tests.Amounts tests.Rising p q a b = absurd (fails_none tests.Rising q b (a.before.1))
  one_failing tests.Amounts tests.Amounts p q a b = ap (objections.Blocker tests.Amounts) (one_place tests.Amounts p q a b)
  one_failing tests.Amounts tests.Sizes p q a b = absurd (fails_none tests.Amounts p a (b.before.0.2))
  one_failing tests.Amounts tests.Open p q a b = absurd (fails_none tests.Amounts p a (b.before.0.2))
  one_failing tests.Amounts tests.Level p q a b = absurd (fails_none tests.Amounts p a (b.before.0.2))
  one_failing tests.Sizes tests.Task p q a b = absurd (fails_none tests.Task q b (a.before.0.0))
  one_failing tests.Sizes tests.Rising p q a b = absurd (fails_none tests.Rising q b (a.before.0.1))
  one_failing tests.Sizes tests.Amounts p q a b = absurd (fails_none tests.Amounts q b (a.before.0.2))
  one_failing tests.Sizes tests.Sizes p q a b = ap (objections.Blocker tests.Sizes) (one_place tests.Sizes p q a b)
  one_failing tests.Sizes tests.Open p q a b = absurd (apart tests.Sizes tests.Open p q a b a.before.1 b.before.1 b.before.2)
  one_failing tests.Sizes tests.Level p q a b = absurd (apart tests.Sizes tests.Level p q a b a.before.1 b.before.1 b.before.2)
  one_failing tests.Open tests.Task p q a b = absurd (fails_none tests.Task q b (a.before.0.0))
  one_failing tests.Open tests.Rising p q a b = absurd (fails_none tests.Rising q b (a.before.0.1))
  one_failing tests.Open tests.Amounts p q a b = absurd (fails_none tests.Amounts q b (a.before.0.2))
  one_failing tests.Open tests.Sizes p q a b = absurd (apart tests.Sizes tests.Open q p b a b.before.1 a.before.1 a.before.2)
  one_failing tests.Open tests.Open p q a b = ap (objections.Blocker tests.Open) (one_place tests.Open p q a b)
  one_failing tests.Open tests.Level p q a b = absurd (apart tests.Open tests.Level p q a b a.before.1 b.before.1 b.before.3)
  one_failing tests.Level tests.Task p q a b = absurd (fails_none tests.Task q b (a.before.0.0))
  one_failing tests.Level tests.Rising p q a b = absurd (fails_none tests.Rising q b (a.before.0.1))
  one_failing tests.Level tests.Amounts p q a b = absurd (fails_none tests.Amounts q b (a.before.0.2))
  one_failing tests.Level tests.Sizes p q a b = absurd (apart tests.Sizes tests.Level q p b a b.before.1 a.before.1 a.before.2)
  one_failing tests.Level tests.Open p q a b = absurd (apart tests.Open tests.Level q p b a b.before.1 a.before.1 a.before.3)
  one_failing tests.Level tests.Level p q a b = ap (objections.Blocker tests.Level) (one_place tests.Level p q a b)

  some_blocker : set.blockers ≡ [] → 1 ≤ length set.blockers → ⊥
  some_blocker none some = omega (arith, some, ap (λ (l : List BlockerValue). length l) none)

  one_of_set : (a b : Objection) → IsObjection system (Set set) bound a → IsObjection system (Set set) bound b → a ≡ b
  one_of_set objections.NoTask b x y = absurd x
  one_of_set objections.Low b x y = absurd x
  one_of_set objections.Empty objections.NoTask x y = absurd y
  one_of_set objections.Empty objections.Low x y = absurd y
  one_of_set objections.Empty objections.Empty x y = refl
  one_of_set objections.Empty objections.Base x y = absurd (some_blocker x y.0)
  one_of_set objections.Empty (objections.Blocker u q) x y = absurd (some_blocker x y.some)
  one_of_set objections.Base objections.NoTask x y = absurd y
  one_of_set objections.Base objections.Low x y = absurd y
  one_of_set objections.Base objections.Empty x y = absurd (some_blocker y x.0)
  one_of_set objections.Base objections.Base x y = refl
  one_of_set objections.Base (objections.Blocker u q) x y = absurd (x.1 y.base)
  one_of_set (objections.Blocker t p) objections.NoTask x y = absurd y
  one_of_set (objections.Blocker t p) objections.Low x y = absurd y
  one_of_set (objections.Blocker t p) objections.Empty x y = absurd (some_blocker y x.some)
  one_of_set (objections.Blocker t p) objections.Base x y = absurd (y.1 x.base)
  one_of_set (objections.Blocker t p) (objections.Blocker u q) x y = one_failing t u p q x y

-- ---- one objection

is_low : (system : SharedTaskSystem) (bound : ℕ) (o : Objection) → IsObjection system Start bound o → o ≡ objections.Low
is_low system bound objections.NoTask is = absurd is
is_low system bound objections.Low is = refl
is_low system bound objections.Empty is = absurd is
is_low system bound objections.Base is = absurd is
is_low system bound (objections.Blocker t p) is = absurd is

one_of_need : (system : SharedTaskSystem) (t bound : ℕ) (a b : Objection) → IsObjection system (Need t) bound a → IsObjection system (Need t) bound b → a ≡ b
one_of_need system t bound objections.NoTask objections.NoTask x y = refl
one_of_need system t bound objections.NoTask objections.Low x y = absurd (x y.0)
one_of_need system t bound objections.NoTask objections.Empty x y = absurd y
one_of_need system t bound objections.NoTask objections.Base x y = absurd y
one_of_need system t bound objections.NoTask (objections.Blocker u q) x y = absurd y
one_of_need system t bound objections.Low objections.NoTask x y = absurd (y x.0)
one_of_need system t bound objections.Low objections.Low x y = refl
one_of_need system t bound objections.Low objections.Empty x y = absurd y
one_of_need system t bound objections.Low objections.Base x y = absurd y
one_of_need system t bound objections.Low (objections.Blocker u q) x y = absurd y
one_of_need system t bound objections.Empty b x y = absurd x
one_of_need system t bound objections.Base b x y = absurd x
one_of_need system t bound (objections.Blocker u q) b x y = absurd x

pub same_objection : (system : SharedTaskSystem) (evidence : Evidence) (bound : ℕ) (a b : Objection)
    → IsObjection system evidence bound a → IsObjection system evidence bound b → a ≡ b
same_objection system Start bound a b x y = is_low system bound a x ∙ sym (is_low system bound b y)
same_objection system (Need t) bound a b x y = one_of_need system t bound a b x y
same_objection system (Set set) bound a b x y = one_of_set system set bound a b x y
