-- Within positions that denote a term, each position is one that a builder takes.
use Rattle.std.proofs.Common.{◌≡◌, ◌+◌, ◌^◌, ◌<◌, ◌≤◌, false, List, [], ◌∷◌, ◌++◌, length, length-append}
use Rattle.std.proofs.Common.{refl, sym, ap, subst, ◌∙◌, arith, Option, Some, None}
use Rattle.std.specs.Prelude.{All, option_and_then}
use Rattle.std.specs.List.{sum_by}
use Rattle.std.proofs.lemmas.Bool.{le-ltb}
use Rattle.std.proofs.lemmas.List.Elements.{All-head}
use Rattle.std.proofs.lemmas.List.Sums.{sum_by-append, sum_by-cons}
use Rattle.limits.specs.Limits.{most_positions, most_total}
use Rattle.mp_system.specs.declared.system.Task.{Task}
use Rattle.sp_terms.specs.declared.position.Position.{Position}
use Rattle.sp_terms.specs.Term.{Term, series, Parts, no_parts, part, count, backward, AreAllowed, IsAllowed}
use Rattle.sp_terms.specs.Postfix.{push, push_all, postfix, at_task}
use Rattle.sp_terms.specs.Values.{stack_from, stack_of, term_of, AllAllowed, IsWithinLimits, added_size, added_tasks, IsTerms}
use Rattle.sp_terms.specs.Builder.{is_overshared}
use Rattle.sp_terms.proofs.Stacks.{onto, stack_postfix, Pushed, held, ran, beside, pushed, all_pushed}
use Rattle.sp_terms.proofs.Stacks.{prefix, all-split, length-postfix, some-position}
use Rattle.lists.proofs.Options.{some_same}
use Rattle.lists.proofs.Options.{none_some}
use Rattle.sp_terms.proofs.ValuesLemmas.{first-le-weight}

-- what stood on the stack is allowed where what comes of it is

all_onto : (ts : Parts) (stack : List Term) → AreAllowed ts → AllAllowed stack → AllAllowed (onto ts stack)
all_onto no_parts stack g h = h
all_onto (part t ts) stack g h = all_onto ts (t ∷ stack) g.1 (g.0, h)

step_back : (p : Position) (stack out : List Term) → Pushed p stack out → AllAllowed out → AllAllowed stack
step_back p stack out (held size st) g = g.1
step_back p stack out (ran v a b st) g = let (x, y, ga, gb) = g.0 in (gb, (ga, g.1))
step_back p stack out (beside ts st e) g = all_onto ts st g.0.1 g.1

pub back_allowed : (ps : List Position) (stack out : List Term) → push_all ps stack ≡ Some out → AllAllowed out → AllAllowed stack
back_allowed [] stack out e g = subst AllAllowed (sym (some_same e)) g
back_allowed (p ∷ ps) stack out e g = go (push p stack) refl (λ next h. back_allowed ps next out h g) e
  where
    go : (o : Option (List Term)) → push p stack ≡ o → ((next : List Term) → push_all ps next ≡ Some out → AllAllowed next)
        → option_and_then (push_all ps) o ≡ Some out → AllAllowed stack
    go None h f e = absurd (none_some e)
    go (Some next) h f e = step_back p stack next (pushed p stack next h) (f next e)

-- a position within the list, and what it finds and leaves
pub record Standing (ps first : List Position) (p : Position) : Type 0 where
  pub stack : List Term
  pub after : List Term
  pub before : push_all first [] ≡ Some stack
  pub step : Pushed p stack after
  pub allowed : AllAllowed after
  pub within : IsWithinLimits p
  pub few : length first < most_positions
  pub total : sum_by added_size first + added_size p ≤ most_total
  pub tasks : sum_by added_tasks first + added_tasks p ≤ sum_by added_tasks ps

pub standing : (ps first : List Position) (p : Position) (rest : List Position) → IsTerms ps → ps ≡ first ++ p ∷ rest → Standing ps first p
standing ps first p rest terms split =
    let (stack, before, then) = prefix first (p ∷ rest) (term_of ps ∷ [])
    (subst (λ (qs : List Position). push_all qs [] ≡ Some (term_of ps ∷ [])) split terms.is) in
    go stack before (push p stack) refl then
  where
    go : (stack : List Term) → push_all first [] ≡ Some stack → (o : Option (List Term))
        → push p stack ≡ o → option_and_then (push_all rest) o ≡ Some (term_of ps ∷ []) → Standing ps first p
    go stack before None h e = absurd (none_some e)
    go stack before (Some after) h e =
        let sizes = ap (sum_by added_size) split ∙ sum_by-append added_size first (p ∷ rest) in
        let tasks = ap (sum_by added_tasks) split ∙ sum_by-append added_tasks first (p ∷ rest) in
        record {
          stack = stack;
          after = after;
          before = before;
          step = pushed p stack after h;
          allowed = back_allowed rest after (term_of ps ∷ []) e terms.allowed;
          within =
              All-head IsWithinLimits p rest (all-split IsWithinLimits first (p ∷ rest) (subst (All IsWithinLimits) split terms.within)).1;
          few = omega (arith, terms.few, ap length split, length-append first (p ∷ rest));
          total = omega (arith, terms.total, sizes, sum_by-cons added_size p rest);
          tasks = omega (arith, tasks, sum_by-cons added_tasks p rest);
        }

-- a task whose series is allowed does not share too much

pub not_over : (first : List Position) (v : Task) (a b : Term) (stack : List Term)
    → push_all first [] ≡ Some (b ∷ a ∷ stack) → IsAllowed (series a v b) → is_overshared (at_task v) (stack_of first) ≡ false
not_over first v a b stack before (x, y, ga, gb) =
    let own : is_overshared (at_task v) (b ∷ a ∷ stack) ≡ false = rw (le-ltb _ _ x, le-ltb _ _ y) refl in
    ap (λ (st : List Term). is_overshared (at_task v) st) (ap stack_from before) ∙ own

-- its share is small

pub small_share : (first : List Position) (v : Task) (a b : Term) (stack : List Term)
    → push_all first [] ≡ Some (b ∷ a ∷ stack) → IsAllowed (series a v b) → sum_by added_size first ≤ most_total → v.share < 2 ^ 64
small_share first v a b stack before (x, y, ga, gb) light =
    let is = ap (sum_by added_size) (all_pushed first [] (b ∷ a ∷ stack) before) in
    let two = sum_by-append added_size (stack_postfix stack ++ postfix a) (postfix b) in
    let one = sum_by-append added_size (stack_postfix stack) (postfix a) in
    omega (arith, x, first-le-weight backward a, is, two, one, light)

-- what a `par` takes stands on the stack

pub onto-length : (ts : Parts) (stack : List Term) → length (onto ts stack) ≡ count ts + length stack
onto-length no_parts stack = omega arith
onto-length (part t ts) stack = omega (arith, onto-length ts (t ∷ stack))

stack-length : (stack : List Term) → length stack ≤ length (stack_postfix stack)
stack-length [] = omega arith
stack-length (t ∷ stack) =
    omega (arith, stack-length stack, length-append (stack_postfix stack) (postfix t), length-postfix t, some-position t)

-- positions leave no more terms than they are
pub stack_few : (ps : List Position) (stack : List Term) → push_all ps [] ≡ Some stack → length stack ≤ length ps
stack_few ps stack e = omega (arith, stack-length stack, ap length (all_pushed ps [] stack e))
