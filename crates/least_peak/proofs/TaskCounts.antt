-- How many tasks a term has.
use Rattle.std.proofs.Common.{◌≡◌, ◌∙◌, ◌+◌, ◌-◌, ◌<◌, ℕ, List, [], ◌∷◌, ◌++◌, refl, sym}
use Rattle.std.proofs.Common.{ap, subst, get_or, length, take, arith, length-append}
use Rattle.std.specs.List.{sum_by}
use Rattle.std.proofs.lemmas.List.Sums.{sum_by-append, sum_by_more}
use Rattle.mp_system.specs.declared.system.Task.{Task}
use Rattle.sp_terms.specs.declared.position.Position.{Position}
use Rattle.sp_terms.specs.declared.position.Position.TheVariants.{Hold, Par}
use Rattle.sp_terms.specs.declared.position.Position.TheVariants as at
use Rattle.sp_terms.specs.Postfix.{Denotes, at_task, postfix, all_postfix}
use Rattle.sp_terms.specs.SystemOfTerm.{tasks_of_term, tasks_of_parts}
use Rattle.sp_terms.specs.Term.{Term, hold, series, par, Parts, no_parts, part, count}
use Rattle.sp_terms.specs.Values.{IsTerms, added_tasks, term_of}

of_both : (xs ys : List Position) (vs ws : List Task) → sum_by added_tasks xs ≡ length vs → sum_by added_tasks ys ≡ length ws
    → sum_by added_tasks (xs ++ ys) ≡ length (vs ++ ws)
of_both xs ys vs ws one two = grind (arith, sum_by-append, length-append)

-- as many positions of a term are tasks as its system has tasks
mutual
  of_term : (t : Term) → sum_by added_tasks (postfix t) ≡ length (tasks_of_term t)
  of_term (hold size) = refl
  of_term (series a v b) =
      of_both (postfix a) (postfix b ++ at_task v ∷ []) (tasks_of_term a) (tasks_of_term b ++ v ∷ []) (of_term a)
      (of_both (postfix b) (at_task v ∷ []) (tasks_of_term b) (v ∷ []) (of_term b) refl)
  of_term (par ts) = sum_by-append added_tasks (all_postfix ts) (Par (count ts) ∷ []) ∙ omega (arith, of_parts ts)

  of_parts : (ts : Parts) → sum_by added_tasks (all_postfix ts) ≡ length (tasks_of_parts ts)
  of_parts no_parts = refl
  of_parts (part t ts) = of_both (postfix t) (all_postfix ts) (tasks_of_term t) (tasks_of_parts ts) (of_term t) (of_parts ts)

-- ---- one position more

at_done : (ps : List Position) (k : ℕ) (d p : Position) → p ≡ get_or ps (k + 1 - 1) d → get_or ps k d ≡ p
at_done ps k d p is = subst (λ (i : ℕ). get_or ps i d ≡ p) (omega arith) (sym is)

more : (ps : List Position) (k : ℕ) (d p : Position) (many : ℕ) → k < length ps
    → p ≡ get_or ps (k + 1 - 1) d → many ≡ sum_by added_tasks (take k ps)
    → many + added_tasks p ≡ sum_by added_tasks (take (k + 1) ps)
more ps k d p many lt is e = omega (arith, e, sum_by_more added_tasks ps k d lt, ap added_tasks (at_done ps k d p is))

pub one_more : (ps : List Position) (k : ℕ) (d p : Position) (extra share time many : ℕ) → k < length ps → p ≡ get_or ps (k + 1 - 1) d
    → p ≡ at.Task extra share time → many ≡ sum_by added_tasks (take k ps) → many + 1 ≡ sum_by added_tasks (take (k + 1) ps)
one_more ps k d p extra share time many lt is task e = omega (arith, more ps k d p many lt is e, ap added_tasks task)

pub no_more : (ps : List Position) (k : ℕ) (d p : Position) (many : ℕ) → k < length ps → p ≡ get_or ps (k + 1 - 1) d
    → ((extra share time : ℕ) → p ≡ at.Task extra share time → ⊥)
    → many ≡ sum_by added_tasks (take k ps) → many ≡ sum_by added_tasks (take (k + 1) ps)
no_more ps k d p many lt is other e = omega (arith, more ps k d p many lt is e, none p other)
  where
    none : (p : Position) → ((extra share time : ℕ) → p ≡ at.Task extra share time → ⊥) → added_tasks p ≡ 0
    none (Hold size) other = refl
    none (at.Task extra share time) other = absurd (other extra share time refl)
    none (Par parts) other = refl

-- the count of the tasks of a term
pub tasks_counted : ((ps : List Position) → IsTerms ps → Denotes ps (term_of ps))
    → ((ps : List Position) (t : Term) → Denotes ps t → ps ≡ postfix t)
    → (ps : List Position) → IsTerms ps → sum_by added_tasks ps ≡ length (tasks_of_term (term_of ps))
tasks_counted denotes only ps terms = ap (sum_by added_tasks) (only ps (term_of ps) (denotes ps terms)) ∙ of_term (term_of ps)
