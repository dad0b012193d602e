-- The term that a list of positions denotes, by the rule of a stack.
use Rattle.std.specs.Prelude.{◌≡◌, ℕ, zero, suc, List, [], ◌∷◌, ◌++◌, Option, Some, None, option_and_then}
use Rattle.mp_system.specs.declared.system.Task.{Task}
use Rattle.sp_terms.specs.declared.position.Position.{Position}
use Rattle.sp_terms.specs.declared.position.Position.TheVariants.{Hold, Par}
use Rattle.sp_terms.specs.declared.position.Position.TheVariants as at
use Rattle.sp_terms.specs.Term.{Term, hold, series, par, Parts, no_parts, part, count}

-- takes `k` terms from the stack, the lowest first, in front of those that were taken
abbrev pub gather : ℕ → List Term → Parts → Option (Parts × List Term)
gather zero stack ts = Some (ts, stack)
gather (suc k) [] ts = None
gather (suc k) (t ∷ stack) ts = gather k stack (part t ts)

-- a position takes the last terms from the stack and leaves one: a data item, a series of the two last terms with the lower one
-- first, or the last k terms side by side
abbrev pub push : Position → List Term → Option (List Term)
push (Hold size) stack = Some (hold size ∷ stack)
push (at.Task extra share time) [] = None
push (at.Task extra share time) (b ∷ []) = None
push (at.Task extra share time) (b ∷ a ∷ stack) = Some (series a (record { extra = extra; share = share; time = time }) b ∷ stack)
push (Par k) stack = option_and_then (λ p. Some (par p.0 ∷ p.1)) (gather k stack no_parts)

-- positions one after the other
abbrev pub push_all : List Position → List Term → Option (List Term)
push_all [] stack = Some stack
push_all (p ∷ ps) stack = option_and_then (push_all ps) (push p stack)

-- the stack rule leaves this one term
abbrev pub Denotes : List Position → Term → Type 0
Denotes ps t = push_all ps [] ≡ Some (t ∷ [])

-- the position of a task
abbrev pub at_task : Task → Position
at_task v = at.Task v.extra v.share v.time

-- the positions of a term: those of its parts, then its own
abbrev mutual
  pub postfix : Term → List Position
  postfix (hold size) = Hold size ∷ []
  postfix (series a v b) = postfix a ++ (postfix b ++ at_task v ∷ [])
  postfix (par ts) = all_postfix ts ++ Par (count ts) ∷ []

  pub all_postfix : Parts → List Position
  all_postfix no_parts = []
  all_postfix (part t ts) = postfix t ++ all_postfix ts
