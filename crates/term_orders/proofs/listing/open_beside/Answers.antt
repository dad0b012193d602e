use Rattle.std.proofs.Common.{◌++◌, ◌∷◌, [], List, ℕ, get_or, append_assoc, sym, ap, subst, ◌∙◌, arith}
use Rattle.std.specs.List.{sum_by}
use Rattle.std.proofs.lemmas.List.Sums.{sum_by_push}
use Rattle.term_orders.specs.declared.listing.Step.{Step}
use Rattle.term_orders.specs.declared.listing.Step.TheVariants.{Open, Beside}
use Rattle.term_orders.specs.Steps.{AreListed, weight}
use Rattle.term_orders.proofs.ListedSteps.{parts_within, term_sized, open_beside, open_none, push_listed}
use Rattle.term_orders.proofs.listing.open_beside.Goals as goal

pub bounds-starts-end : goal.bounds-starts-end
bounds-starts-end c =
    let s = parts_within c.args.positions.now c.args.side c.args.start c.args.end c.requires.here.0 c.requires.here.1 in
    omega (arith, s.1, c.requires.starts_len)

pub returns-in_ok-push-2-clause-listed : goal.returns-in_ok-push-2-clause-listed
returns-in_ok-push-2-clause-listed c = λ rest own listed here.
    let middle = get_or c.args.starts.now c.args.end 0 in
    let s =
    open_beside c.args.positions.now c.args.side c.args.start c.args.end c.args.starts.now c.requires.starts c.if-start-end.true own here in
    let last =
    push_listed c.args.positions.now c.args.side c.args.steps.now.items (Open middle c.args.end) rest s.two listed s.second_here in
    let both =
    push_listed c.args.positions.now c.args.side (c.args.steps.now.items ++ Open middle c.args.end ∷ [])
    (Beside c.args.start middle) (s.two ++ rest) s.one last s.first_here in
    subst (λ (l : List Step). AreListed c.args.positions.now c.args.side l (own ++ rest))
    (sym (c.in_ok-push-2.ensures.items ∙ ap (λ (l : List Step). l ++ Beside c.args.start middle ∷ []) c.in_ok-push.ensures.items))
    (subst (AreListed c.args.positions.now c.args.side
    ((c.args.steps.now.items ++ Open middle c.args.end ∷ []) ++ Beside c.args.start middle ∷ []))
    (sym (ap (λ (l : List ℕ). l ++ rest) s.list_is ∙ append_assoc s.one s.two rest)) both)

pub returns-in_ok-push-2-clause-less : goal.returns-in_ok-push-2-clause-less
returns-in_ok-push-2-clause-less c =
    let middle = get_or c.args.starts.now c.args.end 0 in
    let s =
    open_beside c.args.positions.now c.args.side c.args.start c.args.end c.args.starts.now c.requires.starts c.if-start-end.true
    c.requires.here.0 c.requires.here.1 in
    let last = term_sized c.args.positions.now c.args.side middle c.args.end s.two s.second_here in
    omega (
      arith,
      s.sized,
      last.0,
      ap (λ (l : List Step). sum_by weight l) c.in_ok-push-2.ensures.items,
      sum_by_push weight c.push.new.self.items (Beside c.args.start middle),
      ap (λ (l : List Step). sum_by weight l) c.in_ok-push.ensures.items,
      sum_by_push weight c.args.steps.now.items (Open middle c.args.end),
    )

pub returns-else-start-end-clause-listed : goal.returns-else-start-end-clause-listed
returns-else-start-end-clause-listed c = λ rest own listed here.
    subst (AreListed c.args.positions.now c.args.side c.args.steps.now.items)
    (sym (ap (λ (l : List ℕ). l ++ rest)
    (open_none c.args.positions.now c.args.side c.args.start c.args.end own c.if-start-end.false here))) listed
