use Rattle.std.proofs.Common.{◌++◌, ◌-◌, List, ℕ, get_or, sym, ap, subst, arith}
use Rattle.std.specs.List.{sum_by}
use Rattle.std.proofs.lemmas.List.Sums.{sum_by_push}
use Rattle.sp_terms.specs.Values.{IsTaskPosition}
use Rattle.term_orders.specs.declared.listing.Step.{Step}
use Rattle.term_orders.specs.declared.listing.Step.TheVariants.{Open, Beside, Own}
use Rattle.term_orders.specs.Steps.{AreListed, series_steps, weight}
use Rattle.term_orders.proofs.ListedSteps.{term_sized, open_hold, open_series, open_par, push_listed, series_listed, series_less}
use Rattle.term_orders.proofs.listing.open_term.Goals as goal

pub overflow_sub-end : goal.overflow_sub-end
overflow_sub-end c =
    let s = term_sized c.args.positions.now c.args.side c.args.start c.args.end c.requires.here.0 c.requires.here.1 in omega (arith, s.0)

pub bounds : goal.bounds
bounds c =
    let s = term_sized c.args.positions.now c.args.side c.args.start c.args.end c.requires.here.0 c.requires.here.1 in
    omega (arith, s.0, s.1)

pub overflow_sub-middle : goal.overflow_sub-middle
overflow_sub-middle c =
    let s = term_sized c.args.positions.now c.args.side c.args.start c.args.end c.requires.here.0 c.requires.here.1 in omega (arith, s.0)

pub overflow_sub-two : goal.overflow_sub-two
overflow_sub-two c =
    let s = term_sized c.args.positions.now c.args.side c.args.start c.args.end c.requires.here.0 c.requires.here.1 in omega (arith, s.0)

pub overflow_sub-end-in-Par : goal.overflow_sub-end-in-Par
overflow_sub-end-in-Par c =
    let s = term_sized c.args.positions.now c.args.side c.args.start c.args.end c.requires.here.0 c.requires.here.1 in omega (arith, s.0)

pub returns-in-Hold-clause-listed : goal.returns-in-Hold-clause-listed
returns-in-Hold-clause-listed c = λ rest own listed here.
    subst (AreListed c.args.positions.now c.args.side c.args.steps.now.items)
    (sym (ap (λ (l : List ℕ). l ++ rest)
    (open_hold c.args.positions.now c.args.side c.args.start c.args.end own c.in-Hold.field-0 _ here c.in-Hold.is))) listed

pub returns-in-Hold-clause-less : goal.returns-in-Hold-clause-less
returns-in-Hold-clause-less c =
    let s = term_sized c.args.positions.now c.args.side c.args.start c.args.end c.requires.here.0 c.requires.here.1 in omega (arith, s.0)

pub returns-in_ok-push_series-in-Task-clause-listed : goal.returns-in_ok-push_series-in-Task-clause-listed
returns-in_ok-push_series-in-Task-clause-listed c = λ rest own listed here.
    let middle = get_or c.args.starts.now (c.args.end - 1) 0 in
    let number = get_or c.args.counts.now c.args.end 0 in
    let s =
    open_series c.args.positions.now c.args.side c.args.start c.args.end c.args.starts.now c.args.counts.now
    c.requires.starts c.requires.counts own _ here (subst IsTaskPosition (sym c.in-Task.is) tt) in
    subst (λ (l : List Step). AreListed c.args.positions.now c.args.side l (own ++ rest)) (sym c.in_ok-push_series-in-Task.ensures)
    (subst (AreListed c.args.positions.now c.args.side (c.args.steps.now.items
    ++ series_steps c.args.side (Open c.args.start middle) (Own number) (Open middle (c.args.end - 1))))
    (sym (ap (λ (l : List ℕ). l ++ rest) s.list_is))
    (series_listed c.args.positions.now c.args.side c.args.steps.now.items (Open c.args.start middle) (Open middle (c.args.end - 1)) number
    s.one s.two rest listed s.first_here s.second_here))

pub returns-in_ok-push_series-in-Task-clause-less : goal.returns-in_ok-push_series-in-Task-clause-less
returns-in_ok-push_series-in-Task-clause-less c =
    let middle = get_or c.args.starts.now (c.args.end - 1) 0 in
    let number = get_or c.args.counts.now c.args.end 0 in
    let s =
    open_series c.args.positions.now c.args.side c.args.start c.args.end c.args.starts.now c.args.counts.now
    c.requires.starts c.requires.counts c.requires.here.0 _ c.requires.here.1 (subst IsTaskPosition (sym c.in-Task.is) tt) in
    let one = term_sized c.args.positions.now c.args.side c.args.start middle s.one s.first_here in
    let two = term_sized c.args.positions.now c.args.side middle (c.args.end - 1) s.two s.second_here in
    let less = series_less c.args.side c.args.steps.now.items c.args.start middle c.args.end number one.0 two.0 in
    omega (arith, less, ap (λ (l : List Step). sum_by weight l) c.in_ok-push_series-in-Task.ensures)

pub returns-in_ok-push-in-Par-clause-listed : goal.returns-in_ok-push-in-Par-clause-listed
returns-in_ok-push-in-Par-clause-listed c = λ rest own listed here.
    subst (λ (l : List Step). AreListed c.args.positions.now c.args.side l (own ++ rest)) (sym c.in_ok-push-in-Par.ensures.items)
    (push_listed c.args.positions.now c.args.side c.args.steps.now.items (Beside c.args.start (c.args.end - 1)) rest own listed
    (open_par c.args.positions.now c.args.side c.args.start c.args.end own c.in-Par.field-0 _ here c.in-Par.is))

pub returns-in_ok-push-in-Par-clause-less : goal.returns-in_ok-push-in-Par-clause-less
returns-in_ok-push-in-Par-clause-less c =
    let s = term_sized c.args.positions.now c.args.side c.args.start c.args.end c.requires.here.0 c.requires.here.1 in
    omega (
      arith,
      s.0,
      ap (λ (l : List Step). sum_by weight l) c.in_ok-push-in-Par.ensures.items,
      sum_by_push weight c.args.steps.now.items (Beside c.args.start (c.args.end - 1)),
    )
