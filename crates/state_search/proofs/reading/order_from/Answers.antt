use Rattle.std.proofs.Common.{◌≡◌, ℕ, ◌++◌, ◌∷◌, [], List, sym, ap, ◌∙◌, subst, append_assoc, arith}
use Rattle.std.proofs.lemmas.List.{append-nil}
use Rattle.state_search.specs.States.{state_at}
use Rattle.state_search.specs.Runs.{Runs}
use Rattle.state_search.proofs.Looked.{runs_first, runs_linked}
use Rattle.state_search.proofs.reading.order_from.Goals as goal

pub loop-i-init : goal.loop-i-init
loop-i-init c = record {
  inside = c.requires.inside;
  runs = λ system bound is are rest runs.
      subst (λ (l : List ℕ). Runs system bound (state_at c.args.states.now.rows c.args.place) l)
      (ap (λ (l : List ℕ). l ++ rest) (sym c.new-order.ensures.items)) runs;
}

pub loop-i-preserved : goal.loop-i-preserved
loop-i-preserved c =
    let i = c.loop-i.i in
    let earlier = c.requires.earlier i c.loop-i-test.true c.loop-i.invariant.inside in
    let link = c.link-link.result in
    record {
      inside = omega (arith, earlier, c.loop-i.invariant.inside, ap (λ l. l.next) c.link-link.ensures);
      runs = λ system bound is are rest runs.
          let turned : c.push.new.self.items ++ rest ≡ c.loop-i.order.items ++ (link.task ∷ rest) =
          ap (λ (l : List ℕ). l ++ rest) c.in_ok-push.ensures.items ∙ append_assoc c.loop-i.order.items (link.task ∷ []) rest in
          subst (λ (l : List ℕ). Runs system bound (state_at c.args.states.now.rows c.args.place) l) (sym turned)
          (c.loop-i.invariant.runs system bound is are (link.task ∷ rest)
          (runs_linked system bound is c.args.states.now are i link c.loop-i-test.true c.loop-i.invariant.inside c.link-link.ensures rest runs));
    }

pub returns : goal.returns
returns c = λ system bound is are.
    let rows = c.args.states.now.rows in
    let first : 0 ≡ c.loop-i.i = omega (arith, c.loop-i-test.false) in
    subst (λ (l : List ℕ). Runs system bound (state_at rows c.args.place) l) (append-nil c.loop-i.order.items)
    (c.loop-i.invariant.runs system bound is are []
    (subst (λ (k : ℕ). Runs system bound (state_at rows k) []) first
    (runs_first system bound is c.args.states.now are (omega (arith, c.loop-i.invariant.inside)))))
