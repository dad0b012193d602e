use Rattle.std.proofs.Common.{◌∙◌, ◌≤◌, ℕ, ap, map, eqb, get_or, List}
use Rattle.std.specs.List.{count_by}
use Rattle.std.proofs.lemmas.List.Elements.{All-same}
use Rattle.graphs.specs.Queue.{to_of, from_of}
use Rattle.graphs.proofs.CountLemmas.{heads-within, tails-within, all-added}
use Rattle.graphs.proofs.completed.completed_arcs.Goals as goal

pub count_ends-requires-clause-within : goal.count_ends-requires-clause-within
count_ends-requires-clause-within c =
    All-same (λ v. v ≤ c.args.count) c.deref.result.now (map to_of c.args.arcs.now) (c.deref.ensures.value ∙ c.in_ok-heads_of.ensures)
    (heads-within c.args.count c.args.arcs.now c.requires.within)

pub count_ends-requires-2-clause-within : goal.count_ends-requires-2-clause-within
count_ends-requires-2-clause-within c =
    All-same (λ v. v ≤ c.args.count) c.deref-2.result.now (map from_of c.args.arcs.now) (c.deref-2.ensures.value ∙ c.in_ok-tails_of.ensures)
    (tails-within c.args.count c.args.arcs.now c.requires.within)

pub returns : goal.returns
returns c =
    all-added c.args.count c.args.arcs.now c.in_ok-all.all.items c.add_first_arcs.new.arcs.items
    c.add_last_arcs.new.arcs.items c.deref-3.result.now c.deref-4.result.now
    c.in_ok-all.ensures.items
    (λ v. ap (λ (xs : List ℕ). get_or xs v 0) c.deref-3.ensures.value ∙ c.in_ok-heads.ensures.counts v
    ∙ ap (count_by (λ e. eqb e v)) (c.deref.ensures.value ∙ c.in_ok-heads_of.ensures))
    (λ v. ap (λ (xs : List ℕ). get_or xs v 0) c.deref-4.ensures.value ∙ c.in_ok-tails.ensures.counts v
    ∙ ap (count_by (λ e. eqb e v)) (c.deref-2.ensures.value ∙ c.in_ok-tails_of.ensures))
    c.in_ok-add_first_arcs.ensures c.in_ok-add_last_arcs.ensures
