use Rattle.std.proofs.Common.{◌||◌, ◌++◌, get_or, take, ap, sym, ◌∙◌}
use Rattle.std.proofs.lemmas.List.Folds.{list_any_more}
use Rattle.patterns.specs.Pattern.{has}
use Rattle.rounds_run.specs.Gathering.{in_lists}
use Rattle.rounds_run.proofs.Additions.{adds_more}
use Rattle.rounds_run.proofs.NumberLists.{has_append}
use Rattle.rounds_run.proofs.gathering.add_lists.Goals as goal

pub loop-numbers-preserved : goal.loop-numbers-preserved
loop-numbers-preserved c = λ x.
    let lists = c.args.lists.now in
    let i = c.loop-numbers.numbers-index in
    let old = c.args.list.now.items in
    let so_far = c.loop-numbers.list.items in
    let item = c.numbers-item.result in
    ap (λ z. has z x) (c.in_ok-extend_from_slice.ensures.items ∙ ap (λ z. so_far ++ z) (c.as_slice.ensures ∙ c.numbers-item.is))
    ∙ adds_more (has (so_far ++ get_or lists i item) x) (has so_far x) (has old x) (in_lists (take i lists) x) (has (get_or lists i item) x)
    (has_append so_far (get_or lists i item) x) (c.loop-numbers.invariant x)
    ∙ ap (λ b. has old x || b) (sym (list_any_more (λ list. has list x) lists i item c.loop-numbers-test.true))
