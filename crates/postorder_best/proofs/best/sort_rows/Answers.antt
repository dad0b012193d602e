use Rattle.std.proofs.Common.{◌+◌, ◌≡◌, ◌∙◌, ◌<◌, ◌≤◌, ℕ, List, length, get_or, sym, subst, ap, arith}
use Rattle.limits.specs.Limits.{most_tasks}
use Rattle.postorder_best.specs.Rows.{IsUpward, IsBest}
use Rattle.postorder_best.proofs.Assembly.{can_list, upward, few, moderate, after_sort, first_of_table}
use Rattle.postorder_best.proofs.best.sort_rows.Goals as goal

pub listing-requires-clause-listed : goal.listing-requires-clause-listed
listing-requires-clause-listed c = can_list c.args.nodes.now c.args.rows.now c.requires.tree c.requires.rows

pub fill_peaks-requires-clause-few : goal.fill_peaks-requires-clause-few
fill_peaks-requires-clause-few c =
    let up_is = c.deref.ensures.value ∙ c.in_ok-push.ensures.items in
    subst (λ (xs : List ℕ). length xs ≤ most_tasks + 2) (sym up_is)
    (few c.args.nodes.now c.args.rows.now c.requires.tree c.requires.rows c.in_ok-upward.upward.items c.in_ok-upward.ensures)

pub fill_peaks-requires-clause-upward : goal.fill_peaks-requires-clause-upward
fill_peaks-requires-clause-upward c =
    let up_is = c.deref.ensures.value ∙ c.in_ok-push.ensures.items in
    subst (λ (xs : List ℕ). IsUpward xs c.args.rows.now) (sym up_is)
    (upward c.args.nodes.now c.args.rows.now c.requires.tree c.requires.rows c.in_ok-upward.upward.items c.in_ok-upward.ensures)

pub fill_peaks-requires-clause-moderate : goal.fill_peaks-requires-clause-moderate
fill_peaks-requires-clause-moderate c =
    moderate c.args.nodes.now c.args.rows.now c.requires.tree c.requires.rows c.deref-2.result.now c.deref-3.result.now
    (λ x. ap (λ (xs : List ℕ). get_or xs x 0) c.deref-2.ensures.value ∙ c.in_ok-outs.ensures.values x)
    (λ x. ap (λ (xs : List ℕ). get_or xs x 0) c.deref-3.ensures.value ∙ c.in_ok-needs.ensures.values x)

pub returns : goal.returns
returns c =
    let sorted = after_sort c.args.nodes.now c.args.rows.now c.fill_peaks.new.rows c.in_ok-upward.upward.items
    c.deref.result.now c.deref-2.result.now c.deref-3.result.now c.fill_peaks.new.peaks
    c.requires.tree (c.tree_system.ensures.need c.args.nodes.now) c.requires.rows c.in_ok-upward.ensures
    (c.deref.ensures.value ∙ c.in_ok-push.ensures.items)
    (λ x. ap (λ (xs : List ℕ). get_or xs x 0) c.deref-2.ensures.value ∙ c.in_ok-outs.ensures.values x)
    (λ x. ap (λ (xs : List ℕ). get_or xs x 0) c.deref-3.ensures.value ∙ c.in_ok-needs.ensures.values x)
    c.in_ok-fill_peaks.ensures.len c.in_ok-fill_peaks.ensures.members c.in_ok-fill_peaks.ensures.done in
    let long : length c.fill_peaks.new.peaks ≡ c.in_ok-peaks.peaks.len = c.fill_peaks.auto.peaks ∙ c.deref_mut.ensures.len in
    let some : 0 < length c.fill_peaks.new.peaks = omega (arith, c.in_ok-peaks.ensures.len, c.requires.rows.len) in
    let is = first_of_table c.in_ok-peaks.peaks c.fill_peaks.new.peaks _ c.index.result.now long some c.index.ensures in
    record {
      rows = sorted.rows_are;
      best = λ order listed. subst (λ p. IsBest c.args.nodes.now order p) (sym is) (sorted.best order listed);
    }
