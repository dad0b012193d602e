use Rattle.std.proofs.Common.{◌∙◌, ◌≡◌, ◌<◌, ℕ, All, List, ap, length, map, rules, subst, sym}
use Rattle.std.proofs.lemmas.List.Elements.{All-map, All-same}
use Rattle.row_table.specs.Rows.{numbers_with}
use Rattle.fences.specs.Before.{reader_of, reading_at}
use Rattle.fences.proofs.Before.{rows_are}
use Rattle.fences.proofs.implied.rows_of.Goals as goal

pub group-requires-clause-below : goal.group-requires-clause-below
group-requires-clause-below c =
    let readers : c.in_ok-readers.readers.items ≡ map reader_of c.args.all.now = search rules in
    All-same (λ v. v < c.args.count) c.deref.result.now (map reader_of c.args.all.now) (c.deref.ensures.value ∙ readers)
    (All-map (λ v. v < c.args.count) reader_of c.args.all.now c.requires.below)

pub returns-clause-rows : goal.returns-clause-rows
returns-clause-rows c = λ v lt.
    let all = c.args.all.now in
    let readers : c.in_ok-readers.readers.items ≡ map reader_of all = search rules in
    let is = c.in_ok-rows.ensures.rows v lt ∙ ap (λ (keys : List ℕ). numbers_with keys 0 v) (c.deref.ensures.value ∙ readers) in
    subst (All (λ k. (k < length all) × ((reading_at all k).reader ≡ v))) (sym is)
    (rows_are all v (numbers_with (map reader_of all) 0 v) (c.numbers_law.ensures.each (map reader_of all) 0 v))
