use Rattle.std.proofs.Common.{◌≡◌, ◌∙◌, sym, ap, subst, map, string_bytes, is_some, find, bytes_eq, Some}
use Rattle.std.proofs.lemmas.Result.{IfOk-weaker}
use Rattle.command_line.specs.Words.{line_of}
use Rattle.command_line.specs.Views.{shape_view, shapes_view}
use Rattle.command_line.proofs.OptionLemmas.{line_found}
use Rattle.command_line.proofs.form.are_line.Goals as goal

pub returns-in-Some-shape_of : goal.returns-in-Some-shape_of
returns-in-Some-shape_of c =
    let shapes = shapes_view c.args.shapes.now in
    let rest = map (λ w. string_bytes w) c.in-Some.rest.now in
    let shape = shape_view c.in-Some-shape_of.shape in
    let found = subst (λ name. find (λ s. bytes_eq s.name name) shapes ≡ Some shape) c.as_str.ensures.value c.in-Some-shape_of.ensures in
    let command = string_bytes c.in-Some.command.now in
    let words_are = ap (λ words. is_some (line_of shapes (map (λ w. string_bytes w) words))) c.in-Some.ensures.cases.0 in
    IfOk-weaker c.are_options.result _ _ (λ are h. h ∙ line_found shapes command rest shape found ∙ sym words_are) c.are_options.ensures
