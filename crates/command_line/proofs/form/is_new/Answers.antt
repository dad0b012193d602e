use Rattle.std.proofs.Common.{◌∙◌, sym, ap, ◌&&◌, not, bytes_eq}
use Rattle.clap.proofs.WalkLemmas.{list_any-map}
use Rattle.std.specs.Borrow.{Bor}
use Rattle.command_line.specs.Words.{Text}
use Rattle.command_line.specs.Forms.{is_among}
use Rattle.command_line.specs.Views.{texts}
use Rattle.command_line.proofs.form.is_new.Goals as goal

pub returns-then-is_listed : goal.returns-then-is_listed
returns-then-is_listed c =
    let name = c.args.name.now in
    let given = list_any-map (λ listed. bytes_eq listed name) (λ (s : Bor Text). s.now) c.args.given.now in
    ap not (c.contains.ensures.value ∙ given)
    ∙ ap (λ b. b && not (is_among (texts c.args.given.now) name)) (sym c.if-is_listed.true ∙ c.is_listed.ensures)

pub returns-else-is_listed : goal.returns-else-is_listed
returns-else-is_listed c =
    c.if-is_listed.false
    ∙ ap (λ b. b && not (is_among (texts c.args.given.now) c.args.name.now)) (sym c.if-is_listed.false ∙ c.is_listed.ensures)
