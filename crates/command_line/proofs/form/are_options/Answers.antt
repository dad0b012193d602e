use Rattle.std.proofs.Common.{◌≡◌, ◌∙◌, sym, ap, map, string_bytes, true, false, nat_eq, ◌&&◌, [], ◌∷◌, ◌++◌}
use Rattle.std.proofs.lemmas.List.{map-append, length-map}
use Rattle.command_line.specs.Forms.{options_in, is_new}
use Rattle.command_line.specs.Views.{texts, names_of}
use Rattle.command_line.proofs.OptionLemmas.{allowed_passes, passes, read_one, read_out}
use Rattle.command_line.proofs.form.are_options.Goals as goal

pub loop-name-init : goal.loop-name-init
loop-name-init c =
    let given = options_in (map (λ w. string_bytes w) c.args.words.now) in
    let names = names_of c.args.groups.now in
    allowed_passes names given ∙ ap (λ seen. passes names (texts seen) given) (sym c.new-given.ensures.items)

pub loop-name-preserved : goal.loop-name-preserved
loop-name-preserved c =
    let names = names_of c.args.groups.now in
    let given = c.loop-name.given.items in
    let name = c.in-Some.name in
    let words = map (λ w. string_bytes w) c.loop-name.rest.now in
    let after = map (λ w. string_bytes w) c.in-Some.after.now in
    let lent = ap (λ s. is_new names (texts s) name.now) (sym c.deref.ensures.value) in
    let new : is_new names (texts given) name.now ≡ true = lent ∙ sym c.is_new.ensures ∙ c.if-not-is_new.false in
    c.loop-name.invariant ∙ read_one names (texts given) words after name.now c.in-Some.ensures.value
    ∙ ap (λ b. b && passes names (texts given ++ name.now ∷ []) (options_in after)) new
    ∙ ap (λ s. passes names s (options_in after)) (sym (ap texts c.in_ok-push.ensures.items ∙ map-append (λ s. s.now) given (name ∷ [])))

pub returns-then-not-is_new : goal.returns-then-not-is_new
returns-then-not-is_new c =
    let names = names_of c.args.groups.now in
    let given = c.loop-name.given.items in
    let name = c.in-Some.name in
    let words = map (λ w. string_bytes w) c.loop-name.rest.now in
    let after = map (λ w. string_bytes w) c.in-Some.after.now in
    let lent = ap (λ s. is_new names (texts s) name.now) (sym c.deref.ensures.value) in
    let old : is_new names (texts given) name.now ≡ false = lent ∙ sym c.is_new.ensures ∙ c.if-not-is_new.true in
    sym (c.loop-name.invariant ∙ read_one names (texts given) words after name.now c.in-Some.ensures.value
    ∙ ap (λ b. b && passes names (texts given ++ name.now ∷ []) (options_in after)) old)

pub returns : goal.returns
returns c =
    let words = map (λ w. string_bytes w) c.loop-name.rest.now in
    sym (c.loop-name.invariant ∙ read_out (names_of c.args.groups.now) (texts c.loop-name.given.items) words c.in_default.ensures.value
    ∙ ap (λ n. nat_eq n 0) (length-map c.loop-name.rest.now (λ w. string_bytes w)) ∙ sym c.is_empty.ensures)
