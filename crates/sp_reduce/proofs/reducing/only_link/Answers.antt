use Rattle.std.proofs.Common.{◌≡◌, ◌∷◌, [], ℕ, List, refl, sym, ap, ◌∙◌}
use Rattle.std.proofs.lemmas.List.{drop_all}
use Rattle.sp_reduce.specs.Work.{pairs_of}
use Rattle.sp_reduce.proofs.Outcomes.{drop-dead}
use Rattle.sp_reduce.proofs.reducing.only_link.Goals as goal

pub loop-i-init : goal.loop-i-init
loop-i-init c = refl

pub loop-i-preserved : goal.loop-i-preserved
loop-i-preserved c = c.loop-i.invariant ∙ drop-dead c.args.links.now c.loop-i.i c.loop-i-test.true c.if-links-i.false

pub returns : goal.returns
returns c = λ one.
    let none : pairs_of c.args.links.now ≡ [] =
    c.loop-i.invariant ∙ ap pairs_of (drop_all c.loop-i.i c.args.links.now c.loop-i-test.false) in
    let both : ◌≡◌ {A = List (ℕ × ℕ)} ((0, 0) ∷ []) [] = sym one ∙ none in
    absurd cc
