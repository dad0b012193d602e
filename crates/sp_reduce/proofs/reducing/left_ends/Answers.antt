use Rattle.std.proofs.Common.{◌++◌, ◌∷◌, [], ℕ, List, Vec, Global, sym, ap, ◌∙◌}
use Rattle.std.proofs.lemmas.List.{take_all}
use Rattle.sp_reduce.specs.Work.{pairs_of, link_at}
use Rattle.sp_reduce.proofs.Outcomes.{take-dead, take-alive}
use Rattle.sp_reduce.proofs.reducing.left_ends.Goals as goal
use Rattle.sp_reduce.proofs.reducing.left_ends.Goals.{then-link+in_ok-push, else-link}

pub loop-link-preserved : goal.loop-link-preserved
loop-link-preserved c =
    let links = c.args.links.now in
    let i = c.loop-link.link-index in
    elim c.if-link.branch [
      | then-link+in_ok-push w ↦ ap (λ (v : Vec (ℕ × ℕ) Global). v.items) w.ends-is ∙ w.in_ok-push.ensures.items
          ∙ ap (λ (xs : List (ℕ × ℕ)). xs ++ ((link_at links i).from, (link_at links i).to) ∷ []) c.loop-link.invariant
          ∙ sym (take-alive links i c.loop-link-test.true w.if-link.true)
      | else-link w ↦ ap (λ (v : Vec (ℕ × ℕ) Global). v.items) w.ends-is
          ∙ c.loop-link.invariant ∙ sym (take-dead links i c.loop-link-test.true w.if-link.false)
    ]

pub returns : goal.returns
returns c = c.loop-link.invariant ∙ ap pairs_of (take_all c.loop-link.link-index c.args.links.now c.loop-link-test.false)
