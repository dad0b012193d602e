use Rattle.std.proofs.Common.{ℕ, List, subst, ◌≡◌}
use Rattle.std.proofs.lemmas.Result.{IfErr-weaker}
use Rattle.fences.specs.declared.judged.AmountsRefusal.TheVariants as refusals
use Rattle.fences.specs.Judged.{IsAmountsRefusal}
use Rattle.fencing.proofs.BySizes.{sizes_refused}
use Rattle.fencing.proofs.standing.bound_by_sizes.Goals as goal

pub returns-clause-refused : goal.returns-clause-refused
returns-clause-refused c =
    let system = c.args.system.now in
    IfErr-weaker c.judge_amounts.result (λ refusal. IsAmountsRefusal system c.args.sizes.now refusal) (λ refusal. refusal ≡ refusals.NoMemory)
    (λ refusal said. sizes_refused system c.keeps.ensures refusal (subst (λ (l : List ℕ). IsAmountsRefusal system l refusal) c.requires said))
    c.judge_amounts.ensures.refused
