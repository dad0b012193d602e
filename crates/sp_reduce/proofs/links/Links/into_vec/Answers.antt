use Rattle.std.proofs.Common.{sym, ◌∙◌}
use Rattle.std.specs.Prelude.{nat_eq}
use Rattle.std.specs.HashMap as hash
use Rattle.sp_reduce.proofs.Works.{idle-irreducible}
use Rattle.sp_reduce.proofs.links.Links.into_vec.Goals as goal

pub returns-clause-irreducible : goal.returns-clause-irreducible
returns-clause-irreducible c =
    let f = c.self.inside in
    let h = c.self.invariant in
    let w = h.work in
    rw (← c.self.view_is)
    (λ idle.
    idle-irreducible f.tasks h.rank f.list.items f.ins.items f.outs.items f.in_at.items f.out_at.items (hash.get nat_eq f.by_ends) w
    (λ u low high one_in one_out. idle u low high (sym (w.ins_are u high) ∙ one_in) (sym (w.outs_are u high) ∙ one_out)))
