use Rattle.std.proofs.Common.{rules, ◌≡◌, ◌+◌, ℕ, zero, suc, refl, List, length, get_or, sym, ap, subst, arith, ◌∙◌, Option}
use Rattle.std.specs.Prelude.{nat_eq, replicate}
use Rattle.std.specs.HashMap as hash
use Rattle.std.proofs.lemmas.List.{length-replicate}
use Rattle.sp_reduce.specs.declared.link.Link.{Link}
use Rattle.sp_reduce.specs.Work.{IsWork}
use Rattle.sp_reduce.proofs.Outcomes.{work-start}
use Rattle.sp_reduce.proofs.links.Links.new.Goals as goal

zeros : (xs : List ℕ) (n : ℕ) → xs ≡ replicate n 0 → (v : ℕ) → get_or xs v 0 ≡ 0
zeros xs n e v = ap (λ (ys : List ℕ). get_or ys v 0) e ∙ zero_read n v
  where
    zero_read : (n v : ℕ) → ◌≡◌ {A = ℕ} (get_or (replicate n 0) v 0) 0
    zero_read zero v = refl
    zero_read (suc n) zero = refl
    zero_read (suc n) (suc v) = zero_read n v

pub invariant_of-result : goal.invariant_of-result
invariant_of-result c =
    let count = c.args.tasks + 1 in
    let ins : c.in_ok-ins.ins.items ≡ replicate count 0 = search rules in
    let outs : c.in_ok-outs.outs.items ≡ replicate count 0 = search rules in
    let in_at : c.in_ok-in_at.in_at.items ≡ replicate count 0 = search rules in
    let out_at : c.in_ok-out_at.out_at.items ≡ replicate count 0 = search rules in
    let table : ℕ → Option ℕ = λ q. hash.get nat_eq c.new-2.result q in
    let lens : (length c.in_ok-ins.ins.items ≡ suc c.args.tasks) × (length c.in_ok-outs.outs.items ≡ suc c.args.tasks)
    × (length c.in_ok-in_at.in_at.items ≡ suc c.args.tasks) × (length c.in_ok-out_at.out_at.items ≡ suc c.args.tasks) = (
      omega (arith, ap length ins, length-replicate {A = ℕ} count 0),
      omega (arith, ap length outs, length-replicate {A = ℕ} count 0),
      omega (arith, ap length in_at, length-replicate {A = ℕ} count 0),
      omega (arith, ap length out_at, length-replicate {A = ℕ} count 0),
    ) in
    let start = work-start c.args.tasks
    (λ v. v) c.in_ok-ins.ins.items c.in_ok-outs.outs.items c.in_ok-in_at.in_at.items c.in_ok-out_at.out_at.items table lens
    (λ v. (zeros c.in_ok-ins.ins.items count ins v, zeros c.in_ok-outs.outs.items count outs v)) in
    record {
      few_tasks = c.requires;
      few_links = omega (arith, ap length c.new.ensures.items);
      rank = λ v. v;
      work = subst (λ (ls : List Link). IsWork c.args.tasks
          (λ v. v) ls c.in_ok-ins.ins.items c.in_ok-outs.outs.items c.in_ok-in_at.in_at.items c.in_ok-out_at.out_at.items table)
          (sym c.new.ensures.items) start;
    }
