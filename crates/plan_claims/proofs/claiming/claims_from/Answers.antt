use Rattle.std.proofs.Common.{◌≡◌, ℕ, ap, sym, subst, ◌∙◌, arith, reverse, List, ◌++◌, ◌∷◌, [], Some, Option}
use Rattle.plans.specs.declared.claim.Claim.{Claim}
use Rattle.sp_cuts.specs.Notes.{noted_in}
use Rattle.plan_claims.specs.declared.wanted.Wanted.{Wanted}
use Rattle.plan_claims.specs.Walks.{IsLeft, IsRight, AreClaimsOf}
use Rattle.plan_claims.proofs.Walking.{left_starts, right_starts, right_ends}
use Rattle.plan_claims.proofs.claiming.claims_from.Goals as goal

pub loop-position-init : goal.loop-position-init
loop-position-init c =
    let e : c.push.new.self.items ≡ Some c.args.root ∷ [] =
    c.in_ok-push.ensures.items ∙ ap (λ (l : List (Option Wanted)). l ++ Some c.args.root ∷ []) c.new-todo.ensures.items in
    let none : reverse c.new-claims.result.items ≡ [] = ap (reverse {A = Claim}) c.new-claims.ensures.items in
    record {
      left = subst (λ (n : ℕ). IsLeft c.args.terms.now n (noted_in c.args.notes) c.push.new.self.items) (sym c.len-position.ensures.value)
          (left_starts c.args.terms.now c.args.root
          (noted_in c.args.notes) c.push.new.self.items c.len-position.ensures.terms c.requires.notes c.requires.root e);
      right = subst (λ (n : ℕ). IsRight c.args.terms.now n c.args.root c.push.new.self.items (reverse c.new-claims.result.items))
          (sym c.len-position.ensures.value)
          (right_starts c.args.terms.now c.args.root c.push.new.self.items
          (reverse c.new-claims.result.items) c.len-position.ensures.terms e none);
    }

pub loop-position-preserved : goal.loop-position-preserved
loop-position-preserved c = record {
  left = c.in_ok-claim_at_position.ensures.left;
  right = c.in_ok-claim_at_position.ensures.right c.args.root c.loop-position.invariant.right;
}

pub returns : goal.returns
returns c =
    let zero_left : c.loop-position.position ≡ 0 = (let h = c.loop-position-test.false in omega arith) in
    record {
      claims = subst (AreClaimsOf c.args.terms.now c.args.root) (sym c.reverse.ensures.items)
          (right_ends c.args.terms.now c.args.root (noted_in c.loop-position.notes) c.loop-position.todo.items
          (reverse c.loop-position.claims.items) c.len-position.ensures.terms
          (subst (λ (n : ℕ). IsLeft c.args.terms.now n (noted_in c.loop-position.notes) c.loop-position.todo.items)
          zero_left c.loop-position.invariant.left)
          (subst (λ (n : ℕ). IsRight c.args.terms.now n c.args.root c.loop-position.todo.items (reverse c.loop-position.claims.items))
          zero_left c.loop-position.invariant.right));
    }
