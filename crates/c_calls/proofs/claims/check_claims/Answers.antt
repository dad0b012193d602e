use Rattle.std.proofs.Common.{◌∙◌, ◌+◌, ◌-◌, ◌≡◌, ℕ, take, sym, subst, arith}
use Rattle.std.proofs.lemmas.Bool.{true≢false}
use Rattle.c_calls.specs.Refusals.{AreRisingClaims}
use Rattle.c_calls.proofs.RisingClaims.{no_claim, are_more, goes_on, next_stands}
use Rattle.c_calls.proofs.claims.check_claims.Goals as goal

pub returns-then-not-stands-clause-refused : goal.returns-then-not-stands-clause-refused
returns-then-not-stands-clause-refused c =
    let i = c.loop-i.i in
    let claims = c.args.claims.now in
    let here : i ≡ i + 1 - 1 = omega arith in
    record {
      positive = omega arith;
      there = omega (arith, c.loop-i-test.true);
      before = subst (λ (n : ℕ). AreRisingClaims (take n claims)) here c.loop-i.invariant.are;
      wrong = λ are.
          let next = next_stands claims i no_claim c.loop-i-test.true c.loop-i.last c.loop-i.invariant.on are in
          true≢false (sym (c.stands.ensures.1 next) ∙ c.if-not-stands.true);
    }

pub loop-i-preserved : goal.loop-i-preserved
loop-i-preserved c =
    let i = c.loop-i.i in
    let claims = c.args.claims.now in
    let next = c.stands.ensures.0 c.if-not-stands.false in
    record {
      are = are_more claims i no_claim c.loop-i-test.true c.loop-i.last c.loop-i.invariant.are c.loop-i.invariant.on next.0 next.1;
      on = goes_on claims i no_claim c.loop-i-test.true c.loop-i.last c.loop-i.invariant.on next.0;
    }
