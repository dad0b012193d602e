use Rattle.std.proofs.Common.{arith, ap, sym, ◌∙◌, ◌||◌, length}
use Rattle.std.proofs.Math.Bool.{or_assoc}
use Rattle.std.specs.List.{list_any}
use Rattle.matrix_files.specs.ListingFile.{states}
use Rattle.matrix_files.proofs.inverse_file.with_line.Goals as goal

pub loop-token-preserved : goal.loop-token-preserved
loop-token-preserved c =
    let rest = list_any (states 0) c.next.new.self in
    let more = c.in-Some.ensures.steps in
    let inv = c.loop-token.invariant in
    record {
      tokens = omega (arith, c.with_token-seen.ensures.tokens, ap length more, inv.tokens);
      zero = ap (λ b. b || rest) c.with_token-seen.ensures.zero ∙ or_assoc c.loop-token.seen.zero (states 0 c.in-Some.token.now) rest
          ∙ ap (λ ts. c.loop-token.seen.zero || list_any (states 0) ts) (sym more) ∙ inv.zero;
    }

pub returns-clause-tokens : goal.returns-clause-tokens
returns-clause-tokens c = omega (arith, c.loop-token.invariant.tokens, ap length c.in-None.ensures.steps.0)
