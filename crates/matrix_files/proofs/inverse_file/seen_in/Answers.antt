use Rattle.std.proofs.Common.{◌≡◌, arith, ◌+◌, ◌||◌, Bool, List, ◌∷◌, ap, sym, ◌∙◌, length, length-append}
use Rattle.std.proofs.Math.Bool.{or_assoc}
use Rattle.std.specs.List.{list_any}
use Rattle.mp_text.specs.Text.{Row, tokens_of}
use Rattle.mp_text.specs.Ahead.{rows_of}
use Rattle.matrix_files.specs.OrderFile.{tokens_of_rows}
use Rattle.matrix_files.specs.ListingFile.{states}
use Rattle.matrix_files.proofs.inverse_file.seen_in.Goals as goal

row_more : (rows rest : List Row) (row : Row) → rows ≡ row ∷ rest
    → length (tokens_of_rows rows) ≡ length row.tokens + length (tokens_of_rows rest)
row_more rows rest row is = ap (λ (rs : List Row). length (tokens_of_rows rs)) is ∙ length-append row.tokens (tokens_of_rows rest)

pub loop-line-preserved : goal.loop-line-preserved
loop-line-preserved c =
    let any : List Row → Bool = list_any (λ row. list_any (states 0) row.tokens) in
    let rest = rows_of c.next_line.new.self in
    let more = c.in-Some.ensures.rows in
    let inv = c.loop-line.invariant in
    let here = list_any (states 0) (tokens_of c.in-Some.line.text.now) in
    record {
      tokens = omega (arith, c.with_line-seen.ensures.tokens, row_more _ rest _ more, inv.tokens);
      zero = ap (λ (b : Bool). b || any rest) c.with_line-seen.ensures.zero ∙ or_assoc c.loop-line.seen.zero here (any rest)
          ∙ ap (λ (rs : List Row). c.loop-line.seen.zero || any rs) (sym more) ∙ inv.zero;
    }

pub returns-clause-tokens : goal.returns-clause-tokens
returns-clause-tokens c =
    omega (arith, c.loop-line.invariant.tokens, ap (λ (rows : List Row). length (tokens_of_rows rows)) c.in_default.ensures.rows)
