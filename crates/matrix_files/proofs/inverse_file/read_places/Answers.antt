use Rattle.std.proofs.Common.{◌≡◌, ◌+◌, ◌*◌, true, false, length, arith}
use Rattle.std.proofs.lemmas.Bool.{eq-eqb, ne_eqb}
use Rattle.std.proofs.lemmas.Result.{MatchResult-weaker}
use Rattle.mp_text.specs.declared.layout.Layout.TheVariants.{Commented}
use Rattle.mp_text.specs.Ahead.{rows_of_bytes}
use Rattle.matrix_files.specs.OrderFile.{tokens_of_rows}
use Rattle.matrix_files.specs.InverseFile.{is_listing}
use Rattle.matrix_files.proofs.InverseFileLemmas.{reads_listed, reads_alone, refused_listed, refused_alone}
use Rattle.matrix_files.proofs.inverse_file.read_places.Goals as goal
use Rattle.matrix_files.proofs.inverse_file.read_places.Goals.{Then-seen-from, Else-seen-from}

many : (c : Then-seen-from) → is_listing c.args.n (rows_of_bytes Commented c.args.bytes.now) ≡ true
many c = eq-eqb (length (tokens_of_rows (rows_of_bytes Commented c.args.bytes.now))) (2 * c.args.n + 1)
    (omega (arith, c.seen_in-seen.ensures.tokens, c.ranges.n))

few : (c : Else-seen-from) → is_listing c.args.n (rows_of_bytes Commented c.args.bytes.now) ≡ false
few c = ne_eqb (length (tokens_of_rows (rows_of_bytes Commented c.args.bytes.now))) (2 * c.args.n + 1)
    (λ all. c.if-seen-from.false (omega (arith, all, c.seen_in-seen.ensures.tokens, c.ranges.n)))

pub read_listed-requires : goal.read_listed-requires
read_listed-requires c = many c

pub returns-then-seen-from : goal.returns-then-seen-from
returns-then-seen-from c =
    let listing = many (goal.at.returns-then-seen-from c).Then-seen-from in
    MatchResult-weaker c.read_listed.result c.read_listed.ensures
    (λ places. reads_listed c.args.n c.args.bytes.now places listing)
    (λ r. refused_listed c.args.n c.args.bytes.now r listing)

pub returns-else-seen-from : goal.returns-else-seen-from
returns-else-seen-from c =
    let alone = few (goal.at.returns-else-seen-from c).Else-seen-from in
    MatchResult-weaker c.read_alone.result
    (rw c.seen_in-seen.ensures.zero at c.read_alone.ensures)
    (λ places. reads_alone c.args.n c.args.bytes.now places alone)
    (λ r. refused_alone c.args.n c.args.bytes.now r alone)
