-- Of listings of places: what their reader does is what the tests of the format say, what is read is a permutation, no refusal is a limit.
use Rattle.std.proofs.Common.{◌≡◌, ◌≢◌, ℕ, ◌+◌, ◌*◌, ◌≤◌, Bool, true, false, cond, eqb, is_some, List, [], ◌∷◌, ◌++◌, length, map}
use Rattle.std.proofs.Common.{Some, None, refl, sym, ap, ◌∙◌, arith}
use Rattle.std.proofs.lemmas.Bool.{eqb-true}
use Rattle.std.proofs.lemmas.List.{map_push, length-map}
use Rattle.limits.specs.declared.name.LimitName.{LimitName}
use Rattle.mp_text.specs.declared.layout.Layout.TheVariants.{Commented}
use Rattle.mp_text.specs.declared.refusals.Refusal.{Refusal}
use Rattle.mp_text.specs.declared.refusals.Refusal.TheVariants as refusals
use Rattle.mp_text.specs.Text.{Row, number_of}
use Rattle.mp_text.specs.Ahead.{rows_of_bytes, past_of_bytes}
use Rattle.mp_text.specs.Grammar.{test, first_failure, fault_at}
use Rattle.mp_text.specs.Reading.{IsRefusal, Follows}
use Rattle.mp_text.specs.ReadingLaws.{Follows-weaker, tested-follows}
use Rattle.permutations.specs.Perm.{IsPart, IsPerm}
use Rattle.permutations.proofs.PermLemmas.{part-none, length-part, perm_from_part}
use Rattle.matrix_files.specs.OrderFile.{value_of, tokens_of_rows}
use Rattle.matrix_files.specs.PermFile.{counted}
use Rattle.matrix_files.specs.OrderReader.{IsFormatRefusal}
use Rattle.matrix_files.specs.ListingFile.{states, places_of, are_pairs, stage_after, places_listed, staged_tests, listing_token_tests}
use Rattle.matrix_files.specs.ListingFile.{listing_format}
use Rattle.matrix_files.specs.ListingReader.{ListingState, listed, after_token, listing_step, listing_line, took_listing, ReadsListing}
use Rattle.matrix_files.specs.InverseFile.{is_listing}
use Rattle.matrix_files.specs.declared.perm_file.PermKind.{PermKind}
use Rattle.matrix_files.specs.declared.perm_file.PermKind.TheVariants as kinds
use Rattle.matrix_files.specs.declared.stage.ListingStage.{ListingStage}
use Rattle.matrix_files.specs.declared.stage.ListingStage.TheVariants as stages
use Rattle.matrix_files.proofs.OrderReaderLaws.{tokens_follow}
use Rattle.matrix_files.proofs.TokenLemmas.{rows_keep, no_limit}
use Rattle.matrix_files.proofs.PermFileLemmas.{part_more, no_token_limit}

-- ---- one token more

after_pairs : (pairs : List (List ℕ)) (token : List ℕ) → are_pairs pairs ≡ true
    → (are_pairs (pairs ++ token ∷ []) ≡ false) × (places_of (pairs ++ token ∷ []) ≡ places_of pairs)
after_pairs [] token whole = (refl, refl)
after_pairs (vertex ∷ []) token whole = absurd cc
after_pairs (vertex ∷ place ∷ rest) token whole =
    let more = after_pairs rest token whole in (more.0, ap (λ (places : List (List ℕ)). place ∷ places) more.1)

after_vertex : (pairs : List (List ℕ)) (token : List ℕ) → are_pairs pairs ≡ false
    → (are_pairs (pairs ++ token ∷ []) ≡ true) × (places_of (pairs ++ token ∷ []) ≡ places_of pairs ++ token ∷ [])
after_vertex [] token half = absurd cc
after_vertex (vertex ∷ []) token half = (refl, refl)
after_vertex (vertex ∷ place ∷ rest) token half =
    let more = after_vertex rest token half in (more.0, ap (λ (places : List (List ℕ)). place ∷ places) more.1)

listed_more : (base n : ℕ) (before : List (List ℕ)) (token : List ℕ)
    → after_token (stage_after before) base (listed base n before) token ≡ listed base n (before ++ token ∷ [])
listed_more base n [] token = refl
listed_more base n (count ∷ pairs) token = go (are_pairs pairs) refl where
  go : (whole : Bool) → are_pairs pairs ≡ whole
      → after_token (cond whole stages.Vertex stages.Place) base (listed base n (count ∷ pairs)) token
      ≡ listed base n (count ∷ pairs ++ token ∷ [])
  go true is = let more = after_pairs pairs token is in rw (more.0, more.1) refl
  go false is = let more = after_vertex pairs token is in rw (more.0, more.1, map_push (counted base) (places_of pairs) token) refl

-- ---- the reader

token_follows : (base n line : ℕ) (s : ListingState) (before : List (List ℕ)) (token : List ℕ) → s ≡ listed base n before →
    Follows (listing_token_tests base n line before token)
    (λ next. next ≡ listed base n (before ++ token ∷ [])) (listing_step base line s token)
unfolding listing_step
token_follows base n line s before token is =
    rw is
    (tested-follows (listing_token_tests base n line before token) (after_token (stage_after before) base (listed base n before) token)
    (λ next. next ≡ listed base n (before ++ token ∷ [])) (λ _. listed_more base n before token))

pub listing_follows : (base : ℕ) (s : ListingState) (before : List Row) (row : Row) → took_listing base s before
    → Follows ((listing_format base s.n).line_tests before row)
    (λ next. took_listing base next (before ++ row ∷ []) × (listing_format base next.n ≡ listing_format base s.n)) (listing_line base s row)
listing_follows base s before row taken =
    Follows-weaker ((listing_format base s.n).line_tests before row)
    (λ next. next ≡ listed base s.n (tokens_of_rows (before ++ row ∷ [])))
    (λ next. took_listing base next (before ++ row ∷ []) × (listing_format base next.n ≡ listing_format base s.n)) (listing_line base s row)
    (λ next here.
    let same : next.n ≡ s.n = ap (λ (t : ListingState). t.n) here in
    (here ∙ sym (ap (λ (k : ℕ). listed base k (tokens_of_rows (before ++ row ∷ []))) same), ap (listing_format base) same))
    (tokens_follow (λ earlier token. listing_token_tests base s.n row.number earlier token) (λ next tokens. next ≡ listed base s.n tokens)
    (listing_step base row.number) (token_follows base s.n row.number) s before row taken)

-- ---- what passes is a permutation

part_after : (base n line : ℕ) (earlier : List (List ℕ)) (token : List ℕ) → IsPart n (map (counted base) (places_listed earlier))
    → first_failure (listing_token_tests base n line earlier token) ≡ None
    → IsPart n (map (counted base) (places_listed (earlier ++ token ∷ [])))
part_after base n line [] token part none = part
part_after base n line (count ∷ pairs) token part none = go (are_pairs pairs) refl none where
  go : (whole : Bool) → are_pairs pairs ≡ whole
      → first_failure (staged_tests (cond whole stages.Vertex stages.Place) base n line (map (counted base) (places_of pairs)) token) ≡ None
      → IsPart n (map (counted base) (places_of (pairs ++ token ∷ [])))
  go true is passed = let more = after_pairs pairs token is in rw more.1 part
  go false is passed = let more = after_vertex pairs token is in
      rw (more.1, map_push (counted base) (places_of pairs) token)
      (part_more base n line (map (counted base) (places_of pairs)) token part passed)

-- of 2n + 1 tokens, n are places
pairs_long : (pairs : List (List ℕ)) → length pairs ≤ 2 * length (places_of pairs) + 1
pairs_long [] = omega arith
pairs_long (vertex ∷ []) = omega arith
pairs_long (vertex ∷ place ∷ rest) = omega (arith, pairs_long rest)

listed_long : (tokens : List (List ℕ)) → length tokens ≤ 2 * length (places_listed tokens) + 2
listed_long [] = omega arith
listed_long (count ∷ pairs) = omega (arith, pairs_long pairs)

pub listing_is_perm : (base n : ℕ) (bytes numbers : List ℕ) → is_listing n (rows_of_bytes Commented bytes) ≡ true
    → ReadsListing base n bytes numbers → IsPerm n numbers
listing_is_perm base n bytes numbers many reads =
    let rows = rows_of_bytes Commented bytes in
    let tokens = tokens_of_rows rows in
    let stated = map (counted base) (places_listed tokens) in
    let part : IsPart n stated = rows_keep (listing_token_tests base n)
    (λ (ts : List (List ℕ)). IsPart n (map (counted base) (places_listed ts)))
    (part_after base n) rows [] rows refl reads.form.lines (part-none n) in
    let most = length-part n stated part in
    let all = eqb-true (length tokens) (2 * n + 1) many in
    let long = length-map (places_listed tokens) (counted base) in
    let least = listed_long tokens in
    rw reads.stated (perm_from_part n stated part (omega arith))

-- ---- no limit

no_limit_first : (l : LimitName) (line : ℕ) (a : Bool) → first_failure (test a (fault_at line kinds.Count) ∷ []) ≢ Some (refusals.Limit l)
no_limit_first l line true e = cc
no_limit_first l line false e = cc

no_limit_next : (l : LimitName) (line : ℕ) (a b : Bool)
    → first_failure (test a (fault_at line kinds.Number) ∷ test b (fault_at line kinds.Range) ∷ []) ≢ Some (refusals.Limit l)
no_limit_next l line true true e = cc
no_limit_next l line true false e = cc
no_limit_next l line false b e = cc

no_stage_limit : (l : LimitName) (stage : ListingStage) (base n line : ℕ) (places token : List ℕ)
    → first_failure (staged_tests stage base n line places token) ≢ Some (refusals.Limit l)
no_stage_limit l stages.Count base n line places token e = no_limit_first l line (states n token) e
no_stage_limit l stages.Vertex base n line places token e =
    no_limit_next l line (is_some (number_of token)) (eqb (value_of token) (base + length places)) e
no_stage_limit l stages.Place base n line places token e = no_token_limit l base n line places token e

pub listing_refusal : (base n : ℕ) (bytes : List ℕ) (r : Refusal PermKind)
    → IsRefusal (listing_format base n) (rows_of_bytes Commented bytes) (past_of_bytes bytes) r
    → IsFormatRefusal (listing_format base n) bytes r
listing_refusal base n bytes r = no_limit (listing_format base n) (listing_token_tests base n) bytes (λ before row. refl)
    (λ l line earlier token. no_stage_limit l (stage_after earlier) base n line (map (counted base) (places_listed earlier)) token)
    (λ l e. cc) r
