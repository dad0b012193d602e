-- A printed certificate is read as it was.
use Rattle.std.proofs.Common.{◌≡◌, ℕ, ◌+◌, ◌≤◌, true, false, not, ◌||◌, eqb, ltb, List, [], ◌∷◌, ◌++◌, length, map, refl}
use Rattle.std.proofs.Common.{sym, ap, subst, ◌∙◌, arith, Some, None, append_assoc, append-nil, length-append}
use Rattle.std.specs.Fmt.{decimal}
use Rattle.std.specs.Prelude.{codes}
use Rattle.std.specs.List.{All, list_all}
use Rattle.std.proofs.lemmas.Bool.{and_from, le-leb, lt-ltb, le-ltb, ne_eqb}
use Rattle.std.proofs.lemmas.List.Elements.{All-nil, All-cons, All-head, All-tail, All-weaker}
use Rattle.std.proofs.lemmas.List.Folds.{list_all-append}
use Rattle.limits.specs.Limits.{most_tasks, most_positions, most_workers}
use Rattle.mp_text.specs.declared.layout.Layout.TheVariants.{Commented}
use Rattle.mp_text.specs.Text.{Row, number_of, numbers_of}
use Rattle.mp_text.specs.Ahead.{rows_of_bytes, past_of_bytes}
use Rattle.mp_text.specs.Grammar.{first_failure, ArePassed}
use Rattle.mp_text.specs.Report.{is_counted, numbered_from}
use Rattle.file_frame.specs.Words.{after_word, version_of}
use Rattle.file_frame.specs.Printed.{end_line}
use Rattle.file_frame.proofs.PrintedLaws.{AreLaws, numbers_counted}
use Rattle.file_frame.proofs.LineLemmas.{section_counted}
use Rattle.fences.specs.declared.fenced.Fence.{Fence}
use Rattle.fences.specs.declared.certificate.Workers.{Workers}
use Rattle.fences.specs.declared.certificate.Workers.TheVariants as workers
use Rattle.fences.specs.Certificates.{Certificate, room_of}
use Rattle.fence_files.specs.FenceFile.{Stated, stated, nothing, most_number, tests_after, end_tests_after, fences_format, workers_stated}
use Rattle.fence_files.specs.FenceFile.{certificate_stated, ReadsFences}
use Rattle.fence_files.specs.Printed.{number_line, fence_line, number_lines, fence_lines, count_of, list_lines, body_lines}
use Rattle.fence_files.specs.Printed.{fences_lines, fences_text, IsWord, IsPlace, IsFenceWithin, AreWorkersWithin, IsPrintable}
use Rattle.fence_files.specs.Reader.{next}
use Rattle.fence_files.specs.declared.stage.Stage.TheVariants as stages
use Rattle.fence_files.proofs.ReaderLaws.{stated_push, at_room, at_joins, at_fences, at_amounts}

-- ---- lines that pass, one after another

-- the lines pass, and lead from what is stated before them to what is stated after
Leads : Stated → List Row → Stated → Type 0
Leads s [] t = s ≡ t
Leads s (row ∷ rows) t = (first_failure (tests_after s row) ≡ None) × Leads (next s row) rows t

leads-stated : (before rows : List Row) (t : Stated) → Leads (stated before) rows t → stated (before ++ rows) ≡ t
unfolding Leads
leads-stated before [] t leads = ap stated (append-nil before) ∙ leads
leads-stated before (row ∷ rows) t leads =
    ap stated (sym (append_assoc before (row ∷ []) rows)) ∙ leads-stated (before ++ row ∷ []) rows t (rw (stated_push before row) leads.1)

leads-passed : (first rows : List Row) (t : Stated) → Leads (stated first) rows t
    → (before after : List Row) (row : Row) → rows ≡ before ++ row ∷ after
    → first_failure (tests_after (stated (first ++ before)) row) ≡ None
unfolding Leads
leads-passed first [] t leads [] after row e = absurd cc
leads-passed first [] t leads (b ∷ before) after row e = absurd cc
leads-passed first (r ∷ rows) t leads [] after row e =
    let same : r ≡ row = cc in
    rw (append-nil first, ← same) leads.0
leads-passed first (r ∷ rows) t leads (b ∷ before) after row e =
    let same : r ≡ b = cc in
    let tail : rows ≡ before ++ row ∷ after = cc in
    rw (← same, ← append_assoc first (r ∷ []) before)
    (leads-passed (first ++ r ∷ []) rows t (rw (stated_push first r) leads.1) before after row tail)

-- the lines from a number on lead there, whichever the number
abbrev LeadsOn : Stated → List (List (List ℕ)) → Stated → Type 0
LeadsOn s lines t = (n : ℕ) → Leads s (numbered_from n lines) t

-- ---- the lines of each section

one-read : AreLaws → (x : ℕ) → IsWord x → numbers_of (decimal x ∷ []) ≡ Some (x ∷ [])
one-read laws x small = laws.values (x ∷ []) (All-cons IsWord x [] small (All-nil IsWord))

pair-small : (fence : Fence) → IsFenceWithin fence → All IsWord (fence.from ∷ fence.to ∷ [])
pair-small fence within =
    let from = within.0 in
    let to = within.1 in
    All-cons IsWord fence.from (fence.to ∷ []) (omega arith) (All-cons IsWord fence.to [] (omega arith) (All-nil IsWord))

joins-lead : AreLaws → (s : Stated) (count : ℕ) (before xs : List ℕ) (rest : List (List (List ℕ))) (t : Stated)
    → All IsPlace xs → length before + length xs ≡ count
    → LeadsOn (at_joins s count (before ++ xs)) rest t → LeadsOn (at_joins s count before) (map number_line xs ++ rest) t
unfolding Leads
joins-lead laws s count before [] rest t places full more n =
    subst (λ (ys : List ℕ). Leads (at_joins s count ys) (numbered_from n rest) t) (append-nil before) (more n)
joins-lead laws s count before (x ∷ xs) rest t places full more n =
    let place = All-head IsPlace x xs places in
    let within = place.1 in
    let open_yet : ltb (length before) count ≡ true = lt-ltb _ _ (omega arith) in
    let tail = joins-lead laws s count (before ++ x ∷ []) xs rest t (All-tail IsPlace x xs places)
    (omega (arith, length-append before (x ∷ [])))
    (subst (λ (ys : List ℕ). LeadsOn (at_joins s count ys) rest t) (sym (append_assoc before (x ∷ []) xs)) more) (n + 1) in
    rw (open_yet, one-read laws x (omega arith), le-leb 1 x place.0, le-leb x most_number place.1) (refl, tail)

fences-lead : AreLaws → (s : Stated) (count : ℕ) (before xs : List Fence) (rest : List (List (List ℕ))) (t : Stated)
    → All IsFenceWithin xs → length before + length xs ≡ count
    → LeadsOn (at_fences s count (before ++ xs)) rest t → LeadsOn (at_fences s count before) (map fence_line xs ++ rest) t
unfolding Leads
fences-lead laws s count before [] rest t within full more n =
    subst (λ (ys : List Fence). Leads (at_fences s count ys) (numbered_from n rest) t) (append-nil before) (more n)
fences-lead laws s count before (x ∷ xs) rest t within full more n =
    let here = All-head IsFenceWithin x xs within in
    let open_yet : ltb (length before) count ≡ true = lt-ltb _ _ (omega arith) in
    let read : numbers_of (fence_line x) ≡ Some (x.from ∷ x.to ∷ []) = laws.values (x.from ∷ x.to ∷ []) (pair-small x here) in
    let tail = fences-lead laws s count (before ++ x ∷ []) xs rest t (All-tail IsFenceWithin x xs within)
    (omega (arith, length-append before (x ∷ [])))
    (subst (λ (ys : List Fence). LeadsOn (at_fences s count ys) rest t) (sym (append_assoc before (x ∷ []) xs)) more) (n + 1) in
    rw (open_yet, read, le-leb x.from most_number here.0, le-leb x.to most_number here.1) (refl, tail)

amounts-lead : AreLaws → (s : Stated) (count : ℕ) (before xs : List ℕ) (rest : List (List (List ℕ))) (t : Stated)
    → All IsWord xs → length before + length xs ≡ count
    → LeadsOn (at_amounts s count (before ++ xs)) rest t → LeadsOn (at_amounts s count before) (map number_line xs ++ rest) t
unfolding Leads
amounts-lead laws s count before [] rest t words full more n =
    subst (λ (ys : List ℕ). Leads (at_amounts s count ys) (numbered_from n rest) t) (append-nil before) (more n)
amounts-lead laws s count before (x ∷ xs) rest t words full more n =
    let open_yet : ltb (length before) count ≡ true = lt-ltb _ _ (omega arith) in
    let tail = amounts-lead laws s count (before ++ x ∷ []) xs rest t (All-tail IsWord x xs words)
    (omega (arith, length-append before (x ∷ [])))
    (subst (λ (ys : List ℕ). LeadsOn (at_amounts s count ys) rest t) (sym (append_assoc before (x ∷ []) xs)) more) (n + 1) in
    rw (open_yet, one-read laws x (All-head IsWord x xs words)) (refl, tail)

-- ---- the workers

pub few-workers : (told : Workers) → AreWorkersWithin told → count_of told ≤ most_workers
few-workers workers.Any within = omega arith
few-workers (workers.AtMost count room) within = within.1

pub word-room : (told : Workers) → AreWorkersWithin told → IsWord (room_of told)
word-room workers.Any within = omega arith
word-room (workers.AtMost count room) within = within.2

room-fits : (told : Workers) → AreWorkersWithin told → (not (eqb (count_of told) 0) || eqb (room_of told) 0) ≡ true
room-fits workers.Any within = refl
room-fits (workers.AtMost count room) within = let some = within.0 in rw (ne_eqb count 0 (λ z. omega arith)) refl

workers-read : (told : Workers) → AreWorkersWithin told → workers_stated (count_of told) (room_of told) ≡ told
workers-read workers.Any within = refl
workers-read (workers.AtMost count room) within = let some = within.0 in rw (ne_eqb count 0 (λ z. omega arith)) refl

-- ---- all lines

full : (n : ℕ) → ltb n n ≡ false
full n = le-ltb n n (omega arith)

-- what is stated before the joins, and after the lines of each section
abbrev told : Certificate → Stated
told certificate = at_room certificate.bound (count_of certificate.workers) (room_of certificate.workers)

abbrev joined : Certificate → Stated
joined certificate = at_joins (told certificate) (length certificate.joins) certificate.joins

abbrev fenced : Certificate → Stated
fenced certificate = at_fences (joined certificate) (length certificate.fences) certificate.fences

abbrev handed : Certificate → Stated
handed certificate = at_amounts (fenced certificate) (length certificate.amounts) certificate.amounts

-- what is stated by all lines
abbrev whole : Certificate → Stated
whole certificate = record (handed certificate) { stage = stages.Ended }

module _ (laws : AreLaws) (certificate : Certificate) (is : IsPrintable certificate) where
  end-leads : LeadsOn (handed certificate) (end_line ∷ []) (whole certificate)
  unfolding Leads
  end-leads n = rw (full (length certificate.amounts)) (refl, refl)

  last-leads : LeadsOn (fenced certificate) (number_lines (codes "amounts") certificate.amounts ++ end_line ∷ []) (whole certificate)
  unfolding Leads after_word
  last-leads n =
      let few = is.amounts.0 in
      let k = length certificate.amounts in
      let lines = amounts-lead laws (fenced certificate) k [] certificate.amounts (end_line ∷ []) (whole certificate)
      is.amounts.1 (omega arith) end-leads (n + 1) in
      rw (full (length certificate.fences), laws.value k (omega arith), le-leb k most_positions few) (refl, lines)

  rest-leads : LeadsOn (joined certificate)
      (fence_lines certificate.fences ++ (number_lines (codes "amounts") certificate.amounts ++ end_line ∷ [])) (whole certificate)
  unfolding Leads after_word
  rest-leads n =
      let few = is.fences.0 in
      let k = length certificate.fences in
      let lines = fences-lead laws (joined certificate) k [] certificate.fences
      (number_lines (codes "amounts") certificate.amounts ++ end_line ∷ []) (whole certificate) is.fences.1 (omega arith) last-leads (n + 1) in
      rw (full (length certificate.joins), laws.value k (omega arith), le-leb k most_positions few) (refl, lines)

  lists-lead : LeadsOn (told certificate) (list_lines certificate) (whole certificate)
  unfolding Leads after_word
  lists-lead n =
      let few = is.joins.0 in
      let k = length certificate.joins in
      let lines = joins-lead laws (told certificate) k [] certificate.joins
      (fence_lines certificate.fences ++ (number_lines (codes "amounts") certificate.amounts ++ end_line ∷ [])) (whole certificate)
      is.joins.1 (omega arith) rest-leads (n + 1) in
      rw (laws.value k (omega arith), le-leb k most_tasks few) (refl, lines)

  body-leads : LeadsOn (record nothing { stage = stages.Bound }) (body_lines certificate) (whole certificate)
  unfolding Leads after_word
  body-leads n =
      let count = count_of certificate.workers in
      let few = few-workers certificate.workers is.workers in
      let bound : number_of (decimal certificate.bound) ≡ Some certificate.bound = laws.value certificate.bound is.bound in
      let room = laws.value (room_of certificate.workers) (word-room certificate.workers is.workers) in
      rw (bound, laws.value count (omega arith), room, le-leb count most_workers few, room-fits certificate.workers is.workers)
      (refl, (refl, (refl, lists-lead (n + 1 + 1 + 1))))

  all-lead : Leads nothing (numbered_from 1 (fences_lines certificate)) (whole certificate)
  unfolding Leads after_word version_of
  all-lead = (refl, body-leads (1 + 1))

-- ---- the lines count

module _ (laws : AreLaws) where
  one-counted : (x : ℕ) → IsWord x → is_counted Commented (number_line x) ≡ true
  one-counted x small = laws.counted Commented x [] small refl

  numbers-counted : (xs : List ℕ) → All IsWord xs → list_all (is_counted Commented) (map number_line xs) ≡ true
  numbers-counted [] small = refl
  numbers-counted (x ∷ xs) small =
      and_from _ _ (one-counted x (All-head IsWord x xs small)) (numbers-counted xs (All-tail IsWord x xs small))

  fences-counted : (xs : List Fence) → All IsFenceWithin xs → list_all (is_counted Commented) (map fence_line xs) ≡ true
  fences-counted [] within = refl
  fences-counted (x ∷ xs) within =
      and_from _ _ (numbers_counted laws Commented x.from (x.to ∷ []) (pair-small x (All-head IsFenceWithin x xs within)))
      (fences-counted xs (All-tail IsFenceWithin x xs within))

  lists-counted : (certificate : Certificate) → IsPrintable certificate → list_all (is_counted Commented) (list_lines certificate) ≡ true
  lists-counted certificate is =
      let few_joins = is.joins.0 in
      let few_fences = is.fences.0 in
      let few_amounts = is.amounts.0 in
      let places = All-weaker IsPlace IsWord (λ x place. let within = place.1 in omega arith) certificate.joins is.joins.1 in
      let joins = and_from _ _ (section_counted laws (codes "joins") (length certificate.joins) refl refl (omega arith))
      (numbers-counted certificate.joins places) in
      let fences = and_from _ _ (section_counted laws (codes "fences") (length certificate.fences) refl refl (omega arith))
      (fences-counted certificate.fences is.fences.1) in
      let amounts = and_from _ _ (section_counted laws (codes "amounts") (length certificate.amounts) refl refl (omega arith))
      (numbers-counted certificate.amounts is.amounts.1) in
      let last = number_lines (codes "amounts") certificate.amounts in
      list_all-append (is_counted Commented) (number_lines (codes "joins") certificate.joins)
      (fence_lines certificate.fences ++ (last ++ end_line ∷ []))
      ∙ and_from _ _ joins (list_all-append (is_counted Commented) (fence_lines certificate.fences) (last ++ end_line ∷ [])
      ∙ and_from _ _ fences (list_all-append (is_counted Commented) last (end_line ∷ []) ∙ and_from _ _ amounts refl))

  lines-counted : (certificate : Certificate) → IsPrintable certificate → list_all (is_counted Commented) (fences_lines certificate) ≡ true
  lines-counted certificate is =
      let few = few-workers certificate.workers is.workers in
      let room = word-room certificate.workers is.workers in
      and_from _ _ (section_counted laws (codes "bound") certificate.bound refl refl is.bound)
      (and_from _ _ (section_counted laws (codes "workers") (count_of certificate.workers) refl refl (omega arith))
      (and_from _ _ (section_counted laws (codes "room") (room_of certificate.workers) refl refl room) (lists-counted certificate is)))

-- ---- the whole file

pub printed-reads : AreLaws → (certificate : Certificate) → IsPrintable certificate → ReadsFences (fences_text certificate) certificate
unfolding stated
printed-reads laws certificate is =
    let text = fences_text certificate in
    let rows = numbered_from 1 (fences_lines certificate) in
    let read : rows_of_bytes Commented text ≡ rows = laws.rows Commented (fences_lines certificate) (lines-counted laws certificate is) in
    let leads : Leads (stated []) rows (whole certificate) = all-lead laws certificate is in
    let stated_is : stated (rows_of_bytes Commented text) ≡ whole certificate = ap stated read ∙ leads-stated [] rows (whole certificate) leads in
    let same : certificate_stated (whole certificate) ≡ certificate =
    ap (λ (it : Workers). record certificate { workers = it }) (workers-read certificate.workers is.workers) in
    record {
      form = record {
        lines = subst (ArePassed fences_format) (sym read) (leads-passed [] rows (whole certificate) leads);
        end = subst (λ (s : Stated). first_failure (end_tests_after s (past_of_bytes text)) ≡ None) (sym stated_is) refl;
      };
      stated = sym (ap certificate_stated stated_is ∙ same);
    }
