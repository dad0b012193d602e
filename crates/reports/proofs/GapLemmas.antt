-- What `spill` prints of a task graph: the gaps in which some is spilled, and the volume of the plan that their amounts make.
use Rattle.std.proofs.Common.{◌≡◌, ◌==◌, ◌∙◌, ◌+◌, ◌<◌, ◌≤◌, ℕ, zero, suc, Bool, true, false, cond, List, [], ◌∷◌}
use Rattle.std.proofs.Common.{◌++◌, length, map, take, get_or, None, refl, sym, ap, ap₂, inl, inr, arith, append_assoc}
use Rattle.std.specs.Prelude.{nat_lt}
use Rattle.std.specs.List.{filter, enumerate_from, zip, flat_map}
use Rattle.std.proofs.lemmas.Bool.{lt-ltb, le-ltb}
use Rattle.std.proofs.lemmas.List.{take_all, take_more, map-append, append-nil, length-map, length-append, length-take}
use Rattle.std.proofs.lemmas.List.Elements.{filter_more}
use Rattle.std.proofs.lemmas.Slice.Zip.{get_or-zip, length-zip}
use Rattle.mp_text.specs.Report.{line_text, text_of_lines}
use Rattle.shared_systems.specs.Shared.{SharedItem, shared_item_at}
use Rattle.spill_plan.specs.Gaps.{gap_to, gaps_to, gaps_of_item, gap_plan_by_amounts}
use Rattle.spill_plan.proofs.LeastGaps.{gap_volume-le}
use Rattle.judging.specs.Files.{Answer}
use Rattle.requests.specs.Request.{TaskSource, OrderSource}
use Rattle.reports.specs.declared.commands.gap_report.GapName.{GapName}
use Rattle.reports.specs.SpilledGaps.{spilled_gaps, gap_names, name_of_gap, gap_line, IsGapSpillOf, IsGapSpilled}
use Rattle.judging.specs.declared.status.Status.TheVariants.{Done}

-- ---- the names

pub names_more : (number : ℕ) (xs ys : List SharedItem)
    → gap_names number (xs ++ ys) ≡ gap_names number xs ++ gap_names (number + length xs) ys
names_more number [] ys = ap (λ (n : ℕ). gap_names n ys) (omega arith)
names_more number (x ∷ xs) ys =
    let here = map (name_of_gap number) (gaps_of_item x) in
    ap (λ (rest : List GapName). here ++ rest)
    (names_more (number + 1) xs ys
    ∙ ap (λ (n : ℕ). gap_names (number + 1) xs ++ gap_names n ys) (omega arith))
    ∙ sym (append_assoc here (gap_names (number + 1) xs) (gap_names (number + length (x ∷ xs)) ys))

pub long_names : (number : ℕ) (xs : List SharedItem) → length (gap_names number xs) ≡ length (flat_map gaps_of_item xs)
long_names number [] = refl
long_names number (x ∷ xs) =
    let here = map (name_of_gap number) (gaps_of_item x) in
    omega (
      arith,
      length-append here (gap_names (number + 1) xs),
      length-map (gaps_of_item x) (name_of_gap number),
      length-append (gaps_of_item x) (flat_map gaps_of_item xs),
      long_names (number + 1) xs,
    )

pub names_of_one_more : (items : List SharedItem) (i : ℕ) → i < length items
    → gap_names 1 (take (i + 1) items) ≡ gap_names 1 (take i items) ++ map (name_of_gap (i + 1)) (gaps_of_item (shared_item_at items i))
names_of_one_more items i lt =
    let x = shared_item_at items i in
    let before = gap_names 1 (take i items) in
    let number : 1 + length (take i items) ≡ i + 1 = omega (arith, lt, length-take i items) in
    ap (gap_names 1) (take_more items i (record { size = 0; from = None; readers = [] }) lt)
    ∙ names_more 1 (take i items) (x ∷ [])
    ∙ ap (λ (names : List GapName). before ++ names)
    (append-nil (map (name_of_gap (1 + length (take i items))) (gaps_of_item x))
    ∙ ap (λ (n : ℕ). map (name_of_gap n) (gaps_of_item x)) number)

-- those of an item with readers
abbrev pub name_to : ℕ → ℕ → GapName
name_to number reader = record { item = number; reader = reader }

names_to : (number : ℕ) (x : SharedItem) (readers : List ℕ) → map (name_of_gap number) (map (gap_to x) readers) ≡ map (name_to number) readers
names_to number x [] = refl
names_to number x (c ∷ cs) = ap (λ (rest : List GapName). name_to number c ∷ rest) (names_to number x cs)

pub names_of_some : (number : ℕ) (x : SharedItem) (readers : List ℕ) → 0 < length readers
    → map (name_of_gap number) (gaps_to x readers) ≡ map (name_to number) readers
names_of_some number x [] some = absurd (omega (arith, some))
names_of_some number x (c ∷ cs) some = names_to number x (c ∷ cs)

pub some_if_not_none : (n : ℕ) → (n == 0) ≡ false → 0 < n
some_if_not_none zero e = absurd (cc e)
some_if_not_none (suc n) e = omega arith

-- ---- the lines

abbrev pub no_name : GapName
no_name = record { item = 0; reader = 0 }

abbrev is_spilled : GapName × ℕ → Bool
is_spilled gap = nat_lt 0 gap.1

-- of the gaps before a place
abbrev pub lines_before : List GapName → List ℕ → ℕ → List (List (List ℕ))
lines_before names amounts i = map gap_line (filter is_spilled (take i (zip names amounts)))

module _ (names : List GapName) (amounts : List ℕ) (long : length amounts ≡ length names) where
  long_zip : length (zip names amounts) ≡ length amounts
  long_zip = length-zip names amounts ∙ omega (arith, long)

  pub lines_of_all : lines_before names amounts (length amounts) ≡ map gap_line (spilled_gaps names amounts)
  lines_of_all =
      ap (λ (gs : List (GapName × ℕ)). map gap_line (filter is_spilled gs))
      (take_all (length amounts) (zip names amounts) (omega (arith, long_zip)))

  gap_here : (i : ℕ) → i < length amounts → get_or (zip names amounts) i (no_name, 0) ≡ (get_or names i no_name, get_or amounts i 0)
  gap_here i h = get_or-zip names amounts i (no_name, 0) (omega (arith, h, long)) h

  one_more : (i : ℕ) → i < length amounts → (b : Bool) → nat_lt 0 (get_or amounts i 0) ≡ b
      → lines_before names amounts (i + 1) ≡ lines_before names amounts i
      ++ map gap_line (cond b ((get_or names i no_name, get_or amounts i 0) ∷ []) [])
  one_more i h b is =
      let all = zip names amounts in
      let here = gap_here i h in
      let picked = λ (c : Bool) (g : GapName × ℕ). cond c (g ∷ []) [] in
      let test : is_spilled (get_or all i (no_name, 0)) ≡ b = ap is_spilled here ∙ is in
      ap (map gap_line) (filter_more is_spilled all i (no_name, 0) (omega (arith, h, long_zip)))
      ∙ map-append gap_line (filter is_spilled (take i all)) (cond (is_spilled (get_or all i (no_name, 0))) (get_or all i (no_name, 0) ∷ []) [])
      ∙ ap (λ (gs : List (GapName × ℕ)). lines_before names amounts i ++ map gap_line gs) (ap₂ picked test here)

  pub skipped : (i : ℕ) → i < length amounts → get_or amounts i 0 ≤ 0 → lines_before names amounts (i + 1) ≡ lines_before names amounts i
  skipped i h none = one_more i h false (le-ltb 0 (get_or amounts i 0) none) ∙ append-nil (lines_before names amounts i)

  pub printed : ((text : List ℕ) (lines : List (List (List ℕ))) (line : List (List ℕ))
      → (text ++ text_of_lines lines) ++ line_text line ≡ text ++ text_of_lines (lines ++ line ∷ []))
      → (i : ℕ) → i < length amounts → 0 < get_or amounts i 0 → (start before after : List ℕ)
      → before ≡ start ++ text_of_lines (lines_before names amounts i)
      → after ≡ before ++ line_text (gap_line (get_or names i no_name, get_or amounts i 0))
      → after ≡ start ++ text_of_lines (lines_before names amounts (i + 1))
  printed more i h some start before after was is =
      let line = gap_line (get_or names i no_name, get_or amounts i 0) in
      is ∙ ap (λ (t : List ℕ). t ++ line_text line) was ∙ more start (lines_before names amounts i) line
      ∙ ap (λ (ls : List (List (List ℕ))). start ++ text_of_lines ls) (sym (one_more i h true (lt-ltb 0 (get_or amounts i 0) some)))

-- as many as there are amounts above 0
pub as_many : (number : ℕ) (names : List GapName) (amounts : List ℕ) → length amounts ≡ length names
    → length (filter (λ (p : ℕ × ℕ). nat_lt 0 p.1) (enumerate_from number amounts)) ≡ length (spilled_gaps names amounts)
as_many number [] [] long = refl
as_many number [] (a ∷ amounts) long = absurd (omega (arith, long))
as_many number (n ∷ names) [] long = absurd (omega (arith, long))
as_many number (n ∷ names) (a ∷ amounts) long =
    let rest = as_many (number + 1) names amounts (omega (arith, long)) in
    let one = filter (λ (p : ℕ × ℕ). nat_lt 0 p.1) (enumerate_from (number + 1) amounts) in
    let two = spilled_gaps names amounts in
    elim (nat_lt 0 a) as (λ b. length (cond b ((number, a) ∷ one) one) ≡ length (cond b ((n, a) ∷ two) two)) [
      | true ↦ ap suc rest
      | false ↦ rest
    ]

-- ---- what is said of a spill that is done

pub gaps_spilled : (tasks : TaskSource) (source : OrderSource) (bound : ℕ) (texts : List (List ℕ)) (answer : Answer)
    → IsGapSpillOf tasks source bound texts answer → answer.status ≡ Done → IsGapSpilled tasks source bound texts answer.text
gaps_spilled tasks source bound texts answer (mine, text, system, order, split, is_system, is_order, inl (place, kind, fault, e)) done =
    absurd (cc (sym (ap (λ (a : Answer). a.status) e) ∙ done))
gaps_spilled tasks source bound texts answer
    (mine, text, system, order, split, is_system, is_order, inr (inl (step, need, traversal, first, e))) done =
    absurd (cc (sym (ap (λ (a : Answer). a.status) e) ∙ done))
gaps_spilled tasks source bound texts answer
    (mine, text, system, order, split, is_system, is_order, inr (inr (volume, amounts, traversal, is, e))) done =
    let plan = gap_plan_by_amounts system order amounts in
    record {
      mine = mine;
      text = text;
      texts_are = split;
      system = system;
      is_system = is_system;
      order = order;
      is_order = is_order;
      traversal = traversal;
      volume = volume;
      amounts = amounts;
      len = is.len;
      plan = is.plan;
      volume_is = omega (arith, gap_volume-le system order amounts is.len, is.volume_is, is.least plan is.plan);
      sum_is = sym is.volume_is;
      least = is.least;
      printed_is = ap (λ (a : Answer). a.text) e;
    }
