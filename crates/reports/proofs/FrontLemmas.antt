-- What `fronts` prints: the rows of all fronts, after the rounds in which they were made.
use Rattle.std.proofs.Common.{◌≡◌, ◌∙◌, ◌+◌, ◌-◌, ◌<◌, ◌≤◌, ℕ, Bool, List, [], ◌∷◌, ◌++◌, length, map}
use Rattle.std.proofs.Common.{take, drop, get_or, sym, ap, ap₂, inl, inr, arith, append_assoc}
use Rattle.std.proofs.lemmas.List.{same_lists, get_or_default, take_more, map-append}
use Rattle.std.proofs.lemmas.List.FromFn.{get_or-map-range_with_len, length-map-range_with_len}
use Rattle.mp_text.specs.Report.{line_text, text_of_lines}
use Rattle.patterns.specs.Pattern.{IsPattern, is_joined}
use Rattle.ordering.specs.Fill.{IsAdjacency, renumbered, parents_of, counts_of}
use Rattle.elim_tree.specs.Paths.{IsWithin}
use Rattle.assembly_tree.specs.declared.assembly.Super.{Super}
use Rattle.assembly_tree.specs.Assembly.{AssemblyTree, IsAssembly, IsSuper}
use Rattle.assembly_tree.specs.Supernodes.{AreSupernodes, first_of, last_of}
use Rattle.symbolic.specs.FrontTree.{columns, IsAnalysis}
use Rattle.activation.specs.Machine.{Setting}
use Rattle.rounds_run.specs.FrontRows.{rows_of_front, list_of_front}
use Rattle.rounds_run.specs.RowSystem.{row_peak, row_setting}
use Rattle.rounds_run.specs.Rounds.{AreRounds}
use Rattle.judging.specs.Files.{Answer, IsOrderedMatrix}
use Rattle.reports.specs.Fronts.{front_lists, number_line, fronts_answer, AreFrontsMade, IsFrontsOf, IsFactored}
use Rattle.requests.specs.Request.{Ordering, OrderedMatrix}
use Rattle.judging.specs.declared.status.Status.TheVariants.{Done}

-- ---- the lists

pub front_list : (joined : ℕ → ℕ → Bool) (n : ℕ) (supers : List Super) (s : ℕ) → IsSuper supers s
    → list_of_front (front_lists joined n supers) s ≡ rows_of_front joined n (first_of supers s)
front_list joined n supers s super =
    get_or-map-range_with_len (λ (t : ℕ). rows_of_front joined n (first_of supers t)) 1
    (length supers) (s - 1) s [] (omega (arith, super.0, super.1))
    (omega (arith, super.0))

pub front_lists_long : (joined : ℕ → ℕ → Bool) (n : ℕ) (supers : List Super) → length (front_lists joined n supers) ≡ length supers
front_lists_long joined n supers = length-map-range_with_len (λ (t : ℕ). rows_of_front joined n (first_of supers t)) 1 (length supers)

-- lists of as many supernodes, each with the same rows
same_front_lists : (count : ℕ) (one two : List (List ℕ)) → length one ≡ count → length two ≡ count
    → ((s : ℕ) → 1 ≤ s → s ≤ count → list_of_front one s ≡ list_of_front two s) → one ≡ two
same_front_lists count one two long_one long_two each =
    same_lists one two (long_one ∙ sym long_two) (λ k d lt.
    let back : k + 1 - 1 ≡ k = omega arith in
    let within : k < length two = omega (arith, lt, long_one, long_two) in
    get_or_default one k d [] lt ∙ ap (λ (i : ℕ). get_or one i []) (sym back)
    ∙ each (k + 1) (omega arith) (omega (arith, lt, long_one))
    ∙ ap (λ (i : ℕ). get_or two i []) back ∙ sym (get_or_default two k d [] within))

pub are_front_lists : (joined : ℕ → ℕ → Bool) (n : ℕ) (supers : List Super) (lists : List (List ℕ)) → length lists ≡ length supers
    → ((s : ℕ) → IsSuper supers s → list_of_front lists s ≡ rows_of_front joined n (first_of supers s))
    → lists ≡ front_lists joined n supers
are_front_lists joined n supers lists long each =
    same_front_lists (length supers) lists (front_lists joined n supers) long (front_lists_long joined n supers)
    (λ s some within. each s (some, within) ∙ sym (front_list joined n supers s (some, within)))

-- ---- the text

-- one list more, after so many
pub one_line_more : ((text : List ℕ) (lines : List (List (List ℕ))) (line : List (List ℕ))
    → (text ++ text_of_lines lines) ++ line_text line ≡ text ++ text_of_lines (lines ++ line ∷ []))
    → (lists : List (List ℕ)) (i : ℕ) → i < length lists → (start old new here : List ℕ)
    → old ≡ start ++ text_of_lines (map number_line (take i lists))
    → here ≡ list_of_front lists (i + 1) → new ≡ old ++ line_text (number_line here)
    → new ≡ start ++ text_of_lines (map number_line (take (i + 1) lists))
one_line_more more lists i lt start old new here is is_here printed =
    let back : i + 1 - 1 ≡ i = omega arith in
    let at : here ≡ get_or lists i [] = is_here ∙ ap (λ (k : ℕ). get_or lists k []) back in
    printed ∙ ap₂ (λ (text list : List ℕ). text ++ line_text (number_line list)) is at
    ∙ more start (map number_line (take i lists)) (number_line (get_or lists i []))
    ∙ ap (λ (ls : List (List (List ℕ))). start ++ text_of_lines ls)
    (sym (ap (map number_line) (take_more lists i [] lt) ∙ map-append number_line (take i lists) (get_or lists i [] ∷ [])))

-- three lines, many, many more, and a last one
pub fronts-lines : ((text : List ℕ) (lines : List (List (List ℕ))) (line : List (List ℕ))
    → (text ++ text_of_lines lines) ++ line_text line ≡ text ++ text_of_lines (lines ++ line ∷ []))
    → ((xs ys : List (List (List ℕ))) → text_of_lines (xs ++ ys) ≡ text_of_lines xs ++ text_of_lines ys)
    → (one two three last : List (List ℕ)) (xs ys : List (List (List ℕ))) (a b c d e f : List ℕ)
    → a ≡ line_text one → b ≡ a ++ line_text two
    → c ≡ b ++ line_text three → d ≡ c ++ text_of_lines xs → e ≡ d ++ text_of_lines ys → f ≡ e ++ line_text last
    → f ≡ text_of_lines (one ∷ two ∷ three ∷ (xs ++ ys) ++ last ∷ [])
fronts-lines more parts one two three last xs ys a b c d e f ea eb ec ed ee ef =
    let rest = text_of_lines ((xs ++ ys) ++ last ∷ []) in
    let all : e ≡ c ++ text_of_lines (xs ++ ys) =
    ee ∙ ap (λ (t : List ℕ). t ++ text_of_lines ys) ed ∙ append_assoc c (text_of_lines xs) (text_of_lines ys)
    ∙ ap (λ (t : List ℕ). c ++ t) (sym (parts xs ys))
    in
    ef ∙ ap (λ (t : List ℕ). t ++ line_text last) all ∙ more c (xs ++ ys) last
    ∙ ap (λ (t : List ℕ). t ++ rest)
    (ec ∙ ap (λ (t : List ℕ). t ++ line_text three) (eb ∙ ap (λ (t : List ℕ). t ++ line_text two) ea))
    ∙ append_assoc (line_text one ++ line_text two) (line_text three) rest
    ∙ append_assoc (line_text one) (line_text two) (line_text three ++ rest)

-- ---- the answer

-- what is known of the parts
pub record FrontParts : Type 0 where
  pub matrices : (o : Ordering) (texts rows other : List (List ℕ)) (order same : List ℕ)
      → IsOrderedMatrix o texts rows order → IsOrderedMatrix o texts other same
      → (rows ≡ other) × (order ≡ same) × IsPattern rows × (length order ≡ length rows)
  pub orders : (rows : List (List ℕ)) (order one two : List ℕ) (first second : AssemblyTree) → IsPattern rows → length order ≡ length rows
      → IsAnalysis rows order one first → IsAnalysis rows order two second → one ≡ two
  pub supernodes : (rows : List (List ℕ)) (order one two : List ℕ) (first second : AssemblyTree)
      → IsPattern rows → length order ≡ length rows
      → IsAnalysis rows order one first → IsAnalysis rows order two second → first ≡ second

module _ (p : FrontParts) (o : Ordering) (texts : List (List ℕ)) where
  -- the texts have one analysis
  pub one_analysis : (rows other : List (List ℕ)) (order same perm along : List ℕ) (one two : AssemblyTree)
      → IsOrderedMatrix o texts rows order
      → IsOrderedMatrix o texts other same → IsAnalysis rows order perm one → IsAnalysis other same along two
      → (rows ≡ other) × (perm ≡ along) × (one ≡ two)
  one_analysis rows other order same perm along one two matrix matrix' analysis analysis' =
      let read = p.matrices o texts rows other order same matrix matrix' in
      let moved = coe 1 0 (i. IsAnalysis (read.0 i) (read.1 i) along two) analysis' in (
        read.0,
        p.orders rows order perm along one two read.2 read.3 analysis moved,
        p.supernodes rows order perm along one two read.2 read.3 analysis moved,
      )

  pub one_list_of_rows : (m : OrderedMatrix) → m.ordering ≡ o → (bound other workers more : ℕ) (printed again : List ℕ)
      → (one : IsFactored m bound workers texts printed) (two : IsFactored m other more texts again) → one.lists ≡ two.lists
  one_list_of_rows m is bound other workers more printed again one two =
      let same =
      one_analysis one.rows two.rows one.order two.order one.perm two.perm one.assembly two.assembly
      (coe 0 1 (i. IsOrderedMatrix (is i) texts one.rows one.order) one.is_matrix)
      (coe 0 1 (i. IsOrderedMatrix (is i) texts two.rows two.order) two.is_matrix) one.analysis two.analysis in
      are_front_lists (columns one.rows one.perm) (length one.perm) one.assembly.supers one.lists one.len one.first
      ∙ (λ i. front_lists (columns (same.0 i) (same.1 i)) (length (same.1 i)) (same.2 i).supers)
      ∙ sym (are_front_lists (columns two.rows two.perm) (length two.perm) two.assembly.supers two.lists two.len two.first)

module _
    (rounds : (assembly : AssemblyTree) (bound workers : ℕ) (one two : List (List ℕ)) (used more : ℕ) → IsAssembly assembly
    → row_peak assembly.supers ≤ bound → 1 ≤ workers → AreRounds (row_setting assembly.supers bound workers) one used
    → AreRounds (row_setting assembly.supers bound workers) two more → one ≡ two)
    (uses : (assembly : AssemblyTree) (bound workers : ℕ) (one two : List (List ℕ)) (used more : ℕ) → IsAssembly assembly
    → row_peak assembly.supers ≤ bound → 1 ≤ workers → AreRounds (row_setting assembly.supers bound workers) one used
    → AreRounds (row_setting assembly.supers bound workers) two more → used ≡ more) where
  made_once : (joined : ℕ → ℕ → Bool) (n : ℕ) (assembly : AssemblyTree) (bound workers : ℕ) (a b : Answer)
      → IsAssembly assembly → 1 ≤ workers
      → AreFrontsMade joined n assembly.supers bound workers a → AreFrontsMade joined n assembly.supers bound workers b → a ≡ b
  made_once joined n assembly bound workers a b is some (inl (below, e)) (inl (below', e')) = e ∙ sym e'
  made_once joined n assembly bound workers a b is some (inl (below, e)) (inr (rs, used, fits, are, e')) =
      absurd (omega (arith, below, fits))
  made_once joined n assembly bound workers a b is some (inr (rs, used, fits, are, e)) (inl (below, e')) =
      absurd (omega (arith, below, fits))
  made_once joined n assembly bound workers a b is some (inr (rs, used, fits, are, e)) (inr (rs', used', fits', are', e')) =
      e ∙ ap₂ (λ (x : List (List ℕ)) (u : ℕ). fronts_answer x u (front_lists joined n assembly.supers))
      (rounds assembly bound workers rs rs' used used' is fits some are are')
      (uses assembly bound workers rs rs' used used' is fits some are are')
      ∙ sym e'

  pub one_answer : FrontParts
      → ((rows : List (List ℕ)) (order perm : List ℕ) (assembly : AssemblyTree) → IsPattern rows → length order ≡ length rows
      → IsAnalysis rows order perm assembly → IsAssembly assembly)
      → (m : OrderedMatrix) (bound workers : ℕ) (texts : List (List ℕ)) (a b : Answer) → 1 ≤ workers
      → IsFrontsOf m bound workers texts a → IsFrontsOf m bound workers texts b → a ≡ b
  one_answer p trees m bound workers texts a b some (rows, order, matrix, (perm, assembly, analysis, made))
      (rows', order', matrix', (perm', assembly', analysis', made')) =
      let read = p.matrices m.ordering texts rows rows' order order' matrix matrix' in
      let same = one_analysis p m.ordering texts rows rows' order order' perm perm' assembly assembly' matrix matrix' analysis analysis' in
      made_once (columns rows perm) (length perm) assembly bound workers a b
      (trees rows order perm assembly read.2 read.3 analysis) some made
      (coe 1 0 (i. AreFrontsMade (columns (same.0 i) (same.1 i)) (length (same.1 i)) (same.2 i).supers bound workers b) made')

-- ---- what is said of fronts that are done

pub factored : ((o : Ordering) (texts rows other : List (List ℕ)) (order same : List ℕ)
    → IsOrderedMatrix o texts rows order → IsOrderedMatrix o texts other same
    → (rows ≡ other) × (order ≡ same) × IsPattern rows × (length order ≡ length rows))
    → ((rows : List (List ℕ)) (order : List ℕ) → IsPattern rows → IsAdjacency (renumbered (is_joined rows) order))
    → ((rows : List (List ℕ)) (order : List ℕ) → IsPattern rows → IsWithin (length order) (renumbered (is_joined rows) order))
    → ((c : Setting) (rounds : List (List ℕ)) (used : ℕ) → AreRounds c rounds used → used ≤ c.bound)
    → ((joined : ℕ → ℕ → Bool) (n : ℕ) (assembly : AssemblyTree) (s j : ℕ) → IsAdjacency joined → IsWithin n joined
    → AreSupernodes (parents_of joined n) (counts_of joined n) assembly → IsSuper assembly.supers s → first_of assembly.supers s ≤ j
    → j ≤ last_of assembly.supers s
    → rows_of_front joined n j ≡ drop (j - first_of assembly.supers s) (rows_of_front joined n (first_of assembly.supers s)))
    → (m : OrderedMatrix) (bound workers : ℕ) (texts : List (List ℕ)) (answer : Answer)
    → IsFrontsOf m bound workers texts answer → answer.status ≡ Done → IsFactored m bound workers texts answer.text
factored matrices pattern inside within further m bound workers texts answer
    (rows, order, matrix, (perm, assembly, analysis, inl (below, e))) done =
    absurd (cc (sym (ap (λ (a : Answer). a.status) e) ∙ done))
factored matrices pattern inside within further m bound workers texts answer
    (rows, order, matrix, (perm, assembly, analysis, inr (rounds, used, fits, are, e))) done =
    let joined = columns rows perm in
    let n = length perm in
    let is_pattern = (matrices m.ordering texts rows rows order order matrix matrix).2 in
    let lists = front_lists joined n assembly.supers in
    record {
      rows = rows;
      order = order;
      is_matrix = matrix;
      perm = perm;
      assembly = assembly;
      analysis = analysis;
      lists = lists;
      len = front_lists_long joined n assembly.supers;
      first = front_list joined n assembly.supers;
      further = λ s j super low high.
          further joined n assembly s j (pattern rows perm is_pattern) (inside rows perm is_pattern) analysis.supernodes super low high
          ∙ ap (drop (j - first_of assembly.supers s)) (sym (front_list joined n assembly.supers s super));
      rounds = rounds;
      used = used;
      are_rounds = are;
      within = within (row_setting assembly.supers bound workers) rounds used are;
      peak_within = fits;
      printed_is = ap (λ (a : Answer). a.text) e;
    }
