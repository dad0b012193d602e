-- What a demo prints, that it has one answer, and that the answer says yes.
use Rattle.std.proofs.Common.{◌≡◌, ◌∙◌, ℕ, ◌*◌, ◌≤◌, Bool, List, [], ◌∷◌, ◌++◌, Option, Some}
use Rattle.std.proofs.Common.{None, length, codes, refl, sym, ap, subst, append_assoc}
use Rattle.claim_check.specs.Accepted.{IsAccepted, IsObjection}
use Rattle.claim_check.specs.declared.objection.Objection.{Objection}
use Rattle.claim_check.specs.declared.verdict.Verdict.{Verdict}
use Rattle.claim_check.specs.declared.verdict.Verdict.TheVariants.{Yes, No}
use Rattle.least_peak.specs.Problem.{system_of, IsTermOf}
use Rattle.least_peak.specs.declared.problem.Origin.{Origin}
use Rattle.least_peak.specs.declared.problem.Origin.TheVariants as origins
use Rattle.patterns.specs.Pattern.{IsPattern, IsPatternOf, is_joined}
use Rattle.limits.specs.Limits.{most_tasks}
use Rattle.mp_gen.specs.Grid.{grid_pairs}
use Rattle.mp_gen.specs.RandomTree.{tree_of}
use Rattle.mp_gen.specs.RandomWorkflow.{workflow_of}
use Rattle.mp_system.specs.Memory.{peak_of}
use Rattle.mp_system.specs.Renaming.{IsRenamed}
use Rattle.mp_system.specs.System.{TaskSystem}
use Rattle.mp_system.specs.Traversal.{IsLeast}
use Rattle.mp_text.specs.Report.{line_text, text_of_lines}
use Rattle.ordering.specs.MinimumDegree.{IsMinimumDegreeOrder}
use Rattle.plans.specs.Plan.{PlanValue}
use Rattle.postorder_best.specs.BestPostorder.{IsBestPostorder}
use Rattle.sp_terms.specs.declared.position.Position.{Position}
use Rattle.sp_terms.specs.SystemOfTerm.{system_of_term}
use Rattle.sp_terms.specs.Values.{IsTerms, term_of}
use Rattle.symbolic.specs.FrontTree.{IsFrontTree}
use Rattle.symbolic.specs.declared.options.FrontOptions.{FrontOptions}
use Rattle.trees.specs.declared.node.Node.{Node}
use Rattle.trees.specs.Forest.{Forest, IsForestOf, all_numbers}
use Rattle.trees.specs.Tree.{IsTree, system_of_nodes}
use Rattle.trees.specs.TreeTerm.{forest_positions}
use Rattle.reports.specs.Demo.{plain_fronts, IsGridTree, IsMade, HasPositions, IsPostorderPeak, IsAcceptedFor}
use Rattle.reports.specs.Demo.{IsVerdictFor, kind_word, check_word, demo_lines, IsSummary, IsDemoOf, IsShown}
use Rattle.judging.specs.Files.{Answer}
use Rattle.requests.specs.Request.{IsMakeable}
use Rattle.requests.specs.declared.commands.demo.Demo.{Demo}
use Rattle.requests.specs.declared.commands.demo.Demo.TheVariants as demos
use Rattle.judging.proofs.PageLemmas.{trace-lines}

-- ---- the lines: four, some, and two more
pub summary-lines : ((text : List ℕ) (lines : List (List (List ℕ))) (line : List (List ℕ))
    → (text ++ text_of_lines lines) ++ line_text line ≡ text ++ text_of_lines (lines ++ line ∷ []))
    → (one two three four five last : List (List ℕ)) (some : List (List (List ℕ))) (a b c d e f g : List ℕ)
    → a ≡ line_text one → b ≡ a ++ line_text two → c ≡ b ++ line_text three → d ≡ c ++ line_text four → e ≡ d ++ text_of_lines some
    → f ≡ e ++ line_text five → g ≡ f ++ line_text last
    → g ≡ text_of_lines (one ∷ two ∷ three ∷ four ∷ some ++ five ∷ last ∷ [])
summary-lines more one two three four five last some a b c d e f g ea eb ec ed ee ef eg =
    eg ∙ ap (λ (t : List ℕ). t ++ line_text last) (trace-lines more one two three four five some a b c d e f ea eb ec ed ee ef)
    ∙ more [] (one ∷ two ∷ three ∷ four ∷ some ++ five ∷ []) last
    ∙ ap (λ (ls : List (List (List ℕ))). text_of_lines (one ∷ two ∷ three ∷ four ∷ ls)) (append_assoc some (five ∷ []) (last ∷ []))

-- ---- what is known of the parts of a demo
pub record Parts : Type 0 where
  pub forests : (nodes : List Node) (f g : Forest) → IsForestOf nodes f → IsForestOf nodes g → f ≡ g
  pub forest_terms : (nodes : List Node) (f : Forest) → IsTree nodes → IsForestOf nodes f → IsTerms (forest_positions nodes f)
  pub forest_system : (nodes : List Node) (f : Forest) → IsTree nodes → IsForestOf nodes f
      → IsRenamed (all_numbers f) (system_of_term (term_of (forest_positions nodes f))) (system_of_nodes nodes)
  pub own : (ps : List Position) (plan : PlanValue) → IsTerms ps → IsAccepted (system_of_term (term_of ps)) ps plan
      → IsLeast (system_of_term (term_of ps)) plan.peak
  pub renamed : (names : List ℕ) (system : TaskSystem) (ps : List Position) (plan : PlanValue) → IsTerms ps
      → IsRenamed names (system_of_term (term_of ps)) system → IsAccepted system ps plan → IsLeast system plan.peak
  pub not_both : (system : TaskSystem) (ps : List Position) (plan : PlanValue) (objection : Objection) → IsAccepted system ps plan
      → IsObjection system ps plan objection → ⊥
  pub least : (system : TaskSystem) (peak other : ℕ) → IsLeast system peak → IsLeast system other → peak ≡ other
  pub best : (nodes : List Node) (a b : List ℕ) → IsTree nodes → IsBestPostorder nodes a → IsBestPostorder nodes b → a ≡ b
  pub patterns : (order : ℕ) (pairs : List (ℕ × ℕ)) (a b : List (List ℕ)) → IsPatternOf order pairs a → IsPatternOf order pairs b → a ≡ b
  pub min_degrees : (joined : ℕ → ℕ → Bool) (n : ℕ) (one two : List ℕ)
      → IsMinimumDegreeOrder joined n one → IsMinimumDegreeOrder joined n two → one ≡ two
  pub trees : (seed n : ℕ) → 1 ≤ n → n ≤ most_tasks → IsTree (tree_of seed n)
  pub workflows : (seed n : ℕ) → 1 ≤ n → n ≤ most_tasks → IsTerms (workflow_of seed n)
  pub front_trees : (options : FrontOptions) (rows : List (List ℕ)) (order : List ℕ) (nodes : List Node) → IsPattern rows
      → length order ≡ length rows → IsFrontTree options rows order nodes → IsTree nodes
  pub fronts : (options : FrontOptions) (rows : List (List ℕ)) (order : List ℕ) (a b : List Node) → IsPattern rows
      → length order ≡ length rows → IsFrontTree options rows order a → IsFrontTree options rows order b → a ≡ b

-- a tree or a term within the limits
abbrev IsInput : Origin → Type 0
IsInput (origins.Tree nodes) = IsTree nodes
IsInput (origins.Workflow ps) = IsTerms ps

module _ (p : Parts) where
  is_input : (made : Demo) (origin : Origin) → IsMakeable made → IsMade made origin → IsInput origin
  is_input (demos.Tree s n) (origins.Tree nodes) makeable is = subst IsTree (sym is) (p.trees s n makeable.0 makeable.1)
  is_input (demos.Tree s n) (origins.Workflow ps) makeable is = absurd is
  is_input (demos.Workflow s n) (origins.Tree nodes) makeable is = absurd is
  is_input (demos.Workflow s n) (origins.Workflow ps) makeable is = subst IsTerms (sym is) (p.workflows s n makeable.0 makeable.1)
  is_input (demos.Grid r c) (origins.Tree nodes) makeable (pattern, order, is, least, fronts) =
      p.front_trees plain_fronts pattern order nodes is.pattern least.perm.len fronts
  is_input (demos.Grid r c) (origins.Workflow ps) makeable is = absurd is

  one_term_of : (origin : Origin) (ps qs : List Position) → IsTermOf origin ps → IsTermOf origin qs → ps ≡ qs
  one_term_of (origins.Tree nodes) ps qs (f, is, e) (g, is', e') = e ∙ ap (forest_positions nodes) (p.forests nodes f g is is') ∙ sym e'
  one_term_of (origins.Workflow own) ps qs e e' = e ∙ sym e'

  -- ---- the answer says yes, and its peak is least

  is_least : (origin : Origin) (plan : PlanValue) → IsInput origin → IsAcceptedFor origin plan → IsLeast (system_of origin) plan.peak
  is_least (origins.Tree nodes) plan tree (ps, (f, is, e), accepted) =
      p.renamed (all_numbers f) (system_of_nodes nodes) ps plan (subst IsTerms (sym e) (p.forest_terms nodes f tree is))
      (subst (λ (xs : List Position). IsRenamed (all_numbers f) (system_of_term (term_of xs)) (system_of_nodes nodes)) (sym e)
      (p.forest_system nodes f tree is)) accepted
  is_least (origins.Workflow own) plan terms (ps, e, accepted) =
      p.own own plan terms (subst (λ (xs : List Position). IsAccepted (system_of_term (term_of own)) xs plan) e accepted)

  says_yes : (origin : Origin) (plan : PlanValue) (verdict : Verdict) → IsAcceptedFor origin plan → IsVerdictFor origin plan verdict
      → check_word verdict ≡ codes "yes"
  says_yes origin plan (Yes peak) accepted is = refl
  says_yes origin plan (No objection) (ps, term, accepted) (qs, other, objected) =
      let same = one_term_of origin ps qs term other in
      absurd (p.not_both (system_of origin) ps plan objection accepted
      (subst (λ (xs : List Position). IsObjection (system_of origin) xs plan objection) (sym same) objected))

  pub shown : (made : Demo) (answer : Answer) → IsMakeable made → IsDemoOf made answer → IsShown made answer.text
  shown made answer makeable (origin, plan, is_made, accepted, (verdict, is_verdict, done, summary)) = record {
    origin = origin;
    is_made = is_made;
    peak = plan.peak;
    least = is_least origin plan (is_input made origin makeable is_made) accepted;
    summary = subst (λ (word : List ℕ). IsSummary (kind_word made) origin plan.peak word answer.text)
        (says_yes origin plan verdict accepted is_verdict) summary;
  }

  -- ---- one answer

  one_grid_tree : (rows cols : ℕ) (a b : List Node) → IsGridTree rows cols a → IsGridTree rows cols b → a ≡ b
  one_grid_tree rows cols a b (pattern, order, is, least, fronts) (pattern', order', is', least', fronts') =
      let same = p.patterns (rows * cols) (grid_pairs rows cols) pattern pattern' is is' in
      let other = subst (λ (x : List (List ℕ)). IsMinimumDegreeOrder (is_joined x) (length x) order') (sym same) least' in
      let orders = p.min_degrees (is_joined pattern) (length pattern) order order' least other in
      p.fronts plain_fronts pattern order a b is.pattern least.perm.len fronts
      (subst (λ (x : List (List ℕ)). IsFrontTree plain_fronts x order b) (sym same)
      (subst (λ (o : List ℕ). IsFrontTree plain_fronts pattern' o b) (sym orders) fronts'))

  one_origin : (made : Demo) (a b : Origin) → IsMade made a → IsMade made b → a ≡ b
  one_origin (demos.Tree s n) (origins.Tree xs) (origins.Tree ys) is is' = ap origins.Tree (is ∙ sym is')
  one_origin (demos.Tree s n) (origins.Tree xs) (origins.Workflow ys) is is' = absurd is'
  one_origin (demos.Tree s n) (origins.Workflow xs) b is is' = absurd is
  one_origin (demos.Workflow s n) (origins.Tree xs) b is is' = absurd is
  one_origin (demos.Workflow s n) (origins.Workflow xs) (origins.Tree ys) is is' = absurd is'
  one_origin (demos.Workflow s n) (origins.Workflow xs) (origins.Workflow ys) is is' = ap origins.Workflow (is ∙ sym is')
  one_origin (demos.Grid r c) (origins.Tree xs) (origins.Tree ys) is is' = ap origins.Tree (one_grid_tree r c xs ys is is')
  one_origin (demos.Grid r c) (origins.Tree xs) (origins.Workflow ys) is is' = absurd is'
  one_origin (demos.Grid r c) (origins.Workflow xs) b is is' = absurd is

  one_count : (origin : Origin) (a b : ℕ) → HasPositions origin a → HasPositions origin b → a ≡ b
  one_count origin a b (ps, term, e) (qs, other, e') = sym e ∙ ap length (one_term_of origin ps qs term other) ∙ e'

  one_postorder : (origin : Origin) (a b : Option ℕ) → IsInput origin → IsPostorderPeak origin a → IsPostorderPeak origin b → a ≡ b
  one_postorder (origins.Tree nodes) (Some a) (Some b) tree (order, is, e) (other, is', e') =
      ap Some (e ∙ ap (peak_of (system_of_nodes nodes)) (p.best nodes order other tree is is') ∙ sym e')
  one_postorder (origins.Tree nodes) (Some a) None tree is is' = absurd is'
  one_postorder (origins.Tree nodes) None b tree is is' = absurd is
  one_postorder (origins.Workflow ps) None None terms is is' = refl
  one_postorder (origins.Workflow ps) None (Some b) terms is is' = absurd is'
  one_postorder (origins.Workflow ps) (Some a) b terms is is' = absurd is

  one_summary : (kind : List ℕ) (origin : Origin) (peak : ℕ) (check a b : List ℕ) → IsInput origin → IsSummary kind origin peak check a
      → IsSummary kind origin peak check b → a ≡ b
  one_summary kind origin peak check a b input is is' =
      let counts = one_count origin is.positions is'.positions is.has_positions is'.has_positions in
      let posts = one_postorder origin is.postorder is'.postorder input is.is_postorder is'.is_postorder in
      is.text_is
      ∙ (λ i. text_of_lines (demo_lines kind (length (system_of origin).tasks) (counts i) peak (posts i) check))
      ∙ sym is'.text_is

  one_shown : (made : Demo) (a b : List ℕ) → IsMakeable made → IsShown made a → IsShown made b → a ≡ b
  one_shown made a b makeable is is' =
      let same = one_origin made is.origin is'.origin is.is_made is'.is_made in
      let other = subst (λ (o : Origin). IsLeast (system_of o) is'.peak) (sym same) is'.least in
      let peaks = p.least (system_of is.origin) is.peak is'.peak is.least other in
      one_summary (kind_word made) is.origin is.peak (codes "yes") a b (is_input made is.origin makeable is.is_made) is.summary
      (coe 1 0 (i. IsSummary (kind_word made) (same i) (peaks i) (codes "yes") b) is'.summary)

  pub one_demo : (made : Demo) (a b : Answer) → IsMakeable made → IsDemoOf made a → IsDemoOf made b → a ≡ b
  one_demo made a b makeable is is' =
      let ends = is.4.2 ∙ sym is'.4.2 in
      let texts = one_shown made a.text b.text makeable (shown made a makeable is) (shown made b makeable is') in
      λ i. record { status = ends i; text = texts i }
