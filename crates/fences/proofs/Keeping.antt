-- Amounts of a system are amounts of the system with fences, along which nothing is handed on.
use Rattle.std.proofs.Common.{◌≡◌, ℕ, suc, ◌≤◌, false, List, [], ◌∷◌, ◌++◌, length, map, refl, sym, ap, subst, ◌∙◌, arith}
use Rattle.std.proofs.Math.Path.{fun_ext}
use Rattle.std.specs.Prelude.{All, replicate}
use Rattle.std.specs.List.{sum_by, zip}
use Rattle.std.proofs.lemmas.List.Elements.{All-head, All-tail, All-cons, All-nil}
use Rattle.mp_system.specs.declared.system.Item.{Item}
use Rattle.mp_system.specs.declared.system.Task.{Task}
use Rattle.mp_system.specs.System.{TaskSystem, is_input, is_output}
use Rattle.fences.specs.Moments.{numbers_of}
use Rattle.fences.specs.Amounts.{AreHandedOn, with_size, carrying, drawn_by, certified_bound}
use Rattle.fences.specs.Fences.{IsFenced}
use Rattle.fences.proofs.Fencing.{size_where_same, need_same, state_same}

abbrev pub zeros : List Item → List ℕ
zeros fences = replicate (length fences) 0

behind : (items fences : List Item) (amounts : List ℕ) → length amounts ≡ length items → map with_size (zip (items ++ fences) (amounts ++ zeros fences)) ≡ map with_size (zip items amounts) ++ map with_size (zip fences (zeros fences))
behind [] fences [] long = refl
behind [] fences (f ∷ amounts) long = absurd cc
behind (item ∷ items) fences [] long = absurd cc
behind (item ∷ items) fences (f ∷ amounts) long = ap (λ (l : List Item). with_size (item, f) ∷ l) (behind items fences amounts (omega (arith, long)))

none_carried : (fences : List Item) → All (λ (f : Item). f.size ≡ 0) (map with_size (zip fences (zeros fences)))
none_carried [] = All-nil (λ (f : Item). f.size ≡ 0)
none_carried (fence ∷ fences) = All-cons (λ (f : Item). f.size ≡ 0) (with_size (fence, 0)) (map with_size (zip fences (zeros fences))) refl (none_carried fences)

zeros_long : (fences : List Item) → length (zeros fences) ≡ length fences
zeros_long [] = refl
zeros_long (fence ∷ fences) = ap suc (zeros_long fences)

behind_long : (items fences : List Item) (amounts : List ℕ) → length amounts ≡ length items → length (amounts ++ zeros fences) ≡ length (items ++ fences)
behind_long [] fences [] long = zeros_long fences
behind_long [] fences (f ∷ amounts) long = absurd cc
behind_long (item ∷ items) fences [] long = absurd cc
behind_long (item ∷ items) fences (f ∷ amounts) long = ap suc (behind_long items fences amounts (omega (arith, long)))

zeros_cover : (fences : List Item) → All (λ (f : Item). f.size ≡ 0) fences → All (λ p. p.0.size ≤ p.1) (zip fences (zeros fences))
zeros_cover [] empty = All-nil (λ p. p.0.size ≤ p.1)
zeros_cover (fence ∷ fences) empty =
    let none = All-head (λ (f : Item). f.size ≡ 0) fence fences empty in
    All-cons (λ p. p.0.size ≤ p.1) (fence, 0) (zip fences (zeros fences)) (omega (arith, none)) (zeros_cover fences (All-tail (λ (f : Item). f.size ≡ 0) fence fences empty))

behind_covers : (items fences : List Item) (amounts : List ℕ) → length amounts ≡ length items → All (λ p. p.0.size ≤ p.1) (zip items amounts) → All (λ (f : Item). f.size ≡ 0) fences
    → All (λ p. p.0.size ≤ p.1) (zip (items ++ fences) (amounts ++ zeros fences))
behind_covers [] fences [] long covers empty = zeros_cover fences empty
behind_covers [] fences (f ∷ amounts) long covers empty = absurd cc
behind_covers (item ∷ items) fences [] long covers empty = absurd cc
behind_covers (item ∷ items) fences (f ∷ amounts) long covers empty =
    All-cons (λ p. p.0.size ≤ p.1) (item, f) (zip (items ++ fences) (amounts ++ zeros fences)) (All-head (λ p. p.0.size ≤ p.1) (item, f) (zip items amounts) covers)
    (behind_covers items fences amounts (omega (arith, long)) (All-tail (λ p. p.0.size ≤ p.1) (item, f) (zip items amounts) covers) empty)

module _ (system fenced : TaskSystem) (is : IsFenced system fenced) (amounts : List ℕ) (handed : AreHandedOn system amounts) where
  pub longer : List ℕ
  longer = amounts ++ zeros is.fences

  pub longer_amounts : AreHandedOn fenced longer
  unfolding longer
  longer_amounts = record {
    long = behind_long system.items is.fences amounts handed.long ∙ sym (ap (length {A = Item}) is.items);
    covers = subst (λ (l : List Item). All (λ p. p.0.size ≤ p.1) (zip l (amounts ++ zeros is.fences))) (sym is.items) (behind_covers system.items is.fences amounts handed.long handed.covers is.empty);
  }

  carrying_fenced : IsFenced (carrying system amounts) (carrying fenced longer)
  unfolding longer
  carrying_fenced = record {
    fences = map with_size (zip is.fences (zeros is.fences));
    tasks = is.tasks;
    items = ap (λ (l : List Item). map with_size (zip l (amounts ++ zeros is.fences))) is.items ∙ behind system.items is.fences amounts handed.long;
    empty = none_carried is.fences;
  }

  drawn_same : (v : ℕ) → drawn_by fenced longer v ≡ drawn_by system amounts v
  drawn_same v =
      omega (
        arith,
        size_where_same system fenced is (is_input v),
        need_same system fenced is v,
        size_where_same (carrying system amounts) (carrying fenced longer) carrying_fenced (is_input v),
        size_where_same (carrying system amounts) (carrying fenced longer) carrying_fenced (is_output v),
      )

  pub longer_bound : certified_bound fenced longer ≡ certified_bound system amounts
  longer_bound =
      let numbers : numbers_of fenced ≡ numbers_of system = ap (λ (ts : List Task). numbers_of (record { tasks = ts; items = fenced.items })) is.tasks in
      let all_drawn : drawn_by fenced longer ≡ drawn_by system amounts = fun_ext drawn_same in
      let a = ap (λ (n : ℕ → ℕ). sum_by n (numbers_of fenced)) all_drawn in
      let b = ap (sum_by (drawn_by system amounts)) numbers in
      omega (arith, a, b, state_same (carrying system amounts) (carrying fenced longer) carrying_fenced (λ _. false))
