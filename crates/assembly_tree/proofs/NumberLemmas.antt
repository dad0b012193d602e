-- The table of new numbers, one place more at a time.
use Rattle.std.proofs.Common.{◌≡◌, ◌≢◌, ℕ, ◌+◌, ◌-◌, ◌<◌, ◌≤◌, List, [], ◌∷◌, ◌++◌, length, get_or, set, map, sym, ap, ◌∙◌, inl, inr, arith}
use Rattle.std.specs.List.{range_with_len}
use Rattle.std.proofs.lemmas.List.{get_or-set_same, get_or-set_other}
use Rattle.std.proofs.lemmas.List.FromFn.{get_or-map-range_with_len, map-range_with_len_more}
use Rattle.std.proofs.lemmas.List.Sums.{count_by_more_yes, count_by_more_no}
use Rattle.std.proofs.lemmas.Bool.{cases_lt, cases_eq}
use Rattle.assembly_tree.specs.declared.assembly.Super.{Super}
use Rattle.assembly_tree.specs.Assembly.{IsSuper, no_super, super_at}
use Rattle.assembly_tree.specs.Amalgamation.{is_left, new_number}
use Rattle.assembly_tree.specs.MergeTables.{AreNames, AreNumbersSoFar}
use Rattle.assembly_tree.proofs.LeftLemmas.{left-some, left-none}

pub count_yes : (supers : List Super) (i left : ℕ) → i < length supers
    → (get_or supers i no_super).columns ≢ 0 → left ≡ new_number supers i → left + 1 ≡ new_number supers (i + 1)
count_yes supers i left lt some is =
    omega (arith, is, count_by_more_yes is_left supers i no_super lt (left-some (get_or supers i no_super) (omega (arith, some))))

pub count_no : (supers : List Super) (i left : ℕ) → i < length supers
    → (get_or supers i no_super).columns ≡ 0 → left ≡ new_number supers i → left ≡ new_number supers (i + 1)
count_no supers i left lt none is =
    omega (arith, is, count_by_more_no is_left supers i no_super lt (left-none (get_or supers i no_super) none))

pub count_more : (supers : List Super) (numbers more : List ℕ) (i left : ℕ) → more ≡ numbers ++ left ∷ []
    → left ≡ new_number supers (i + 1) → numbers ≡ map (new_number supers) (range_with_len 0 (i + 1))
    → more ≡ map (new_number supers) (range_with_len 0 (i + 1 + 1))
count_more supers numbers more i left is count before =
    is ∙ ap (λ (v : ℕ). numbers ++ v ∷ []) count ∙ ap (λ (xs : List ℕ). xs ++ new_number supers (i + 1) ∷ []) before
    ∙ sym (map-range_with_len_more (new_number supers) 0 (i + 1) (i + 1) (omega arith))

pub counted : (supers : List Super) (numbers : List ℕ) (name : ℕ → ℕ)
    → numbers ≡ map (new_number supers) (range_with_len 0 (length supers + 1)) → AreNumbersSoFar supers numbers name (length supers)
counted supers numbers name is = record {
  earlier = λ s le. ap (λ (xs : List ℕ). get_or xs s 0) is
      ∙ get_or-map-range_with_len (new_number supers) 0 (length supers + 1) s s 0 (omega (arith, le)) (omega arith);
  later = λ s low high. absurd (omega (arith, low, high));
}

module _ (supers : List Super) (numbers : List ℕ) (name : ℕ → ℕ) (names : AreNames supers name)
    (s : ℕ) (is : IsSuper supers s) (are : AreNumbersSoFar supers numbers name s) where
  pub follow_left : (super_at supers s).columns ≢ 0 → AreNumbersSoFar supers numbers name (s - 1)
  follow_left some = record {
    earlier = λ t le. are.earlier t (omega (arith, le));
    later = λ t low high. elim (cases_lt s t) [
      | inl lt ↦ are.later t lt high
      | inr le ↦ (
          let same : t ≡ s = omega (arith, le, low) in
          are.earlier t le ∙ ap (new_number supers) (same ∙ sym (ap name same ∙ names.left s is (omega (arith, some))))
          )
    ];
  }

  pub follow_gone : length numbers ≡ length supers + 1 → (super_at supers s).columns ≡ 0
      → AreNumbersSoFar supers (set numbers s (get_or numbers (super_at supers s).parent 0)) name (s - 1)
  follow_gone len none =
      let v = get_or numbers (super_at supers s).parent 0 in
      let gone = names.gone s is none in
      record {
        earlier = λ t le. get_or-set_other numbers s t v 0 (omega (arith, le, is.0)) ∙ are.earlier t (omega (arith, le));
        later = λ t low high. elim (cases_eq t s) [
          | inl same ↦ (
              ap (λ (k : ℕ). get_or (set numbers s v) k 0) same ∙ get_or-set_same numbers s v 0 (omega (arith, len, is.1))
              ∙ are.later (super_at supers s).parent gone.0 gone.1 ∙ ap (new_number supers) (sym (ap name same ∙ gone.2))
              )
          | inr other ↦ get_or-set_other numbers s t v 0 other ∙ are.later t (omega (arith, low, other)) high
        ];
      }

pub numbers_all : (supers : List Super) (numbers : List ℕ) (name : ℕ → ℕ) (done : ℕ) → done ≡ 0 → AreNames supers name
    → AreNumbersSoFar supers numbers name done → (s : ℕ) → s ≤ length supers → get_or numbers s 0 ≡ new_number supers (name s)
numbers_all supers numbers name done none names are s le =
    elim (cases_eq s 0) [
      | inl nil ↦ are.earlier s (omega (arith, nil)) ∙ ap (new_number supers) (nil ∙ sym (ap name nil ∙ names.none))
      | inr some ↦ are.later s (omega (arith, some, none)) le
    ]
