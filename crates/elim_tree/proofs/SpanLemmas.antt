-- The pass that places each column, from the last one on: what it has placed so far, and that one column more keeps this.
use Rattle.std.proofs.Common.{sym, ◌∙◌, ap, ◌+◌, ◌≡◌, ◌≢◌, inl, inr, ℕ, suc, ◌<◌, ◌≤◌, arith, refl}
use Rattle.std.proofs.lemmas.Bool.{cases_eq}
use Rattle.elim_tree.specs.Spans.{in_children, AreSpanSizes}
use Rattle.elim_tree.proofs.CountLemmas.{IsRising, children_yes, children_to}

-- after how many places the span of each column begins, and the place of the column, which ends it
pub record IsPlaced (n : ℕ) (parent below start place : ℕ → ℕ) : Type 0 where
  pub first : start 0 ≡ 0
  pub begins : (x : ℕ) → 0 < x → x < n → start x ≡ start (parent x) + in_children parent below (parent x) x
  pub ends : (x : ℕ) → 0 < x → x < n → place x ≡ start x + below x + 1
  pub unused : place 0 ≡ 0

-- the columns from j on were placed
pub record IsPlacedFrom (j n : ℕ) (parent below before start place : ℕ → ℕ) : Type 0 where
  pub first : start 0 ≡ 0
  pub left : (x : ℕ) → x < j → start x ≡ before x
  pub begins : (x : ℕ) → 0 < x → j ≤ x → x < n → start x ≡ start (parent x) + before x
  pub small : (x : ℕ) → 0 < x → j ≤ x → x < n → start x + below x + 1 < n
  pub ends : (x : ℕ) → 0 < x → j ≤ x → x < n → place x ≡ start x + below x + 1
  pub unused : place 0 ≡ 0

module _ (n : ℕ) (parent below before : ℕ → ℕ) (rising : IsRising n parent) (counted : AreSpanSizes n parent below before) where
  -- a column and those below it are counted below its parent
  within : (j : ℕ) → 0 < j → j < n → before j + below j + 1 ≤ below (parent j)
  within j pos lt =
      let here = counted.siblings j pos lt in
      let more = children_yes parent below (parent j) j pos refl in
      let rest = children_to parent below (parent j) (suc j) n lt in
      let all = counted.sizes (parent j) (elim (cases_eq (parent j) 0) [ inl e ↦ omega arith | inr ne ↦ (rising j (omega arith)).1 ]) in
      omega arith

  module _ (j k : ℕ) (start place : ℕ → ℕ) (next : k ≡ suc j) (pos : 0 < j)
      (lt : j < n) (placed : IsPlacedFrom k n parent below before start place) where
    pub placed_room : start (parent j) + start j + below j + 1 < n
    placed_room =
        let here = within j pos lt in
        let left = placed.left j (omega arith) in
        elim (cases_eq (parent j) 0) [
          | inl e ↦
              let none : start (parent j) ≡ 0 = ap start e ∙ placed.first in
              let all : below (parent j) ≡ below 0 = ap below e in
              let whole = counted.all in
              omega arith
          | inr ne ↦
              let up = rising j (omega arith) in
              let above = placed.small (parent j) (omega arith) (omega arith) up.1 in
              omega arith
        ]

    pub placed_more : (start' place' : ℕ → ℕ) → start' j ≡ start (parent j) + start j → ((x : ℕ) → x ≢ j → start' x ≡ start x)
        → place' j ≡ start' j + below j + 1 → ((x : ℕ) → x ≢ j → place' x ≡ place x) → IsPlacedFrom j n parent below before start' place'
    placed_more start' place' here same ends same_place = record {
      first = same 0 (λ e. absurd (omega arith)) ∙ placed.first;
      left = λ x xj. same x (λ e. absurd (omega arith)) ∙ placed.left x (omega arith);
      begins = λ x xp jx xn. elim (cases_eq x j) [
        | inl e ↦ rw e
            (here ∙ ap (λ v. v + start j) (sym (above j pos (omega arith)))
            ∙ ap (λ v. start' (parent j) + v) (placed.left j (omega arith)))
        | inr ne ↦ same x ne ∙ placed.begins x xp (omega arith) xn ∙ ap (λ v. v + before x) (sym (above x xp jx))
      ];
      small = λ x xp jx xn. elim (cases_eq x j) [
        | inl e ↦ (let room = placed_room in rw e (omega arith))
        | inr ne ↦ (let s = same x ne in let old = placed.small x xp (omega arith) xn in omega arith)
      ];
      ends = λ x xp jx xn. elim (cases_eq x j) [
        | inl e ↦ rw e ends
        | inr ne ↦ (let s = same x ne in let q = same_place x ne in let old = placed.ends x xp (omega arith) xn in omega arith)
      ];
      unused = same_place 0 (λ e. absurd (omega arith)) ∙ placed.unused;
    }
      where
        -- parents were placed before, or are none
        above : (x : ℕ) → 0 < x → j ≤ x → start' (parent x) ≡ start (parent x)
        above x xp jx =
            same (parent x) (λ e. elim (cases_eq (parent x) 0) [
              | inl z ↦ absurd (omega arith)
              | inr nz ↦ let up = rising x (omega arith) in absurd (omega arith)
            ])

  pub placed_all : (j : ℕ) (start place : ℕ → ℕ) → j ≤ 1
      → IsPlacedFrom j n parent below before start place → IsPlaced n parent below start place
  placed_all j start place done placed = record {
    first = placed.first;
    begins = λ x pos lt. placed.begins x pos (omega arith) lt ∙ ap (λ v. start (parent x) + v) (counted.siblings x pos lt);
    ends = λ x pos lt. placed.ends x pos (omega arith) lt;
    unused = placed.unused;
  }
