-- The numbers of joins, one task more.
use Rattle.std.proofs.Common.{◌≡◌, ◌≢◌, ℕ, ◌+◌, ◌-◌, ◌<◌, ◌≤◌, Bool, true, false, List, [], ◌∷◌, ◌++◌, length, get_or, take}
use Rattle.std.proofs.Common.{length-append, refl, sym, ap, ◌∙◌, arith, inl, inr}
use Rattle.std.specs.Prelude.{◌↔◌}
use Rattle.std.proofs.lemmas.List.{get_or-append_right, get_or_append_left, take-append-le, take_all}
use Rattle.std.proofs.lemmas.Bool.{cases_lt}
use Rattle.joined_systems.specs.Joins.{join_count}
use Rattle.joined_systems.proofs.JoinNumbers.{count-push, join-le}

pub record Numbered (leaders : List ℕ) (needs : List Bool) (joins : List ℕ) (n : ℕ) : Type 0 where
  pub len : length joins ≡ n
  pub needed : (i : ℕ) → i < n → ((get_or joins i 0 ≢ 0) ↔ (get_or needs i false ≡ true))
  pub same : (i j : ℕ) → i < n → j < n → get_or joins i 0 ≢ 0 → get_or joins j 0 ≢ 0
      → ((get_or joins i 0 ≡ get_or joins j 0) ↔ (get_or leaders i 0 ≡ get_or leaders j 0))
  pub counted : (i : ℕ) → i < n → get_or joins i 0 ≤ join_count (take i joins) + 1

module _ (leaders : List ℕ) (needs : List Bool) (joins : List ℕ) (n x : ℕ) (are : Numbered leaders needs joins n)
    (need : (x ≢ 0) ↔ (get_or needs n false ≡ true)) (low : x ≤ join_count joins + 1)
    (alike : (i : ℕ) → i < n → get_or joins i 0 ≢ 0 → x ≢ 0 → ((get_or joins i 0 ≡ x) ↔ (get_or leaders i 0 ≡ get_or leaders n 0))) where
  old_at : (i : ℕ) → i < n → get_or (joins ++ x ∷ []) i 0 ≡ get_or joins i 0
  old_at i lt = get_or_append_left joins (x ∷ []) 0 i (omega (arith, lt, are.len))

  new_at : (i : ℕ) → i ≡ n → get_or (joins ++ x ∷ []) i 0 ≡ x
  new_at i is =
      let zero_is : i - n ≡ 0 = omega (arith, is) in
      get_or-append_right joins (x ∷ []) n i 0 are.len (omega (arith, is)) ∙ ap (λ (k : ℕ). get_or (x ∷ []) k 0) zero_is

  front : (i : ℕ) → i ≤ n → take i (joins ++ x ∷ []) ≡ take i joins
  front i le = take-append-le i joins (x ∷ []) (omega (arith, le, are.len))

  last_is : (i : ℕ) → i < n + 1 → n ≤ i → i ≡ n
  last_is i lt le = omega arith

  pub numbered_more : Numbered leaders needs (joins ++ x ∷ []) (n + 1)
  numbered_more = record {
    len = omega (arith, length-append joins (x ∷ []), are.len);
    needed = λ i lt. elim (cases_lt i n) [
      | inl old ↦ (
        λ e. (are.needed i old).0 (λ z. e (old_at i old ∙ z)),
        λ e z. (are.needed i old).1 e (sym (old_at i old) ∙ z),
      )
      | inr new ↦ (
          let is = last_is i lt new in (
            λ e. ap (λ (k : ℕ). get_or needs k false) is ∙ need.0 (λ z. e (new_at i is ∙ z)),
            λ e z. need.1 (sym (ap (λ (k : ℕ). get_or needs k false) is) ∙ e) (sym (new_at i is) ∙ z),
          )
          )
    ];
    same = λ i j lt_i lt_j some_i some_j. elim (cases_lt i n) [
      | inl one ↦ elim (cases_lt j n) [
        | inl two ↦ (
            let law = are.same i j one two (λ z. some_i (old_at i one ∙ z)) (λ z. some_j (old_at j two ∙ z)) in
            (λ e. law.0 (sym (old_at i one) ∙ e ∙ old_at j two), λ e. old_at i one ∙ law.1 e ∙ sym (old_at j two))
            )
        | inr two ↦ (
            let is = last_is j lt_j two in
            let law = alike i one (λ z. some_i (old_at i one ∙ z)) (λ z. some_j (new_at j is ∙ z)) in
            let lead = ap (λ (k : ℕ). get_or leaders k 0) is in
            (λ e. law.0 (sym (old_at i one) ∙ e ∙ new_at j is) ∙ sym lead, λ e. old_at i one ∙ law.1 (e ∙ lead) ∙ sym (new_at j is))
            )
      ]
      | inr one ↦ elim (cases_lt j n) [
        | inl two ↦ (
            let is = last_is i lt_i one in
            let law = alike j two (λ z. some_j (old_at j two ∙ z)) (λ z. some_i (new_at i is ∙ z)) in
            let lead = ap (λ (k : ℕ). get_or leaders k 0) is in (
              λ e. lead ∙ sym (law.0 (sym (old_at j two) ∙ sym e ∙ new_at i is)),
              λ e. new_at i is ∙ sym (law.1 (sym e ∙ lead)) ∙ sym (old_at j two),
            )
            )
        | inr two ↦ (
            let is_i = last_is i lt_i one in
            let is_j = last_is j lt_j two in
            let both : i ≡ j = is_i ∙ sym is_j in
            (λ e. ap (λ (k : ℕ). get_or leaders k 0) both, λ e. ap (λ (k : ℕ). get_or (joins ++ x ∷ []) k 0) both)
            )
      ]
    ];
    counted = λ i lt. elim (cases_lt i n) [
      | inl old ↦ omega (arith, old_at i old, ap join_count (front i (omega arith)), are.counted i old)
      | inr new ↦ (
          let is = last_is i lt new in
          let all : take i joins ≡ joins = take_all i joins (omega (arith, is, are.len)) in
          omega (arith, new_at i is, ap join_count (front i (omega (arith, is))), ap join_count all, low)
          )
    ];
  }

-- no join, the next one, or that of an earlier task
module _ (leaders : List ℕ) (needs : List Bool) (joins : List ℕ) (n : ℕ) (are : Numbered leaders needs joins n) where
  pub number_none : get_or needs n false ≡ false → Numbered leaders needs (joins ++ 0 ∷ []) (n + 1)
  number_none none = numbered_more leaders needs joins n 0 are
      (λ e. absurd (e refl), λ e. absurd (let h = none in cc))
      (omega arith) (λ i lt one two. absurd (two refl))

  pub number_next : get_or needs n false ≡ true → ((i : ℕ) → i < n → get_or leaders i 0 ≢ get_or leaders n 0)
      → Numbered leaders needs (joins ++ (join_count joins + 1) ∷ []) (n + 1)
  number_next need first = numbered_more leaders needs joins n (join_count joins + 1) are
      (λ e. need, λ e z. omega (arith, z))
      (omega arith)
      (λ i lt one two. (λ e. absurd (omega (arith, e, join-le joins i)), λ e. absurd (first i lt e)))

  pub number_again : (k : ℕ) → k < n → get_or needs n false ≡ true → get_or needs k false ≡ true
      → get_or leaders k 0 ≡ get_or leaders n 0 → Numbered leaders needs (joins ++ get_or joins k 0 ∷ []) (n + 1)
  number_again k lt_k need there same = numbered_more leaders needs joins n (get_or joins k 0) are
      (λ e. need, λ e. (are.needed k lt_k).1 there)
      (omega (arith, join-le joins k))
      (λ i lt one two. (
        λ e. (are.same i k lt lt_k one two).0 e ∙ same,
        λ e. (are.same i k lt lt_k one two).1 (e ∙ sym same),
      ))

pub count_next : (joins : List ℕ) → join_count (joins ++ (join_count joins + 1) ∷ []) ≡ join_count joins + 1
count_next joins = omega (arith, count-push joins (join_count joins + 1))

pub count_kept : (joins : List ℕ) (k : ℕ) → join_count (joins ++ get_or joins k 0 ∷ []) ≡ join_count joins
count_kept joins k = omega (arith, count-push joins (get_or joins k 0), join-le joins k)

pub count_zero : (joins : List ℕ) → join_count (joins ++ 0 ∷ []) ≡ join_count joins
count_zero joins = omega (arith, count-push joins 0)
