-- The order so far, and one vertex more.
use Rattle.std.proofs.Common.{◌≡◌, ℕ, inl, inr, Bool, List, [], ◌∷◌, ◌++◌, length, take, sym, ◌∙◌, arith, subst, get_or, length-append}
use Rattle.std.proofs.lemmas.Bool.{cases_lt}
use Rattle.std.proofs.lemmas.List.{get_or_append_left, get_or_push, take-append-le, take_all}
use Rattle.std.proofs.lemmas.List.Elements.{All-nil}
use Rattle.elimination.specs.Elimination.{IsVertex, times, eliminated, degree_of, IsRemaining, IsAhead, GoByLeastDegree}
use Rattle.elimination.specs.Progress.{IsBegun}
use Rattle.elimination.proofs.VertexLists.{part-push}

least_push : (joined : ℕ → ℕ → Bool) (n : ℕ) (gone : List ℕ) (v : ℕ) → GoByLeastDegree joined n gone
    → ((u : ℕ) → IsVertex n u → times gone u ≡ 0 → IsAhead (degree_of (eliminated joined gone) n) v u)
    → GoByLeastDegree joined n (gone ++ v ∷ [])
least_push joined n gone v least first k u lt left =
    let len = length-append gone (v ∷ []) in
    let take_is : take k (gone ++ v ∷ []) ≡ take k gone = take-append-le k gone (v ∷ []) (omega arith) in
    let left' : IsRemaining n (take k gone) u = subst (λ z. IsRemaining n z u) take_is left in
    let goal : List ℕ → ℕ → Type 0 = λ xs w. IsAhead (degree_of (eliminated joined xs) n) w u in
    elim (cases_lt k (length gone)) [
      | inl before ↦ (
          let get_is : get_or (gone ++ v ∷ []) k 0 ≡ get_or gone k 0 = get_or_append_left gone (v ∷ []) 0 k before in
          subst (λ xs. goal xs (get_or (gone ++ v ∷ []) k 0)) (sym take_is)
          (subst (λ w. goal (take k gone) w) (sym get_is) (least k u before left'))
          )
      | inr last ↦ (
          let at : length gone ≡ k = omega arith in
          let all : take k gone ≡ gone = take_all k gone (omega arith) in
          let get_is : get_or (gone ++ v ∷ []) k 0 ≡ v = get_or_push gone v 0 k at in
          let ahead = first u left'.0 (subst (λ z. times z u ≡ 0) all left'.1) in
          subst (λ xs. goal xs (get_or (gone ++ v ∷ []) k 0)) (sym (take_is ∙ all)) (subst (λ w. goal gone w) (sym get_is) ahead)
          )
    ]

pub begun_none : (joined : ℕ → ℕ → Bool) (n : ℕ) → IsBegun joined n []
begun_none joined n = record { vertices = All-nil (IsVertex n); once = λ v. omega arith; least = λ k u lt left. absurd (omega arith) }

pub begun_push : (joined : ℕ → ℕ → Bool) (n : ℕ) (gone : List ℕ) (v : ℕ) → IsBegun joined n gone → IsVertex n v → times gone v ≡ 0
    → ((u : ℕ) → IsVertex n u → times gone u ≡ 0 → IsAhead (degree_of (eliminated joined gone) n) v u) → IsBegun joined n (gone ++ v ∷ [])
begun_push joined n gone v begun vertex fresh first =
    let part = part-push n gone v (record { vertices = begun.vertices; once = begun.once }) vertex fresh in
    record { vertices = part.vertices; once = part.once; least = least_push joined n gone v begun.least first }
