-- The set of the startable tasks, when the marks of some places are written anew.
use Rattle.std.proofs.Common.{◌≡◌, ◌≢◌, ℕ, ◌+◌, ◌<◌, Bool, true, false, cond, List, length, take, get_or}
use Rattle.std.proofs.Common.{set, get_or-set_same, get_or-set_other, sym, ◌∙◌, ap, arith, ⊎_elim}
use Rattle.std.specs.Prelude.{count_by, ◌==◌}
use Rattle.std.proofs.lemmas.Bool.{cases_eq, cases_Bool, eq-eqb, ne_eqb}
use Rattle.std.proofs.lemmas.List.Sums.{sum_by_more}

-- the mark of one place, where places have ranks of their own
pub marked : {n : ℕ} (rank : ℕ → ℕ) → ((k : ℕ) → k < n → rank k < n) → ((j k : ℕ) → j < n → k < n → rank j ≡ rank k → j ≡ k)
    → (place : ℕ) → place < n → (old : List Bool) → length old ≡ n → (f : ℕ → Bool) (k : ℕ) → k < n →
    get_or (set old (rank place) (f place)) (rank k) false ≡ cond (place == k) (f k) (get_or old (rank k) false)
marked {n} rank within once place w old long f k v =
    ⊎_elim
    (λ (e : place ≡ k).
    rw (eq-eqb place k e)
    (ap (λ j. get_or (set old (rank place) (f place)) (rank j) false) (sym e)
    ∙ get_or-set_same old (rank place) (f place) false (omega (arith, within place w, long)) ∙ ap f e))
    (λ d.
    let apart : rank k ≢ rank place = λ z. d (sym (once k place v w z)) in
    rw (ne_eqb place k d) (get_or-set_other old (rank place) (rank k) (f place) false apart))
    (cases_eq place k)

-- those of the places in a row
pub record AreRefreshed (n : ℕ) (row : List ℕ) (rank : ℕ → ℕ) (old : List Bool) (f : ℕ → Bool) (ready : List Bool) : Type 0 where
  pub long : length ready ≡ length old
  pub consumers : (k : ℕ) → k < n → 0 < count_by (λ p. p == k) row → get_or ready (rank k) false ≡ f k
  pub others : (k : ℕ) → k < n → count_by (λ p. p == k) row ≡ 0 → get_or ready (rank k) false ≡ get_or old (rank k) false

pub refreshed_more : {n : ℕ} {rank : ℕ → ℕ} {old : List Bool} {f : ℕ → Bool} {ready : List Bool} (row : List ℕ) (i : ℕ)
    → AreRefreshed n (take i row) rank old f ready → i < length row →
    (new : List Bool) → length new ≡ length ready →
    ((k : ℕ) → k < n → get_or new (rank k) false ≡ cond (get_or row i 0 == k) (f k) (get_or ready (rank k) false)) →
    AreRefreshed n (take (i + 1) row) rank old f new
refreshed_more {n} {rank} {old} {f} {ready} row i r w new len marks =
    let mark : (k : ℕ) (b : Bool) → k < n → (get_or row i 0 == k) ≡ b
    → get_or new (rank k) false ≡ cond b (f k) (get_or ready (rank k) false) =
    λ k b v e. marks k v ∙ ap (λ (q : Bool). cond q (f k) (get_or ready (rank k) false)) e in
    let more : (k : ℕ) (b : Bool) → (get_or row i 0 == k) ≡ b
    → count_by (λ p. p == k) (take (i + 1) row) ≡ count_by (λ p. p == k) (take i row) + cond b 1 0 =
    λ k b e. sum_by_more (λ p. cond (p == k) 1 0) row i 0 w ∙ ap (λ (q : Bool). count_by (λ p. p == k) (take i row) + cond q 1 0) e in
    record {
      long = len ∙ r.long;
      consumers = λ k v some.
          ⊎_elim (λ y. mark k true v y) (λ z. mark k false v z ∙ r.consumers k v (omega (arith, more k false z, some)))
          (cases_Bool (get_or row i 0 == k));
      others = λ k v none.
          ⊎_elim (λ y. absurd (omega (arith, more k true y, none)))
          (λ z. mark k false v z ∙ r.others k v (omega (arith, more k false z, none))) (cases_Bool (get_or row i 0 == k));
    }
