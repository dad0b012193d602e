-- What one task less tells of an item, and of the memory.
use Rattle.std.proofs.Common.{◌≡◌, ◌≢◌, ℕ, ◌+◌, ◌≤◌, Bool, true, false, cond, not, ◌&&◌, ◌||◌, eqb, List, [], ◌∷◌, Option, Some, None, refl, sym, ap, ◌∙◌, arith, inl, inr}
use Rattle.std.specs.List.{list_any, list_all}
use Rattle.std.proofs.lemmas.Bool.{and_parts, and_left, eqb-true, cases_Bool}
use Rattle.mp_system.specs.System.{is_named}
use Rattle.mp_system.specs.Memory.{is_done_or}
use Rattle.shared_systems.specs.Shared.{SharedTaskSystem, SharedItem, is_made_by, is_read_by, shared_size_if, shared_size_where}
use Rattle.shared_systems.specs.SharedMemory.{is_made, are_done, is_held, shared_memory, has_inputs}
use Rattle.state_search.proofs.ListTests.{any_on, none_on, all_on, sums_le, sums_same}

-- one task less is done
abbrev pub Loses : (ℕ → Bool) → ℕ → (ℕ → Bool) → Type 0
Loses done v less = (u : ℕ) → less u ≡ (done u && not (eqb u v))

and_true : (b : Bool) → b ≡ (b && true)
and_true true = refl
and_true false = refl

all_less : (a e p q : Bool) → ((a && not e) && (p && not q)) ≡ ((a && p) && not (e || q))
all_less true true true q = refl
all_less true true false q = refl
all_less true false p q = refl
all_less false e p q = refl

and_of : (a b : Bool) → (a && b) ≡ true → a ≡ true
and_of true b e = refl
and_of false b e = absurd cc

module _ (done less : ℕ → Bool) (v : ℕ) (loses : Loses done v less) where
  pub made_less : (from : Option ℕ) → is_done_or true less from ≡ (is_done_or true done from && not (is_named from v))
  made_less None = refl
  made_less (Some u) = loses u

  all_done_less : (cs : List ℕ) → list_all less cs ≡ (list_all done cs && not (list_any (λ c. eqb c v) cs))
  all_done_less [] = refl
  all_done_less (c ∷ cs) = rw (loses c, all_done_less cs) (all_less (done c) (eqb c v) (list_all done cs) (list_any (λ d. eqb d v) cs))

  pub readers_less : (cs : List ℕ) → are_done less cs ≡ (are_done done cs && not (list_any (λ c. eqb c v) cs))
  readers_less [] = refl
  readers_less (c ∷ cs) = all_done_less (c ∷ cs)

  pub less_done : (u : ℕ) → less u ≡ true → done u ≡ true
  less_done u e = and_of (done u) (not (eqb u v)) (sym (loses u) ∙ e)

  -- what is made is made when one more is done; and when one less is, unless that one makes it
  pub made_more : (x : SharedItem) → is_made less x ≡ true → is_made done x ≡ true
  made_more x e = and_of (is_made done x) (not (is_made_by v x)) (sym (made_less x.from) ∙ e)

  pub made_still : (x : SharedItem) → is_made_by v x ≡ false → is_made done x ≡ true → is_made less x ≡ true
  made_still x other e = made_less x.from ∙ rw (other, e) refl

  pub inputs_more : (system : SharedTaskSystem) (w : ℕ) → has_inputs system less w ≡ true → has_inputs system done w ≡ true
  inputs_more system w e =
      all_on (λ x. false) (λ x. not (is_read_by w x) || is_made less x) (λ x. not (is_read_by w x) || is_made done x)
      (λ x f h. on (not (is_read_by w x)) x h) system.items (none system.items) e
    where
      on : (b : Bool) (x : SharedItem) → (b || is_made less x) ≡ true → (b || is_made done x) ≡ true
      on true x h = refl
      on false x h = made_more x h

      none : (xs : List SharedItem) → list_any (λ x. false) xs ≡ false
      none [] = refl
      none (x ∷ xs) = none xs

  -- task w has its inputs still, where task v makes none of them
  pub inputs_still : (system : SharedTaskSystem) (w : ℕ) → list_any (λ x. is_made_by v x && is_read_by w x) system.items ≡ false
      → has_inputs system done w ≡ true → has_inputs system less w ≡ true
  inputs_still system w none e =
      all_on (λ x. is_made_by v x && is_read_by w x) (λ x. not (is_read_by w x) || is_made done x) (λ x. not (is_read_by w x) || is_made less x)
      (λ x other h. on (is_read_by w x) x other h) system.items none e
    where
      on : (b : Bool) (x : SharedItem) → (is_made_by v x && b) ≡ false → (not b || is_made done x) ≡ true → (not b || is_made less x) ≡ true
      on false x other h = refl
      on true x other h = made_still x (and_true (is_made_by v x) ∙ other) h

-- where no task that is done reads what task v makes, task w that is done reads none of it
pub reads_none : (done : ℕ → Bool) (v w : ℕ) (items : List SharedItem) → list_any (λ x. is_made_by v x && list_any done x.readers) items ≡ false
    → done w ≡ true → list_any (λ x. is_made_by v x && is_read_by w x) items ≡ false
reads_none done v w items none here =
    none_on (λ x. is_made_by v x && is_read_by w x) (λ x. is_made_by v x && list_any done x.readers)
    (λ x e. taken (is_made_by v x) x e) items none
  where
    taken : (b : Bool) (x : SharedItem) → (b && is_read_by w x) ≡ true → (b && list_any done x.readers) ≡ true
    taken true x e = any_on (λ c. eqb c w) done (λ c same. ap done (eqb-true c w same) ∙ here) x.readers e
    taken false x e = absurd cc

pub free_less : (done less : ℕ → Bool) (v w : ℕ) → Loses done v less → (items : List SharedItem)
    → list_any (λ x. is_made_by w x && list_any done x.readers) items ≡ false
    → list_any (λ x. is_made_by w x && list_any less x.readers) items ≡ false
free_less done less v w loses items none =
    none_on (λ x. is_made_by w x && list_any less x.readers) (λ x. is_made_by w x && list_any done x.readers)
    (λ x e. taken (is_made_by w x) x e) items none
  where
    taken : (b : Bool) (x : SharedItem) → (b && list_any less x.readers) ≡ true → (b && list_any done x.readers) ≡ true
    taken true x e = any_on less done (less_done done less v loses) x.readers e
    taken false x e = absurd cc

-- ---- the memory is submodular: two tasks less, and none, hold no more than either one less

submodular : (m r a b c d : Bool) (s : ℕ) → (a && b) ≡ false
    → cond (m && not r) s 0 + cond (((m && not a) && not b) && not ((r && not c) && not d)) s 0
    ≤ cond ((m && not a) && not (r && not c)) s 0 + cond ((m && not b) && not (r && not d)) s 0
submodular false r a b c d s apart = omega arith
submodular true r true true c d s apart = absurd cc
submodular true false true false c d s apart = omega arith
submodular true true true false c d s apart = omega arith
submodular true false false true c d s apart = omega arith
submodular true true false true c d s apart = omega arith
submodular true false false false c d s apart = omega arith
submodular true true false false true true s apart = omega arith
submodular true true false false true false s apart = omega arith
submodular true true false false false true s apart = omega arith
submodular true true false false false false s apart = omega arith

made_apart : (from : Option ℕ) (x v : ℕ) → x ≢ v → (is_named from x && is_named from v) ≡ false
made_apart None x v other = refl
made_apart (Some u) x v other = elim (cases_Bool (eqb u x && eqb u v)) [
  | inl both ↦ absurd (let parts = and_parts (eqb u x) (eqb u v) both in other (sym (eqb-true u x parts.0) ∙ eqb-true u v parts.1))
  | inr not_both ↦ not_both
]

module _ (done one other both : ℕ → Bool) (x v : ℕ) (loses_one : Loses done x one) (loses_other : Loses done v other)
    (loses_both : Loses one v both) (apart : x ≢ v) where
  item_held : (i : SharedItem) → shared_size_if (is_held done) i + shared_size_if (is_held both) i
      ≤ shared_size_if (is_held one) i + shared_size_if (is_held other) i
  item_held i =
      rw (
        made_less one both v loses_both i.from,
        readers_less one both v loses_both i.readers,
        made_less done one x loses_one i.from,
        readers_less done one x loses_one i.readers,
        made_less done other v loses_other i.from,
        readers_less done other v loses_other i.readers,
      )
      (submodular (is_made done i) (are_done done i.readers) (is_made_by x i) (is_made_by v i) (is_read_by x i) (is_read_by v i) i.size
      (made_apart i.from x v apart))

  pub memory_submodular : (system : SharedTaskSystem)
      → shared_memory system done + shared_memory system both ≤ shared_memory system one + shared_memory system other
  memory_submodular system =
      sums_le (shared_size_if (is_held done)) (shared_size_if (is_held both)) (shared_size_if (is_held one)) (shared_size_if (is_held other))
      item_held system.items

-- ---- the memory before a task that can be the last

held_back : (m r b d : Bool) (s : ℕ) → (b ≡ true → m ≡ true) → (b ≡ true → r ≡ false)
    → cond ((m && not b) && not (r && not d)) s 0 + cond b s 0 ≡ cond (m && not r) s 0 + cond ((m && r) && d) s 0
held_back true true true d s made gone = absurd (let f : true ≡ false = gone refl in cc)
held_back true false true d s made gone = omega arith
held_back false r true d s made gone = absurd (let f : false ≡ true = made refl in cc)
held_back false r false d s made gone = omega arith
held_back true false false d s made gone = omega arith
held_back true true false true s made gone = omega arith
held_back true true false false s made gone = omega arith

made_here : (done : ℕ → Bool) (v : ℕ) → done v ≡ true → (from : Option ℕ) → is_named from v ≡ true → is_done_or true done from ≡ true
made_here done v here None e = absurd cc
made_here done v here (Some u) e = ap done (eqb-true u v e) ∙ here

not_gone : (done : ℕ → Bool) (cs : List ℕ) → list_any done cs ≡ false → are_done done cs ≡ false
not_gone done [] none = refl
not_gone done (c ∷ cs) none = and_left (done c) (list_all done cs) (or_first (done c) (list_any done cs) none)
  where
    or_first : (a b : Bool) → (a || b) ≡ false → a ≡ false
    or_first false b e = refl
    or_first true b e = absurd cc

module _ (done less : ℕ → Bool) (v : ℕ) (loses : Loses done v less) (here : done v ≡ true) where
  item_back : (i : SharedItem) → (is_made_by v i && list_any done i.readers) ≡ false
      → shared_size_if (is_held less) i + shared_size_if (is_made_by v) i
      ≡ shared_size_if (is_held done) i + shared_size_if (λ x. (is_made done x && are_done done x.readers) && is_read_by v x) i
  item_back i free =
      rw (made_less done less v loses i.from, readers_less done less v loses i.readers)
      (held_back (is_made done i) (are_done done i.readers) (is_made_by v i) (is_read_by v i) i.size
      (made_here done v here i.from) (λ e. not_gone done i.readers (second (is_made_by v i) (list_any done i.readers) e free)))
    where
      second : (a b : Bool) → a ≡ true → (a && b) ≡ false → b ≡ false
      second true b e f = f
      second false b e f = absurd cc

  -- without task v there is what it makes less, and what it read and is gone more
  pub memory_back : (system : SharedTaskSystem) → list_any (λ x. is_made_by v x && list_any done x.readers) system.items ≡ false
      → shared_memory system less + shared_size_where (is_made_by v) system.items
      ≡ shared_memory system done + shared_size_where (λ x. (is_made done x && are_done done x.readers) && is_read_by v x) system.items
  memory_back system free =
      sums_same (λ x. is_made_by v x && list_any done x.readers) (shared_size_if (is_held less)) (shared_size_if (is_made_by v))
      (shared_size_if (is_held done)) (shared_size_if (λ x. (is_made done x && are_done done x.readers) && is_read_by v x))
      item_back system.items free
