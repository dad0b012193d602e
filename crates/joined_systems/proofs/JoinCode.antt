-- What the code of the joined system needs of one item, one join, and the whole.
use Rattle.std.proofs.Common.{◌≡◌, ℕ, zero, suc, ◌+◌, ◌-◌, ◌<◌, ◌≤◌, Bool, true, false, cond, eqb, List, [], ◌∷◌, ◌++◌, length, get_or, take, set, map}
use Rattle.std.proofs.Common.{length-append, append_assoc, inl, inr, Option, Some, None, refl, sym, ap, ◌∙◌, arith}
use Rattle.std.specs.Prelude.{All, unwrap_or}
use Rattle.std.specs.List.{flat_map, sum_by, range_with_len}
use Rattle.std.specs.Option.{ForSome}
use Rattle.std.specs.Str.{bytes_eq}
use Rattle.std.proofs.lemmas.List.{take_more, append-nil, length-take, map-append, get_or-set_same, get_or-set_other}
use Rattle.std.proofs.lemmas.List.Sums.{sum_by-cons, sum_by-append, sum_by_more_le}
use Rattle.std.proofs.lemmas.Bool.{cases_eq, eq-eqb, ne_eqb}
use Rattle.lists.proofs.Lists.{range_last}
use Rattle.mp_system.specs.declared.system.Task.{Task}
use Rattle.mp_system.specs.Given.{end_given}
use Rattle.shared_systems.specs.Shared.{SharedItem, shared_item_at}
use Rattle.shared_systems.specs.Bounds.{reader_count, shared_size}
use Rattle.shared_systems.specs.Growing.{ItemsSoFar}
use Rattle.shared_systems.proofs.KeySums.{no_item}
use Rattle.joined_systems.specs.Joins.{join_count, join_of, tasks_of}
use Rattle.joined_systems.specs.Joined.{join_task, join_between, join_after, through, released, joined_item}
use Rattle.joined_systems.proofs.JoinNumbers.{join-le}

abbrev pub join_with : List ℕ → ℕ → Task
join_with shares k = record { extra = 0; share = get_or shares k 0; time = 1 }

pub after_is : (joins to : List ℕ) (b : Bool) → 2 ≤ length to → b ≡ bytes_eq to (tasks_of joins (join_of joins (get_or to 0 0)))
    → join_after joins to ≡ cond b (join_of joins (get_or to 0 0)) 0
after_is joins [] b some is = absurd (omega arith)
after_is joins (c ∷ []) b some is = absurd (omega arith)
after_is joins (c ∷ d ∷ cs) b some is = ap (λ (e : Bool). cond e (join_of joins c) 0) (sym is)

pub after-le : (joins to : List ℕ) → join_after joins to ≤ join_count joins
after-le joins [] = omega arith
after-le joins (c ∷ []) = omega arith
after-le joins (c ∷ d ∷ cs) = part (bytes_eq (c ∷ d ∷ cs) (tasks_of joins (join_of joins c)))
  where
    part : (b : Bool) → cond b (join_of joins c) 0 ≤ join_count joins
    part true = join-le joins (c - 1)
    part false = omega arith

pub between-le : (joins : List ℕ) (from : Option ℕ) (to : List ℕ) → join_between joins from to ≤ join_count joins
between-le joins None to = omega arith
between-le joins (Some u) [] = omega arith
between-le joins (Some u) (c ∷ cs) = join-le joins (u - 1)

-- ---- one item

pub given_back : (from : Option ℕ) → ForSome from (λ v. 1 ≤ v) → end_given (unwrap_or from 0) ≡ from
given_back None some = refl
given_back (Some zero) some = absurd (let low = some zero refl in omega (arith, low))
given_back (Some (suc u)) some = rw (ne_eqb (suc u) 0 (λ e. omega arith)) refl

given_join : (n k : ℕ) → 1 ≤ k → end_given (n + k) ≡ Some (n + k)
given_join n k some = named (n + k) (omega arith)
  where
    named : (v : ℕ) → 1 ≤ v → end_given v ≡ Some v
    named zero low = absurd (omega arith)
    named (suc v) low = rw (ne_eqb (suc v) 0 (λ e. omega arith)) refl

join_item : (n k : ℕ) (x : SharedItem) → 1 ≤ k → through n k x
    ≡ record { size = x.size; from = x.from; readers = [] ++ join_task n k } ∷ record { size = x.size; from = Some (n + k); readers = x.readers } ∷ []
join_item n zero x some = absurd (omega arith)
join_item n (suc k) x some = refl

-- ---- how many readers, and how large

task-le : (n k : ℕ) → length (join_task n k) ≤ 1
task-le n zero = omega arith
task-le n (suc k) = omega arith

through_uses : (n k : ℕ) (x : SharedItem) → sum_by reader_count (through n k x) ≤ reader_count x + 1
through_uses n zero x = omega (arith, sum_by-cons reader_count x [])
through_uses n (suc k) x =
    let first : SharedItem = record { size = x.size; from = x.from; readers = (n + suc k) ∷ [] } in
    let second : SharedItem = record { size = x.size; from = Some (n + suc k); readers = x.readers } in
    omega (arith, sum_by-cons reader_count first (second ∷ []), sum_by-cons reader_count second [])

through_sizes : (n k : ℕ) (x : SharedItem) → sum_by shared_size (through n k x) ≤ x.size + x.size
through_sizes n zero x = omega (arith, sum_by-cons shared_size x [])
through_sizes n (suc k) x =
    let first : SharedItem = record { size = x.size; from = x.from; readers = (n + suc k) ∷ [] } in
    let second : SharedItem = record { size = x.size; from = Some (n + suc k); readers = x.readers } in
    omega (arith, sum_by-cons shared_size first (second ∷ []), sum_by-cons shared_size second [])

pub joined_uses : (n : ℕ) (joins : List ℕ) (xs : List SharedItem)
    → sum_by reader_count (flat_map (joined_item n joins) xs) ≤ sum_by reader_count xs + (length xs + length xs)
joined_uses n joins [] = omega arith
joined_uses n joins (x ∷ xs) =
    omega (
      arith,
      sum_by-append reader_count (joined_item n joins x) (flat_map (joined_item n joins) xs),
      through_uses n (join_between joins x.from x.readers) (released n joins x),
      length-append x.readers (join_task n (join_after joins x.readers)),
      task-le n (join_after joins x.readers),
      joined_uses n joins xs,
      sum_by-cons reader_count x xs,
    )

pub joined_sizes : (n : ℕ) (joins : List ℕ) (xs : List SharedItem)
    → sum_by shared_size (flat_map (joined_item n joins) xs) ≤ sum_by shared_size xs + sum_by shared_size xs
joined_sizes n joins [] = omega arith
joined_sizes n joins (x ∷ xs) =
    omega (
      arith,
      sum_by-append shared_size (joined_item n joins x) (flat_map (joined_item n joins) xs),
      through_sizes n (join_between joins x.from x.readers) (released n joins x),
      joined_sizes n joins xs,
      sum_by-cons shared_size x xs,
    )

-- ---- one item more

pub uses_so_far : (n : ℕ) (joins : List ℕ) (xs : List SharedItem) (i : ℕ) → i < length xs
    → sum_by reader_count (flat_map (joined_item n joins) (take i xs)) + length (shared_item_at xs i).readers
    ≤ sum_by reader_count xs + (length xs + length xs)
uses_so_far n joins xs i lt =
    omega (arith, joined_uses n joins (take i xs), length-take i xs, sum_by_more_le reader_count xs i no_item lt)

pub copy_next : (xs : List SharedItem) (i size from : ℕ) (readers : List ℕ) (old new : ItemsSoFar) → i < length xs
    → All (λ x. ForSome x.from (λ v. 1 ≤ v)) xs → old ≡ record { items = take i xs; waiting = [] } → size ≡ (shared_item_at xs i).size
    → from ≡ unwrap_or (shared_item_at xs i).from 0 → readers ≡ (shared_item_at xs i).readers
    → new ≡ record {
      items = old.items ++ record { size = size; from = end_given from; readers = readers ++ join_task 0 0 } ∷ [];
      waiting = [];
    }
    → new ≡ record { items = take (i + 1) xs; waiting = [] }
copy_next xs i size from readers old new lt some old_is size_is from_is readers_are new_is =
    let from_here : end_given from ≡ (shared_item_at xs i).from = ap end_given from_is ∙ given_back (shared_item_at xs i).from (some i no_item lt) in
    let readers_here : readers ++ join_task 0 0 ≡ (shared_item_at xs i).readers = append-nil readers ∙ readers_are in
    let more = take_more xs i no_item lt in
    new_is
    ∙ ap (λ (l : List ℕ). so_far (old.items ++ record { size = size; from = end_given from; readers = l } ∷ [])) readers_here
    ∙ ap (λ (o : Option ℕ). so_far (old.items ++ record { size = size; from = o; readers = (shared_item_at xs i).readers } ∷ [])) from_here
    ∙ ap (λ (k : ℕ). so_far (old.items ++ record { size = k; from = (shared_item_at xs i).from; readers = (shared_item_at xs i).readers } ∷ []))
    size_is
    ∙ ap (λ (m : ItemsSoFar). so_far (m.items ++ shared_item_at xs i ∷ [])) old_is
    ∙ ap so_far (sym more)
  where
    so_far : List SharedItem → ItemsSoFar
    so_far items = record { items = items; waiting = [] }

-- ---- shares

pub added : (sums : List ℕ) (j size v : ℕ) → j < length sums
    → get_or (set sums j (get_or sums j 0 + size)) v 0 ≡ get_or sums v 0 + cond (eqb j v) size 0
added sums j size v lt = elim (cases_eq j v) [
  | inl same ↦ (
      let here = get_or-set_same sums j (get_or sums j 0 + size) 0 lt in
      let read = ap (λ (w : ℕ). get_or (set sums j (get_or sums j 0 + size)) w 0) (sym same) in
      let old = ap (λ (w : ℕ). get_or sums w 0) same in
      rw (eq-eqb j v same) (omega (arith, here, read, old))
      )
  | inr other ↦ rw (ne_eqb j v other) (omega (arith, get_or-set_other sums j v (get_or sums j 0 + size) 0 (λ e. other (sym e))))
]

pub tasks_more : (tasks : List Task) (shares : List ℕ) (k : ℕ) → 1 ≤ k
    → (tasks ++ map (join_with shares) (range_with_len 1 (k - 1))) ++ join_with shares k ∷ []
    ≡ tasks ++ map (join_with shares) (range_with_len 1 (k + 1 - 1))
tasks_more tasks shares k some =
    let here : 1 + (k - 1) ≡ k = omega arith in
    let next : suc (k - 1) ≡ k + 1 - 1 = omega arith in
    append_assoc tasks (map (join_with shares) (range_with_len 1 (k - 1))) (join_with shares k ∷ [])
    ∙ ap (λ (v : ℕ). tasks ++ (map (join_with shares) (range_with_len 1 (k - 1)) ++ join_with shares v ∷ [])) (sym here)
    ∙ ap (λ (l : List Task). tasks ++ l) (sym (map-append (join_with shares) (range_with_len 1 (k - 1)) ((1 + (k - 1)) ∷ [])))
    ∙ ap (λ (l : List ℕ). tasks ++ map (join_with shares) l) (sym (range_last 1 (k - 1)))
    ∙ ap (λ (m : ℕ). tasks ++ map (join_with shares) (range_with_len 1 m)) next
