-- Names and numbers of tasks: ways that tell names are ways that tell numbers, with the names of these.
use Rattle.std.proofs.Common.{◌≡◌, ◌==◌, ℕ, zero, suc, ◌+◌, ◌-◌, ◌<◌, ◌≤◌, inl, inr, max, refl, sym, subst}
use Rattle.std.proofs.Common.{ap, arith, ◌∙◌, false, List, [], ◌∷◌, ◌++◌, length, length-append, map}
use Rattle.std.specs.Prelude.{slice_index_or}
use Rattle.std.proofs.lemmas.List.{map-append, get_or_append_left, get_or-append-add}
use Rattle.mp_system.specs.Renaming.{name_in}
use Rattle.mp_system.specs.declared.system.Task.{Task}
use Rattle.sp_terms.specs.SystemOfTerm.{task_count, task_count_of_parts, own_number}
use Rattle.sp_terms.specs.Term.{Term, hold, series, par, Parts, no_parts, part, Direction, forward, backward}
use Rattle.sp_term_laws.specs.Moves.{State, States, memory_of}
use Rattle.sp_term_laws.specs.Ways.{Run as NumberedRun, Runs as NumberedRuns, Way, still, onward}
use Rattle.cut_laws.specs.Names.{Names, NamesOfParts, names_of, names_of_parts}
use Rattle.cut_laws.proofs.NamedWays.{NamedRun, NamedRuns, NamedWay}
use Rattle.cut_laws.proofs.NamedWays as named

-- the names that a function gives to the numbers from `base` on
abbrev mutual
  pub shape : (ℕ → ℕ) → ℕ → (t : Term) → Names t
  shape f base (hold size) = tt
  shape f base (series a w b) = (shape f base a, f (own_number base a b), shape f (base + task_count a) b)
  shape f base (par ts) = shapes f base ts

  pub shapes : (ℕ → ℕ) → ℕ → (ts : Parts) → NamesOfParts ts
  shapes f base no_parts = tt
  shapes f base (part t ts) = (shape f base t, shapes f (base + task_count t) ts)

-- ---- runs

mutual
  numbered_run : (f : ℕ → ℕ) (d : Direction) (base : ℕ) (t : Term) (s : State t) (v r : ℕ) (s' : State t)
      → NamedRun d t (shape f base t) s v r s' → (k : ℕ) × NumberedRun d base t s k r s' × (f k ≡ v)
  numbered_run f d base (hold size) s v r s' h = absurd h
  numbered_run f d base (series a w b) (inl s) v r (inl s') h = numbered_run f d base a s v r s' h
  numbered_run f forward base (series a w b) (inl s) v r (inr s') h = (own_number base a b, (h.0, h.1, h.2, refl), sym h.3)
  numbered_run f backward base (series a w b) (inl s) v r (inr s') h = absurd h
  numbered_run f forward base (series a w b) (inr s) v r (inl s') h = absurd h
  numbered_run f backward base (series a w b) (inr s) v r (inl s') h = (own_number base a b, (h.0, h.1, h.2, refl), sym h.3)
  numbered_run f d base (series a w b) (inr s) v r (inr s') h = numbered_run f d (base + task_count a) b s v r s' h
  numbered_run f d base (par ts) s v r s' h = numbered_runs f d base ts s v r s' h

  numbered_runs : (f : ℕ → ℕ) (d : Direction) (base : ℕ) (ts : Parts) (s : States ts) (v r : ℕ) (s' : States ts)
      → NamedRuns d ts (shapes f base ts) s v r s' → (k : ℕ) × NumberedRuns d base ts s k r s' × (f k ≡ v)
  numbered_runs f d base no_parts s v r s' h = absurd h
  numbered_runs f d base (part t ts) (s, ss) v r (s', ss') (inl (e, (q, h, m))) =
      let (k, run, is) = numbered_run f d base t s v q s' h in (k, inl (e, (q, run, m)), is)
  numbered_runs f d base (part t ts) (s, ss) v r (s', ss') (inr (e, (q, h, m))) =
      let (k, run, is) = numbered_runs f d (base + task_count t) ts ss v q ss' h in (k, inr (e, (q, run, m)), is)

mutual
  named_run : (f : ℕ → ℕ) (d : Direction) (base : ℕ) (t : Term) (s : State t) (k r : ℕ) (s' : State t)
      → NumberedRun d base t s k r s' → NamedRun d t (shape f base t) s (f k) r s'
  named_run f d base (hold size) s k r s' h = absurd h
  named_run f d base (series a w b) (inl s) k r (inl s') h = named_run f d base a s k r s' h
  named_run f forward base (series a w b) (inl s) k r (inr s') h = (h.0, h.1, h.2, ap f h.3)
  named_run f backward base (series a w b) (inl s) k r (inr s') h = absurd h
  named_run f forward base (series a w b) (inr s) k r (inl s') h = absurd h
  named_run f backward base (series a w b) (inr s) k r (inl s') h = (h.0, h.1, h.2, ap f h.3)
  named_run f d base (series a w b) (inr s) k r (inr s') h = named_run f d (base + task_count a) b s k r s' h
  named_run f d base (par ts) s k r s' h = named_runs f d base ts s k r s' h

  named_runs : (f : ℕ → ℕ) (d : Direction) (base : ℕ) (ts : Parts) (s : States ts) (k r : ℕ) (s' : States ts)
      → NumberedRuns d base ts s k r s' → NamedRuns d ts (shapes f base ts) s (f k) r s'
  named_runs f d base no_parts s k r s' h = absurd h
  named_runs f d base (part t ts) (s, ss) k r (s', ss') (inl (e, (q, h, m))) = inl (e, (q, named_run f d base t s k q s' h, m))
  named_runs f d base (part t ts) (s, ss) k r (s', ss') (inr (e, (q, h, m))) =
      inr (e, (q, named_runs f d (base + task_count t) ts ss k q ss' h, m))

-- ---- ways

pub numbered_way : (f : ℕ → ℕ) (d : Direction) (base : ℕ) (t : Term) {s s' : State t} {xs : List ℕ} {h : ℕ}
    → NamedWay d t (shape f base t) s xs h s' → (ks : List ℕ) × Way d base t s ks h s' × (map f ks ≡ xs)
numbered_way f d base t (named.still s) = ([], still s, refl)
numbered_way f d base t (named.onward {s' = s'} {s'' = s''} {xs = xs} v r w step) =
    let (ks, way, is) = numbered_way f d base t w in
    let (k, run, own) = numbered_run f d base t s' v r s'' step in
    (ks ++ k ∷ [], onward k r way run, map-append f ks (k ∷ []) ∙ ap (λ l. l ++ f k ∷ []) is ∙ ap (λ n. xs ++ n ∷ []) own)

pub named_way : (f : ℕ → ℕ) (d : Direction) (base : ℕ) (t : Term) {s s' : State t} {ks : List ℕ} {h : ℕ}
    → Way d base t s ks h s' → NamedWay d t (shape f base t) s (map f ks) h s'
named_way f d base t (still s) = named.still s
named_way f d base t (onward {s = s} {s' = s'} {s'' = s''} {xs = ks} {h = h} k r w run) =
    subst (λ l. NamedWay d t (shape f base t) s l (max h (max r (memory_of t s''))) s'') (sym (map-append f ks (k ∷ [])))
    (named.onward (f k) r (named_way f d base t w) (named_run f d base t s' k r s'' run))

-- ---- the names as a list

mutual
  pub count_names : (t : Term) (n : Names t) → length (names_of t n) ≡ task_count t
  count_names (hold size) n = refl
  count_names (series a w b) (na, x, nb) = length-append (names_of a na) (names_of b nb ++ x ∷ [])
      ∙ omega (arith, length-append (names_of b nb) (x ∷ []), count_names a na, count_names b nb)
  count_names (par ts) ns = count_names_of_parts ts ns

  count_names_of_parts : (ts : Parts) (ns : NamesOfParts ts) → length (names_of_parts ts ns) ≡ task_count_of_parts ts
  count_names_of_parts no_parts ns = refl
  count_names_of_parts (part t ts) (n, ns) =
      length-append (names_of t n) (names_of_parts ts ns) ∙ omega (arith, count_names t n, count_names_of_parts ts ns)

-- the k-th name, where the first one is that of the number `base`
abbrev pub looked_up : List ℕ → ℕ → ℕ → ℕ
looked_up names base k = slice_index_or names (k - base) 0

-- f gives these names to the numbers from `base` on
abbrev pub Gives : (ℕ → ℕ) → List ℕ → ℕ → Type 0
Gives f names base = (k : ℕ) → base ≤ k → k < base + length names → f k ≡ looked_up names base k

at_left : (xs ys : List ℕ) (i : ℕ) → i < length xs → slice_index_or (xs ++ ys) i 0 ≡ slice_index_or xs i 0
at_left xs ys i h = get_or_append_left xs ys 0 i h

at_right : (xs ys : List ℕ) (i : ℕ) → slice_index_or (xs ++ ys) (length xs + i) 0 ≡ slice_index_or ys i 0
at_right xs ys i = get_or-append-add xs ys i 0

gives_left : (f : ℕ → ℕ) (xs ys : List ℕ) (base : ℕ) → Gives f (xs ++ ys) base → Gives f xs base
gives_left f xs ys base g k low high = g k low (omega (arith, length-append xs ys)) ∙ at_left xs ys (k - base) (omega arith)

gives_right : (f : ℕ → ℕ) (xs ys : List ℕ) (base count : ℕ) → length xs ≡ count → Gives f (xs ++ ys) base → Gives f ys (base + count)
gives_right f xs ys base count e g k low high =
    let i : k - base ≡ length xs + (k - (base + count)) = omega arith in
    g k (omega arith) (omega (arith, length-append xs ys)) ∙ ap (λ j. slice_index_or (xs ++ ys) j 0) i ∙ at_right xs ys (k - (base + count))

pair_same : (a : Term) (w : Task) (b : Term) (na ma : Names a) (x y : ℕ) (nb mb : Names b)
    → na ≡ ma → x ≡ y → nb ≡ mb → ◌≡◌ {A = Names (series a w b)} (na, x, nb) (ma, y, mb)
pair_same a w b na ma x y nb mb p q r = λ i. (p i, q i, r i)

mutual
  pub shaped : (f : ℕ → ℕ) (base : ℕ) (t : Term) (n : Names t) → Gives f (names_of t n) base → n ≡ shape f base t
  shaped f base (hold size) n g = refl
  shaped f base (series a w b) (na, x, nb) g =
      let ca = count_names a na in
      let cb = count_names b nb in
      let rest = gives_right f (names_of a na) (names_of b nb ++ x ∷ []) base (task_count a) ca g in
      let last = gives_right f (names_of b nb) (x ∷ []) (base + task_count a) (task_count b) cb rest in
      let own : base + task_count a + task_count b ≡ own_number base a b = omega arith in
      let zeroth : own_number base a b - (base + task_count a + task_count b) ≡ 0 = omega arith in
      let is : f (own_number base a b) ≡ x =
      last (own_number base a b) (omega arith) (omega arith) ∙ ap (λ j. slice_index_or (x ∷ []) j 0) zeroth in
      pair_same a w b na (shape f base a) x (f (own_number base a b)) nb (shape f (base + task_count a) b)
      (shaped f base a na (gives_left f (names_of a na) (names_of b nb ++ x ∷ []) base g)) (sym is)
      (shaped f (base + task_count a) b nb (gives_left f (names_of b nb) (x ∷ []) (base + task_count a) rest))
  shaped f base (par ts) ns g = shaped_parts f base ts ns g

  pub shaped_parts : (f : ℕ → ℕ) (base : ℕ) (ts : Parts) (ns : NamesOfParts ts)
      → Gives f (names_of_parts ts ns) base → ns ≡ shapes f base ts
  shaped_parts f base no_parts ns g = refl
  shaped_parts f base (part t ts) (n, ns) g =
      let p = shaped f base t n (gives_left f (names_of t n) (names_of_parts ts ns) base g) in
      let q = shaped_parts f (base + task_count t) ts ns
      (gives_right f (names_of t n) (names_of_parts ts ns) base (task_count t) (count_names t n) g) in
      λ i. (p i, q i)

name_given : (names : List ℕ) → Gives (name_in names) names 1
name_given names zero low high = absurd (omega arith)
name_given names (suc k) low high = let e : (suc k == 0) ≡ false = grind arith in rw e refl

-- names shaped like the term are those of its numbers, under the function that a list of names is
pub by_numbers : (t : Term) (n : Names t) → n ≡ shape (name_in (names_of t n)) 1 t
by_numbers t n = shaped (name_in (names_of t n)) 1 t n (name_given (names_of t n))

-- ---- a list of as many names as tasks, shaped like the term

split_at : (m k : ℕ) (xs : List ℕ) → length xs ≡ m + k → (ys zs : List ℕ) × (xs ≡ ys ++ zs) × (length ys ≡ m) × (length zs ≡ k)
split_at zero k xs h = ([], xs, refl, refl, omega arith)
split_at (suc m) k [] h = absurd (omega arith)
split_at (suc m) k (x ∷ xs) h =
    let (ys, zs, e, p, q) = split_at m k xs (omega arith) in
    (x ∷ ys, zs, ap (λ l. x ∷ l) e, ap suc p, q)

one_name : (xs : List ℕ) → length xs ≡ 1 → (x : ℕ) × (xs ≡ x ∷ [])
one_name [] h = absurd (omega arith)
one_name (x ∷ []) h = (x, refl)
one_name (x ∷ y ∷ xs) h = absurd (omega arith)

no_name : (xs : List ℕ) → length xs ≡ 0 → [] ≡ xs
no_name [] h = refl
no_name (x ∷ xs) h = absurd (omega arith)

mutual
  pub names_from : (t : Term) (xs : List ℕ) → length xs ≡ task_count t → (n : Names t) × (names_of t n ≡ xs)
  names_from (hold size) xs h = (tt, no_name xs h)
  names_from (series a w b) xs h =
      let (ya, rest, e, la, lr) = split_at (task_count a) (task_count b + 1) xs (omega arith) in
      let (yb, last, e', lb, ll) = split_at (task_count b) 1 rest lr in
      let (x, e'') = one_name last ll in
      let (na, ia) = names_from a ya la in
      let (nb, ib) = names_from b yb lb in (
        (na, x, nb),
        ap (λ l. l ++ (names_of b nb ++ x ∷ [])) ia ∙ ap (λ l. ya ++ (l ++ x ∷ [])) ib
            ∙ ap (λ l. ya ++ (yb ++ l)) (sym e'') ∙ ap (λ l. ya ++ l) (sym e') ∙ sym e,
      )
  names_from (par ts) xs h = names_from_parts ts xs h

  names_from_parts : (ts : Parts) (xs : List ℕ) → length xs ≡ task_count_of_parts ts → (n : NamesOfParts ts) × (names_of_parts ts n ≡ xs)
  names_from_parts no_parts xs h = (tt, no_name xs h)
  names_from_parts (part t ts) xs h =
      let (ys, zs, e, p, q) = split_at (task_count t) (task_count_of_parts ts) xs h in
      let (n, i) = names_from t ys p in
      let (ns, is) = names_from_parts ts zs q in
      ((n, ns), ap (λ l. l ++ names_of_parts ts ns) i ∙ ap (λ l. ys ++ l) is ∙ sym e)
