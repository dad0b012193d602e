-- In the completed graph an arc leads into each task and out of it; and tasks that can be ordered have ranks.
use Rattle.std.proofs.Common.{◌≡◌, ℕ, zero, suc, ◌+◌, ◌<◌, ◌≤◌, Bool, true, cond, ◌&&◌, eqb, eq-eqb, List, [], ◌∷◌, ◌++◌}
use Rattle.std.proofs.Common.{length, take, drop, get_or, map, filter, refl, sym, ap, subst, ◌∙◌, arith, inl, inr, ◌⊎◌}
use Rattle.std.specs.List.{count_by, range_with_len, All, position_or_len}
use Rattle.std.proofs.lemmas.List.{length-append, take-append-drop, drop_more, length-take-le, get_or-take}
use Rattle.std.proofs.Math.Seq.{get_or-append_seam}
use Rattle.std.proofs.lemmas.List.Elements.{All-append, All-map}
use Rattle.std.proofs.lemmas.List.Sums.{sum_by-cons, sum_by-append, fails_before_first, passes_at_first}
use Rattle.std.proofs.lemmas.List.Folds.{list_any-append}
use Rattle.std.proofs.lemmas.Bool.{cases_lt, cases_Bool, eqb-true, or_right}
use Rattle.mp_system.specs.Memory.{stands_in}
use Rattle.graphs.specs.declared.arc.Arc.{Arc}
use Rattle.graphs.specs.Graph.{TaskGraph, IsAmong, IsGraph, Rises, AreSupplied, CanBeOrdered, is_into, is_out_of}
use Rattle.graphs.specs.Graph.{arc_between, without_into, without_out, added_arcs, completed_arcs, completed}
use Rattle.graphs.proofs.Standing.{place, stands-left, count-task}

-- ---- an arc for each task

filter-count : (p q : ℕ → Bool) (xs : List ℕ) → count_by q (filter p xs) ≡ count_by (λ u. p u && q u) xs
filter-count p q [] = refl
filter-count p q (x ∷ xs) =
    let c = sum_by-cons (λ u. cond {A = ℕ} (p u && q u) 1 0) x xs in
    elim (cases_Bool (p x)) [
      | inl e ↦ (let d = sum_by-cons (λ u. cond {A = ℕ} (q u) 1 0) x (filter p xs) in
          let list : filter p (x ∷ xs) ≡ x ∷ filter p xs = rw e refl in
          let own : cond {A = ℕ} (p x && q x) 1 0 ≡ cond {A = ℕ} (q x) 1 0 = rw e refl in
          ap (count_by q) list ∙ omega (arith, c, d, own, filter-count p q xs))
      | inr e ↦ (let list : filter p (x ∷ xs) ≡ filter p xs = rw e refl in
          let own : cond {A = ℕ} (p x && q x) 1 0 ≡ 0 = rw e refl in
          ap (count_by q) list ∙ omega (arith, c, own, filter-count p q xs))
    ]

kept : (p : ℕ → Bool) (n v : ℕ) → IsAmong n v → p v ≡ true → 1 ≤ count_by (λ u. eqb u v) (filter p (range_with_len 1 n))
kept p n v among e =
    let both : (p v && eqb v v) ≡ true = rw (e, eq-eqb v v refl) refl in
    omega (arith, filter-count p (λ u. eqb u v) (range_with_len 1 n), count-task (λ u. p u && eqb u v) n v among both)

first-count : (v : ℕ) (us : List ℕ) → count_by (is_into v) (map (λ u. arc_between 0 u) us) ≡ count_by (λ u. eqb u v) us
first-count v [] = refl
first-count v (u ∷ us) = omega (
  arith,
  sum_by-cons (λ (a : Arc). cond {A = ℕ} (is_into v a) 1 0) (arc_between 0 u) (map (λ w. arc_between 0 w) us),
  sum_by-cons (λ w. cond {A = ℕ} (eqb w v) 1 0) u us,
  first-count v us,
)

last-count : (v : ℕ) (us : List ℕ) → count_by (is_out_of v) (map (λ u. arc_between u 0) us) ≡ count_by (λ u. eqb u v) us
last-count v [] = refl
last-count v (u ∷ us) = omega (
  arith,
  sum_by-cons (λ (a : Arc). cond {A = ℕ} (is_out_of v a) 1 0) (arc_between u 0) (map (λ w. arc_between w 0) us),
  sum_by-cons (λ w. cond {A = ℕ} (eqb w v) 1 0) u us,
  last-count v us,
)

module _ (n : ℕ) (arcs : List Arc) (v : ℕ) (among : IsAmong n v) where
  first_arcs : List Arc
  first_arcs = map (λ u. arc_between 0 u) (without_into n arcs)

  pub some-into : 1 ≤ count_by (is_into v) (completed_arcs n arcs)
  some-into =
      let f : Arc → ℕ = λ a. cond {A = ℕ} (is_into v a) 1 0 in
      let one = sum_by-append f arcs (added_arcs n arcs) in
      let two = sum_by-append f (map (λ u. arc_between 0 u) (without_into n arcs)) (map (λ u. arc_between u 0) (without_out n arcs)) in
      elim (cases_lt 0 (count_by (is_into v) arcs)) [
        | inl some ↦ omega (arith, some, one)
        | inr none ↦ (let e : eqb (count_by (is_into v) arcs) 0 ≡ true = eq-eqb _ _ (omega (arith, none)) in
            omega (arith, one, two, first-count v (without_into n arcs), kept (λ u. eqb (count_by (is_into u) arcs) 0) n v among e))
      ]

  pub some-out : 1 ≤ count_by (is_out_of v) (completed_arcs n arcs)
  some-out =
      let f : Arc → ℕ = λ a. cond {A = ℕ} (is_out_of v a) 1 0 in
      let one = sum_by-append f arcs (added_arcs n arcs) in
      let two = sum_by-append f (map (λ u. arc_between 0 u) (without_into n arcs)) (map (λ u. arc_between u 0) (without_out n arcs)) in
      elim (cases_lt 0 (count_by (is_out_of v) arcs)) [
        | inl some ↦ omega (arith, some, one)
        | inr none ↦ (let e : eqb (count_by (is_out_of v) arcs) 0 ≡ true = eq-eqb _ _ (omega (arith, none)) in
            omega (arith, one, two, last-count v (without_out n arcs), kept (λ u. eqb (count_by (is_out_of u) arcs) 0) n v among e))
      ]

-- ---- ranks

append-split : (xs ys before : List ℕ) (v : ℕ) (rest : List ℕ) → xs ++ ys ≡ before ++ v ∷ rest
    → ((more : List ℕ) × (xs ≡ before ++ v ∷ more)) ⊎ ((inner : List ℕ) × (before ≡ xs ++ inner) × (ys ≡ inner ++ v ∷ rest))
append-split [] ys before v rest e = inr (before, refl, e)
append-split (x ∷ xs) ys [] v rest e = inl (xs, (let same : x ≡ v = cc in ap (λ (y : ℕ). y ∷ xs) same))
append-split (x ∷ xs) ys (b ∷ bs) v rest e =
    let head : x ≡ b = cc in
    let tail : xs ++ ys ≡ bs ++ v ∷ rest = cc in
    elim (append-split xs ys bs v rest tail) [
      | inl more ↦ inl (more.0, λ i. head i ∷ more.1 i)
      | inr inner ↦ inr (inner.0, (λ i. sym head i ∷ inner.1 i), inner.2)
    ]

stands-right : (xs ys : List ℕ) (v : ℕ) → stands_in ys v ≡ true → stands_in (xs ++ ys) v ≡ true
stands-right xs ys v h = list_any-append (λ u. eqb u v) xs ys ∙ or_right (stands_in xs v) (stands_in ys v) h

supplied-append : (arcs : List Arc) (xs ys : List ℕ) → AreSupplied arcs xs → AreSupplied arcs ys → AreSupplied arcs (xs ++ ys)
supplied-append arcs xs ys h k = record {
  each = λ before rest v split. elim (append-split xs ys before v rest split) [
    | inl more ↦ h.each before more.0 v more.1
    | inr inner ↦ λ i d lt to some. subst (λ (zs : List ℕ). stands_in zs (get_or arcs i d).from ≡ true) (sym inner.1)
        (stands-right xs inner.0 (get_or arcs i d).from (k.each inner.0 rest v inner.2 i d lt to some))
  ];
}

-- one list for all
record AreJoined (arcs : List Arc) (n : ℕ) : Type 0 where
  list : List ℕ
  supplied : AreSupplied arcs list
  stands : (v : ℕ) → IsAmong n v → stands_in list v ≡ true

pub nothing-supplied : (arcs : List Arc) → AreSupplied arcs []
nothing-supplied arcs = record {
  each = λ before rest v split.
      absurd (let e : 0 ≡ length (before ++ v ∷ rest) = ap length split in omega (arith, e, length-append before (v ∷ rest)));
}

joined : (arcs : List Arc) (n : ℕ) → ((v : ℕ) → IsAmong n v → CanBeOrdered arcs v) → AreJoined arcs n
joined arcs zero h = record { list = []; supplied = nothing-supplied arcs; stands = λ v among. absurd (omega (arith, among.0, among.1)) }
joined arcs (suc n) h =
    let rest = joined arcs n (λ v among. h v (among.0, omega (arith, among.1))) in
    let own = h (suc n) (omega arith, omega arith) in
    record {
      list = rest.list ++ own.list;
      supplied = supplied-append arcs rest.list own.list rest.supplied own.supplied;
      stands = λ v among. elim (cases_lt v (suc n)) [
        | inl lt ↦ stands-left rest.list own.list v (rest.stands v (among.0, omega (arith, lt)))
        | inr ge ↦ (let e : suc n ≡ v = omega (arith, ge, among.1) in
            subst (λ (w : ℕ). stands_in (rest.list ++ own.list) w ≡ true) e (stands-right rest.list own.list (suc n) own.stands))
      ];
    }

first_place : List ℕ → ℕ → ℕ
first_place xs v = position_or_len (λ u. eqb u v) xs

-- the first place is no later than any other
early : (xs : List ℕ) (v i : ℕ) → i < length xs → get_or xs i 0 ≡ v → first_place xs v ≤ i
unfolding first_place
early xs v i lt e = elim (cases_lt i (position_or_len (λ u. eqb u v) xs)) [
  | inl less ↦ absurd (cc (sym (eq-eqb (get_or xs i 0) v e) ∙ fails_before_first (λ u. eqb u v) xs i 0 less))
  | inr le ↦ le
]

found : (xs : List ℕ) (v : ℕ) → stands_in xs v ≡ true → (i : ℕ) × (i < length xs) × (get_or xs i 0 ≡ v)
found xs v h =
    let p = place xs v h in (
      length p.before,
      omega (arith, ap length p.is, length-append p.before (v ∷ p.rest)),
      ap (λ (ys : List ℕ). get_or ys (length p.before) 0) p.is ∙ get_or-append_seam p.before v p.rest 0,
    )

earlier : (arcs : List Arc) (list : List ℕ) (i : ℕ) (d : Arc) → AreSupplied arcs list → i < length arcs → 1 ≤ (get_or arcs i d).from
    → stands_in list (get_or arcs i d).to ≡ true → first_place list (get_or arcs i d).from < first_place list (get_or arcs i d).to
unfolding first_place
earlier arcs list i d sup lt some stands =
    let u = (get_or arcs i d).from in
    let v = (get_or arcs i d).to in
    let p = position_or_len (λ w. eqb w v) list in
    let f = found list v stands in
    let short : position_or_len (λ w. eqb w v) list < length list = omega (arith, early list v f.0 f.1 f.2, f.1) in
    let at : get_or list p 0 ≡ v = eqb-true (get_or list p 0) v (passes_at_first (λ w. eqb w v) list 0 short) in
    let split : list ≡ take p list ++ v ∷ drop (p + 1) list =
    sym (take-append-drop p list)
    ∙ ap (λ (xs : List ℕ). take p list ++ xs) (drop_more list p 0 short ∙ ap (λ (w : ℕ). w ∷ drop (p + 1) list) at) in
    let before = sup.each (take p list) (drop (p + 1) list) v split i d lt refl some in
    let g = found (take p list) u before in
    let len = length-take-le p list (omega (arith, short)) in
    let e = early list u g.0 (omega (arith, g.1, len, short)) (sym (get_or-take p list g.0 0 (omega (arith, g.1, len))) ∙ g.2) in
    omega (arith, e, g.1, len)

first_rises : (rank : ℕ → ℕ) (us : List ℕ) → All (Rises rank) (map (λ u. arc_between 0 u) us)
first_rises rank us = All-map (Rises rank) (λ u. arc_between 0 u) us (λ i d lt some low. absurd (omega (arith, some)))

last_rises : (rank : ℕ → ℕ) (us : List ℕ) → All (Rises rank) (map (λ u. arc_between u 0) us)
last_rises rank us = All-map (Rises rank) (λ u. arc_between u 0) us (λ i d lt some low. absurd (omega (arith, low)))

pub graph-ranked : (graph : TaskGraph) → IsGraph graph → (rank : ℕ → ℕ) × All (Rises rank) (completed graph).arcs
graph-ranked graph is =
    let n = length graph.tasks in
    let j = joined graph.arcs (length graph.tasks) is.ordered in (
      first_place j.list,
      All-append (Rises (first_place j.list)) graph.arcs (added_arcs n graph.arcs)
          (λ i d lt some low.
          earlier graph.arcs j.list i d j.supplied lt some (j.stands (get_or graph.arcs i d).to (low, (is.arcs i d lt).to)))
          (All-append (Rises (first_place j.list)) (map (λ u. arc_between 0 u) (without_into n graph.arcs))
          (map (λ u. arc_between u 0) (without_out n graph.arcs))
          (first_rises (first_place j.list) (without_into n graph.arcs)) (last_rises (first_place j.list) (without_out n graph.arcs))),
    )
