-- The term of a net: its tasks, its items, its memories, and its positions.
use Rattle.std.proofs.Common.{◌≡◌, ℕ, zero, suc, ◌+◌, ◌<◌, ◌≤◌, refl, sym, ap, subst, arith, ◌∙◌, List, [], ◌∷◌}
use Rattle.std.proofs.Common.{◌++◌, length, map, get_or, Option, Some, option_map, append_assoc, length-append}
use Rattle.std.proofs.lemmas.List.{append-nil, map-append, get_or_append_left, get_or-append-add}
use Rattle.mp_system.specs.declared.system.Task.{Task}
use Rattle.mp_system.specs.declared.system.Item.{Item}
use Rattle.mp_system.specs.Renaming.{renamed}
use Rattle.sp_terms.specs.Term.{Term, Parts, no_parts, count, Direction, forward, backward}
use Rattle.sp_terms.specs.Term.{first_memory, first_memory_of_parts, IsAllowed, AreAllowed}
use Rattle.sp_terms.specs.SystemOfTerm.{task_count, task_count_of_parts, tasks_of_term, tasks_of_parts, items_of_term, items_of_parts}
use Rattle.sp_terms.specs.Postfix.{postfix, all_postfix}
use Rattle.sp_terms.specs.declared.position.Position.{Position}
use Rattle.sp_reduce.specs.Nets.{Net, hold, series, both, arcs, names, times, IsDistinct, weigh, hits, knows}
use Rattle.sp_reduce.specs.Shapes.{shape_of, parts_of}
use Rattle.sp_reduce.proofs.Ends.{hits-self, knows-series, knows-both, one_place, distinct-left, distinct-right, distinct-one, distinct-two}

module _ (tasks : ℕ → Task) where
  abbrev whole : Net → Term
  whole t = (shape_of tasks t).whole

  abbrev among : Net → Parts → Parts
  among t ts = (shape_of tasks t).among ts

  -- ---- tasks

  names-series : (a b : Net) (v : ℕ) → length (names a ++ (names b ++ v ∷ [])) ≡ length (names a) + (length (names b) + 1)
  names-series a b v = omega (arith, length-append (names a) (names b ++ v ∷ []), length-append (names b) (v ∷ []))

  pub counts : (t : Net)
      → (task_count ((shape_of tasks t).whole) ≡ length (names t))
      × ((ts : Parts) → task_count_of_parts ((shape_of tasks t).among ts) ≡ length (names t) + task_count_of_parts ts)
  counts (hold n) = (refl, λ ts. omega arith)
  counts (series a v b) =
      let x = (counts a).0 in
      let y = (counts b).0 in
      let e : suc (task_count (whole a) + task_count (whole b)) ≡ length (names a ++ (names b ++ v ∷ [])) =
      omega (arith, x, y, names-series a b v) in
      (e, λ ts. omega (arith, e))
  counts (both a b) =
      let x = (counts a).1 in
      let y = (counts b).1 in
      let e = length-append (names a) (names b) in
      (omega (arith, x (among b no_parts), y no_parts, e), λ ts. omega (arith, x (among b ts), y ts, e))

  pub tasks-are : (t : Net)
      → (tasks_of_term ((shape_of tasks t).whole) ≡ map tasks (names t))
      × ((ts : Parts) → tasks_of_parts ((shape_of tasks t).among ts) ≡ map tasks (names t) ++ tasks_of_parts ts)
  tasks-are (hold n) = (refl, λ ts. refl)
  tasks-are (series a v b) =
      let e : tasks_of_term (whole a) ++ (tasks_of_term (whole b) ++ tasks v ∷ []) ≡ map tasks (names a ++ (names b ++ v ∷ [])) =
      (λ i. (tasks-are a).0 i ++ ((tasks-are b).0 i ++ tasks v ∷ []))
      ∙ sym (map-append tasks (names a) (names b ++ v ∷ [])
      ∙ ap (λ (xs : List Task). map tasks (names a) ++ xs) (map-append tasks (names b) (v ∷ []))) in
      (e, λ ts. ap (λ (xs : List Task). xs ++ tasks_of_parts ts) e)
  tasks-are (both a b) =
      let e : map tasks (names a ++ names b) ≡ map tasks (names a) ++ map tasks (names b) = map-append tasks (names a) (names b) in
      let all : (ts : Parts) → tasks_of_parts (among a (among b ts)) ≡ map tasks (names a ++ names b) ++ tasks_of_parts ts =
      λ ts. (tasks-are a).1 (among b ts) ∙ ap (λ (xs : List Task). map tasks (names a) ++ xs) ((tasks-are b).1 ts)
      ∙ sym (append_assoc (map tasks (names a)) (map tasks (names b)) (tasks_of_parts ts))
      ∙ ap (λ (xs : List Task). xs ++ tasks_of_parts ts) (sym e) in
      (all no_parts ∙ append-nil (map tasks (names a ++ names b)), all)

  -- ---- items

  module _ (f : ℕ → ℕ) where
    -- the names of the tasks are those of the net, from this number on
    abbrev Agree : ℕ → List ℕ → Type 0
    Agree base xs = (k : ℕ) → k < length xs → f (base + k) ≡ get_or xs k 0

    agree-left : (base : ℕ) (xs ys : List ℕ) → Agree base (xs ++ ys) → Agree base xs
    agree-left base xs ys h k lt = h k (omega (arith, length-append xs ys)) ∙ get_or_append_left xs ys 0 k lt

    agree-right : (base : ℕ) (xs ys : List ℕ) → Agree base (xs ++ ys) → Agree (base + length xs) ys
    agree-right base xs ys h k lt =
        (let e : base + length xs + k ≡ base + (length xs + k) = omega arith in ap f e)
        ∙ h (length xs + k) (omega (arith, length-append xs ys)) ∙ get_or-append-add xs ys k 0

    pub items-are : (base : ℕ) (from to : Option ℕ) (t : Net) → ((k : ℕ) → k < length (names t) → f (base + k) ≡ get_or (names t) k 0)
        → (map (renamed f) (items_of_term base from to ((shape_of tasks t).whole)) ≡ arcs (option_map f from) (option_map f to) t)
        × ((ts : Parts) → map (renamed f) (items_of_parts base from to ((shape_of tasks t).among ts))
        ≡ arcs (option_map f from) (option_map f to) t ++ map (renamed f) (items_of_parts (base + length (names t)) from to ts))
    items-are base from to (hold n) h = (
      refl,
      λ ts. (let e : base + 0 ≡ base + length (names (hold n)) = refl in ap (λ (b : ℕ).
          record { size = n; from = option_map f from; to = option_map f to } ∷ map (renamed f) (items_of_parts b from to ts)) e),
    )
    items-are base from to (series a v b) h =
        let ca = (counts a).0 in
        let cb = (counts b).0 in
        let own = base + (task_count (whole a) + task_count (whole b)) in
        let mid : f own ≡ v =
        (let e : own ≡ base + (length (names a) + length (names b)) = omega (arith, ca, cb) in ap f e)
        ∙ h (length (names a) + length (names b)) (omega (arith, names-series a b v))
        ∙ get_or-append-add (names a) (names b ++ v ∷ []) (length (names b)) 0
        ∙ (let e : length (names b) ≡ length (names b) + 0 = omega arith in ap (λ (k : ℕ). get_or (names b ++ v ∷ []) k 0) e)
        ∙ get_or-append-add (names b) (v ∷ []) 0 0 in
        let left = (items-are base from (Some own) a (agree-left base (names a) (names b ++ v ∷ []) h)).0 in
        let start : base + length (names a) ≡ base + task_count (whole a) = omega (arith, ca) in
        let right = (items-are (base + task_count (whole a)) (Some own) to b
        (subst (λ (k : ℕ). Agree k (names b)) start
        (agree-left (base + length (names a)) (names b) (v ∷ []) (agree-right base (names a) (names b ++ v ∷ []) h)))).0 in
        let e : map (renamed f)
        (items_of_term base from (Some own) (whole a) ++ items_of_term (base + task_count (whole a)) (Some own) to (whole b))
        ≡ arcs (option_map f from) (Some v) a ++ arcs (Some v) (option_map f to) b =
        map-append (renamed f) (items_of_term base from (Some own) (whole a))
        (items_of_term (base + task_count (whole a)) (Some own) to (whole b))
        ∙ (λ i. left i ++ right i) ∙ (λ i. arcs (option_map f from) (Some (mid i)) a ++ arcs (Some (mid i)) (option_map f to) b) in (
          e,
          λ ts. map-append (renamed f)
              (items_of_term base from (Some own) (whole a) ++ items_of_term (base + task_count (whole a)) (Some own) to (whole b))
              (items_of_parts (base + task_count (whole (series a v b))) from to ts)
              ∙ (λ i. e i ++ map (renamed f) (items_of_parts (base + (counts (series a v b)).0 i) from to ts)),
        )
    items-are base from to (both a b) h =
        let len = length-append (names a) (names b) in
        let left = (items-are base from to a (agree-left base (names a) (names b) h)).1 in
        let right = (items-are (base + length (names a)) from to b (agree-right base (names a) (names b) h)).1 in
        let p = option_map f from in
        let q = option_map f to in
        let all : (ts : Parts) → map (renamed f) (items_of_parts base from to (among a (among b ts)))
        ≡ (arcs p q a ++ arcs p q b) ++ map (renamed f) (items_of_parts (base + length (names a ++ names b)) from to ts) =
        λ ts. left (among b ts) ∙ ap (λ (xs : List Item). arcs p q a ++ xs) (right ts)
        ∙ sym (append_assoc (arcs p q a) (arcs p q b)
        (map (renamed f) (items_of_parts (base + length (names a) + length (names b)) from to ts)))
        ∙ (let e : base + length (names a) + length (names b) ≡ base + length (names a ++ names b) = omega (arith, len) in
        ap (λ (k : ℕ). (arcs p q a ++ arcs p q b) ++ map (renamed f) (items_of_parts k from to ts)) e) in
        (all no_parts ∙ append-nil (arcs p q a ++ arcs p q b), all)

  -- ---- memories

  abbrev pub memory_of : Direction → Net → ℕ
  memory_of d (hold n) = n
  memory_of forward (series a v b) = memory_of forward a
  memory_of backward (series a v b) = memory_of backward b
  memory_of d (both a b) = memory_of d a + memory_of d b

  memories : (d : Direction) (t : Net)
      → (first_memory d (whole t) ≡ memory_of d t)
      × ((ts : Parts) → first_memory_of_parts d (among t ts) ≡ memory_of d t + first_memory_of_parts d ts)
  memories forward (hold n) = (refl, λ ts. refl)
  memories backward (hold n) = (refl, λ ts. refl)
  memories forward (series a v b) =
      ((memories forward a).0, λ ts. ap (λ (n : ℕ). n + first_memory_of_parts forward ts) (memories forward a).0)
  memories backward (series a v b) =
      ((memories backward b).0, λ ts. ap (λ (n : ℕ). n + first_memory_of_parts backward ts) (memories backward b).0)
  memories forward (both a b) = (
    omega (arith, (memories forward a).1 (among b no_parts), (memories forward b).1 no_parts),
    λ ts. omega (arith, (memories forward a).1 (among b ts), (memories forward b).1 ts),
  )
  memories backward (both a b) = (
    omega (arith, (memories backward a).1 (among b no_parts), (memories backward b).1 no_parts),
    λ ts. omega (arith, (memories backward a).1 (among b ts), (memories backward b).1 ts),
  )

-- the size where something hits, else nothing
abbrev pub size_if : ℕ → ℕ → ℕ
size_if zero n = 0
size_if (suc k) n = n

abbrev pub size_in : Option ℕ → Option ℕ → ℕ → Option ℕ → ℕ
size_in o p n q = size_if (hits q o) n

abbrev pub size_out : Option ℕ → Option ℕ → ℕ → Option ℕ → ℕ
size_out o p n q = size_if (hits p o) n

size-one : (k n : ℕ) → k ≡ 1 → size_if k n ≡ n
size-one k n e = rw e refl

size-none : (k n : ℕ) → k ≡ 0 → size_if k n ≡ 0
size-none k n e = rw e refl

no-in : (o from to : Option ℕ) (t : Net) → hits to o + knows o t ≡ 0 → weigh (size_in o) from to t ≡ 0
no-in o from to (hold n) e = size-none (hits to o) n (omega arith)
no-in o from to (series a v b) e = omega (
  arith,
  no-in o from (Some v) a (omega (arith, knows-series o a v b)),
  no-in o (Some v) to b (omega (arith, knows-series o a v b)),
)
no-in o from to (both a b) e =
    omega (arith, no-in o from to a (omega (arith, knows-both o a b)), no-in o from to b (omega (arith, knows-both o a b)))

no-out : (o from to : Option ℕ) (t : Net) → hits from o + knows o t ≡ 0 → weigh (size_out o) from to t ≡ 0
no-out o from to (hold n) e = size-none (hits from o) n (omega arith)
no-out o from to (series a v b) e = omega (
  arith,
  no-out o from (Some v) a (omega (arith, knows-series o a v b)),
  no-out o (Some v) to b (omega (arith, knows-series o a v b)),
)
no-out o from to (both a b) e =
    omega (arith, no-out o from to a (omega (arith, knows-both o a b)), no-out o from to b (omega (arith, knows-both o a b)))

module _ (tasks : ℕ → Task) where
  memory-in : (from to : Option ℕ) (t : Net) → knows to t ≡ 0 → weigh (size_in to) from to t ≡ memory_of tasks backward t
  memory-in from to (hold n) e = size-one (hits to to) n (hits-self to)
  memory-in from to (series a v b) e =
      omega (
        arith,
        no-in to from (Some v) a (omega (arith, knows-series to a v b)),
        memory-in (Some v) to b (omega (arith, knows-series to a v b)),
      )
  memory-in from to (both a b) e =
      omega (arith, memory-in from to a (omega (arith, knows-both to a b)), memory-in from to b (omega (arith, knows-both to a b)))

  memory-out : (from to : Option ℕ) (t : Net) → knows from t ≡ 0 → weigh (size_out from) from to t ≡ memory_of tasks forward t
  memory-out from to (hold n) e = size-one (hits from from) n (hits-self from)
  memory-out from to (series a v b) e =
      omega (
        arith,
        no-out from (Some v) to b (omega (arith, knows-series from a v b)),
        memory-out from (Some v) a (omega (arith, knows-series from a v b)),
      )
  memory-out from to (both a b) e =
      omega (arith, memory-out from to a (omega (arith, knows-both from a b)), memory-out from to b (omega (arith, knows-both from a b)))

  -- ---- shares

  -- the share of each task fits what leads into it and out of it
  abbrev pub ShareFits : Option ℕ → Option ℕ → Net → Type 0
  ShareFits from to t = (v : ℕ) → 1 ≤ times v t →
      ((tasks v).share ≤ weigh (size_in (Some v)) from to t) × ((tasks v).share ≤ (tasks v).extra + weigh (size_out (Some v)) from to t)

  pub allowed : (from to : Option ℕ) (t : Net) → IsDistinct t → knows from t ≡ 0 → knows to t ≡ 0 → ShareFits from to t
      → IsAllowed ((shape_of tasks t).whole) × ((ts : Parts) → AreAllowed ts → AreAllowed ((shape_of tasks t).among ts))
      × ((ts : Parts) → 1 + count ts ≤ count ((shape_of tasks t).among ts))
  allowed from to (hold n) d e f fits = (tt, λ ts h. (tt, h), λ ts. omega arith)
  allowed from to (series a w b) d e f fits =
      let na : knows (Some w) a ≡ 0 = omega (arith, d w, hits-self (Some w)) in
      let nb : knows (Some w) b ≡ 0 = omega (arith, d w, hits-self (Some w)) in
      let to_w : hits to (Some w) ≡ 0 = omega (arith, one_place to (Some w) (series a w b) d f, hits-self (Some w)) in
      let from_w : hits from (Some w) ≡ 0 = omega (arith, one_place from (Some w) (series a w b) d e, hits-self (Some w)) in
      let own = fits w (omega (arith, hits-self (Some w))) in
      let into = memory-in from (Some w) a na in
      let rest = no-in (Some w) (Some w) to b (omega arith) in
      let out = memory-out (Some w) to b nb in
      let before = no-out (Some w) from (Some w) a (omega arith) in
      let x = allowed from (Some w) a (distinct-left a w b d) (omega (arith, knows-series from a w b)) na
      (λ v there. let k = fits v (omega arith) in
      let p = no-in (Some v) (Some w) to b (omega (arith, d v, one_place to (Some v) (series a w b) d f)) in
      let q = no-out (Some v) (Some w) to b (omega (arith, d v)) in
      (omega (arith, k.0, p), omega (arith, k.1, q))) in
      let y = allowed (Some w) to b (distinct-right a w b d) nb (omega (arith, knows-series to a w b))
      (λ v there. let k = fits v (omega arith) in
      let p = no-in (Some v) from (Some w) a (omega (arith, d v)) in
      let q = no-out (Some v) from (Some w) a (omega (arith, d v, one_place from (Some v) (series a w b) d e)) in
      (omega (arith, k.0, p), omega (arith, k.1, q))) in
      let all : IsAllowed ((shape_of tasks (series a w b)).whole) = (
        omega (arith, own.0, into, rest, (memories tasks backward a).0),
        omega (arith, own.1, out, before, (memories tasks forward b).0),
        x.0,
        y.0,
      ) in
      (all, λ ts h. (all, h), λ ts. omega arith)
  allowed from to (both a b) d e f fits =
      let x = allowed from to a (distinct-one a b d) (omega (arith, knows-both from a b)) (omega (arith, knows-both to a b))
      (λ v there. let k = fits v (omega arith) in
      let p = no-in (Some v) from to b (omega (arith, d v, one_place to (Some v) (both a b) d f)) in
      let q = no-out (Some v) from to b (omega (arith, d v, one_place from (Some v) (both a b) d e)) in
      (omega (arith, k.0, p), omega (arith, k.1, q))) in
      let y = allowed from to b (distinct-two a b d) (omega (arith, knows-both from a b)) (omega (arith, knows-both to a b))
      (λ v there. let k = fits v (omega arith) in
      let p = no-in (Some v) from to a (omega (arith, d v, one_place to (Some v) (both a b) d f)) in
      let q = no-out (Some v) from to a (omega (arith, d v, one_place from (Some v) (both a b) d e)) in
      (omega (arith, k.0, p), omega (arith, k.1, q))) in (
        (omega (arith, x.2 ((shape_of tasks b).among no_parts), y.2 no_parts), x.1 ((shape_of tasks b).among no_parts) (y.1 no_parts tt)),
        λ ts h. x.1 ((shape_of tasks b).among ts) (y.1 ts h),
        λ ts. omega (arith, x.2 ((shape_of tasks b).among ts), y.2 ts),
      )

  -- ---- positions

  pub counted-parts : (t : Net) (ts : Parts) → count ((shape_of tasks t).among ts) ≡ parts_of t + count ts
  counted-parts (hold n) ts = omega arith
  counted-parts (series a v b) ts = omega arith
  counted-parts (both a b) ts = omega (arith, counted-parts a ((shape_of tasks b).among ts), counted-parts b ts)

  pub parts-front : (t : Net) (ts : Parts)
      → all_postfix ((shape_of tasks t).among ts) ≡ all_postfix ((shape_of tasks t).among no_parts) ++ all_postfix ts
  parts-front (hold n) ts = refl
  parts-front (series a v b) ts =
      ap (λ (xs : List Position). xs ++ all_postfix ts) (sym (append-nil (postfix ((shape_of tasks (series a v b)).whole))))
  parts-front (both a b) ts =
      let pa = all_postfix ((shape_of tasks a).among no_parts) in
      let pb = all_postfix ((shape_of tasks b).among no_parts) in
      parts-front a ((shape_of tasks b).among ts)
      ∙ ap (λ (xs : List Position). pa ++ xs) (parts-front b ts) ∙ sym (append_assoc pa pb (all_postfix ts))
      ∙ ap (λ (xs : List Position). xs ++ all_postfix ts) (sym (parts-front a ((shape_of tasks b).among no_parts)))
