-- The positions of the term of a net: their limits, their sums, and how many they are.
use Rattle.std.proofs.Common.{◌≡◌, ℕ, ◌+◌, ◌*◌, ◌≤◌, Bool, true, false, cond, leb, refl, ap, arith}
use Rattle.std.proofs.Common.{List, [], ◌∷◌, ◌++◌, length, Option, Some, length-append}
use Rattle.std.specs.List.{sum_by, All}
use Rattle.std.proofs.lemmas.List.{append-nil}
use Rattle.std.proofs.lemmas.List.Sums.{sum_by-cons, sum_by-append}
use Rattle.std.proofs.lemmas.List.Elements.{All-nil, All-cons, All-append}
use Rattle.std.proofs.lemmas.Bool.{leb-true}
use Rattle.limits.specs.Limits.{most_size}
use Rattle.mp_system.specs.declared.system.Task.{Task}
use Rattle.mp_system.specs.System.{IsTaskWithin}
use Rattle.sp_terms.specs.Term.{no_parts, count}
use Rattle.sp_terms.specs.Postfix.{postfix, all_postfix, at_task}
use Rattle.sp_terms.specs.declared.position.Position.{Position}
use Rattle.sp_terms.specs.declared.position.Position.TheVariants.{Hold, Par}
use Rattle.sp_terms.specs.Values.{added_size, added_tasks, IsWithinLimits}
use Rattle.sp_reduce.specs.Nets.{Net, hold, series, both, names, times, weigh}
use Rattle.sp_reduce.specs.Shapes.{shape_of, parts_of, holds_of, size_of}
use Rattle.sp_reduce.proofs.Ends.{hits-self}
use Rattle.sp_reduce.proofs.Shaped.{counted-parts, parts-front}

-- the data of a net, together
abbrev pub data_of : Net → ℕ
data_of (hold n) = n
data_of (series a v b) = data_of a + data_of b
data_of (both a b) = data_of a + data_of b

pub weigh-data : (from to : Option ℕ) (t : Net) → weigh (λ p n q. n) from to t ≡ data_of t
weigh-data from to (hold n) = refl
weigh-data from to (series a v b) = omega (arith, weigh-data from (Some v) a, weigh-data (Some v) to b)
weigh-data from to (both a b) = omega (arith, weigh-data from to a, weigh-data from to b)

pub weigh-holds : (from to : Option ℕ) (t : Net) → weigh (λ p n q. 1) from to t ≡ holds_of t
weigh-holds from to (hold n) = refl
weigh-holds from to (series a v b) = omega (arith, weigh-holds from (Some v) a, weigh-holds (Some v) to b)
weigh-holds from to (both a b) = omega (arith, weigh-holds from to a, weigh-holds from to b)

pub size-holds : (t : Net) → size_of t + 1 ≡ 2 * holds_of t
size-holds (hold n) = refl
size-holds (series a v b) = omega (arith, size-holds a, size-holds b)
size-holds (both a b) = omega (arith, size-holds a, size-holds b)

-- each of its data is within the limit
abbrev pub bad : ℕ → ℕ
bad n = cond (leb n most_size) 0 1

abbrev pub AreSmall : Net → Type 0
AreSmall (hold n) = n ≤ most_size
AreSmall (series a v b) = AreSmall a × AreSmall b
AreSmall (both a b) = AreSmall a × AreSmall b

not-bad : (n : ℕ) → bad n ≡ 0 → n ≤ most_size
not-bad n e = go (leb n most_size) refl e where
  go : (b : Bool) → leb n most_size ≡ b → ◌≡◌ {A = ℕ} (cond b 0 1) 0 → n ≤ most_size
  go true is e = leb-true n most_size is
  go false is e = absurd (omega arith)

pub small : (from to : Option ℕ) (t : Net) → weigh (λ p n q. bad n) from to t ≡ 0 → AreSmall t
small from to (hold n) e = not-bad n e
small from to (series a v b) e = (small from (Some v) a (omega arith), small (Some v) to b (omega arith))
small from to (both a b) e = (small from to a (omega arith), small from to b (omega arith))

module _ (tasks : ℕ → Task) where
  abbrev pub extras : List ℕ → ℕ
  extras vs = sum_by (λ v. (tasks v).extra) vs

  pub record AreBound (ps : List Position) (t : Net) : Type 0 where
    pub within : All IsWithinLimits ps
    pub tasks_are : sum_by added_tasks ps ≡ length (names t)
    pub sizes : sum_by added_size ps ≡ extras (names t) + data_of t
    pub few : 1 + length ps ≤ 2 * holds_of t

  parts-some : (t : Net) → 1 ≤ parts_of t
  parts-some (hold n) = omega arith
  parts-some (series a v b) = omega arith
  parts-some (both a b) = omega (arith, parts-some a)

  -- a position more at the end
  push-sum : (f : Position → ℕ) (ps : List Position) (p : Position) → sum_by f (ps ++ p ∷ []) ≡ sum_by f ps + f p
  push-sum f ps p = omega (arith, sum_by-append f ps (p ∷ []), sum_by-cons f p [])

  extras-append : (xs ys : List ℕ) → extras (xs ++ ys) ≡ extras xs + extras ys
  extras-append xs ys = sum_by-append (λ v. (tasks v).extra) xs ys

  pub bounds : (t : Net) → AreSmall t → ((v : ℕ) → 1 ≤ times v t → IsTaskWithin (tasks v))
      → AreBound (postfix ((shape_of tasks t).whole)) t × AreBound (all_postfix ((shape_of tasks t).among no_parts)) t
  bounds (hold n) s w =
      let one : AreBound (Hold n ∷ []) (hold n) = record {
        within = All-cons IsWithinLimits (Hold n) [] s (All-nil IsWithinLimits);
        tasks_are = refl;
        sizes = omega (arith, sum_by-cons added_size (Hold n) []);
        few = omega arith;
      } in
      (one, one)
  bounds (series a v b) s w =
      let pa = postfix ((shape_of tasks a).whole) in
      let pb = postfix ((shape_of tasks b).whole) in
      let own = at_task (tasks v) in
      let x = (bounds a s.0 (λ u h. w u (omega arith))).0 in
      let y = (bounds b s.1 (λ u h. w u (omega arith))).0 in
      let k = w v (omega (arith, hits-self (Some v))) in
      let one : AreBound (pa ++ (pb ++ own ∷ [])) (series a v b) = record {
        within = All-append IsWithinLimits pa (pb ++ own ∷ []) x.within (All-append IsWithinLimits pb (own ∷ []) y.within
            (All-cons IsWithinLimits own [] (k.extra, k.time.0, k.time.1) (All-nil IsWithinLimits)));
        tasks_are = omega (
          arith,
          sum_by-append added_tasks pa (pb ++ own ∷ []),
          push-sum added_tasks pb own,
          x.tasks_are,
          y.tasks_are,
          length-append (names a) (names b ++ v ∷ []),
          length-append (names b) (v ∷ []),
        );
        sizes = omega (
          arith,
          sum_by-append added_size pa (pb ++ own ∷ []),
          push-sum added_size pb own,
          x.sizes,
          y.sizes,
          extras-append (names a) (names b ++ v ∷ []),
          extras-append (names b) (v ∷ []),
          sum_by-cons (λ u. (tasks u).extra) v [],
        );
        few = omega (arith, length-append pa (pb ++ own ∷ []), length-append pb (own ∷ []), x.few, y.few);
      } in
      (one, more one)
    where
      more : AreBound (postfix ((shape_of tasks (series a v b)).whole)) (series a v b)
          → AreBound (postfix ((shape_of tasks (series a v b)).whole) ++ []) (series a v b)
      more h = rw (append-nil (postfix ((shape_of tasks (series a v b)).whole))) h
  bounds (both a b) s w =
      let qa = all_postfix ((shape_of tasks a).among no_parts) in
      let qb = all_postfix ((shape_of tasks b).among no_parts) in
      let all = all_postfix ((shape_of tasks a).among ((shape_of tasks b).among no_parts)) in
      let n = count ((shape_of tasks a).among ((shape_of tasks b).among no_parts)) in
      let x = (bounds a s.0 (λ u h. w u (omega arith))).1 in
      let y = (bounds b s.1 (λ u h. w u (omega arith))).1 in
      let inner : AreBound (qa ++ qb) (both a b) = record {
        within = All-append IsWithinLimits qa qb x.within y.within;
        tasks_are = omega (arith, sum_by-append added_tasks qa qb, x.tasks_are, y.tasks_are, length-append (names a) (names b));
        sizes = omega (arith, sum_by-append added_size qa qb, x.sizes, y.sizes, extras-append (names a) (names b));
        few = omega (arith, length-append qa qb, x.few, y.few);
      } in
      let split : all ≡ qa ++ qb = parts-front tasks a ((shape_of tasks b).among no_parts) in
      let two : 2 ≤ n = omega (
        arith,
        counted-parts tasks a ((shape_of tasks b).among no_parts),
        counted-parts tasks b no_parts,
        parts-some a,
        parts-some b,
      ) in
      let here : AreBound all (both a b) = rw split inner in (
        record {
          within = All-append IsWithinLimits all (Par n ∷ []) here.within (All-cons IsWithinLimits (Par n) [] two (All-nil IsWithinLimits));
          tasks_are = omega (arith, push-sum added_tasks all (Par n), here.tasks_are);
          sizes = omega (arith, push-sum added_size all (Par n), here.sizes);
          few = omega (arith, length-append all (Par n ∷ []), ap length split, length-append qa qb, x.few, y.few);
        },
        here,
      )
