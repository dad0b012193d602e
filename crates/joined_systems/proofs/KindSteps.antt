-- How kinds part, and who meets in two lists.
use Rattle.std.proofs.Common.{◌≡◌, ℕ, ◌+◌, ◌-◌, ◌<◌, ◌≤◌, Bool, true, false, cond, ◌&&◌, ◌||◌, eqb, List, [], ◌∷◌, ◌++◌, length, get_or}
use Rattle.std.proofs.Common.{map, set, ◌≢◌, length-append, append_assoc, refl, sym, ap, subst, ◌∙◌, arith, inl, inr, below_more}
use Rattle.std.specs.Prelude.{All, ◌↔◌, slice_index}
use Rattle.std.proofs.lemmas.List.{get_or-append_right, get_or_append_left, get_or-set_same, get_or-set_other}
use Rattle.std.proofs.lemmas.List.Elements.{All-nil, All-cons, All-append, All-weaker, All-head, All-tail}
use Rattle.std.proofs.lemmas.Bool.{cases_Bool, cases_lt, cases_eq, ne_eqb}
use Rattle.row_table.specs.Rows.{has, numbers_with}
use Rattle.joined_systems.specs.Kinds.{meet, AreParts, ArePartedBy, AreFirsts}
use Rattle.joined_systems.proofs.JoinNumbers.{numbers_cons}

-- ---- kinds

module _ (m : ℕ) (parts old new : List ℕ) (test : ℕ → Bool) (are : AreParts m parts) (low : (u : ℕ) → get_or old u 0 < m)
    (left : (u : ℕ) → test u ≡ false → get_or new u 0 ≡ get_or old u 0)
    (gone : (u : ℕ) → test u ≡ true → (m ≤ get_or new u 0) × (get_or new u 0 ≡ get_or parts (get_or old u 0) 0)) where
  to_same : (u v : ℕ) → get_or new u 0 ≡ get_or new v 0 → (get_or old u 0 ≡ get_or old v 0) × (test u ≡ test v)
  to_same u v e = elim (cases_Bool (test u)) [
    | inl one ↦ elim (cases_Bool (test v)) [
      | inl two ↦ (
        are.apart (get_or old u 0) (get_or old v 0) (omega (arith, (gone u one).0, (gone u one).1)) (omega (arith, (gone u one).1, (gone v two).1, e)),
        one ∙ sym two,
      )
      | inr two ↦ absurd (omega (arith, (gone u one).0, left v two, low v, e))
    ]
    | inr one ↦ elim (cases_Bool (test v)) [
      | inl two ↦ absurd (omega (arith, (gone v two).0, left u one, low u, e))
      | inr two ↦ (omega (arith, left u one, left v two, e), one ∙ sym two)
    ]
  ]

  from_same : (u v : ℕ) → get_or old u 0 ≡ get_or old v 0 → test u ≡ test v → get_or new u 0 ≡ get_or new v 0
  from_same u v e same = elim (cases_Bool (test u)) [
    | inl one ↦ (gone u one).1 ∙ ap (λ (c : ℕ). get_or parts c 0) e ∙ sym ((gone v (sym same ∙ one)).1)
    | inr one ↦ left u one ∙ e ∙ sym (left v (sym same ∙ one))
  ]

  pub parted_by : ArePartedBy test old new
  parted_by u v = (to_same u v, λ both. from_same u v both.0 both.1)

-- ---- who meets

pub numbers_low : (keys : List ℕ) (first k : ℕ) → All (λ p. p < first + length keys) (numbers_with keys first k)
numbers_low [] first k = All-nil (λ p. p < first + 0)
numbers_low (j ∷ keys) first k =
    let bound = λ (p : ℕ). p < first + length (j ∷ keys) in
    let rest : All bound (numbers_with keys (first + 1) k) =
    All-weaker (λ p. p < first + 1 + length keys) bound (λ p lt. omega (arith, lt)) (numbers_with keys (first + 1) k)
    (numbers_low keys (first + 1) k) in
    subst (All bound) (sym (numbers_cons j keys first k))
    (All-append bound (cond (eqb j k) (first ∷ []) []) (numbers_with keys (first + 1) k) (own (eqb j k) bound (omega arith)) rest)
  where
    own : (b : Bool) (P : ℕ → Type 0) → P first → All P (cond b (first ∷ []) [])
    own true P here = All-cons P first [] here (All-nil P)
    own false P here = All-nil P

pub row_meets : (fs ts pre : List ℕ) (u w : ℕ) → length fs ≡ length ts
    → has (map (slice_index (pre ++ fs)) (numbers_with ts (length pre) w)) u ≡ meet fs ts u w
row_meets [] [] pre u w same = refl
row_meets [] (t ∷ ts) pre u w same = absurd (omega arith)
row_meets (f ∷ fs) [] pre u w same = absurd (omega arith)
row_meets (f ∷ fs) (t ∷ ts) pre u w same =
    let g = slice_index (pre ++ f ∷ fs) in
    let k = length pre in
    let here : g k ≡ f =
    get_or-append_right pre (f ∷ fs) k k 0 refl (omega arith) ∙ ap (λ (i : ℕ). get_or (f ∷ fs) i 0) (zero_sub k) in
    let list : (pre ++ f ∷ []) ++ fs ≡ pre ++ f ∷ fs = append_assoc pre (f ∷ []) fs in
    let next : length (pre ++ f ∷ []) ≡ k + 1 = length-append pre (f ∷ []) in
    let rest : has (map g (numbers_with ts (k + 1) w)) u ≡ meet fs ts u w =
    ap (λ (l : List ℕ). has (map (slice_index l) (numbers_with ts (k + 1) w)) u) (sym list)
    ∙ ap (λ (i : ℕ). has (map (slice_index ((pre ++ f ∷ []) ++ fs)) (numbers_with ts i w)) u) (sym next)
    ∙ row_meets fs ts (pre ++ f ∷ []) u w (omega arith) in
    ap (λ (l : List ℕ). has (map g l) u) (numbers_cons t ts k w) ∙ elim (cases_Bool (eqb t w)) [
      | inl is ↦ rw is (ap (λ (z : ℕ). eqb z u || has (map g (numbers_with ts (k + 1) w)) u) here
          ∙ ap (λ (b : Bool). eqb f u || b) rest ∙ ap (λ (b : Bool). b || meet fs ts u w) (sym (and_one (eqb f u))))
      | inr not_is ↦ rw not_is (rest ∙ ap (λ (b : Bool). b || meet fs ts u w) (sym (and_none (eqb f u))))
    ]
  where
    zero_sub : (k : ℕ) → k - k ≡ 0
    zero_sub k = omega arith

    and_one : (b : Bool) → (b && true) ≡ b
    and_one true = refl
    and_one false = refl

    and_none : (b : Bool) → (b && false) ≡ false
    and_none true = refl
    and_none false = refl

-- ---- one reader more

module _ (fs ts old new : List ℕ) (w : ℕ)
    (same : (u v : ℕ) → ((get_or old u 0 ≡ get_or old v 0) ↔ ((x : ℕ) → x < w → meet fs ts u x ≡ meet fs ts v x)))
    (test : ℕ → Bool) (tests : (u : ℕ) → test u ≡ meet fs ts u w) (parted : ArePartedBy test old new) where
  pub same_next : (u v : ℕ) → ((get_or new u 0 ≡ get_or new v 0) ↔ ((x : ℕ) → x < w + 1 → meet fs ts u x ≡ meet fs ts v x))
  same_next u v = (
    λ e. below_more (λ x. meet fs ts u x ≡ meet fs ts v x) w ((same u v).0 (((parted u v).0 e).0))
        (sym (tests u) ∙ ((parted u v).0 e).1 ∙ tests v),
    λ each. (parted u v).1 (
      (same u v).1 (λ x lt. each x (omega (arith, lt))),
      tests u ∙ each w (omega arith) ∙ sym (tests v),
    ),
  )

-- nobody meets past the last reader
pub none_past : (fs ts : List ℕ) (m u w : ℕ) → All (λ t. t < m) ts → m ≤ w → meet fs ts u w ≡ false
none_past [] ts m u w within le = refl
none_past (f ∷ fs) [] m u w within le = refl
none_past (f ∷ fs) (t ∷ ts) m u w within le =
    let here = All-head (λ c. c < m) t ts within in
    rw (ne_eqb t w (λ e. omega (arith, here, e, le)), none_past fs ts m u w (All-tail (λ c. c < m) t ts within) le) (no (eqb f u))
  where
    no : (b : Bool) → ((b && false) || false) ≡ false
    no true = refl
    no false = refl

-- ---- the first task of each kind

pub record Firsts (kinds firsts leaders : List ℕ) (v : ℕ) : Type 0 where
  pub len : length leaders ≡ v - 1
  pub told : (k : ℕ) → get_or firsts k 0 ≢ 0 → (get_or firsts k 0 < v) × (get_or kinds (get_or firsts k 0) 0 ≡ k)
  pub each : (i : ℕ) → i < v - 1 → (get_or leaders i 0 ≡ get_or firsts (get_or kinds (i + 1) 0) 0)
      × (1 ≤ get_or leaders i 0) × (get_or leaders i 0 ≤ i + 1)

module _ (kinds firsts leaders : List ℕ) (v kind : ℕ) (some : 1 ≤ v) (here : kind ≡ get_or kinds v 0) (are : Firsts kinds firsts leaders v) where
  last_at : (x i : ℕ) → i ≡ v - 1 → get_or (leaders ++ x ∷ []) i 0 ≡ x
  last_at x i is =
      let zero_is : i - (v - 1) ≡ 0 = omega (arith, is) in
      get_or-append_right leaders (x ∷ []) (v - 1) i 0 are.len (omega (arith, is)) ∙ ap (λ (k : ℕ). get_or (x ∷ []) k 0) zero_is

  before_last : (x i : ℕ) → i < v - 1 → get_or (leaders ++ x ∷ []) i 0 ≡ get_or leaders i 0
  before_last x i lt = get_or_append_left leaders (x ∷ []) 0 i (omega (arith, are.len))

  long : (x : ℕ) → length (leaders ++ x ∷ []) ≡ v + 1 - 1
  long x = omega (arith, length-append leaders (x ∷ []), are.len)

  kind_at : (i : ℕ) → i ≡ v - 1 → get_or kinds (i + 1) 0 ≡ kind
  kind_at i is = let next : i + 1 ≡ v = omega (arith, is) in ap (λ (w : ℕ). get_or kinds w 0) next ∙ sym here

  pub first_kept : get_or firsts kind 0 ≢ 0 → Firsts kinds firsts (leaders ++ get_or firsts kind 0 ∷ []) (v + 1)
  first_kept there = record {
    len = long (get_or firsts kind 0);
    told = λ k e. (omega (arith, (are.told k e).0), (are.told k e).1);
    each = λ i lt. elim (cases_lt i (v - 1)) [
      | inl before ↦ (
        before_last (get_or firsts kind 0) i before ∙ (are.each i before).0,
        omega (arith, before_last (get_or firsts kind 0) i before, (are.each i before).1),
        omega (arith, before_last (get_or firsts kind 0) i before, (are.each i before).2),
      )
      | inr last ↦ (
          let is : i ≡ v - 1 = omega (arith, lt, last) in
          let value = last_at (get_or firsts kind 0) i is in (
            value ∙ ap (λ (k : ℕ). get_or firsts k 0) (sym (kind_at i is)),
            omega (arith, value, there),
            omega (arith, value, (are.told kind there).0, is, some),
          )
          )
    ];
  }

  pub first_new : get_or firsts kind 0 ≡ 0 → kind < length firsts → Firsts kinds (set firsts kind v) (leaders ++ get_or (set firsts kind v) kind 0 ∷ []) (v + 1)
  first_new none room =
      let own : get_or (set firsts kind v) kind 0 ≡ v = get_or-set_same firsts kind v 0 room in
      let others : (k : ℕ) → (k ≡ kind → ⊥) → get_or (set firsts kind v) k 0 ≡ get_or firsts k 0 =
      λ k other. get_or-set_other firsts kind k v 0 other in
      record {
        len = long (get_or (set firsts kind v) kind 0);
        told = λ k e. elim (cases_eq k kind) [
          | inl same ↦ (
              let value : get_or (set firsts kind v) k 0 ≡ v = ap (λ (w : ℕ). get_or (set firsts kind v) w 0) same ∙ own in
              (omega (arith, value), ap (λ (w : ℕ). get_or kinds w 0) value ∙ sym here ∙ sym same)
              )
          | inr other ↦ (
              let value = others k other in
              let old = are.told k (λ zero_is. e (value ∙ zero_is)) in
              (omega (arith, value, old.0), ap (λ (w : ℕ). get_or kinds w 0) value ∙ old.1)
              )
        ];
        each = λ i lt. elim (cases_lt i (v - 1)) [
          | inl before ↦ (
              let x = get_or (set firsts kind v) kind 0 in
              let old = are.each i before in
              let apart : get_or kinds (i + 1) 0 ≡ kind → ⊥ =
              λ same. (let value = ap (λ (k : ℕ). get_or firsts k 0) same in omega (arith, value, none, old.0, old.1)) in (
                before_last x i before ∙ old.0 ∙ sym (others (get_or kinds (i + 1) 0) apart),
                omega (arith, before_last x i before, old.1),
                omega (arith, before_last x i before, old.2),
              )
              )
          | inr last ↦ (
              let is : i ≡ v - 1 = omega (arith, lt, last) in
              let value = last_at (get_or (set firsts kind v) kind 0) i is in (
                value ∙ ap (λ (k : ℕ). get_or (set firsts kind v) k 0) (sym (kind_at i is)),
                omega (arith, value, own, some),
                omega (arith, value, own, is, some),
              )
              )
        ];
      }

pub firsts_done : (kinds firsts leaders : List ℕ) (v : ℕ) → Firsts kinds firsts leaders v → v ≡ length kinds → AreFirsts kinds leaders
firsts_done kinds firsts leaders v are is = record {
  len = omega (arith, are.len, is);
  low = λ i lt. (let here = are.each i (omega (arith, lt, are.len)) in (here.1, here.2));
  kind = λ i lt. (
      let here = are.each i (omega (arith, lt, are.len)) in
      let there = are.told (get_or kinds (i + 1) 0) (λ none. omega (arith, none, here.0, here.1)) in
      ap (λ (w : ℕ). get_or kinds w 0) here.0 ∙ there.1
      );
  one = λ i j one two e. (are.each i (omega (arith, one, are.len))).0 ∙ ap (λ (k : ℕ). get_or firsts k 0) e
      ∙ sym ((are.each j (omega (arith, two, are.len))).0);
}
