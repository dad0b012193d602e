-- Links and their sums.
use Rattle.std.proofs.Common.{◌≡◌, ◌≢◌, ℕ, zero, suc, ◌+◌, ◌-◌, ◌^◌, ◌<◌, ◌≤◌, inl, inr, Bool, true, false, cond, refl}
use Rattle.std.proofs.Common.{sym, subst, ap, arith, ◌∙◌, List, [], ◌∷◌, ◌++◌, length, Option, Some, get_or, set}
use Rattle.std.specs.Prelude.{nat_eq, ◌||◌}
use Rattle.std.specs.List.{sum_by}
use Rattle.std.proofs.lemmas.Bool.{cases_eq, ne_eqb}
use Rattle.std.proofs.lemmas.List.{get_or-set_other, get_or-set_same, length-set}
use Rattle.std.proofs.lemmas.List.Sums.{sum_by-cons, sum_by-set}
use Rattle.sp_reduce.specs.declared.link.Link.{Link}
use Rattle.sp_reduce.specs.Nets.{hits, pair, into, out_of}
use Rattle.sp_reduce.proofs.Ends.{split, hits-le, hits-same}
use Rattle.sp_reduce.specs.NetGraphs.{arc, arc_weight, counted, IsIrreducible}
use Rattle.graphs.specs.Graph.{end_of}
use Rattle.sp_reduce.specs.Work.{no_link, link_at, hit, link_weight, sum_links, graph_of, key_of, IsWork, HasNone, IsLink, stands}

pub hit-self : (v : ℕ) → hit v v ≡ 1
hit-self v = grind arith

pub hit-no : (u v : ℕ) → u ≢ v → hit u v ≡ 0
hit-no u v h = grind arith

-- ---- two links change

module _ (links : List Link) (i j : ℕ) (lt_i : i < length links) (lt_j : j < length links) (ne : i ≢ j) (new : Link) where
  pub changed-len : length (set (set links i new) j no_link) ≡ length links
  changed-len = omega (arith, length-set (set links i new) j no_link, length-set links i new)

  pub changed-first : get_or (set (set links i new) j no_link) i no_link ≡ new
  changed-first = get_or-set_other (set links i new) j i no_link no_link ne ∙ get_or-set_same links i new no_link lt_i

  pub changed-second : get_or (set (set links i new) j no_link) j no_link ≡ no_link
  changed-second = get_or-set_same (set links i new) j no_link no_link (omega (arith, length-set links i new))

  pub changed-other : (x : ℕ) → x ≢ i → x ≢ j → get_or (set (set links i new) j no_link) x no_link ≡ get_or links x no_link
  changed-other x ni nj = get_or-set_other (set links i new) j x no_link no_link nj ∙ get_or-set_other links i x new no_link ni

  pub changed-sum : (g : ℕ → ℕ → ℕ)
      → sum_links g (set (set links i new) j no_link) + (link_weight g (get_or links i no_link) + link_weight g (get_or links j no_link))
      ≡ sum_links g links + link_weight g new
  changed-sum g =
      let a = sum_by-set (link_weight g) links i new no_link lt_i in
      let b = sum_by-set (link_weight g) (set links i new) j no_link no_link (omega (arith, length-set links i new)) in
      let c = ap (link_weight g) (get_or-set_other links i j new no_link (λ z. ne (sym z))) in
      omega (arith, a, b, c)

-- ---- a task is taken out

-- what is known when the links i into v and j out of v become one from p to s
pub record Meets (n : ℕ) (rank : ℕ → ℕ) (links : List Link) (ins outs : List ℕ) (v i j p s : ℕ) : Type 0 where
  pub first : IsLink links i p v
  pub second : IsLink links j v s
  pub task : 1 ≤ v
  pub small : v ≤ n
  pub apart : i ≢ j
  pub other_p : p ≢ v
  pub other_s : s ≢ v
  pub small_p : p ≤ n
  pub small_s : s ≤ n
  pub lower : 1 ≤ p → 1 ≤ s → rank p < rank s
  pub one_in : get_or ins v 0 ≡ 1
  pub one_out : get_or outs v 0 ≡ 1

pub meets : (n : ℕ) (rank : ℕ → ℕ) (links : List Link) (ins outs in_at out_at : List ℕ) (table : ℕ → Option ℕ) (v : ℕ)
    → IsWork n rank links ins outs in_at out_at table → 1 ≤ v → v ≤ n
    → get_or ins v 0 ≡ 1 → get_or outs v 0 ≡ 1
    → Meets n rank links ins outs v (get_or in_at v 0) (get_or out_at v 0)
    (link_at links (get_or in_at v 0)).from (link_at links (get_or out_at v 0)).to
meets n rank links ins outs in_at out_at table v w low high one_in one_out =
    let i = get_or in_at v 0 in
    let j = get_or out_at v 0 in
    let a = w.in_at_is v high (omega arith) in
    let b = w.out_at_is v high (omega arith) in
    let up : 1 ≤ (link_at links i).from → rank (link_at links i).from < rank v =
    λ h. subst (λ z. rank (link_at links i).from < rank z) a.2 (w.rising i a.0 a.1 h (omega (arith, a.2))) in
    let on : 1 ≤ (link_at links j).to → rank v < rank (link_at links j).to =
    λ h. subst (λ z. rank z < rank (link_at links j).to) b.2 (w.rising j b.0 b.1 (omega (arith, b.2)) h) in
    record {
      first = record { within = a.0; alive = a.1; from = refl; to = a.2 };
      second = record { within = b.0; alive = b.1; from = b.2; to = refl };
      task = low;
      small = high;
      apart = λ e. (let back : (link_at links i).from ≡ v = subst (λ z. (link_at links z).from ≡ v) (sym e) b.2 in
          let h = up (omega (arith, back)) in
          let same : rank (link_at links i).from ≡ rank v = ap rank back in
          absurd (omega (arith, h, same)));
      other_p = λ e. (let h = up (omega arith) in let same : rank (link_at links i).from ≡ rank v = ap rank e in omega (arith, h, same));
      other_s = λ e. (let h = on (omega arith) in let same : rank (link_at links j).to ≡ rank v = ap rank e in omega (arith, h, same));
      small_p = (w.inside i a.0 a.1).0;
      small_s = (w.inside j b.0 b.1).1;
      lower = λ h k. omega (arith, up h, on k);
      one_in = one_in;
      one_out = one_out;
    }

pub alive-weight : (g : ℕ → ℕ → ℕ) (l : Link) (p q : ℕ) → l.alive ≡ true → l.from ≡ p → l.to ≡ q → link_weight g l ≡ g p q
alive-weight g l p q a e f = ap (λ b. cond b (g l.from l.to) 0) a ∙ (λ i. g (e i) (f i))

pub key-same : (a b p s : ℕ) → b < 2 ^ 32 → s < 2 ^ 32 → key_of a b ≡ key_of p s → (a ≡ p) × (b ≡ s)
key-same a b p s h k e = (omega arith, omega arith)

clash : false ≡ true → ⊥
clash e = cc

module _ (n : ℕ) (rank : ℕ → ℕ) (links : List Link) (ins outs in_at out_at : List ℕ)
    (table : ℕ → Option ℕ) (v i j p s : ℕ) (w : IsWork n rank links ins outs in_at out_at table)
    (m : Meets n rank links ins outs v i j p s) where
  -- the ends of a link that stays are not those that change
  pub not_i : (x u : ℕ) → (link_at links x).to ≡ u → u ≢ v → x ≢ i
  not_i x u e ne h = ne (sym e ∙ ap (λ z. (link_at links z).to) h ∙ m.first.to)

  pub not_j : (x u : ℕ) → (link_at links x).from ≡ u → u ≢ v → x ≢ j
  not_j x u e ne h = ne (sym e ∙ ap (λ z. (link_at links z).from) h ∙ m.second.from)

  not_j_to : (x u : ℕ) → (link_at links x).to ≡ u → u ≢ s → x ≢ j
  not_j_to x u e ne h = ne (sym e ∙ ap (λ z. (link_at links z).to) h ∙ m.second.to)

  sums : (new : Link) (g : ℕ → ℕ → ℕ)
      → sum_links g (set (set links i new) j no_link) + (g p v + g v s) ≡ sum_links g links + link_weight g new
  sums new g =
      let c = changed-sum links i j m.first.within m.second.within m.apart new g in
      omega (
        arith,
        c,
        alive-weight g (link_at links i) p v m.first.alive m.first.from m.first.to,
        alive-weight g (link_at links j) v s m.second.alive m.second.from m.second.to,
      )

  still_some : (counts : List ℕ) (u : ℕ) → v < length counts → 1 ≤ get_or (set counts v 0) u 0 → u ≢ v
  still_some counts u room some e =
      (let zero_now : get_or (set counts v 0) u 0 ≡ 0 = rw e (get_or-set_same counts v 0 0 room) in omega arith)

  -- no twin: the first link takes the place of both
  module _ (table' : ℕ → Option ℕ) (none : HasNone links p s) (here : table' (key_of p s) ≡ Some i)
      (else_same : (q : ℕ) → q ≢ key_of p s → table' q ≡ table q) (few : n < 2 ^ 32) where
    -- what holds of a link that is alive afterwards
    each : (P : ℕ → Link → Type 0) → P i (record { alive = true; from = p; to = s })
        → ((x : ℕ) → x ≢ i → x ≢ j → x < length links → (link_at links x).alive ≡ true → P x (link_at links x))
        → (x : ℕ) → x < length (set (set links i (record { alive = true; from = p; to = s })) j no_link)
        → (link_at (set (set links i (record { alive = true; from = p; to = s })) j no_link) x).alive ≡ true
        → P x (link_at (set (set links i (record { alive = true; from = p; to = s })) j no_link) x)
    each P at_i others x h alive =
        let new : Link = record { alive = true; from = p; to = s } in
        let l : x < length links = omega (arith, changed-len links i j m.first.within m.second.within m.apart new) in
        elim (cases_eq x j) [
          | inl same ↦
              absurd (clash (sym (ap (λ (z : Link). z.alive) (changed-second links i j m.first.within m.second.within m.apart new))
              ∙ subst (λ z. (link_at (set (set links i new) j no_link) z).alive ≡ true) same alive))
          | inr nj ↦ elim (cases_eq x i) [
            | inl same ↦ subst (λ z. P z (link_at (set (set links i new) j no_link) z)) (sym same)
                (subst (P i) (sym (changed-first links i j m.first.within m.second.within m.apart new)) at_i)
            | inr ni ↦ (let e = changed-other links i j m.first.within m.second.within m.apart new x ni nj in
                subst (P x) (sym e) (others x ni nj l (sym (ap (λ (z : Link). z.alive) e) ∙ alive)))
          ]
        ]

    still : (x : ℕ) → x ≢ j → x < length links → (link_at links x).alive ≡ true → (u : ℕ) → (link_at links x).to ≡ u
        → u ≢ v → (link_at (set (set links i (record { alive = true; from = p; to = s })) j no_link) x ≡ link_at links x)
    still x nj l a u e ne =
        changed-other links i j m.first.within m.second.within m.apart (record { alive = true; from = p; to = s }) x (not_i x u e ne) nj

    pub joined_work : IsWork n rank (set (set links i (record { alive = true; from = p; to = s })) j no_link)
        (set ins v 0) (set outs v 0) (set in_at s i) out_at table'
    joined_work =
        let new : Link = record { alive = true; from = p; to = s } in
        let len = changed-len links i j m.first.within m.second.within m.apart new in
        record {
          lens = (
            omega (arith, length-set ins v 0, w.lens),
            omega (arith, length-set outs v 0, w.lens),
            omega (arith, length-set in_at s i, w.lens),
            w.lens.3,
          );
          inside = each (λ x l. (l.from ≤ n) × (l.to ≤ n)) (m.small_p, m.small_s) (λ x ni nj h a. w.inside x h a);
          rising = each (λ x l. 1 ≤ l.from → 1 ≤ l.to → rank l.from < rank l.to) m.lower (λ x ni nj h a. w.rising x h a);
          ins_are = λ u h.
              let c = sums new (λ x y. hit y u) in
              elim (cases_eq u v) [
                | inl same ↦
                    (let written : get_or (set ins v 0) u 0 ≡ 0 = rw same (get_or-set_same ins v 0 0 (omega (arith, w.lens, m.small))) in
                    let ones : hit v u ≡ 1 = rw same (hit-self v) in
                    let was : sum_links (λ x y. hit y u) links ≡ 1 = rw same (sym (w.ins_are v m.small) ∙ m.one_in) in
                    omega (arith, written, ones, was, c))
                | inr other ↦ (let kept = get_or-set_other ins v u 0 0 other in
                    omega (arith, kept, w.ins_are u h, c, hit-no v u (λ e. other (sym e))))
              ];
          outs_are = λ u h.
              let c = sums new (λ x y. hit x u) in
              elim (cases_eq u v) [
                | inl same ↦
                    (let written : get_or (set outs v 0) u 0 ≡ 0 = rw same (get_or-set_same outs v 0 0 (omega (arith, w.lens, m.small))) in
                    let ones : hit v u ≡ 1 = rw same (hit-self v) in
                    let was : sum_links (λ x y. hit x u) links ≡ 1 = rw same (sym (w.outs_are v m.small) ∙ m.one_out) in
                    omega (arith, written, ones, was, c))
                | inr other ↦ (let kept = get_or-set_other outs v u 0 0 other in
                    omega (arith, kept, w.outs_are u h, c, hit-no v u (λ e. other (sym e))))
              ];
          in_at_is = λ u h some. elim (cases_eq u s) [
            | inl same ↦
                (let e : get_or (set in_at s i) u 0 ≡ i = rw same (get_or-set_same in_at s i 0 (omega (arith, w.lens, m.small_s))) in
                let l = changed-first links i j m.first.within m.second.within m.apart new in
                subst (λ z. (z < length (set (set links i new) j no_link)) × ((link_at (set (set links i new) j no_link) z).alive ≡ true)
                × ((link_at (set (set links i new) j no_link) z).to ≡ u)) (sym e)
                (omega (arith, len, m.first.within), ap (λ (z : Link). z.alive) l, ap (λ (z : Link). z.to) l ∙ sym same))
            | inr other ↦ (let nv : u ≢ v = still_some ins u (omega (arith, w.lens, m.small)) some in
                let a = w.in_at_is u h (omega (arith, some, get_or-set_other ins v u 0 0 nv)) in
                let x = get_or in_at u 0 in
                let l = still x (not_j_to x u a.2 other) a.0 a.1 u a.2 nv in
                let e : get_or (set in_at s i) u 0 ≡ x = get_or-set_other in_at s u i 0 other in
                subst (λ z. (z < length (set (set links i new) j no_link)) × ((link_at (set (set links i new) j no_link) z).alive ≡ true)
                × ((link_at (set (set links i new) j no_link) z).to ≡ u)) (sym e)
                (omega (arith, len, a.0), ap (λ (z : Link). z.alive) l ∙ a.1, ap (λ (z : Link). z.to) l ∙ a.2))
          ];
          out_at_is = λ u h some.
              let nv : u ≢ v = still_some outs u (omega (arith, w.lens, m.small)) some in
              let a = w.out_at_is u h (omega (arith, some, get_or-set_other outs v u 0 0 nv)) in
              let x = get_or out_at u 0 in
              let nj = not_j x u a.2 nv in
              elim (cases_eq x i) [
                | inl same ↦ (let l = changed-first links i j m.first.within m.second.within m.apart new in
                    let from_u : p ≡ u = sym m.first.from ∙ subst (λ z. (link_at links z).from ≡ u) same a.2 in
                    subst
                    (λ z. (z < length (set (set links i new) j no_link)) × ((link_at (set (set links i new) j no_link) z).alive ≡ true)
                    × ((link_at (set (set links i new) j no_link) z).from ≡ u)) (sym same)
                    (omega (arith, len, m.first.within), ap (λ (z : Link). z.alive) l, ap (λ (z : Link). z.from) l ∙ from_u))
                | inr ni ↦ (let l = changed-other links i j m.first.within m.second.within m.apart new x ni nj in
                    (omega (arith, len, a.0), ap (λ (z : Link). z.alive) l ∙ a.1, ap (λ (z : Link). z.from) l ∙ a.2))
              ];
          keyed = each (λ x l. table' (key_of l.from l.to) ≡ Some x) here
              (λ x ni nj h a. else_same (key_of (link_at links x).from (link_at links x).to)
              (λ e. let k = key-same (link_at links x).from (link_at links x).to p s
              (omega (arith, (w.inside x h a).1)) (omega (arith, m.small_s)) e in
              none x h a k.0 k.1)
              ∙ w.keyed x h a);
        }

  -- a twin: both links go
  module _ (k : ℕ) (twin : IsLink links k p s) (few : n < 2 ^ 32) where
    ni_k : k ≢ i
    ni_k = not_i k s twin.to m.other_s

    nj_k : k ≢ j
    nj_k = not_j k p twin.from m.other_p

    each_left : (P : ℕ → Link → Type 0)
        → ((x : ℕ) → x ≢ i → x ≢ j → x < length links → (link_at links x).alive ≡ true → P x (link_at links x))
        → (x : ℕ) → x < length (set (set links i no_link) j no_link)
        → (link_at (set (set links i no_link) j no_link) x).alive ≡ true → P x (link_at (set (set links i no_link) j no_link) x)
    each_left P others x h alive =
        let l : x < length links = omega (arith, changed-len links i j m.first.within m.second.within m.apart no_link) in
        elim (cases_eq x j) [
          | inl same ↦
              absurd (clash (sym (ap (λ (z : Link). z.alive) (changed-second links i j m.first.within m.second.within m.apart no_link))
              ∙ subst (λ z. (link_at (set (set links i no_link) j no_link) z).alive ≡ true) same alive))
          | inr nj ↦ elim (cases_eq x i) [
            | inl same ↦
                absurd (clash (sym (ap (λ (z : Link). z.alive) (changed-first links i j m.first.within m.second.within m.apart no_link))
                ∙ subst (λ z. (link_at (set (set links i no_link) j no_link) z).alive ≡ true) same alive))
            | inr ni ↦ (let e = changed-other links i j m.first.within m.second.within m.apart no_link x ni nj in
                subst (P x) (sym e) (others x ni nj l (sym (ap (λ (z : Link). z.alive) e) ∙ alive)))
          ]
        ]

    -- two counts change
    lowered : (counts : List ℕ) (o : ℕ) (g : ℕ → ℕ → ℕ → ℕ) → length counts ≡ suc n
        → o ≤ n → o ≢ v → ((u : ℕ) → u ≤ n → get_or counts u 0 ≡ sum_links (g u) links)
        → ((u : ℕ) → g u p v + g u v s ≡ hit o u + hit v u) → get_or counts v 0 ≡ 1
        → (u : ℕ) → u ≤ n
        → get_or (set (set counts v 0) o (get_or (set counts v 0) o 0 - 1)) u 0 ≡ sum_links (g u) (set (set links i no_link) j no_link)
    lowered counts o g len small_o ne are takes one u h =
        let c = sums no_link (g u) in
        let first = get_or-set_other counts v o 0 0 ne in
        let len' : length (set counts v 0) ≡ suc n = omega (arith, length-set counts v 0) in
        elim (cases_eq u o) [
          | inl same ↦
              (let written : get_or (set (set counts v 0) o (get_or (set counts v 0) o 0 - 1)) u 0 ≡ get_or (set counts v 0) o 0 - 1 =
              rw same (get_or-set_same (set counts v 0) o (get_or (set counts v 0) o 0 - 1) 0 (omega arith)) in
              let was : get_or counts o 0 ≡ sum_links (g u) links = subst (λ z. get_or counts z 0 ≡ sum_links (g u) links) same (are u h) in
              let one_o : hit o u ≡ 1 = rw same (hit-self o) in
              omega (arith, written, first, was, c, takes u, one_o, hit-no v u (λ e. ne (sym same ∙ sym e))))
          | inr other ↦ (let kept = get_or-set_other (set counts v 0) o u (get_or (set counts v 0) o 0 - 1) 0 other in
              elim (cases_eq u v) [
                | inl same ↦
                    (let written : get_or (set counts v 0) u 0 ≡ 0 = rw same (get_or-set_same counts v 0 0 (omega (arith, m.small))) in
                    let was : sum_links (g u) links ≡ 1 = sym (are u h) ∙ ap (λ z. get_or counts z 0) same ∙ one in
                    let one_v : hit v u ≡ 1 = rw same (hit-self v) in
                    omega (arith, kept, written, was, c, takes u, one_v))
                | inr apart ↦ (let kept_v = get_or-set_other counts v u 0 0 apart in
                    omega (arith, kept, kept_v, are u h, c, takes u, hit-no o u (λ e. other (sym e)), hit-no v u (λ e. apart (sym e))))
              ])
        ]

    twin_now : (link_at (set (set links i no_link) j no_link) k ≡ link_at links k)
    twin_now = changed-other links i j m.first.within m.second.within m.apart no_link k ni_k nj_k

    len_now : length (set (set links i no_link) j no_link) ≡ length links
    len_now = changed-len links i j m.first.within m.second.within m.apart no_link

    some_before : (counts : List ℕ) (o u : ℕ) → length counts ≡ suc n → o ≢ v → u ≢ o
        → 1 ≤ get_or (set (set counts v 0) o (get_or (set counts v 0) o 0 - 1)) u 0 → (u ≢ v) × (1 ≤ get_or counts u 0)
    some_before counts o u len ne other some =
        let kept = get_or-set_other (set counts v 0) o u (get_or (set counts v 0) o 0 - 1) 0 other in
        let nv : u ≢ v = still_some counts u (omega (arith, m.small)) (omega arith) in
        (nv, omega (arith, kept, get_or-set_other counts v u 0 0 nv))

    pub merged_work : IsWork n rank (set (set links i no_link) j no_link) (set (set ins v 0) s (get_or (set ins v 0) s 0 - 1))
        (set (set outs v 0) p (get_or (set outs v 0) p 0 - 1)) (set in_at s k) (set out_at p k) table
    merged_work = record {
      lens = (
        omega (arith, length-set ins v 0, length-set (set ins v 0) s (get_or (set ins v 0) s 0 - 1), w.lens),
        omega (arith, length-set outs v 0, length-set (set outs v 0) p (get_or (set outs v 0) p 0 - 1), w.lens),
        omega (arith, length-set in_at s k, w.lens),
        omega (arith, length-set out_at p k, w.lens),
      );
      inside = each_left (λ x l. (l.from ≤ n) × (l.to ≤ n)) (λ x ni nj h a. w.inside x h a);
      rising = each_left (λ x l. 1 ≤ l.from → 1 ≤ l.to → rank l.from < rank l.to) (λ x ni nj h a. w.rising x h a);
      ins_are = lowered ins s (λ u x y. hit y u) w.lens.0 m.small_s m.other_s w.ins_are (λ u. omega arith) m.one_in;
      outs_are = lowered outs p (λ u x y. hit x u) w.lens.1 m.small_p m.other_p w.outs_are (λ u. refl) m.one_out;
      in_at_is = λ u h some. elim (cases_eq u s) [
        | inl same ↦ (let e : get_or (set in_at s k) u 0 ≡ k = rw same (get_or-set_same in_at s k 0 (omega (arith, w.lens, m.small_s))) in
            subst
            (λ z. (z < length (set (set links i no_link) j no_link)) × ((link_at (set (set links i no_link) j no_link) z).alive ≡ true)
            × ((link_at (set (set links i no_link) j no_link) z).to ≡ u)) (sym e) (
              omega (arith, len_now, twin.within),
              ap (λ (z : Link). z.alive) twin_now ∙ twin.alive,
              ap (λ (z : Link). z.to) twin_now ∙ twin.to ∙ sym same,
            ))
        | inr other ↦ (let b = some_before ins s u w.lens.0 m.other_s other some in
            let a = w.in_at_is u h b.1 in
            let x = get_or in_at u 0 in
            let l = changed-other links i j m.first.within m.second.within m.apart no_link x (not_i x u a.2 b.0) (not_j_to x u a.2 other) in
            let e : get_or (set in_at s k) u 0 ≡ x = get_or-set_other in_at s u k 0 other in
            subst
            (λ z. (z < length (set (set links i no_link) j no_link)) × ((link_at (set (set links i no_link) j no_link) z).alive ≡ true)
            × ((link_at (set (set links i no_link) j no_link) z).to ≡ u)) (sym e)
            (omega (arith, len_now, a.0), ap (λ (z : Link). z.alive) l ∙ a.1, ap (λ (z : Link). z.to) l ∙ a.2))
      ];
      out_at_is = λ u h some. elim (cases_eq u p) [
        | inl same ↦ (let e : get_or (set out_at p k) u 0 ≡ k = rw same (get_or-set_same out_at p k 0 (omega (arith, w.lens, m.small_p))) in
            subst
            (λ z. (z < length (set (set links i no_link) j no_link)) × ((link_at (set (set links i no_link) j no_link) z).alive ≡ true)
            × ((link_at (set (set links i no_link) j no_link) z).from ≡ u)) (sym e) (
              omega (arith, len_now, twin.within),
              ap (λ (z : Link). z.alive) twin_now ∙ twin.alive,
              ap (λ (z : Link). z.from) twin_now ∙ twin.from ∙ sym same,
            ))
        | inr other ↦ (let b = some_before outs p u w.lens.1 m.other_p other some in
            let a = w.out_at_is u h b.1 in
            let x = get_or out_at u 0 in
            let ni : x ≢ i = λ z. other (sym a.2 ∙ ap (λ y. (link_at links y).from) z ∙ m.first.from) in
            let l = changed-other links i j m.first.within m.second.within m.apart no_link x ni (not_j x u a.2 b.0) in
            let e : get_or (set out_at p k) u 0 ≡ x = get_or-set_other out_at p u k 0 other in
            subst
            (λ z. (z < length (set (set links i no_link) j no_link)) × ((link_at (set (set links i no_link) j no_link) z).alive ≡ true)
            × ((link_at (set (set links i no_link) j no_link) z).from ≡ u)) (sym e)
            (omega (arith, len_now, a.0), ap (λ (z : Link). z.alive) l ∙ a.1, ap (λ (z : Link). z.from) l ∙ a.2))
      ];
      keyed = each_left (λ x l. table (key_of l.from l.to) ≡ Some x) (λ x ni nj h a. w.keyed x h a);
    }

-- ---- the rows

pub graph-sum : (f : Option ℕ → ℕ → Option ℕ → ℕ) (links : List Link)
    → sum_by (arc_weight f) (graph_of links) ≡ sum_links (λ a b. f (end_of a) 0 (end_of b)) links
graph-sum f [] = refl
graph-sum f (l ∷ ls) = omega (arith, graph-sum f ls, here l.alive, sum_by-cons (link_weight (λ a b. f (end_of a) 0 (end_of b))) l ls)
  where
    here : (b : Bool)
        → sum_by (arc_weight f) (cond b (arc (end_of l.from) 0 (end_of l.to) ∷ graph_of ls) (graph_of ls))
        ≡ cond b (f (end_of l.from) 0 (end_of l.to)) 0 + sum_by (arc_weight f) (graph_of ls)
    here true = sum_by-cons (arc_weight f) (arc (end_of l.from) 0 (end_of l.to)) (graph_of ls)
    here false = omega arith

pub end-some : (v : ℕ) → 1 ≤ v → end_of v ≡ Some v
end-some zero h = absurd (omega arith)
end-some (suc v) h = refl

pub hits-end : (q v : ℕ) → 1 ≤ v → hits (end_of q) (Some v) ≡ hit q v
hits-end zero zero h = absurd (omega arith)
hits-end zero (suc v) h = sym (hit-no 0 (suc v) (omega arith))
hits-end (suc q) v h = refl

pub counts-same : (g h : ℕ → ℕ → ℕ) → ((a b : ℕ) → g a b ≡ h a b) → (links : List Link) → sum_links g links ≡ sum_links h links
counts-same g h each [] = refl
counts-same g h each (l ∷ ls) = omega (
  arith,
  counts-same g h each ls,
  ap (λ n. cond l.alive n 0) (each l.from l.to),
  sum_by-cons (link_weight g) l ls,
  sum_by-cons (link_weight h) l ls,
)

module _ (n : ℕ) (rank : ℕ → ℕ) (links : List Link) (ins outs in_at out_at : List ℕ)
    (table : ℕ → Option ℕ) (v i j p s : ℕ) (w : IsWork n rank links ins outs in_at out_at table)
    (m : Meets n rank links ins outs v i j p s) where
  pub two_sums : (new : Link) (g : ℕ → ℕ → ℕ)
      → sum_links g (set (set links i new) j no_link) + (g p v + g v s) ≡ sum_links g links + link_weight g new
  two_sums new g = sums n rank links ins outs in_at out_at table v i j p s w m new g

  pub some_out : 1 ≤ get_or (set outs v 0) p 0
  some_out = omega (arith, get_or-set_other outs v p 0 0 m.other_p, w.outs_are p m.small_p, two_sums no_link (λ x y. hit x p), hit-self p)

  pub some_in : 1 ≤ get_or (set ins v 0) s 0
  some_in = omega (arith, get_or-set_other ins v s 0 0 m.other_s, w.ins_are s m.small_s, two_sums no_link (λ x y. hit y s), hit-self s)

  -- the counts that change, and one link less
  pub joined_others : (u : ℕ) → u ≢ v → u ≢ p → u ≢ s
      → (get_or (set ins v 0) u 0 ≡ get_or ins u 0) × (get_or (set outs v 0) u 0 ≡ get_or outs u 0)
  joined_others u nv np ns = (get_or-set_other ins v u 0 0 nv, get_or-set_other outs v u 0 0 nv)

  pub joined_zero : get_or (set ins v 0) v 0 ≡ 0
  joined_zero = get_or-set_same ins v 0 0 (omega (arith, w.lens, m.small))

  pub merged_others : (a b u : ℕ) → u ≢ v → u ≢ p → u ≢ s
      → (get_or (set (set ins v 0) s a) u 0 ≡ get_or ins u 0) × (get_or (set (set outs v 0) p b) u 0 ≡ get_or outs u 0)
  merged_others a b u nv np ns = (
    get_or-set_other (set ins v 0) s u a 0 ns ∙ get_or-set_other ins v u 0 0 nv,
    get_or-set_other (set outs v 0) p u b 0 np ∙ get_or-set_other outs v u 0 0 nv,
  )

  pub merged_zero : (a : ℕ) → get_or (set (set ins v 0) s a) v 0 ≡ 0
  merged_zero a = get_or-set_other (set ins v 0) s v a 0 (λ e. m.other_s (sym e)) ∙ joined_zero

  pub joined_fewer :
      sum_links (λ x y. 1) (set (set links i (record { alive = true; from = p; to = s })) j no_link) + 1 ≡ sum_links (λ x y. 1) links
  joined_fewer = omega (arith, two_sums (record { alive = true; from = p; to = s }) (λ x y. 1))

  pub merged_fewer : sum_links (λ x y. 1) (set (set links i no_link) j no_link) + 2 ≡ sum_links (λ x y. 1) links
  merged_fewer = omega (arith, two_sums no_link (λ x y. 1))

-- ---- the end: nothing more to do

all_below : (n v : ℕ) (g : Link → ℕ) (links : List Link)
    → ((x : ℕ) → x < length links → (link_at links x).alive ≡ true → g (link_at links x) ≡ 0)
    → sum_by (λ l. cond l.alive (g l) 0) links ≡ 0
all_below n v g [] h = refl
all_below n v g (l ∷ ls) h = omega (
  arith,
  sum_by-cons (λ (y : Link). cond y.alive (g y) 0) l ls,
  all_below n v g ls (λ x lt a. h (suc x) (omega arith) a),
  here l.alive (λ a. h 0 (omega arith) a),
)
  where
    here : (b : Bool) → (b ≡ true → g l ≡ 0) → cond b (g l) 0 ≡ 0
    here true k = k refl
    here false k = refl

-- where no two links that are alive weigh something, and none more than one, the sum is at most one
at_most_one : (g : Link → ℕ) (links : List Link) → ((l : Link) → g l ≤ 1)
    → ((x y : ℕ) → x < length links → y < length links → (link_at links x).alive ≡ true
    → (link_at links y).alive ≡ true → 1 ≤ g (link_at links x) → 1 ≤ g (link_at links y) → x ≡ y)
    → sum_by (λ l. cond l.alive (g l) 0) links ≤ 1
at_most_one g [] le same = omega arith
at_most_one g (l ∷ ls) le same =
    let e = sum_by-cons (λ (y : Link). cond y.alive (g y) 0) l ls in
    let rest = at_most_one g ls le (λ x y lx ly ax ay hx hy. omega (arith, same (suc x) (suc y) (omega arith) (omega arith) ax ay hx hy)) in
    split 1 (cond l.alive (g l) 0)
    (λ h. let first = one_alive l.alive h in
    let none = all_below 0 0 g ls (λ x lt a. split 1 (g (link_at ls x)) (λ k. absurd (omega (
      arith,
      same 0 (suc x) (omega arith) (omega arith) first.0 a first.1 k,
    ))) (λ k. omega arith)) in
    omega (arith, e, none, le l, cond_le l.alive))
    (λ h. omega (arith, e, rest))
  where
    one_alive : (b : Bool) → 1 ≤ cond b (g l) 0 → (b ≡ true) × (1 ≤ g l)
    one_alive true h = (refl, h)
    one_alive false h = absurd (omega arith)

    cond_le : (b : Bool) → cond b (g l) 0 ≤ g l
    cond_le true = omega arith
    cond_le false = omega arith

end-same : (a b : ℕ) → end_of a ≡ end_of b → a ≡ b
end-same zero zero e = refl
end-same zero (suc b) e = absurd cc
end-same (suc a) zero e = absurd cc
end-same (suc a) (suc b) e = cc

some-same : (x y : ℕ) → ◌≡◌ {A = Option ℕ} (Some x) (Some y) → x ≡ y
some-same x y e = cc

end-none : (q : ℕ) → hits (end_of q) (Some 0) ≡ 0
end-none zero = refl
end-none (suc q) = hit-no (suc q) 0 (omega arith)

pub idle-irreducible : (n : ℕ) (rank : ℕ → ℕ) (links : List Link) (ins outs in_at out_at : List ℕ) (table : ℕ → Option ℕ)
    → IsWork n rank links ins outs in_at out_at table
    → ((v : ℕ) → 1 ≤ v → v ≤ n → get_or ins v 0 ≡ 1 → get_or outs v 0 ≡ 1 → ⊥) → IsIrreducible (graph_of links)
idle-irreducible n rank links ins outs in_at out_at table w idle = record {
  no_pair = λ p q.
      let one = at_most_one (λ l. pair p q (end_of l.from) (end_of l.to)) links (λ l. omega (arith, hits-le (end_of l.from) p))
      (λ x y lx ly ax ay hx hy.
      let fx = hits-same (end_of (link_at links x).from) p (omega arith) in
      let fy = hits-same (end_of (link_at links y).from) p (omega arith) in
      let tx = hits-same (end_of (link_at links x).to) q (omega arith) in
      let ty = hits-same (end_of (link_at links y).to) q (omega arith) in
      let f = end-same (link_at links x).from (link_at links y).from (fx ∙ sym fy) in
      let t = end-same (link_at links x).to (link_at links y).to (tx ∙ sym ty) in
      some-same x y (sym (w.keyed x lx ax) ∙ (λ i. table (key_of (f i) (t i))) ∙ w.keyed y ly ay)) in
      omega (arith, one, graph-sum (λ a k b. pair p q a b) links);
  no_task = λ v i o. tasks_done v i o;
}
  where
    into_is : (v : ℕ) → 1 ≤ v → counted (into (Some v)) (graph_of links) ≡ sum_links (λ a b. hit b v) links
    into_is v h = graph-sum (λ a k b. into (Some v) a b) links
        ∙ counts-same (λ a b. hits (end_of b) (Some v)) (λ a b. hit b v) (λ a b. hits-end b v h) links

    out_is : (v : ℕ) → 1 ≤ v → counted (out_of (Some v)) (graph_of links) ≡ sum_links (λ a b. hit a v) links
    out_is v h = graph-sum (λ a k b. out_of (Some v) a b) links
        ∙ counts-same (λ a b. hits (end_of a) (Some v)) (λ a b. hit a v) (λ a b. hits-end a v h) links

    tasks_done : (v : ℕ) → counted (into (Some v)) (graph_of links) ≡ 1 → counted (out_of (Some v)) (graph_of links) ≡ 1 → ⊥
    tasks_done zero i o =
        let e = graph-sum (λ a k b. into (Some 0) a b) links in
        let z = all_below 0 0 (λ l. hits (end_of l.to) (Some 0)) links (λ x lt a. end-none (link_at links x).to) in
        omega (arith, i, e, z)
    tasks_done (suc v) i o = split (suc v) n
        (λ h. idle (suc v) (omega arith) h (omega (arith, w.ins_are (suc v) h, into_is (suc v) (omega arith), i))
        (omega (arith, w.outs_are (suc v) h, out_is (suc v) (omega arith), o)))
        (λ h. let z = all_below 0 0 (λ l. hit l.to (suc v)) links
        (λ x lt a. hit-no (link_at links x).to (suc v) (omega (arith, (w.inside x lt a).1))) in
        omega (arith, i, into_is (suc v) (omega arith), z))

pub stands_none : (u : ℕ) (ts : List ℕ) → length ts ≡ 0 → stands u ts ≡ true → ⊥
stands_none u [] e h = clash h
stands_none u (t ∷ ts) e h = absurd (omega arith)

-- what stands in a list stands in it without its last, or is that
pub stands_before : (u t : ℕ) (ts : List ℕ) → u ≢ t → stands u (ts ++ t ∷ []) ≡ true → stands u ts ≡ true
stands_before u t [] ne h = absurd (ne_both (nat_eq t u) (ne_eqb t u (λ e. ne (sym e))) h)
  where
    ne_both : (b : Bool) → b ≡ false → (b || false) ≡ true → ⊥
    ne_both true e k = cc
    ne_both false e k = cc
stands_before u t (x ∷ ts) ne h = go (nat_eq x u) (stands_before u t ts ne) h
  where
    go : (b : Bool) → (stands u (ts ++ t ∷ []) ≡ true → stands u ts ≡ true)
        → (b || stands u (ts ++ t ∷ [])) ≡ true → (b || stands u ts) ≡ true
    go true k e = refl
    go false k e = k e
