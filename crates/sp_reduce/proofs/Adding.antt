-- One link more.
use Rattle.std.proofs.Common.{◌≡◌, ◌≢◌, ℕ, zero, suc, ◌+◌, ◌^◌, ◌<◌, ◌≤◌, inl, inr, true, refl, sym, subst, ap, arith}
use Rattle.std.proofs.Common.{◌∙◌, List, [], ◌∷◌, ◌++◌, length, Option, Some, get_or, set, length-append}
use Rattle.std.proofs.lemmas.Bool.{cases_eq}
use Rattle.std.proofs.lemmas.List.{get_or-set_other, get_or-set_same, length-set}
use Rattle.std.proofs.lemmas.List.Sums.{sum_by_push}
use Rattle.sp_reduce.specs.declared.link.Link.{Link}
use Rattle.sp_reduce.specs.Work.{no_link, link, link_at, hit, link_weight, sum_links, key_of, AreLinksRanked, IsWork, HasNone}
use Rattle.sp_reduce.proofs.Works.{hit-self, hit-no, key-same}

at-left : (xs : List Link) (y : Link) (i : ℕ) → i < length xs → get_or (xs ++ y ∷ []) i no_link ≡ get_or xs i no_link
at-left [] y i h = absurd (omega arith)
at-left (x ∷ xs) y zero h = refl
at-left (x ∷ xs) y (suc i) h = at-left xs y i (omega arith)

at-last : (xs : List Link) (y : Link) → get_or (xs ++ y ∷ []) (length xs) no_link ≡ y
at-last [] y = refl
at-last (x ∷ xs) y = at-last xs y

module _ (n : ℕ) (rank : ℕ → ℕ) (links : List Link) (ins outs in_at out_at : List ℕ)
    (table table' : ℕ → Option ℕ) (p s : ℕ) (w : IsWork n rank links ins outs in_at out_at table)
    (small_p : p ≤ n) (small_s : s ≤ n) (lower : 1 ≤ p → 1 ≤ s → rank p < rank s) (none : HasNone links p s)
    (here : table' (key_of p s) ≡ Some (length links)) (else_same : (q : ℕ) → q ≢ key_of p s → table' q ≡ table q) (few : n < 2 ^ 32) where
  len : length (links ++ record { alive = true; from = p; to = s } ∷ []) ≡ suc (length links)
  len = omega (arith, length-append links (record { alive = true; from = p; to = s } ∷ []))

  each : (P : ℕ → Link → Type 0) → P (length links) (record { alive = true; from = p; to = s })
      → ((x : ℕ) → x < length links → (link_at links x).alive ≡ true → P x (link_at links x))
      → (x : ℕ) → x < length (links ++ record { alive = true; from = p; to = s } ∷ [])
      → (link_at (links ++ record { alive = true; from = p; to = s } ∷ []) x).alive ≡ true
      → P x (link_at (links ++ record { alive = true; from = p; to = s } ∷ []) x)
  each P at_last others x h alive =
      let new : Link = record { alive = true; from = p; to = s } in
      elim (cases_eq x (length links)) [
        | inl same ↦
            subst (λ z. P z (link_at (links ++ new ∷ []) z)) (sym same) (subst (P (length links)) (sym (at-last links new)) at_last)
        | inr other ↦ (let l : x < length links = omega (arith, len) in let e = at-left links new x l in
            subst (P x) (sym e) (others x l (sym (ap (λ (z : Link). z.alive) e) ∙ alive)))
      ]

  raised : (counts : List ℕ) (o : ℕ) (g : ℕ → ℕ → ℕ → ℕ) → length counts ≡ suc n → o ≤ n
      → ((u : ℕ) → u ≤ n → get_or counts u 0 ≡ sum_links (g u) links) → ((u : ℕ) → g u p s ≡ hit o u)
      → (u : ℕ) → u ≤ n
      → get_or (set counts o (get_or counts o 0 + 1)) u 0 ≡ sum_links (g u) (links ++ record { alive = true; from = p; to = s } ∷ [])
  raised counts o g len_c small are gives u h =
      let new : Link = record { alive = true; from = p; to = s } in
      let c = sum_by_push (link_weight (g u)) links new in
      elim (cases_eq u o) [
        | inl same ↦
            (let written : get_or (set counts o (get_or counts o 0 + 1)) u 0 ≡ get_or counts o 0 + 1 =
            rw same (get_or-set_same counts o (get_or counts o 0 + 1) 0 (omega arith)) in
            let was : get_or counts o 0 ≡ sum_links (g u) links = subst (λ z. get_or counts z 0 ≡ sum_links (g u) links) same (are u h) in
            let one : hit o u ≡ 1 = rw same (hit-self o) in
            omega (arith, written, was, c, gives u, one))
        | inr other ↦ omega
            (arith, get_or-set_other counts o u (get_or counts o 0 + 1) 0 other, are u h, c, gives u, hit-no o u (λ e. other (sym e)))
      ]

  pub added_work : IsWork n rank (links ++ record { alive = true; from = p; to = s } ∷ []) (set ins s (get_or ins s 0 + 1))
      (set outs p (get_or outs p 0 + 1)) (set in_at s (length links)) (set out_at p (length links)) table'
  added_work =
      let new : Link = record { alive = true; from = p; to = s } in
      record {
        lens = (
          omega (arith, length-set ins s (get_or ins s 0 + 1), w.lens),
          omega (arith, length-set outs p (get_or outs p 0 + 1), w.lens),
          omega (arith, length-set in_at s (length links), w.lens),
          omega (arith, length-set out_at p (length links), w.lens),
        );
        inside = each (λ x l. (l.from ≤ n) × (l.to ≤ n)) (small_p, small_s) w.inside;
        rising = each (λ x l. 1 ≤ l.from → 1 ≤ l.to → rank l.from < rank l.to) lower w.rising;
        ins_are = raised ins s (λ u x y. hit y u) w.lens.0 small_s w.ins_are (λ u. refl);
        outs_are = raised outs p (λ u x y. hit x u) w.lens.1 small_p w.outs_are (λ u. refl);
        in_at_is = λ u h some. elim (cases_eq u s) [
          | inl same ↦
              (let e : get_or (set in_at s (length links)) u 0 ≡ length links =
              rw same (get_or-set_same in_at s (length links) 0 (omega (arith, w.lens, small_s))) in
              subst (λ z. (z < length (links ++ new ∷ [])) × ((link_at (links ++ new ∷ []) z).alive ≡ true)
              × ((link_at (links ++ new ∷ []) z).to ≡ u)) (sym e)
              (omega (arith, len), ap (λ (z : Link). z.alive) (at-last links new), ap (λ (z : Link). z.to) (at-last links new) ∙ sym same))
          | inr other ↦ (let a = w.in_at_is u h (omega (arith, some, get_or-set_other ins s u (get_or ins s 0 + 1) 0 other)) in
              let x = get_or in_at u 0 in
              let l = at-left links new x a.0 in
              subst (λ z. (z < length (links ++ new ∷ [])) × ((link_at (links ++ new ∷ []) z).alive ≡ true)
              × ((link_at (links ++ new ∷ []) z).to ≡ u)) (sym (get_or-set_other in_at s u (length links) 0 other))
              (omega (arith, len, a.0), ap (λ (z : Link). z.alive) l ∙ a.1, ap (λ (z : Link). z.to) l ∙ a.2))
        ];
        out_at_is = λ u h some. elim (cases_eq u p) [
          | inl same ↦
              (let e : get_or (set out_at p (length links)) u 0 ≡ length links =
              rw same (get_or-set_same out_at p (length links) 0 (omega (arith, w.lens, small_p))) in
              subst (λ z. (z < length (links ++ new ∷ [])) × ((link_at (links ++ new ∷ []) z).alive ≡ true)
              × ((link_at (links ++ new ∷ []) z).from ≡ u)) (sym e) (
                omega (arith, len),
                ap (λ (z : Link). z.alive) (at-last links new),
                ap (λ (z : Link). z.from) (at-last links new) ∙ sym same,
              ))
          | inr other ↦ (let a = w.out_at_is u h (omega (arith, some, get_or-set_other outs p u (get_or outs p 0 + 1) 0 other)) in
              let x = get_or out_at u 0 in
              let l = at-left links new x a.0 in
              subst (λ z. (z < length (links ++ new ∷ [])) × ((link_at (links ++ new ∷ []) z).alive ≡ true)
              × ((link_at (links ++ new ∷ []) z).from ≡ u)) (sym (get_or-set_other out_at p u (length links) 0 other))
              (omega (arith, len, a.0), ap (λ (z : Link). z.alive) l ∙ a.1, ap (λ (z : Link). z.from) l ∙ a.2))
        ];
        keyed = each (λ x l. table' (key_of l.from l.to) ≡ Some x) here
            (λ x h a. else_same (key_of (link_at links x).from (link_at links x).to)
            (λ e. let k =
            key-same (link_at links x).from (link_at links x).to p s (omega (arith, (w.inside x h a).1)) (omega (arith, small_s)) e in
            none x h a k.0 k.1)
            ∙ w.keyed x h a);
      }

-- ---- ranks, with one link more

module _ (rank : ℕ → ℕ) (links : List Link) (p s : ℕ) where
  pub ranked-before : AreLinksRanked rank (links ++ link p s ∷ []) → AreLinksRanked rank links
  ranked-before h x lt alive low high =
      let e = at-left links (link p s) x lt in
      let now = h x (omega (arith, lt, length-append links (link p s ∷ []))) (ap (λ (l : Link). l.alive) e ∙ alive)
      (omega (arith, low, ap (λ (l : Link). l.from) e)) (omega (arith, high, ap (λ (l : Link). l.to) e)) in
      subst (λ (l : Link). rank l.from < rank l.to) e now

  pub ranked-new : AreLinksRanked rank (links ++ link p s ∷ []) → 1 ≤ p → 1 ≤ s → rank p < rank s
  ranked-new h low high =
      let e = at-last links (link p s) in
      let now = h (length links) (omega (arith, length-append links (link p s ∷ []))) (ap (λ (l : Link). l.alive) e)
      (omega (arith, low, ap (λ (l : Link). l.from) e)) (omega (arith, high, ap (λ (l : Link). l.to) e)) in
      subst (λ (l : Link). rank l.from < rank l.to) e now

  pub ranked-more : AreLinksRanked rank links → (1 ≤ p → 1 ≤ s → rank p < rank s) → AreLinksRanked rank (links ++ link p s ∷ [])
  ranked-more h lower x lt alive low high = elim (cases_eq x (length links)) [
    | inl same ↦ (let e = ap (λ y. link_at (links ++ link p s ∷ []) y) same ∙ at-last links (link p s) in
        subst (λ (l : Link). rank l.from < rank l.to) (sym e)
        (lower (omega (arith, low, ap (λ (l : Link). l.from) e)) (omega (arith, high, ap (λ (l : Link). l.to) e))))
    | inr other ↦ (let l : x < length links = omega (arith, lt, other, length-append links (link p s ∷ [])) in
        let e = at-left links (link p s) x l in
        subst (λ (l : Link). rank l.from < rank l.to) (sym e)
        (h x l (sym (ap (λ (l : Link). l.alive) e) ∙ alive)
        (omega (arith, low, ap (λ (l : Link). l.from) e)) (omega (arith, high, ap (λ (l : Link). l.to) e))))
  ]

pub reranked : (n : ℕ) (rank rank' : ℕ → ℕ) (links : List Link) (ins outs in_at out_at : List ℕ) (table : ℕ → Option ℕ)
    → IsWork n rank links ins outs in_at out_at table → AreLinksRanked rank' links
    → IsWork n rank' links ins outs in_at out_at table
reranked n rank rank' links ins outs in_at out_at table w h = record {
  lens = w.lens;
  inside = w.inside;
  rising = h;
  ins_are = w.ins_are;
  outs_are = w.outs_are;
  in_at_is = w.in_at_is;
  out_at_is = w.out_at_is;
  keyed = w.keyed;
}
