-- Where terms begin, and how many tasks there are up to a position.
use Rattle.std.proofs.Common.{◌≡◌, ℕ, suc, ◌+◌, ◌-◌, ◌<◌, ◌≤◌, List, [], ◌∷◌, ◌++◌, length, take, get_or, refl, sym, ap, ◌∙◌, arith}
use Rattle.std.proofs.Common.{length-append, inl, inr}
use Rattle.std.proofs.Math.Seq.{get_or-append_seam}
use Rattle.std.proofs.lemmas.List.{get_or_append_left}
use Rattle.std.proofs.lemmas.List.Sums.{sum_by_more, sum_by-take-le}
use Rattle.std.proofs.lemmas.Bool.{cases_lt}
use Rattle.limits.specs.Limits.{most_tasks}
use Rattle.std.specs.Prelude.{Some}
use Rattle.sp_terms.specs.declared.position.Position.{Position}
use Rattle.sp_terms.specs.declared.position.Position.TheVariants.{Hold}
use Rattle.sp_terms.specs.declared.position.Values.{Values}
use Rattle.sp_terms.specs.Term.{Term, width_of}
use Rattle.sp_terms.specs.Postfix.{push_all}
use Rattle.sp_terms.specs.Values.{added_tasks, AreValues, IsTerms, term_of, term_at, last_term, stack_from}
use Rattle.sp_terms.proofs.Stacks.{Pushed, held, ran, beside, place, under, some-position}
use Rattle.term_orders.specs.Steps.{tasks_among, AreStarts, AreCounts}
use Rattle.term_orders.proofs.ListedSteps.{within, counted, term_there}

abbrev pub no_values : Values
no_values = record { initial = 0; fin = 0; least = 0; width = 0 }

-- the starts up to a position
pub record AreStartsUpTo (values : List Values) (starts : List ℕ) (i : ℕ) : Type 0 where
  pub len : length starts ≡ i + 1
  pub none : get_or starts 0 0 ≡ 0
  pub each : (k : ℕ) → k < i → get_or starts (k + 1) 0 ≡ k + 1 - (get_or values k no_values).width

-- a term has no more positions than there are
pub width_fits : (ps : List Position) (j : ℕ) → IsTerms ps → j < length ps → width_of (term_at ps j) ≤ j + 1
width_fits ps j terms lt =
    let p = place ps (term_of ps ∷ []) j (Hold 0) terms.is lt in
    go p.before p.after p.step p.then
  where
    sized : (t : Term) (stack : List Term) → push_all (take (suc j) ps) [] ≡ Some (t ∷ stack) → width_of (term_at ps j) ≤ j + 1
    sized t stack e =
        let room = (under ps (suc j) t stack (omega arith) e).room in
        let same : term_at ps j ≡ t = ap (λ o. last_term (stack_from o)) e in
        omega (arith, room, ap width_of same)

    go : (before after : List Term) → Pushed (get_or ps j (Hold 0)) before after → push_all (take (suc j) ps) [] ≡ Some after
        → width_of (term_at ps j) ≤ j + 1
    go before [] step e = absurd (nothing (get_or ps j (Hold 0)) before [] step refl)
      where
        nothing : (p : Position) (before after : List Term) → Pushed p before after → after ≡ [] → ⊥
        nothing p before after (held size st) e = cc
        nothing p before after (ran v a b st) e = cc
        nothing p before after (beside ts st g) e = cc
    go before (t ∷ stack) step e = sized t stack e

pub starts_are : (ps : List Position) (values : List Values) (starts : List ℕ) (i : ℕ) → IsTerms ps → length ps ≤ i
    → AreValues ps values (length ps) → AreStartsUpTo values starts i → AreStarts ps starts
starts_are ps values starts i terms all are up before t after split =
    let some = some-position t in
    let fits = within ps before t after split in
    let k = length before + width_of t - 1 in
    let index : length before + width_of t ≡ k + 1 = omega (arith, some) in
    let width : (get_or values k no_values).width ≡ width_of t =
    ap (λ (v : Values). v.width) (are k no_values (omega (arith, some, fits)))
    ∙ ap width_of (term_there ps before t after split terms) in
    ap (λ (n : ℕ). get_or starts n 0) index ∙ up.each k (omega (arith, some, fits)) ∙ omega (arith, width, index)

pub record AreCountsUpTo (ps : List Position) (counts : List ℕ) (i : ℕ) : Type 0 where
  pub len : length counts ≡ i + 1
  pub each : (k : ℕ) → k < i + 1 → get_or counts k 0 ≡ tasks_among (take k ps)

pub counts_are : (ps : List Position) (counts : List ℕ) (i : ℕ) → length ps ≤ i → AreCountsUpTo ps counts i → AreCounts ps counts
counts_are ps counts i all up before t after split =
    let fits = within ps before t after split in
    up.each (length before + width_of t) (omega (arith, fits)) ∙ counted ps before t after split

-- one position more
pub counts_next : (ps : List Position) (counts later : List ℕ) (i count next : ℕ) → i < length ps → AreCountsUpTo ps counts i
    → next ≡ tasks_among (take (i + 1) ps) → later ≡ counts ++ next ∷ [] → AreCountsUpTo ps later (i + 1)
counts_next ps counts later i count next lt up next_is later_is = record {
  len = omega (arith, ap (λ (l : List ℕ). length l) later_is, length-append counts (next ∷ []), up.len);
  each = λ k below. ap (λ (l : List ℕ). get_or l k 0) later_is ∙ elim (cases_lt k (i + 1)) [
    | inl old ↦ get_or_append_left counts (next ∷ []) 0 k (omega (arith, old, up.len)) ∙ up.each k old
    | inr new ↦ (
        let same : k ≡ length counts = omega (arith, up.len) in
        let last : k ≡ i + 1 = omega arith in
        ap (λ (j : ℕ). get_or (counts ++ next ∷ []) j 0) same ∙ get_or-append_seam counts next [] 0 ∙ next_is
        ∙ ap (λ (j : ℕ). tasks_among (take j ps)) (sym last))
  ];
}

pub count_next : (ps : List Position) (i count added next : ℕ) (d : Position) → i < length ps → count ≡ tasks_among (take i ps)
    → added ≡ added_tasks (get_or ps i d) → next ≡ count + added → next ≡ tasks_among (take (i + 1) ps)
count_next ps i count added next d lt count_is added_is next_is =
    omega (arith, count_is, added_is, next_is, sum_by_more added_tasks ps i d lt)

-- all tasks are few
pub count_small : (ps : List Position) (i : ℕ) → IsTerms ps → tasks_among (take i ps) ≤ most_tasks
count_small ps i terms = omega (arith, terms.few_tasks, sum_by-take-le added_tasks ps i)
