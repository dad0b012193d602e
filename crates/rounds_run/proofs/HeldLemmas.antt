-- What is held, as tasks take the lists of their children and hand back their own.
use Rattle.std.proofs.Common.{◌≡◌, ◌≢◌, ℕ, ◌-◌, ◌<◌, ◌≤◌, inl, inr, Bool, true, false, ◌||◌, cond, eqb, List, []}
use Rattle.std.proofs.Common.{◌∷◌, ◌++◌, length, get_or, set, replicate, refl, sym, ap, subst, ◌∙◌, arith}
use Rattle.std.proofs.Math.Bool.{or-false}
use Rattle.std.proofs.lemmas.Bool.{cases_eq, both_ways, eq-eqb, ne_eqb, eqb-true, eqb-false, or_parts}
use Rattle.std.proofs.lemmas.Bool.{or_cases, or_left, or_right, cond-true, cond-false}
use Rattle.std.proofs.lemmas.List.{get_or-set_same, get_or-set_other, length-set, length-replicate, get_or-replicate}
use Rattle.std.proofs.lemmas.List.Folds.{list_any-append}
use Rattle.patterns.specs.Pattern.{has}
use Rattle.assembly_tree.specs.Assembly.{IsSuper, super_at}
use Rattle.rounds_run.specs.declared.front.Made.{Made}
use Rattle.rounds_run.specs.declared.held.Held.{Held}
use Rattle.rounds_run.specs.FrontRows.{list_of_front}
use Rattle.rounds_run.specs.Gathering.{in_lists}
use Rattle.rounds_run.specs.Holding.{Factor, IsHeld, IsMadeOf, rest_rows, front_rows}

in_lists_push : (lists : List (List ℕ)) (list : List ℕ) (i : ℕ) → in_lists (lists ++ list ∷ []) i ≡ (in_lists lists i || has list i)
in_lists_push lists list i =
    list_any-append (λ z. has z i) lists (list ∷ []) ∙ ap (λ (b : Bool). in_lists lists i || b) (or-false (has list i))

-- nothing is made yet
pub held_first : (f : Factor) (held : Held) (n : ℕ) → length f.supers ≡ n
    → held.rows.items ≡ replicate n [] → held.inboxes.items ≡ replicate n []
    → IsHeld f (λ _. false) (λ _. false) held
held_first f held n many rows inboxes = record {
  rows_long = ap (λ (z : List (List ℕ)). length z) rows ∙ length-replicate n [] ∙ sym many;
  inboxes_long = ap (λ (z : List (List (List ℕ))). length z) inboxes ∙ length-replicate n [] ∙ sym many;
  kept = λ s super done. absurd (both_ways _ refl done);
  handed = λ s super taken i.
      let none : get_or held.inboxes.items (s - 1) [] ≡ [] =
      ap (λ (z : List (List (List ℕ))). get_or z (s - 1) []) inboxes
      ∙ get_or-replicate n (s - 1) [] [] (omega (arith, super.0, super.1, many)) in (
        λ there. absurd (both_ways _ refl (ap (λ z. in_lists z i) (sym none) ∙ there)),
        λ handed. absurd (both_ways _ refl handed.3),
      );
}

-- the same, of which supernodes were taken and done told otherwise
pub held_same : (f : Factor) (taken done also made : ℕ → Bool) (held : Held) → ((s : ℕ) → taken s ≡ also s) → ((s : ℕ) → done s ≡ made s)
    → IsHeld f taken done held → IsHeld f also made held
held_same f taken done also made held same_taken same_done is = record {
  rows_long = is.rows_long;
  inboxes_long = is.inboxes_long;
  kept = λ s super d. is.kept s super (same_done s ∙ d);
  handed = λ s super t i.
      let here = is.handed s super (same_taken s ∙ t) i in (
        λ there. (let h = here.0 there in (h.0, h.1, h.2, sym (same_done h.0) ∙ h.3, h.4)),
        λ h. here.1 (h.0, h.1, h.2, same_done h.0 ∙ h.3, h.4),
      );
}

-- supernode s took its lists
pub held_taken : (f : Factor) (taken done also : ℕ → Bool) (s : ℕ) (old new : Held) → 1 ≤ s → new.rows ≡ old.rows
    → new.inboxes.items ≡ set old.inboxes.items (s - 1) []
    → ((t : ℕ) → also t ≡ (taken t || eqb s t)) → IsHeld f taken done old → IsHeld f also done new
held_taken f taken done also s old new low rows inboxes more is = record {
  rows_long = ap (λ z. length z.items) rows ∙ is.rows_long;
  inboxes_long = ap (λ (z : List (List (List ℕ))). length z) inboxes ∙ length-set old.inboxes.items (s - 1) [] ∙ is.inboxes_long;
  kept = λ t super d. ap (λ z. list_of_front z.items t) rows ∙ is.kept t super d;
  handed = λ t super left i.
      let parts = or_parts (taken t) (eqb s t) (sym (more t) ∙ left) in
      let ne : t - 1 ≢ s - 1 = λ e. eqb-false s t parts.1 (omega (arith, e, low, super.0)) in
      let same : get_or new.inboxes.items (t - 1) [] ≡ get_or old.inboxes.items (t - 1) [] =
      ap (λ (z : List (List (List ℕ))). get_or z (t - 1) []) inboxes ∙ get_or-set_other old.inboxes.items (s - 1) (t - 1) [] [] ne in
      let here = is.handed t super parts.0 i in (
        λ there. here.0 (ap (λ z. in_lists z i) (sym same) ∙ there),
        λ h. ap (λ z. in_lists z i) same ∙ here.1 h,
      );
}

-- supernode s is made: its rows are kept, and what is past its columns goes to its parent
pub held_made : (f : Factor) (taken done also : ℕ → Bool) (s : ℕ) (made : Made) (old new : Held) → IsSuper f.supers s
    → (super_at f.supers s).parent ≤ length f.supers
    → new.rows.items ≡ set old.rows.items (s - 1) made.rows
    → new.inboxes.items ≡ cond (eqb (super_at f.supers s).parent 0) old.inboxes.items
    (set old.inboxes.items ((super_at f.supers s).parent - 1)
    (get_or old.inboxes.items ((super_at f.supers s).parent - 1) [] ++ made.rest ∷ []))
    → IsMadeOf f s made
    → ((t : ℕ) → also t ≡ (done t || eqb s t)) → IsHeld f taken done old → IsHeld f taken also new
held_made f taken done also s made old new super inside rows inboxes is_made more is =
    let p = (super_at f.supers s).parent in
    record {
      rows_long = ap (λ (z : List (List ℕ)). length z) rows ∙ length-set old.rows.items (s - 1) made.rows ∙ is.rows_long;
      inboxes_long = elim (cases_eq p 0) [
        | inl root ↦ ap (λ (z : List (List (List ℕ))). length z) (inboxes ∙ cond-true _ _ _ (eq-eqb p 0 root)) ∙ is.inboxes_long
        | inr child ↦ ap (λ (z : List (List (List ℕ))). length z) (inboxes ∙ cond-false _ _ _ (ne_eqb p 0 child))
            ∙ length-set old.inboxes.items (p - 1) (get_or old.inboxes.items (p - 1) [] ++ made.rest ∷ []) ∙ is.inboxes_long
      ];
      kept = λ t there d. elim (cases_eq s t) [
        | inl e ↦ (
            let low = super.0 in
            let high = super.1 in
            let lt : s - 1 < length old.rows.items = omega (arith, low, high, is.rows_long) in
            let at : get_or new.rows.items (s - 1) [] ≡ front_rows f s =
            ap (λ (z : List (List ℕ)). get_or z (s - 1) []) rows ∙ get_or-set_same old.rows.items (s - 1) made.rows [] lt ∙ is_made.rows in
            subst (λ z. list_of_front new.rows.items z ≡ front_rows f z) e at
            )
        | inr ne ↦ (
            let other : t - 1 ≢ s - 1 = λ e. ne (omega (arith, e, super.0, there.0)) in
            ap (λ (z : List (List ℕ)). get_or z (t - 1) []) rows ∙ get_or-set_other old.rows.items (s - 1) (t - 1) made.rows [] other
            ∙ is.kept t there (earlier t ne d)
            )
      ];
      handed = λ t there left i. elim (cases_eq p t) [
        | inl e ↦ (
            let here = is.handed t there left i in
            let list :
            in_lists (get_or new.inboxes.items (t - 1) []) i ≡ (in_lists (get_or old.inboxes.items (t - 1) []) i || has made.rest i) =
            own_inbox t i e there in (
              λ now. elim (or_cases (in_lists (get_or old.inboxes.items (t - 1) []) i) (has made.rest i) (sym list ∙ now)) [
                | inl before ↦ (let h = here.0 before in (h.0, h.1, h.2, more h.0 ∙ or_left _ _ h.3, h.4))
                | inr new_one ↦ (
                  s,
                  super,
                  e,
                  more s ∙ or_right _ _ (eq-eqb s s refl),
                  ap (λ z. has z i) (sym is_made.rest) ∙ new_one,
                )
              ],
              λ h. list ∙ elim (cases_eq s h.0) [
                | inl same ↦ or_right _ _ (ap (λ z. has z i) is_made.rest ∙ subst (λ z. has (rest_rows f z) i ≡ true) (sym same) h.4)
                | inr ne ↦ or_left _ _ (here.1 (h.0, h.1, h.2, earlier h.0 ne h.3, h.4))
              ],
            )
            )
        | inr ne ↦ (
            let here = is.handed t there left i in
            let same = other_inbox t ne there.0 in (
              λ now. (let h = here.0 (ap (λ z. in_lists z i) (sym same) ∙ now) in (h.0, h.1, h.2, more h.0 ∙ or_left _ _ h.3, h.4)),
              λ h. ap (λ z. in_lists z i) same
                  ∙ here.1 (h.0, h.1, h.2, earlier h.0 (λ e. ne (ap (λ (z : ℕ). (super_at f.supers z).parent) e ∙ h.2)) h.3, h.4),
            )
            )
      ];
    }
  where
    earlier : (t : ℕ) → s ≢ t → also t ≡ true → done t ≡ true
    earlier t ne d =
        elim (or_cases (done t) (eqb s t) (sym (more t) ∙ d)) [ inl before ↦ before | inr same ↦ absurd (ne (eqb-true s t same)) ]

    other_inbox : (t : ℕ) → (super_at f.supers s).parent ≢ t → 1 ≤ t
        → get_or new.inboxes.items (t - 1) [] ≡ get_or old.inboxes.items (t - 1) []
    other_inbox t ne low = elim (cases_eq (super_at f.supers s).parent 0) [
      | inl root ↦
          ap (λ (z : List (List (List ℕ))). get_or z (t - 1) []) (inboxes ∙ cond-true _ _ _ (eq-eqb (super_at f.supers s).parent 0 root))
      | inr child ↦ (
          let other : t - 1 ≢ (super_at f.supers s).parent - 1 = λ e. ne (omega (arith, e, low, child)) in
          ap (λ (z : List (List (List ℕ))). get_or z (t - 1) []) (inboxes ∙ cond-false _ _ _ (ne_eqb (super_at f.supers s).parent 0 child))
          ∙ get_or-set_other old.inboxes.items ((super_at f.supers s).parent - 1) (t - 1)
          (get_or old.inboxes.items ((super_at f.supers s).parent - 1) [] ++ made.rest ∷ []) [] other
          )
    ]

    own_inbox : (t i : ℕ) → (super_at f.supers s).parent ≡ t → IsSuper f.supers t
        → in_lists (get_or new.inboxes.items (t - 1) []) i ≡ (in_lists (get_or old.inboxes.items (t - 1) []) i || has made.rest i)
    own_inbox t i e there =
        let child : (super_at f.supers s).parent ≢ 0 = λ z. absurd (let low = there.0 in omega (arith, low, e, z)) in
        let lt : t - 1 < length old.inboxes.items = omega (arith, there.0, there.1, is.inboxes_long) in
        let whole : new.inboxes.items ≡ set old.inboxes.items (t - 1) (get_or old.inboxes.items (t - 1) [] ++ made.rest ∷ []) =
        inboxes ∙ cond-false _ _ _ (ne_eqb (super_at f.supers s).parent 0 child)
        ∙ ap (λ (q : ℕ). set old.inboxes.items (q - 1) (get_or old.inboxes.items (q - 1) [] ++ made.rest ∷ [])) e in
        ap (λ (z : List (List (List ℕ))). in_lists (get_or z (t - 1) []) i) whole
        ∙ ap (λ z. in_lists z i) (get_or-set_same old.inboxes.items (t - 1) (get_or old.inboxes.items (t - 1) [] ++ made.rest ∷ []) [] lt)
        ∙ in_lists_push (get_or old.inboxes.items (t - 1) []) made.rest i
