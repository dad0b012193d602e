-- Shortening one link.
use Rattle.std.proofs.Common.{sym, ◌∙◌, subst, ap, ◌≡◌, ◌≢◌, inl, inr, ℕ, ◌<◌, arith, List}
use Rattle.std.proofs.Common.{length, set, get_or-set_other, get_or-set_same, length-set}
use Rattle.std.proofs.lemmas.Bool.{cases_eq}
use Rattle.elimination.specs.Quotients.{Quotient, IsQuotient, AreLinks, LeadsTo, at}

module _ (turn : ℕ → ℕ) (links : List ℕ) (z : ℕ) (lt : z < length links) (gone : 0 < turn z) (moved : at links z ≢ z)
    (l : AreLinks turn links) where
  other : (x : ℕ) → x ≢ z → at (set links z (at links (at links z))) x ≡ at links x
  other x ne = rw get_or-set_other

  here : at (set links z (at links (at links z))) z ≡ at links (at links z)
  here = rw get_or-set_same

  -- two links up the turn is later
  pub later : (at links (at links z) < length links) × (0 < turn (at links (at links z))) × (turn z < turn (at links (at links z)))
  later =
      let a = l.inside z gone in
      let b = l.inside (at links z) a.1 in
      let r = l.rises z gone moved in (
        b.0,
        b.1,
        elim (cases_eq (at links (at links z)) (at links z)) [
          | inl e ↦ let k = ap turn e in omega arith
          | inr ne ↦ let r' = l.rises (at links z) a.1 ne in omega arith
        ],
      )

  pub shorter : AreLinks turn (set links z (at links (at links z)))
  shorter =
      let len = length-set {A = ℕ} links z (at links (at links z)) in
      record {
        inside = λ x g. elim (cases_eq x z) [
          | inl e ↦ let k = ap (at (set links z (at links (at links z)))) e
              ∙ here in let t = later in let t0 = t.0 in (omega arith, subst (λ v. 0 < turn v) (sym k) t.1)
          | inr ne ↦ let k = other x ne in let i = l.inside x g in let i0 = i.0 in (omega arith, subst (λ v. 0 < turn v) (sym k) i.1)
        ];
        rises = λ x g m. elim (cases_eq x z) [
          | inl e ↦ let k = ap (at (set links z (at links (at links z)))) e ∙ here in
              subst (λ v. turn x < turn v) (sym k) (subst (λ v. turn v < turn (at links (at links z))) (sym e) later.2)
          | inr ne ↦ let k = other x ne in subst (λ v. turn x < turn v) (sym k) (l.rises x g (λ q. m (k ∙ q)))
        ];
      }

  pub still_leads : (part : ℕ → ℕ) → LeadsTo turn part links → LeadsTo turn part
      (set links z (at links (at links z))) × (part (at links (at links z)) ≡ part z)
  still_leads part p =
      let a = l.inside z gone in
      let same2 : part (at links (at links z)) ≡ part z = p.same (at links z) a.1 ∙ p.same z gone in (
        record {
          last = λ x g e. elim (cases_eq x z) [
            | inl q ↦ let k = sym here ∙ ap (at (set links z (at links (at links z)))) (sym q) ∙ e ∙ q in
                let t = later.2 in let w = ap turn k in absurd (omega arith)
            | inr ne ↦ p.last x g (sym (other x ne) ∙ e)
          ];
          same = λ x g. elim (cases_eq x z) [
            | inl q ↦ ap part (ap (at (set links z (at links (at links z)))) q ∙ here) ∙ same2 ∙ ap part (sym q)
            | inr ne ↦ ap part (other x ne) ∙ p.same x g
          ];
          root = p.root;
        },
        same2,
      )

-- links that were shortened lead to the same parts
pub relinked : {q : Quotient} {turn : ℕ → ℕ} {links links' : List ℕ} {rim : ℕ → List ℕ} → IsQuotient q turn links rim
    → length links' ≡ length links
    → AreLinks turn links' → LeadsTo turn q.part links' → IsQuotient q turn links' rim
relinked s len linked leads = record {
  size = len ∙ s.size;
  pattern = s.pattern;
  plain = s.plain;
  within = s.within;
  gone = s.gone;
  rims = s.rims;
  parted = s.parted;
  listed_from = s.listed_from;
  listed_to = s.listed_to;
  linked = linked;
  leads = leads;
}
