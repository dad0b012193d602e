-- Cuts that stand for the parts make one that stands for the whole.
use Rattle.std.proofs.Common.{◌≡◌, ℕ, refl, subst, ap, ◌∙◌, List, [], ◌∷◌, ◌++◌}
use Rattle.std.specs.List.{concat}
use Rattle.mp_system.specs.declared.system.Task.{Task}
use Rattle.sp_terms.specs.Term.{Term, hold, series, par, Parts, no_parts, part, hill_of, IsAllowed, AreAllowed}
use Rattle.cut_laws.specs.Below.{LawsBelow}
use Rattle.cut_laws.specs.Cuts.{Cut, hold_cut, series_cut, par_cut}
use Rattle.cut_laws.specs.Names.{Names, NamesOfParts, names_of, names_of_parts}
use Rattle.cut_laws.specs.Standing.{StandsFor, AllStandFor}
use Rattle.cut_laws.specs.TermCuts.{cut_of_term}
use Rattle.cut_laws.proofs.Back.{stands_cut}
use Rattle.cut_laws.proofs.Composed.{hold_is_cut, series_is_cut, par_is_cut, term_is_cut}
use Rattle.cut_laws.proofs.Leading.{AreCutsOf}
use Rattle.cut_laws.proofs.Stands.{cut_stands}

module _ (laws : LawsBelow) where
  pub hold_stands : (size : ℕ) → StandsFor (hold size) [] (hold_cut size)
  hold_stands size = cut_stands laws (hold size) tt tt (hold_cut size) (hold_is_cut laws size)

  pub series_stands : (a : Term) (v : Task) (b : Term) (na nb : List ℕ) (x : ℕ) (ca cb : Cut)
      → IsAllowed (series a v b) → StandsFor a na ca → StandsFor b nb cb
      → StandsFor (series a v b) (na ++ (nb ++ x ∷ [])) (series_cut ca x (hill_of a v b) cb)
  series_stands a v b na nb x ca cb allowed sa sb =
      let (ma, ia, ha) = stands_cut laws a allowed.2 na ca sa in
      let (mb, ib, hb) = stands_cut laws b allowed.3 nb cb sb in
      let named : names_of a ma ++ (names_of b mb ++ x ∷ []) ≡ na ++ (nb ++ x ∷ []) =
      ap (λ l. l ++ (names_of b mb ++ x ∷ [])) ia ∙ ap (λ l. na ++ (l ++ x ∷ [])) ib in
      subst (λ l. StandsFor (series a v b) l (series_cut ca x (hill_of a v b) cb)) named
      (cut_stands laws (series a v b) allowed (ma, x, mb) (series_cut ca x (hill_of a v b) cb)
      (series_is_cut laws a v b ma x mb ca cb allowed ha hb))

  all_cuts : (ts : Parts) (names : List (List ℕ)) (cs : List Cut) → AreAllowed ts → AllStandFor ts names cs
      → (ns : NamesOfParts ts) × (names_of_parts ts ns ≡ concat names) × AreCutsOf ts ns cs
  all_cuts no_parts [] [] allowed h = (tt, refl, tt)
  all_cuts no_parts [] (c ∷ cs) allowed h = absurd h
  all_cuts no_parts (n ∷ names) cs allowed h = absurd h
  all_cuts (part t ts) [] cs allowed h = absurd h
  all_cuts (part t ts) (n ∷ names) [] allowed h = absurd h
  all_cuts (part t ts) (n ∷ names) (c ∷ cs) allowed h =
      let (m, i, k) = stands_cut laws t allowed.0 n c h.0 in
      let (ms, is, ks) = all_cuts ts names cs allowed.1 h.1 in
      ((m, ms), ap (λ l. l ++ names_of_parts ts ms) i ∙ ap (λ l. n ++ l) is, (k, ks))

  pub par_stands : (ts : Parts) (names : List (List ℕ)) (cs : List Cut) → IsAllowed (par ts)
      → AllStandFor ts names cs → StandsFor (par ts) (concat names) (par_cut cs)
  par_stands ts names cs allowed h =
      let (ns, is, k) = all_cuts ts names cs allowed.1 h in
      subst (λ l. StandsFor (par ts) l (par_cut cs)) is
      (cut_stands laws (par ts) allowed ns (par_cut cs) (par_is_cut laws ts ns cs allowed k))

  pub term_stands : (t : Term) (n : Names t) → IsAllowed t → StandsFor t (names_of t n) (cut_of_term t n)
  term_stands t n allowed = cut_stands laws t allowed n (cut_of_term t n) (term_is_cut laws t n allowed)
