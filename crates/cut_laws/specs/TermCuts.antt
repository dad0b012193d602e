-- The cut that the planner makes of a term, from the data items up.
use Rattle.std.specs.Prelude.{List, [], ◌∷◌}
use Rattle.sp_terms.specs.Term.{Term, hold, series, par, Parts, no_parts, part, hill_of}
use Rattle.cut_laws.specs.Cuts.{Cut, hold_cut, series_cut, par_cut}
use Rattle.cut_laws.specs.Names.{Names, NamesOfParts}

abbrev mutual
  pub cut_of_term : (t : Term) → Names t → Cut
  cut_of_term (hold size) n = hold_cut size
  cut_of_term (series a v b) (na, x, nb) = series_cut (cut_of_term a na) x (hill_of a v b) (cut_of_term b nb)
  cut_of_term (par ts) ns = par_cut (cuts_of_parts ts ns)

  pub cuts_of_parts : (ts : Parts) → NamesOfParts ts → List Cut
  cuts_of_parts no_parts ns = []
  cuts_of_parts (part t ts) (n, ns) = cut_of_term t n ∷ cuts_of_parts ts ns
