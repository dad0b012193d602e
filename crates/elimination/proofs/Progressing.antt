-- An elimination from its start on, turn by turn.
use Rattle.std.proofs.Common.{◌≡◌, ◌≢◌, ℕ, ◌+◌, ◌<◌, ◌≤◌, inl, inr, false, List, [], ◌∷◌, ◌++◌}
use Rattle.std.proofs.Common.{length, refl, sym, ap, ◌∙◌, arith, subst, IsTrue, length-append}
use Rattle.std.proofs.lemmas.Bool.{both_ways, cases_eq}
use Rattle.patterns.specs.Pattern.{has, is_joined}
use Rattle.patterns.specs.Pattern as pattern
use Rattle.elimination.specs.Elimination.{times, IsAdjacency, eliminated}
use Rattle.elimination.specs.Quotients.{IsQuotient, at}
use Rattle.elimination.specs.Tables.{Tables, IsUntouched}
use Rattle.elimination.specs.Turns.{StandFor, IsSearch, IsEliminated, quotient_of}
use Rattle.elimination.specs.Progress.{IsUnderWay}
use Rattle.elimination.proofs.Eliminations.{eliminated_push}
use Rattle.elimination.proofs.VertexLists.{times_push_same, times_push_other}
use Rattle.elimination.proofs.Degrees.{row_degree}
use Rattle.elimination.proofs.Orders.{begun_none, begun_push}

-- the pattern of a file as a test of two vertices
plain_pattern : (rows : List (List ℕ)) → pattern.IsPattern rows → IsAdjacency (is_joined rows)
plain_pattern rows p = record {
  symmetric = p.symmetric;
  irreflexive = λ a t. both_ways _ (p.irreflexive a) t;
  none_of_0 = λ b t. both_ways _ refl t;
}

module _ (rows : List (List ℕ)) (p : pattern.IsPattern rows) (t : Tables) (fresh : IsUntouched rows t)
    (links_len : length t.links ≡ length rows + 1)
    (keys_len : length t.bounds ≡ length rows + 1) where
  none_gone : (x : ℕ) → 0 < t.turn x → ⊥
  none_gone x g = let z = fresh.clear x in absurd (omega arith)

  first_quotient : IsQuotient (quotient_of rows (is_joined rows) (λ x. x) (λ d x. false) (λ x. x)) t.turn t.links t.rims
  first_quotient = record {
    size = links_len;
    pattern = plain_pattern rows p;
    plain = plain_pattern rows p;
    within = p.inside;
    gone = λ x g. absurd (none_gone x g);
    rims = λ q x h. absurd (both_ways _ refl (subst (λ z. IsTrue (has z x)) (fresh.empty q) h));
    parted = record {
      alive = λ a b h. (fresh.clear a, fresh.clear b);
      part_gone = λ d g. g;
      rim_left = λ d b g h. fresh.clear b;
      rim_to = λ d b g l h. absurd (none_gone d g);
      rim_from = λ d b g h. absurd (none_gone d g);
      near = λ a b h. inl h;
      joins = λ a b la lb ne h. elim h [ inl e ↦ e | inr y ↦ absurd (none_gone y.0 y.1) ];
    };
    listed_from = λ d x g. absurd (none_gone d g);
    listed_to = λ d x g. absurd (none_gone d g);
    linked = record { inside = λ x g. absurd (none_gone x g); rises = λ x g. absurd (none_gone x g) };
    leads = record { last = λ x g e. refl; same = λ x g. absurd (none_gone x g); root = λ x g. refl };
  }

  first_stand : StandFor (quotient_of rows (is_joined rows) (λ x. x) (λ d x. false) (λ x. x)) t
  first_stand = record {
    quotient = first_quotient;
    hidden = record { gone = λ x g. refl; marked = λ x ne. absurd (ne refl); marks = λ x m. absurd (both_ways _ (fresh.unmarked x) m) };
    grouped = record {
      vertex = λ x ne. absurd (ne refl);
      left = λ x l. l;
      gone = λ x g. refl;
      stands = λ x. refl;
      least = λ x. omega arith;
      twins = λ x z l. refl;
      members = λ r x h. absurd (both_ways _ refl (subst (λ z. IsTrue (has z x)) (fresh.single r) h));
      listed = λ x ne. absurd (ne refl);
      once = λ r x. subst (λ z. times z x ≤ 1) (sym (fresh.single r)) (omega arith);
      weights = λ r v l o. fresh.ones r v.1 ∙ ap (λ z. length z + 1) (sym (fresh.single r));
    };
    bounds = record {
      len = keys_len;
      low = λ w v l o. let is = fresh.exact w v in let d = row_degree rows w p v in omega arith;
      off = λ w le o. elim o [
        | inl x ↦ elim x [ inl e ↦ ap (at t.bounds) e ∙ fresh.unused | inr g ↦ absurd (none_gone w g) ]
        | inr ne ↦ absurd (ne refl)
      ];
    };
  }

  pub under_way_first : IsUnderWay rows [] t 1
  under_way_first = record {
    here = refl;
    begun = begun_none (is_joined rows) (length rows);
    unturned = λ v e. fresh.clear v;
    unlisted = λ v e. refl;
    latest = λ v. let z = fresh.clear v in omega arith;
    search = record { part = λ x. x; rim = λ d x. false; rep = λ x. x; stand = first_stand };
  }

module _ (rows : List (List ℕ)) (vertices : List ℕ) (t : Tables) (place : ℕ) (s : IsUnderWay rows vertices t place) where
  module _ (t' : Tables) (v : ℕ) (e : IsEliminated rows (eliminated (is_joined rows) vertices) t.turn t' v) (now : t'.turn v ≡ place)
      (others : (x : ℕ) → x ≢ v → t'.turn x ≡ t.turn x) where
    pub under_way_next : IsUnderWay rows (vertices ++ v ∷ []) t' (place + 1)
    under_way_next = record {
      here = let k = s.here in let more = length-append vertices (v ∷ []) in omega arith;
      begun = begun_push (is_joined rows) (length rows) vertices v s.begun e.vertex (s.unlisted v e.here)
          (λ u vertex none. e.first u vertex (s.unturned u none));
      unturned = λ x none. elim (cases_eq x v) [
        | inl same ↦ absurd (let more = times_push_same vertices v in let z = subst (λ w. times (vertices ++ v ∷ []) w ≡ 0) same none in
            omega arith)
        | inr ne ↦ others x ne ∙ s.unturned x (sym (times_push_other vertices v x ne) ∙ none)
      ];
      unlisted = λ x none. elim (cases_eq x v) [
        | inl same ↦ absurd (let k = s.here in let z = subst (λ w. t'.turn w ≡ 0) same none in omega arith)
        | inr ne ↦ times_push_other vertices v x ne ∙ s.unlisted x (sym (others x ne) ∙ none)
      ];
      latest = λ x. elim (cases_eq x v) [
        | inl same ↦ subst (λ w. t'.turn w < place + 1) (sym same) (omega arith)
        | inr ne ↦ (let is = others x ne in let before = s.latest x in omega arith)
      ];
      search = subst (λ z. IsSearch rows z t') (sym (eliminated_push (is_joined rows) vertices v)) e.search;
    }
