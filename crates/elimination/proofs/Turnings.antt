-- One turn, told by what each part of it writes.
use Rattle.std.proofs.Common.{◌≡◌, ◌≢◌, ℕ, ◌-◌, ◌<◌, ◌≤◌, inl, inr, Bool, false, List, length}
use Rattle.std.proofs.Common.{refl, sym, ◌∙◌, arith, subst, IsTrue, set, get_or}
use Rattle.std.proofs.lemmas.Bool.{cases_eq}
use Rattle.patterns.specs.Pattern.{has}
use Rattle.min_tree.specs.Least.{greatest}
use Rattle.elimination.specs.Elimination.{IsVertex, eliminate}
use Rattle.elimination.specs.Quotients.{Quotient, IsQuotient, AreLinks, at}
use Rattle.elimination.specs.Tables.{Tables}
use Rattle.elimination.specs.Turns.{StandFor, IsReleased, IsChosen, IsAbsorbed, AreBack, IsSearch, IsEliminated, quotient_of}
use Rattle.patterns.proofs.NumberLists.{has_at}
use Rattle.elimination.proofs.Absorbings.{IsWritten, after, quotient_after}
use Rattle.elimination.proofs.Reopenings.{reopened, groups_after, hidden_after, bounds_after, quotient_open}

module _ (q : Quotient) (t : Tables) (v : ℕ) (r : IsReleased q t v) where
  pub parts_within : (j : ℕ) → j < length t.touched → get_or t.touched j 0 < length t.links
  parts_within j lt =
      let s = r.stand.quotient in
      let f = r.hood.from (get_or t.touched j 0) (has_at t.touched j lt) in
      let b = (s.gone (q.part f.0) (s.parted.part_gone f.0 f.1)).1 in
      let e = f.3 in
      let size = s.size in
      omega arith

  pub members_in : (j : ℕ) → j < length (t.groups v) → IsVertex q.order (get_or (t.groups v) j 0)
  members_in j lt =
      let x = get_or (t.groups v) j 0 in
      let m = r.stand.grouped.members v x (has_at (t.groups v) j lt) in
      (r.stand.grouped.vertex x (λ e. m.1 (sym e ∙ m.0))).0

  -- the tables once the parts are merged
  module _ (turn' : ℕ → ℕ) (place : ℕ) (latest : (x : ℕ) → t.turn x < place) (now : turn' v ≡ place)
      (others : (x : ℕ) → x ≢ v → turn' x ≡ t.turn x)
      (links1 : List ℕ) (lists1 : ℕ → List ℕ) (len1 : length links1 ≡ length t.links)
      (a : IsAbsorbed v t.near t.touched t.links links1 t.rims lists1) where
    now_gone : 0 < turn' v
    now_gone = let l = latest v in omega arith

    written : IsWritten t.turn turn' t.links links1 t.rims lists1 v t.near t.touched
    written = record {
      latest = λ x. let l = latest x in omega arith;
      turns = others;
      size = len1;
      own = a.own;
      under = λ p h. elim (cases_eq p v) [ inl e ↦ subst (λ z. at links1 z ≡ v) (sym e) a.own | inr ne ↦ a.under p ne h ];
      others = a.others;
      made = a.made;
      emptied = a.emptied;
      kept = a.kept;
    }

    merged_quotient : IsQuotient (after q v t.touched) turn' links1 lists1
    merged_quotient = quotient_after q t.turn turn' t.links links1 t.rims lists1 v t.near t.touched r.stand.quotient r.hood r.vertex
        r.here written

    pub merged_linked : AreLinks turn' links1
    merged_linked = merged_quotient.linked

    module _ (bound : ℕ) (keys0 keys1 : List ℕ) (t' : Tables) (len2 : length t'.links ≡ length links1)
        (b : AreBack q.joined v bound (record t { turn = turn'; links = links1; rims = lists1; bounds = keys1 }) t')
        (lenk : length keys0 ≡ length t.bounds) (lower : (x : ℕ) → IsTrue (has t.near x) → at keys0 x ≤ at t.bounds x - 1)
        (far : (x : ℕ) → has t.near x ≡ false → at keys0 x ≡ at t.bounds x) (is1 : keys1 ≡ set keys0 v greatest)
        (small : bound ≤ at t.bounds v - 1) where
      pub the_turn : StandFor (reopened q v t.touched) (record t' { turn = turn' })
      the_turn =
          let s = r.stand in
          let members = t.groups v in
          let leads = merged_quotient.leads in
          let part = (after q v t.touched).part in
          record {
            quotient = quotient_open q t.turn turn' t.groups t'.groups t.sizes t'.sizes t.seen t'.seen v members t.touched
                s.grouped s.hidden s.quotient.plain r.vertex r.here r.stands now_gone others refl b.empty b.others
                links1 t'.links lists1 t'.rims merged_quotient len2 b.linked (b.leads part leads) (b.touched part leads);
            hidden = hidden_after q t.turn turn' t.groups t'.groups t.sizes t'.sizes t.seen t'.seen v members t.touched
                s.grouped s.hidden s.quotient.plain r.vertex r.here r.stands now_gone others refl b.empty b.others
                bound keys1 t'.bounds b.opened;
            grouped = groups_after q t.turn turn' t.groups t'.groups t.sizes t'.sizes t.seen t'.seen v members t.touched
                s.grouped s.hidden s.quotient.plain r.vertex r.here r.stands now_gone others refl b.empty b.others
                bound keys1 t'.bounds b.opened;
            bounds = bounds_after q t.turn turn' t.groups t'.groups t.sizes t'.sizes t.seen t'.seen v members t.touched
                s.grouped s.hidden s.quotient.plain r.vertex r.here r.stands now_gone others refl b.empty b.others
                bound keys1 t'.bounds b.opened t.bounds keys0 t.near s.bounds r.hood s.quotient.parted.alive lenk lower far is1 small;
          }

-- v is eliminated
pub eliminated_so : (rows : List (List ℕ)) (left : ℕ → ℕ → Bool) (t : Tables) (v : ℕ) (ch : IsChosen rows left t v)
    (t' : Tables) (turn' : ℕ → ℕ) → t'.turn ≡ turn'
    → StandFor (reopened (quotient_of rows left ch.part ch.rim ch.rep) v t.touched) (record t' { turn = turn' })
    → IsEliminated rows left t.turn t' v
eliminated_so rows left t v ch t' turn' is stand = record {
  vertex = ch.released.vertex;
  here = ch.released.here;
  first = ch.first;
  search = subst (λ z. IsSearch rows (eliminate left v) (record t' { turn = z })) (sym is)
      (let q = reopened (quotient_of rows left ch.part ch.rim ch.rep) v t.touched in
      record { part = q.part; rim = q.rim; rep = q.rep; stand = stand });
}
