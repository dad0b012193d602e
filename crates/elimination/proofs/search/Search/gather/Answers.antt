use Rattle.std.proofs.Common.{◌≡◌, ◌<◌, [], length, ℕ, List, arith, subst, sym, ap, ◌∙◌, get_or, true, set}
use Rattle.std.specs.Vec.{with_item, with_items}
use Rattle.std.proofs.lemmas.List.{with_items_is}
use Rattle.elimination.specs.Quotients.{Quotient, IsQuotient, at, inner_at}
use Rattle.elimination.specs.Hoods.{Scans, IsRowOf, IsGathered}
use Rattle.patterns.proofs.NumberLists.{has_at}
use Rattle.elimination.proofs.Gatherings.{start, gathered}
use Rattle.elimination.proofs.search.Search.gather.Goals as goal

row_within : (q : Quotient) (turn : ℕ → ℕ) (links : List ℕ) (rim : ℕ → List ℕ) (u : ℕ) (row : List ℕ) → IsQuotient q turn links rim
    → IsRowOf q turn u row
    → (j : ℕ) → j < length row → get_or row j 0 < length links
row_within q turn links rim u row s r j lt =
    let b = (s.within u (get_or row j 0) (sym (r.row (get_or row j 0)) ∙ has_at row j lt)).1 in
    let size = s.size in
    omega arith

own_within : (q : Quotient) (turn : ℕ → ℕ) (links : List ℕ) (rim : ℕ → List ℕ) (u : ℕ) (row : List ℕ) → IsQuotient q turn links rim
    → IsRowOf q turn u row → u < length links
own_within q turn links rim u row s r = let b = r.vertex.1 in let size = s.size in omega arith

pub scan-requires-clause-row : goal.scan-requires-clause-row
scan-requires-clause-row c = λ j lt.
    let s = c.args.self.now in
    let can = c.requires.start.1 in
    let k = row_within c.requires.start.0 (at s.turns.items) s.links.items (inner_at s.rims.items) c.args.u c.args.row.now
    can.stand.quotient can.listed j lt in
    let links_len = c.requires.lengths.links in
    let e = ap length c.deref.ensures.value in
    omega arith

pub returns-clause-marked : goal.returns-clause-marked
returns-clause-marked c = λ q can.
    let s = c.args.self.now in
    let turn = at s.turns.items in
    let rim = inner_at s.rims.items in
    let u = c.args.u in
    let row = c.args.row.now in
    let links' = c.scan.new.links in
    let seen' = c.scan.new.seen in
    let near' = c.scan.new.hood.near.items in
    let touched' = c.scan.new.hood.touched.items in
    let len = c.requires.lengths in
    let links_len = len.links in
    let seen_len = len.seen in
    let own = own_within q turn s.links.items rim u row can.stand.quotient can.listed in
    let begun = start q turn rim u row s.seen.items can.stand.hidden can.listed.here (omega arith) in
    let links0 = c.deref_mut.result.now in
    let near0 = c.clear.new.self.items in
    let touched0 = c.clear-2.new.self.items in
    let seen0 = c.deref_mut-2.result.now in
    let scans : Scans turn rim row s.links.items links' [] near' [] touched' (set s.seen.items u true) seen' =
    subst (λ z. Scans turn rim row s.links.items links' [] near' [] touched' z seen') c.deref_mut-2.ensures.value
    (subst (λ z. Scans turn rim row s.links.items links' [] near' z touched' seen0 seen') c.clear-2.ensures.items
    (subst (λ z. Scans turn rim row s.links.items links' z near' touched0 touched' seen0 seen') c.clear.ensures.items
    (subst (λ z. Scans turn rim row z links' near0 near' touched0 touched' seen0 seen') c.deref_mut.ensures.value
    (subst (λ z. Scans turn (inner_at z) row links0 links' near0 near' touched0 touched' seen0 seen') c.deref-2.ensures.value
    (subst (λ z. Scans (at z) (inner_at c.deref-2.result.now) row links0 links' near0 near' touched0 touched' seen0 seen')
    c.deref.ensures.value
    c.in_ok-scan.ensures.scanned))))) in
    let w = scans q u can.stand.quotient can.listed begun in
    let g = gathered q turn rim u row links' near' touched' seen' w.0 can.listed w.1 can.stand.hidden.gone in
    let w1 : (with_items s.links links').items ≡ links' = with_items_is s.links links' (omega (arith, s.links.ok.0)) in
    let w2 : (with_items (with_item s.seen u true) seen').items ≡ seen' =
    with_items_is (with_item s.seen u true) seen' (omega (arith, s.seen.ok.0)) in
    record {
      gathered = subst (λ z. IsGathered q turn z rim u near' touched' (with_items (with_item s.seen u true) seen').items) (sym w1)
          (subst (λ z. IsGathered q turn links' rim u near' touched' z) (sym w2) g);
      grouped = can.stand.grouped;
      bounds = can.stand.bounds;
    }
