use Rattle.std.proofs.Common.{◌≡◌, ◌≢◌, ◌≤◌, ◌<◌, ◌+◌, ℕ, List, [], ◌∷◌, ◌++◌, length, arith}
use Rattle.std.proofs.Common.{get_or, set, subst, sym, ap, ◌∙◌, Option, Some, length-append}
use Rattle.std.specs.Prelude.{nat_eq}
use Rattle.std.specs.HashMap as hash
use Rattle.std.proofs.lemmas.Bool.{ne_eqb}
use Rattle.std.proofs.lemmas.List.{get_or_read}
use Rattle.limits.specs.Limits.{most_arcs}
use Rattle.sp_reduce.specs.declared.link.Link.{Link}
use Rattle.sp_reduce.specs.Work.{AreLinksRanked, HasNone, IsWork, hit, key_of, link}
use Rattle.sp_reduce.proofs.Adding.{added_work, ranked-before, ranked-new, reranked}
use Rattle.sp_reduce.proofs.Outcomes.{links-le-length, hit-le}
use Rattle.sp_reduce.proofs.links.Links.add.Goals as goal

pub overflow_add-index_mut : goal.overflow_add-index_mut
overflow_add-index_mut c =
    let f = c.self.inside in
    let w = c.self.invariant.work in
    let to : c.args.to ≤ f.tasks = rw (← c.self.view_is) at c.requires.within.1 in
    let read = get_or_read f.ins.items c.args.to c.index_mut.result.now (omega (arith, to, w.lens)) c.index_mut.ensures.value 0 in
    omega (
      arith,
      read,
      w.ins_are c.args.to to,
      links-le-length (λ p q. hit q c.args.to) (λ p q. hit-le q c.args.to) f.list.items,
      c.self.invariant.few_links,
    )

pub overflow_add-index_mut-2 : goal.overflow_add-index_mut-2
overflow_add-index_mut-2 c =
    let f = c.self.inside in
    let w = c.self.invariant.work in
    let from : c.args.from ≤ f.tasks = rw (← c.self.view_is) at c.requires.within.0 in
    let read = get_or_read f.outs.items c.args.from c.index_mut-2.result.now (omega (arith, from, w.lens)) c.index_mut-2.ensures.value 0 in
    omega (
      arith,
      read,
      w.outs_are c.args.from from,
      links-le-length (λ p q. hit p c.args.from) (λ p q. hit-le p c.args.from) f.list.items,
      c.self.invariant.few_links,
    )

pub invariant_of-self-2 : goal.invariant_of-self-2
invariant_of-self-2 c =
    let f = c.self.inside in
    let w = c.self.invariant.work in
    let links = f.list.items in
    let p = c.args.from in
    let s = c.args.to in
    let from : p ≤ f.tasks = rw (← c.self.view_is) at c.requires.within.0 in
    let to : s ≤ f.tasks = rw (← c.self.view_is) at c.requires.within.1 in
    let few : length links < most_arcs = rw (← c.self.view_is) at c.requires.few in
    let none : HasNone links p s = rw (← c.self.view_is) at c.requires.none in
    let rank = c.requires.ranked.0 in
    let ranked : AreLinksRanked rank (links ++ link p s ∷ []) = rw (← c.self.view_is) at c.requires.ranked.1 in
    let old : IsWork f.tasks rank links f.ins.items f.outs.items f.in_at.items f.out_at.items (hash.get nat_eq f.by_ends) =
    reranked f.tasks c.self.invariant.rank rank links f.ins.items f.outs.items f.in_at.items f.out_at.items
    (hash.get nat_eq f.by_ends) w (ranked-before rank links p s ranked) in
    let table : ℕ → Option ℕ = λ q. hash.get nat_eq f.by_ends q in
    let table' : ℕ → Option ℕ = λ q. hash.get nat_eq c.insert.new.self q in
    let u = c.in_ok-insert.ensures.updates in
    let place_is : c.len-place.result ≡ length links = omega (arith, c.len-place.ensures, f.list.ok.0) in
    let key_is : c.key.result ≡ key_of p s = c.key.ensures in
    let here : table' (key_of p s) ≡ Some (length links) = ap table' (sym key_is) ∙ u.1 ∙ ap Some place_is in
    let others : (q : ℕ) → q ≢ key_of p s → table' q ≡ table q = λ q ne. u.2 q (ne_eqb c.key.result q (λ e. ne (sym e ∙ key_is))) in
    let pushed : c.push.new.self.items ≡ links ++ link p s ∷ [] = c.in_ok-push.ensures.items in
    let ins : c.index_mut.result.now ≡ get_or f.ins.items s 0 =
    get_or_read f.ins.items s c.index_mut.result.now (omega (arith, to, w.lens)) c.index_mut.ensures.value 0 in
    let outs : c.index_mut-2.result.now ≡ get_or f.outs.items p 0 =
    get_or_read f.outs.items p c.index_mut-2.result.now (omega (arith, from, w.lens)) c.index_mut-2.ensures.value 0 in
    let done = added_work f.tasks rank links f.ins.items f.outs.items f.in_at.items f.out_at.items table table' p s old from to
    (ranked-new rank links p s ranked) none here others (omega (arith, c.self.invariant.few_tasks)) in
    record {
      few_tasks = c.self.invariant.few_tasks;
      few_links = omega (arith, few, ap length pushed, length-append links (link p s ∷ []));
      rank = rank;
      work = subst (λ (ls : List Link).
          IsWork f.tasks rank ls (set f.ins.items s (c.index_mut.result.now + 1)) (set f.outs.items p (c.index_mut-2.result.now + 1))
          (set f.in_at.items s c.len-place.result) (set f.out_at.items p c.len-place.result) table') (sym pushed)
          (subst (λ x.
          IsWork f.tasks rank (links ++ link p s ∷ []) (set f.ins.items s (x + 1)) (set f.outs.items p (c.index_mut-2.result.now + 1))
          (set f.in_at.items s c.len-place.result) (set f.out_at.items p c.len-place.result) table') (sym ins)
          (subst (λ x. IsWork f.tasks rank (links ++ link p s ∷ []) (set f.ins.items s (get_or f.ins.items s 0 + 1))
          (set f.outs.items p (x + 1)) (set f.in_at.items s c.len-place.result) (set f.out_at.items p c.len-place.result) table')
          (sym outs)
          (subst (λ x. IsWork f.tasks rank (links ++ link p s ∷ []) (set f.ins.items s (get_or f.ins.items s 0 + 1))
          (set f.outs.items p (get_or f.outs.items p 0 + 1)) (set f.in_at.items s x) (set f.out_at.items p x) table')
          (sym place_is) done)));
    }
