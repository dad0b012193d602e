use Rattle.std.proofs.Common.{◌≡◌, ◌≢◌, ◌≤◌, ◌-◌, ℕ, arith, get_or, set, refl, sym, ap, subst, ◌∙◌, Option, Some, true}
use Rattle.std.specs.Prelude.{nat_eq}
use Rattle.std.specs.HashMap as hash
use Rattle.std.proofs.lemmas.Bool.{ne_eqb}
use Rattle.std.proofs.lemmas.List.{get_or_read}
use Rattle.std.proofs.lemmas.List.{length-set}
use Rattle.sp_reduce.specs.declared.link.Link.{Link}
use Rattle.sp_reduce.specs.declared.links.Links.TheInside.{Inside}
use Rattle.sp_reduce.specs.Work.{AreIndexed, IsWork, LinksValue, key_of, link_at, links_into, links_out_of, no_link}
use Rattle.sp_reduce.proofs.TakingOut.{joined_out, merged_out}
use Rattle.sp_reduce.proofs.Works.{Meets, joined_work, meets, merged_work, some_in, some_out}
use Rattle.sp_reduce.proofs.links.Links.take_out.Goals as goal

-- what holds of the link into the task, and of the one out of it, as they were read
found : (f : Inside) (seen : LinksValue) → ◌≡◌ {A = LinksValue} (record { tasks = f.tasks; list = f.list.items }) seen
    → (h : AreIndexed f.tasks f.list.items f.ins.items f.outs.items f.in_at.items f.out_at.items (hash.get nat_eq f.by_ends))
    → (v i j : ℕ) (a b : Link) → (1 ≤ v) × (v ≤ seen.tasks) → (links_into v seen.list ≡ 1) × (links_out_of v seen.list ≡ 1)
    → i ≡ get_or f.in_at.items v i → j ≡ get_or f.out_at.items v j → a ≡ get_or f.list.items i a → b ≡ get_or f.list.items j b
    → Meets f.tasks h.rank f.list.items f.ins.items f.outs.items v i j a.from b.to
found f seen is h v i j a b task ones i_read j_read a_read b_read =
    let w = h.work in
    let links = f.list.items in
    let high : v ≤ f.tasks = omega (arith, task, ap (λ (x : LinksValue). x.tasks) is) in
    let one_in : get_or f.ins.items v 0 ≡ 1 = w.ins_are v high ∙ ap (λ (x : LinksValue). links_into v x.list) is ∙ ones.0 in
    let one_out : get_or f.outs.items v 0 ≡ 1 = w.outs_are v high ∙ ap (λ (x : LinksValue). links_out_of v x.list) is ∙ ones.1 in
    let base = meets f.tasks h.rank links f.ins.items f.outs.items f.in_at.items f.out_at.items
    (hash.get nat_eq f.by_ends) v w task.0 high one_in one_out in
    let i_is : i ≡ get_or f.in_at.items v 0 = get_or_read f.in_at.items v i (omega (arith, high, w.lens)) i_read 0 in
    let j_is : j ≡ get_or f.out_at.items v 0 = get_or_read f.out_at.items v j (omega (arith, high, w.lens)) j_read 0 in
    let a_is : a ≡ link_at links i = get_or_read links i a (omega (arith, i_is, base.first.within)) a_read no_link in
    let b_is : b ≡ link_at links j = get_or_read links j b (omega (arith, j_is, base.second.within)) b_read no_link in
    let from : a.from ≡ (link_at links (get_or f.in_at.items v 0)).from =
    ap (λ (l : Link). l.from) a_is ∙ ap (λ x. (link_at links x).from) i_is in
    let to : b.to ≡ (link_at links (get_or f.out_at.items v 0)).to = ap (λ (l : Link). l.to) b_is ∙ ap (λ x. (link_at links x).to) j_is in
    subst (λ x. Meets f.tasks h.rank links f.ins.items f.outs.items v x j a.from b.to) (sym i_is)
    (subst (λ x. Meets f.tasks h.rank links f.ins.items f.outs.items v (get_or f.in_at.items v 0) x a.from b.to) (sym j_is)
    (subst (λ x. Meets f.tasks h.rank links f.ins.items f.outs.items v (get_or f.in_at.items v 0) (get_or f.out_at.items v 0) x b.to)
    (sym from)
    (subst (λ x. Meets f.tasks h.rank links f.ins.items f.outs.items v (get_or f.in_at.items v 0)
    (get_or f.out_at.items v 0) (link_at links (get_or f.in_at.items v 0)).from x)
    (sym to) base)))

pub overflow_sub-index_mut : goal.overflow_sub-index_mut
overflow_sub-index_mut c =
    let f = c.self.inside in
    let h = c.self.invariant in
    let v = c.args.task in
    let i = c.index-first.result.now in
    let j = c.index-second.result.now in
    let a = c.index.result.now in
    let b = c.index-2.result.now in
    let m = found f c.args.self.now c.self.view_is h v i j a b c.requires.task c.requires.in_series
    c.index-first.ensures c.index-second.ensures c.index.ensures c.index-2.ensures in
    let read = get_or_read (set f.ins.items v 0) b.to c.index_mut-in-Some-4.result.now
    (omega (arith, length-set f.ins.items v 0, h.work.lens, m.small_s)) c.index_mut-in-Some-4.ensures.value 0 in
    omega (
      arith,
      read,
      some_in f.tasks h.rank f.list.items f.ins.items f.outs.items f.in_at.items f.out_at.items
          (hash.get nat_eq f.by_ends) v i j a.from b.to h.work m,
    )

pub overflow_sub-index_mut-in-Some : goal.overflow_sub-index_mut-in-Some
overflow_sub-index_mut-in-Some c =
    let f = c.self.inside in
    let h = c.self.invariant in
    let v = c.args.task in
    let i = c.index-first.result.now in
    let j = c.index-second.result.now in
    let a = c.index.result.now in
    let b = c.index-2.result.now in
    let m = found f c.args.self.now c.self.view_is h v i j a b c.requires.task c.requires.in_series
    c.index-first.ensures c.index-second.ensures c.index.ensures c.index-2.ensures in
    let read = get_or_read (set f.outs.items v 0) a.from c.index_mut-in-Some-5.result.now
    (omega (arith, length-set f.outs.items v 0, h.work.lens, m.small_p)) c.index_mut-in-Some-5.ensures.value 0 in
    omega (
      arith,
      read,
      some_out f.tasks h.rank f.list.items f.ins.items f.outs.items f.in_at.items f.out_at.items
          (hash.get nat_eq f.by_ends) v i j a.from b.to h.work m,
    )

pub invariant_of-self : goal.invariant_of-self
invariant_of-self c =
    let f = c.self.inside in
    let h = c.self.invariant in
    let v = c.args.task in
    let i = c.index-first.result.now in
    let j = c.index-second.result.now in
    let a = c.index.result.now in
    let b = c.index-2.result.now in
    let k = c.in-Some.other in
    let m = found f c.args.self.now c.self.view_is h v i j a b c.requires.task c.requires.in_series
    c.index-first.ensures c.index-second.ensures c.index.ensures c.index-2.ensures in
    let table : ℕ → Option ℕ = λ q. hash.get nat_eq f.by_ends q in
    let twin = rw (← c.self.view_is) at c.in-Some.ensures in
    let ins : c.index_mut-in-Some-4.result.now ≡ get_or (set f.ins.items v 0) b.to 0 =
    get_or_read (set f.ins.items v 0) b.to c.index_mut-in-Some-4.result.now
    (omega (arith, length-set f.ins.items v 0, h.work.lens, m.small_s)) c.index_mut-in-Some-4.ensures.value 0 in
    let outs : c.index_mut-in-Some-5.result.now ≡ get_or (set f.outs.items v 0) a.from 0 =
    get_or_read (set f.outs.items v 0) a.from c.index_mut-in-Some-5.result.now
    (omega (arith, length-set f.outs.items v 0, h.work.lens, m.small_p)) c.index_mut-in-Some-5.ensures.value 0 in
    let list = set (set f.list.items i no_link) j no_link in
    let done = merged_work f.tasks h.rank f.list.items f.ins.items f.outs.items f.in_at.items
    f.out_at.items table v i j a.from b.to h.work m k twin (omega (arith, h.few_tasks)) in
    record {
      few_tasks = h.few_tasks;
      few_links = omega (arith, h.few_links, length-set (set f.list.items i no_link) j no_link, length-set f.list.items i no_link);
      rank = h.rank;
      work = subst (λ x. IsWork f.tasks h.rank list (set (set f.ins.items v 0) b.to (x - 1))
          (set (set f.outs.items v 0) a.from (c.index_mut-in-Some-5.result.now - 1))
          (set f.in_at.items b.to k) (set f.out_at.items a.from k) table) (sym ins)
          (subst (λ x. IsWork f.tasks h.rank list (set (set f.ins.items v 0) b.to (get_or (set f.ins.items v 0) b.to 0 - 1))
          (set (set f.outs.items v 0) a.from (x - 1)) (set f.in_at.items b.to k) (set f.out_at.items a.from k) table)
          (sym outs) done);
    }

pub invariant_of-self-in-None : goal.invariant_of-self-in-None
invariant_of-self-in-None c =
    let f = c.self.inside in
    let h = c.self.invariant in
    let v = c.args.task in
    let i = c.index-first.result.now in
    let j = c.index-second.result.now in
    let a = c.index.result.now in
    let b = c.index-2.result.now in
    let m = found f c.args.self.now c.self.view_is h v i j a b c.requires.task c.requires.in_series
    c.index-first.ensures c.index-second.ensures c.index.ensures c.index-2.ensures in
    let table : ℕ → Option ℕ = λ q. hash.get nat_eq f.by_ends q in
    let table' : ℕ → Option ℕ = λ q. hash.get nat_eq c.insert.new.self q in
    let u = c.in_ok-insert-in-None.ensures.updates in
    let key_is : c.key.result ≡ key_of a.from b.to = c.key.ensures in
    let here : table' (key_of a.from b.to) ≡ Some i = ap table' (sym key_is) ∙ u.1 in
    let others : (q : ℕ) → q ≢ key_of a.from b.to → table' q ≡ table q = λ q ne. u.2 q (ne_eqb c.key.result q (λ e. ne (sym e ∙ key_is))) in
    let none = rw (← c.self.view_is) at c.in-None.ensures in
    let new : Link = record { alive = true; from = a.from; to = b.to } in
    record {
      few_tasks = h.few_tasks;
      few_links = omega (arith, h.few_links, length-set (set f.list.items i new) j no_link, length-set f.list.items i new);
      rank = h.rank;
      work = joined_work f.tasks h.rank f.list.items f.ins.items f.outs.items f.in_at.items f.out_at.items
          table v i j a.from b.to h.work m table' none here others (omega (arith, h.few_tasks));
    }

pub returns-in-Some : goal.returns-in-Some
returns-in-Some c =
    let f = c.self.inside in
    let h = c.self.invariant in
    let v = c.args.task in
    let i = c.index-first.result.now in
    let j = c.index-second.result.now in
    let a = c.index.result.now in
    let b = c.index-2.result.now in
    let k = c.in-Some.other in
    let m = found f c.args.self.now c.self.view_is h v i j a b c.requires.task c.requires.in_series
    c.index-first.ensures c.index-second.ensures c.index.ensures c.index-2.ensures in
    let twin = rw (← c.self.view_is) at c.in-Some.ensures in
    let t = merged_out f.tasks h.rank f.list.items f.ins.items f.outs.items f.in_at.items f.out_at.items
    (hash.get nat_eq f.by_ends) v i j a.from b.to h.work m k twin in
    rw (← c.self.view_is) (record {
      tasks = refl;
      len = t.len;
      row = t.row;
      taken = t.taken;
      within = t.within;
      none_in = t.none_in;
      others = t.others;
      fewer = t.fewer;
    })

pub returns-in_ok-insert-in-None : goal.returns-in_ok-insert-in-None
returns-in_ok-insert-in-None c =
    let f = c.self.inside in
    let h = c.self.invariant in
    let v = c.args.task in
    let i = c.index-first.result.now in
    let j = c.index-second.result.now in
    let a = c.index.result.now in
    let b = c.index-2.result.now in
    let m = found f c.args.self.now c.self.view_is h v i j a b c.requires.task c.requires.in_series
    c.index-first.ensures c.index-second.ensures c.index.ensures c.index-2.ensures in
    let t = joined_out f.tasks h.rank f.list.items f.ins.items f.outs.items f.in_at.items f.out_at.items
    (hash.get nat_eq f.by_ends) v i j a.from b.to h.work m in
    rw (← c.self.view_is) (record {
      tasks = refl;
      len = t.len;
      row = t.row;
      taken = t.taken;
      within = t.within;
      none_in = t.none_in;
      others = t.others;
      fewer = t.fewer;
    })
