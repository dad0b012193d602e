-- A task is taken out: what holds of the links that are left.
use Rattle.std.proofs.Common.{◌≡◌, ◌≢◌, ℕ, ◌+◌, ◌≤◌, refl, sym, arith, ◌∙◌, List, length, Option, Some, None, set}
use Rattle.std.proofs.lemmas.List.Sorted.{IsPermutation-refl}
use Rattle.sp_reduce.specs.declared.link.Link.{Link}
use Rattle.sp_reduce.specs.declared.link.Taken.{Taken}
use Rattle.sp_reduce.specs.Reductions.{ReducesTo, in_order, by_parallel, by_series}
use Rattle.sp_reduce.specs.Work.{no_link, link, hit, links_into, links_out_of, link_count, link_weight}
use Rattle.sp_reduce.specs.Work.{sum_links, pairs_of, fewer_by, IsLink, IsTaskTaken, IsWork}
use Rattle.sp_reduce.proofs.Works.{Meets, changed-len, hit-self, hit-no, two_sums, joined_fewer, merged_fewer}
use Rattle.sp_reduce.proofs.Rows.{leads-series, leads-parallel}

pub record IsTakenOut (n : ℕ) (old new : List Link) (v : ℕ) (r : Taken) : Type 0 where
  pub len : length new ≡ length old
  pub row : ReducesTo (pairs_of old) (pairs_of new)
  pub taken : IsTaskTaken old new v r
  pub within : (r.from ≤ n) × (r.to ≤ n)
  pub none_in : links_into v new ≡ 0
  pub others : (u : ℕ) → u ≢ v → u ≢ r.from → u ≢ r.to → (links_into u new ≡ links_into u old) × (links_out_of u new ≡ links_out_of u old)
  pub fewer : link_count new + fewer_by r.twin ≡ link_count old

module _ (n : ℕ) (rank : ℕ → ℕ) (links : List Link) (ins outs in_at out_at : List ℕ)
    (table : ℕ → Option ℕ) (v i j p s : ℕ) (w : IsWork n rank links ins outs in_at out_at table)
    (m : Meets n rank links ins outs v i j p s) where
  sums : (new : Link) (g : ℕ → ℕ → ℕ)
      → sum_links g (set (set links i new) j no_link) + (g p v + g v s) ≡ sum_links g links + link_weight g new
  sums new g = two_sums n rank links ins outs in_at out_at table v i j p s w m new g

  one_in : links_into v links ≡ 1
  one_in = sym (w.ins_are v m.small) ∙ m.one_in

  one_out : links_out_of v links ≡ 1
  one_out = sym (w.outs_are v m.small) ∙ m.one_out

  pub joined_out :
      IsTakenOut n links (set (set links i (link p s)) j no_link) v (record { from = p; to = s; first = i; second = j; twin = None })
  joined_out = record {
    len = changed-len links i j m.first.within m.second.within m.apart (link p s);
    row = by_series {h = pairs_of (set (set links i (link p s)) j no_link)}
        (leads-series n rank links ins outs in_at out_at table v i j p s w m)
        (in_order (IsPermutation-refl (pairs_of (set (set links i (link p s)) j no_link))));
    taken = record {
      task = m.task;
      first = m.first;
      second = m.second;
      apart = m.apart;
      other_from = m.other_p;
      other_to = m.other_s;
      one_in = one_in;
      one_out = one_out;
      left = refl;
    };
    within = (m.small_p, m.small_s);
    none_in = omega (arith, sums (link p s) (λ x y. hit y v), one_in, hit-self v);
    others = λ u nv np ns. (
      omega (arith, sums (link p s) (λ x y. hit y u), hit-no v u (λ e. nv (sym e))),
      omega (arith, sums (link p s) (λ x y. hit x u), hit-no v u (λ e. nv (sym e))),
    );
    fewer = joined_fewer n rank links ins outs in_at out_at table v i j p s w m;
  }

  pub merged_out : (k : ℕ) → IsLink links k p s
      → IsTakenOut n links (set (set links i no_link) j no_link) v (record { from = p; to = s; first = i; second = j; twin = Some k })
  merged_out k twin = record {
    len = changed-len links i j m.first.within m.second.within m.apart no_link;
    row = by_series {h = pairs_of (set (set links i (link p s)) j no_link)}
        (leads-series n rank links ins outs in_at out_at table v i j p s w m)
        (by_parallel {h = pairs_of (set (set links i no_link) j no_link)}
        (leads-parallel n rank links ins outs in_at out_at table v i j p s w m k twin)
        (in_order (IsPermutation-refl (pairs_of (set (set links i no_link) j no_link)))));
    taken = record {
      task = m.task;
      first = m.first;
      second = m.second;
      apart = m.apart;
      other_from = m.other_p;
      other_to = m.other_s;
      one_in = one_in;
      one_out = one_out;
      left = (twin, refl);
    };
    within = (m.small_p, m.small_s);
    none_in = omega (arith, sums no_link (λ x y. hit y v), one_in, hit-self v);
    others = λ u nv np ns. (
      omega (arith, sums no_link (λ x y. hit y u), hit-no v u (λ e. nv (sym e)), hit-no s u (λ e. ns (sym e))),
      omega (arith, sums no_link (λ x y. hit x u), hit-no v u (λ e. nv (sym e)), hit-no p u (λ e. np (sym e))),
    );
    fewer = merged_fewer n rank links ins outs in_at out_at table v i j p s w m;
  }
