use Rattle.memplan_c.proofs.Steps.{◌≡◌, ℕ, [], ◌∷◌, refl, w32, MutBor, proved, full_share, id⊢, ftrue, flft, fres, flent, named}
use Rattle.memplan_c.proofs.Steps.{fact, tables, ‵, raw, prop, ◌⊛◌, some, later, ◌$◌, ◌∵◌, !, qed, done, move, keep, drop, use1}
use Rattle.memplan_c.proofs.Steps.{use2, use3, split, join, fsplit, pick, await, rewrite, regoal, suffices, frame, group, enter}
use Rattle.memplan_c.proofs.Steps.{of_opd, addr, stop, no_more, and_then, returns, alloc_all, pass_all, free_all, look_at, get}
use Rattle.memplan_c.proofs.Steps.{through, sets, lands_as, lft_new, lft_end, u32, yes, shows, Is, lends_ref, ref_back, mem}
use Rattle.memplan_c.proofs.Steps.{uint_Lawful, Ptr, RawPtr, block_ptr, lies_at, in_a_block, rawptr_vals, rawptr_Tells, MutRef}
use Rattle.memplan_c.proofs.Steps.{mut_vals, plain, nothing, heard, peeks, calls_at, lasts, on_entry, triple_of, Stays, walk_of}
use Rattle.memplan_c.proofs.Steps.{says, stay_dropped, Goes-dropped, ends_at, framed, WpFn, Body}
use Rattle.c_calls.specs.Slots.{SlotValue, IsNext}
use Rattle.c_calls.specs.contracts.slot.Slot.{the_row as R}
use Rattle.memplan_c.specs.contracts.cores.memplan_core_next as f
use Rattle.memplan_c.proofs.cores.memplan_core_next.Statement.{statement}
use Rattle.memplan_c.proofs.cores.memplan_core_next.Code as code
use Rattle.c_calls.specs.contracts.slot.next as g
use Rattle.c_calls.proofs.slot.next.Met.{met}

abbrev stayed : Stays f.ended.signature.params f.ended.kept
stayed = (stay_dropped _ yes, tt)

pub memplan_core_next_spec : {M : Type 1} → statement M
memplan_core_next_spec 𝓤 𝓛 𝓜 𝓡 wired =
    let c = f.clauses 𝓛 𝓜.mem 𝓡.returns in let W = walk_of 𝓛 f.ended stayed c in let 𝓣 = tables 𝓤 𝓛.H 𝓜 𝓡 𝓡.env in
    proved 𝓛 f.ended stayed c 𝓜 𝓡 (Goes-dropped 𝓛 0 (plain (λ _. RawPtr)) yes (λ κs x w. refl), tt)
    f.Key.name code.function (code.unfolded 𝓤 𝓛.H 𝓜 𝓡 wired)
    (λ κs. (rawptr_vals, tt)) (λ κs. (rawptr_Tells, tt)) (λ κs qs bounds a held are.
    let y : Ptr → W.Ghost = λ p. ((κs, qs, bounds, (p, tt), (rawptr_vals p, tt)), held) in
    qed 𝓛 (raw (on_entry 𝓛 f.signature κs qs a (y a.0).0.4) ∷ ‵ (lies_at R full_share a.0 held) ∷ []) ∵ drop ! $
    in_a_block ! a.0 (λ p. lies_at R full_share p held) (id⊢ 𝓤 _) (λ b o e.
    regoal ! (λ p. prop (WpFn 𝓤 𝓛.H 𝓣.C 𝓣.Λ code.function (rawptr_vals p) (W.post (y p)))) e refl $
    enter ! _ _ _ _ _ $ alloc_all ! (λ l. pass_all ! refl ((tt, tt), tt) $
    sets ! (of_opd ! (get ! refl)) refl (tt, tt) $
    sets ! (addr ! (through ! refl (stop !))) refl (tt, tt) $
    -- [the value; the locals]
    lft_new ! tt (λ α. move ! (1 ∷ []) $
    use1 𝓛 (later (some (λ (γ : ℕ). ‵ ((MutRef (named 0) (α ∷ []) R).own_val (record {
      ref_ptr = (b, o);
      ghost_name = γ;
      now = held;
    }) (mut_vals (record { ref_ptr = (b, o); ghost_name = γ; now = held }))) ⊛ ‵ (flent (α ∷ []) (Body (mem R) b o γ)))))
    (lends_ref 𝓛 R (named 0) (α ∷ []) held b o) $ await ! tt $ pick ! (λ γ. split ! $
    -- [the loan; what the lender keeps; the token]
    let G = triple_of 𝓛 g.signature (g.spec 𝓛 𝓜.mem 𝓡.returns) in
    let r : MutBor SlotValue = record { ref_ptr = (b, o); ghost_name = γ; now = held } in
    let z : G.Ghost = (((α ∷ [], tt), (full_share, tt), tt, (r, tt), (mut_vals r, tt)), tt) in
    nothing ! $ move ! (1 ∷ 0 ∷ []) $ join ! $ nothing ! $ move ! (3 ∷ 0 ∷ []) $ join ! $ join ! $
    nothing ! $ move ! (1 ∷ 0 ∷ []) $ use2 𝓛 (raw (G.pre z)) (id⊢ 𝓤 _) $
    calls_at ! (framed 𝓤 𝓛.H 𝓜 (tables 𝓤 𝓛.H 𝓜 𝓡 𝓡.env)) G (met 𝓤 𝓛 𝓜 𝓡 (code.calls-c_calls::slot::next 𝓡.env wired)) z
    (and_then ! (get ! refl) (no_more !)) (λ v.
    use1 𝓛 (later (some (λ (u : ℕ). ((‵ (flft (α ∷ []) full_share) ⊛ ‵ ftrue) ⊛ ‵ (u32.own_val u (v ∷ []))) ⊛
    some (λ (ws : SlotValue × Unit {0}). ‵ (lasts g.ended z.0.0 z.0.3 ws) ⊛ raw (fact 𝓤 ((ws.0 ≡ held) × (IsNext held u)))))))
    (id⊢ 𝓤 _) $
    await ! tt $ pick ! (λ u. split ! $ split ! $ split ! $ lft_end ! tt $ move ! (2 ∷ []) $
    peeks ! u32 (Is u32) (shows 𝓛 u32) u (v ∷ []) (λ is. lands_as ! refl refl ((uint_Lawful 𝓛 w32).typed u _ is).0 $
    -- [the result; the end of α; nothing; the clauses; what the lender keeps]
    move ! (3 ∷ []) $ pick ! (λ ws. split ! $ move ! (1 ∷ []) $ heard ! _ (λ facts. fsplit ! $ fsplit ! $
    rewrite ! 0 (λ (m : SlotValue). ‵ (fres γ (R.coded.code m))) facts.0 refl $
    -- [the last value; its borrow; nothing; the result; the end of α; nothing; what the lender keeps]
    move ! (4 ∷ 6 ∷ 0 ∷ []) $
    use3 𝓛 (later (‵ (lies_at R full_share (block_ptr b o) held))) (ref_back 𝓛 R (α ∷ []) γ held b o) $ await ! tt $
    returns ! (look_at ! 0 refl) $ free_all ! refl $ keep ! (3 ∷ 0 ∷ []) $
    suffices ! _ (ends_at 𝓛 f.ended stayed c (y (block_ptr b o)) v u (tt, tt) (tt, tt)) $
    nothing ! $ nothing ! $ join ! $ nothing ! $ group ! 3 $ frame ! $ says ! facts.1 $ done !))))))))))
