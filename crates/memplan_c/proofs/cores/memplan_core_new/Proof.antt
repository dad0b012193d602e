use Rattle.memplan_c.proofs.Steps.{◌≡◌, [], ◌∷◌, ◌++◌, refl, proved, full_share, id⊢, ftrue, vunit, fact, tables, ‵, raw, prop, ◌⊛◌}
use Rattle.memplan_c.proofs.Steps.{some, later, ◌$◌, ◌∵◌, !, qed, done, move, drop, use1, use2, split, join, feq_i, pick, await, rewrite}
use Rattle.memplan_c.proofs.Steps.{regoal, suffices, group, enter, of_opd, unit_lit, stop, assigns, no_more, and_then, returns, alloc_all}
use Rattle.memplan_c.proofs.Steps.{pass_all, free_all, look_at, get, through, sets, lands_as, yes, shows, Is, part_at, Ptr, RawPtr}
use Rattle.memplan_c.proofs.Steps.{block_ptr, lies_at, in_a_block, rawptr_vals, rawptr_Tells, plain, nothing, heard, peeks, calls_at}
use Rattle.memplan_c.proofs.Steps.{lasts, triple_of, Stays, walk_of, stay_dropped, Goes-dropped, ends_at, framed, WpFn}
use types.Run.{init}
use denote.RawPtr.{room_at}
use borrow.Table.OneValue.{part_in}
use Rattle.std_heap.proofs.Handle.{heap_val, heap_Tells}
use Rattle.std_heap.specs.contracts.Global.{the_row as Heap}
use Rattle.std_heap.proofs.Global.TheLaws.{the_row_laws as heap_laws}
use Rattle.c_calls.specs.Slots.{SlotValue, empty}
use Rattle.c_calls.specs.contracts.slot.Slot.{the_row as R}
use Rattle.c_calls.proofs.slot.Slot.TheLaws.{the_row_laws as laws}
use Rattle.memplan_c.specs.contracts.cores.memplan_core_new as f
use Rattle.memplan_c.proofs.cores.memplan_core_new.Statement.{statement}
use Rattle.memplan_c.proofs.cores.memplan_core_new.Code as code
use Rattle.c_calls.specs.contracts.slot.make as g
use Rattle.c_calls.proofs.slot.make.Met.{met}

abbrev stayed : Stays f.ended.signature.params f.ended.kept
stayed = (stay_dropped _ yes, (stay_dropped _ yes, tt))

pub memplan_core_new_spec : {M : Type 1} → statement M
memplan_core_new_spec 𝓤 𝓛 𝓜 𝓡 wired =
    let c = f.clauses 𝓛 𝓜.mem 𝓡.returns in let W = walk_of 𝓛 f.ended stayed c in let 𝓣 = tables 𝓤 𝓛.H 𝓜 𝓡 𝓡.env in
    proved 𝓛 f.ended stayed c 𝓜 𝓡
    (Goes-dropped 𝓛 0 (plain (λ _. Heap)) yes (λ κs x w. refl), (Goes-dropped 𝓛 0 (plain (λ _. RawPtr)) yes (λ κs x w. refl), tt))
    f.Key.name code.function (code.unfolded 𝓤 𝓛.H 𝓜 𝓡 wired)
    (λ κs. ((λ _. heap_val ∷ []), (rawptr_vals, tt))) (λ κs. (heap_Tells, (rawptr_Tells, tt))) (λ κs qs bounds a _ are.
    let y : Ptr → W.Ghost = λ p. ((κs, qs, bounds, (a.0, (p, tt)), (heap_val ∷ [], (rawptr_vals p, tt))), tt) in
    qed 𝓛
    ((‵ ftrue ⊛ ‵ (Heap.own_val a.0 (heap_val ∷ [])) ⊛ ‵ (RawPtr.own_val a.1.0 (rawptr_vals a.1.0)) ⊛ ‵ ftrue) ∷
    ‵ (room_at R a.1.0) ∷ []) ∵
    split ! $ drop ! $ split ! $ move ! (1 ∷ []) $ split ! $ drop ! $ move ! (1 ∷ 0 ∷ []) $ join ! $ nothing ! $ join ! $ move ! (1 ∷ []) $
    in_a_block ! a.1.0 (λ p. room_at R p) (id⊢ 𝓤 _) (λ b o e.
    regoal ! (λ p. prop (WpFn 𝓤 𝓛.H 𝓣.C 𝓣.Λ code.function ((heap_val ∷ []) ++ rawptr_vals p) (W.post (y p)))) e refl $
    -- [the room; what the call takes]
    enter ! _ _ _ _ _ $ alloc_all ! (λ l. pass_all ! refl (((heap_laws.lawful 𝓛).typed a.0 (heap_val ∷ []) are.0).0, ((tt, tt), tt)) $
    sets ! (of_opd ! (get ! refl)) refl (tt, tt) $
    let G = triple_of 𝓛 g.signature (g.spec 𝓛 𝓜.mem 𝓡.returns) in
    let z : G.Ghost = ((κs, qs, bounds, (a.0, tt), (heap_val ∷ [], tt)), tt) in
    nothing ! $ move ! (2 ∷ 0 ∷ []) $ use2 𝓛 (raw (G.pre z)) (id⊢ 𝓤 _) $
    calls_at ! (framed 𝓤 𝓛.H 𝓜 (tables 𝓤 𝓛.H 𝓜 𝓡 𝓡.env)) G (met 𝓤 𝓛 𝓜 𝓡 (code.calls-c_calls::slot::make 𝓡.env wired)) z
    (and_then ! (get ! refl) (no_more !)) (λ v.
    use1 𝓛 (later (some (λ (u : SlotValue). (‵ ftrue ⊛ ‵ (R.own_val u (v ∷ []))) ⊛
    some (λ (ws : Unit {0} × Unit {0}). ‵ (lasts g.ended z.0.0 z.0.3 ws) ⊛ raw (fact 𝓤 (u ≡ empty)))))) (id⊢ 𝓤 _) $
    await ! tt $ pick ! (λ u. split ! $ split ! $ drop ! $ move ! (1 ∷ []) $ pick ! (λ ws. split ! $ drop ! $ heard ! _ (λ same.
    -- [what the counter owns; the room]
    peeks ! R (Is R) (shows 𝓛 R) u (v ∷ []) (λ is.
    let typed = ((laws.lawful 𝓛).typed u (v ∷ []) is).0 in
    lands_as ! refl refl typed $
    assigns ! (of_opd ! (get ! refl)) (through ! refl (stop !)) (init ! 1 refl typed) $
    sets ! (of_opd ! (unit_lit !)) refl (tt, tt) $
    returns ! (look_at ! 0 refl) $ free_all ! refl $
    move ! (1 ∷ 0 ∷ []) $ use2 𝓛 (‵ (part_at R full_share u b o)) (part_in 𝓛 R refl full_share u b o v) $
    rewrite ! 0 (λ (m : SlotValue). ‵ (lies_at R full_share (block_ptr b o) m)) same refl $
    suffices ! _ (ends_at 𝓛 f.ended stayed c (y (block_ptr b o)) vunit tt (tt, (tt, tt)) (tt, (tt, tt))) $
    feq_i ! _ (vunit ∷ []) _ refl $ nothing ! $ nothing ! $ join ! $ nothing ! $ join ! $ nothing ! $ group ! 3 $ done !))))))))
