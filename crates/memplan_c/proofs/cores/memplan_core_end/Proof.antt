use Rattle.memplan_c.proofs.Steps.{[], ◌∷◌, refl, ap, proved, full_share, id⊢, ftrue, fat, Val, vunit, tables, ‵, raw, prop, ◌⊛◌, some}
use Rattle.memplan_c.proofs.Steps.{later, ◌$◌, ◌∵◌, !, qed, done, move, drop, use1, use2, split, join, feq_i, feq_l, pick, await, regoal}
use Rattle.memplan_c.proofs.Steps.{suffices, group, enter, of_opd, unit_lit, load, look, stop, no_more, and_then, returns, alloc_all}
use Rattle.memplan_c.proofs.Steps.{pass_all, free_all, look_at, get, through, sets, lands_as, unit, yes, shows, Is, Ptr, RawPtr, block_ptr}
use Rattle.memplan_c.proofs.Steps.{lies_at, in_a_block, rawptr_vals, rawptr_Tells, plain, nothing, only, peeks, calls_at, lasts, on_entry}
use Rattle.memplan_c.proofs.Steps.{triple_of, Stays, walk_of, stay_dropped, Goes-dropped, ends_at, framed, WpFn}
use base.Fml.{froom}
use borrow.Table.OneValue.{part_out}
use denote.Memory.{lone}
use Rattle.c_calls.specs.contracts.slot.Slot.{the_row as R}
use Rattle.c_calls.proofs.slot.Slot.TheLaws.{the_row_laws as laws}
use Rattle.memplan_c.specs.contracts.cores.memplan_core_end as f
use Rattle.memplan_c.proofs.cores.memplan_core_end.Statement.{statement}
use Rattle.memplan_c.proofs.cores.memplan_core_end.Code as code
use Rattle.c_calls.specs.contracts.slot.end as g
use Rattle.c_calls.proofs.slot.end.Met.{met}

abbrev stayed : Stays f.ended.signature.params f.ended.kept
stayed = (stay_dropped _ yes, tt)

pub memplan_core_end_spec : {M : Type 1} → statement M
memplan_core_end_spec 𝓤 𝓛 𝓜 𝓡 wired =
    let c = f.clauses 𝓛 𝓜.mem 𝓡.returns in let W = walk_of 𝓛 f.ended stayed c in let 𝓣 = tables 𝓤 𝓛.H 𝓜 𝓡 𝓡.env in
    let τ = lone R.mir in
    proved 𝓛 f.ended stayed c 𝓜 𝓡 (Goes-dropped 𝓛 0 (plain (λ _. RawPtr)) yes (λ κs x w. refl), tt)
    f.Key.name code.function (code.unfolded 𝓤 𝓛.H 𝓜 𝓡 wired)
    (λ κs. (rawptr_vals, tt)) (λ κs. (rawptr_Tells, tt)) (λ κs qs bounds a held are.
    let y : Ptr → W.Ghost = λ p. ((κs, qs, bounds, (p, tt), (rawptr_vals p, tt)), held) in
    qed 𝓛 (raw (on_entry 𝓛 f.signature κs qs a (y a.0).0.4) ∷ ‵ (lies_at R full_share a.0 held) ∷ []) ∵ drop ! $
    in_a_block ! a.0 (λ p. lies_at R full_share p held) (id⊢ 𝓤 _) (λ b o e.
    regoal ! (λ p. prop (WpFn 𝓤 𝓛.H 𝓣.C 𝓣.Λ code.function (rawptr_vals p) (W.post (y p)))) e refl $
    use1 𝓛 (some (λ (w : Val). ‵ (fat full_share τ b o w) ⊛ ‵ (R.own_val held (w ∷ [])))) (part_out 𝓛 R refl full_share held b o) $
    pick ! (λ w. split ! $ move ! (1 ∷ []) $
    peeks ! R (Is R) (shows 𝓛 R) held (w ∷ []) (λ is.
    let t = ((laws.lawful 𝓛).typed held (w ∷ []) is).0 in
    -- [what the counter owns; its cell]
    enter ! _ _ _ _ _ $ alloc_all ! (λ l. pass_all ! refl ((tt, tt), tt) $
    sets ! (of_opd ! (get ! refl)) refl (tt, tt) $
    sets ! (of_opd ! (load ! (through ! refl (stop !)) (look ! 1 refl))) refl t $
    move ! (1 ∷ []) $ use1 𝓛 (‵ (froom τ b o)) (𝓛.laws.at_room τ b o w) $
    let G = triple_of 𝓛 g.signature (g.spec 𝓛 𝓜.mem 𝓡.returns) in
    let z : G.Ghost = ((κs, qs, bounds, (held, tt), (w ∷ [], tt)), tt) in
    nothing ! $ move ! (2 ∷ 0 ∷ []) $ join ! $ nothing ! $ join ! $ nothing ! $ move ! (1 ∷ 0 ∷ []) $ use2 𝓛 (raw (G.pre z)) (id⊢ 𝓤 _) $
    calls_at ! (framed 𝓤 𝓛.H 𝓜 (tables 𝓤 𝓛.H 𝓜 𝓡 𝓡.env)) G (met 𝓤 𝓛 𝓜 𝓡 (code.calls-c_calls::slot::end 𝓡.env wired)) z
    (and_then ! (get ! refl) (no_more !)) (λ v.
    use1 𝓛 (later (some (λ (u : Unit {0}). (‵ ftrue ⊛ ‵ (unit.own_val u (v ∷ []))) ⊛
    some (λ (ws : Unit {0} × Unit {0}). ‵ (lasts g.ended z.0.0 z.0.3 ws) ⊛ ‵ ftrue)))) (id⊢ 𝓤 _) $
    await ! tt $ pick ! (λ u. split ! $ split ! $ drop ! $ feq_l ! (λ is_unit. pick ! (λ ws. split ! $ drop ! $ drop ! $
    lands_as ! (ap only is_unit) refl (tt, tt) $
    sets ! (of_opd ! (unit_lit !)) refl (tt, tt) $
    returns ! (look_at ! 0 refl) $ free_all ! refl $
    suffices ! _ (ends_at 𝓛 f.ended stayed c (y (block_ptr b o)) vunit tt (tt, tt) (tt, tt)) $
    feq_i ! _ (vunit ∷ []) _ refl $ nothing ! $ nothing ! $ join ! $ nothing ! $ group ! 3 $ done !)))))))))
