use Rattle.memplan_c.proofs.Steps.{◌≡◌, ℕ, [], ◌∷◌, ◌++◌, refl, w32, w64, MutBor, proved, full_share, id⊢, ftrue, flft, fres, flent}
use Rattle.memplan_c.proofs.Steps.{named, fact, tables, ‵, raw, prop, ◌⊛◌, some, later, ◌$◌, ◌∵◌, !, qed, done, move, keep, drop}
use Rattle.memplan_c.proofs.Steps.{use1, use2, use3, split, join, fsplit, pick, await, rewrite, regoal, suffices, frame, group, enter}
use Rattle.memplan_c.proofs.Steps.{of_opd, addr, stop, no_more, and_then, returns, alloc_all, pass_all, free_all, look_at, get, through}
use Rattle.memplan_c.proofs.Steps.{sets, lands_as, lft_new, lft_end, u32, u64, yes, shows, Is, lends_ref, ref_back, mem, uint_Lawful}
use Rattle.memplan_c.proofs.Steps.{uint_vals, uint_Tells, Ptr, RawPtr, block_ptr, lies_at, in_a_block, rawptr_vals, rawptr_Tells}
use Rattle.memplan_c.proofs.Steps.{MutRef, mut_vals, mut_Tells, plain, nothing, heard, peeks, calls_at, lasts, triple_of, Stays, walk_of}
use Rattle.memplan_c.proofs.Steps.{says, stay_dropped, Goes-dropped, ends_at, framed, WpFn, Body}
use denote.Slice.{ShrSlice, shr_slice_vals, shr_slice_Tells, shr_slice_Lawful}
use denote.Triple.Walked.{gave_ref, Goes-gave_ref}
use denote.Signature.{shr_slice_of}
use Rattle.trees.specs.Tree.{IsTree, system_of_nodes}
use Rattle.trees.specs.contracts.node.Node.{the_row as NodeRow}
use Rattle.c_calls.specs.Refusals.{IsBeginRefusal}
use Rattle.c_calls.specs.declared.faults.Fault.{Fault}
use Rattle.c_calls.specs.contracts.faults.Fault.{the_row as FaultRow}
use Rattle.c_calls.specs.Slots.{SlotValue, own_setting, begun, IsCoreBegun}
use Rattle.c_calls.specs.contracts.slot.Slot.{the_row as R}
use Rattle.memplan_c.specs.contracts.cores.memplan_core_begin as f
use Rattle.memplan_c.proofs.cores.memplan_core_begin.Statement.{statement}
use Rattle.memplan_c.proofs.cores.memplan_core_begin.Code as code
use Rattle.c_calls.specs.contracts.slot.begin as g
use Rattle.c_calls.proofs.slot.begin.Met.{met}

abbrev stayed : Stays f.ended.signature.params f.ended.kept
stayed = (
  stay_dropped _ yes,
  (
    stay_dropped (shr_slice_of (0 ∷ []) tt (plain (λ _. NodeRow))) yes,
    (
      stay_dropped (shr_slice_of (1 ∷ []) tt (plain (λ _. u32))) yes,
      (stay_dropped _ yes, (stay_dropped _ yes, (gave_ref (2 ∷ []) tt (plain (λ _. FaultRow)), tt))),
    ),
  ),
)

pub memplan_core_begin_spec : {M : Type 1} → statement M
memplan_core_begin_spec 𝓤 𝓛 𝓜 𝓡 wired =
    let c = f.clauses 𝓛 𝓜.mem 𝓡.returns in let W = walk_of 𝓛 f.ended stayed c in let 𝓣 = tables 𝓤 𝓛.H 𝓜 𝓡 𝓡.env in
    proved 𝓛 f.ended stayed c 𝓜 𝓡 (
      Goes-dropped 𝓛 3 (plain (λ _. RawPtr)) yes (λ κs x w. refl),
      (
        Goes-dropped 𝓛 3 (shr_slice_of (0 ∷ []) tt (plain (λ _. NodeRow))) yes (λ κs x w. refl),
        (
          Goes-dropped 𝓛 3 (shr_slice_of (1 ∷ []) tt (plain (λ _. u32))) yes (λ κs x w. refl),
          (
            Goes-dropped 𝓛 3 (plain (λ _. u64)) yes (λ κs x w. refl),
            (
              Goes-dropped 𝓛 3 (plain (λ _. u32)) yes (λ κs x w. refl),
              (Goes-gave_ref 𝓛 3 2 tt (plain (λ _. FaultRow)), tt),
            ),
          ),
        ),
      ),
    )
    f.Key.name code.function (code.unfolded 𝓤 𝓛.H 𝓜 𝓡 wired)
    (λ κs. (rawptr_vals, (shr_slice_vals, (shr_slice_vals, (uint_vals w64, (uint_vals w32, (mut_vals, tt))))))) (λ κs. (
      rawptr_Tells,
      (
        shr_slice_Tells (named 0) κs.0 NodeRow,
        (shr_slice_Tells (named 1) κs.1.0 u32, (uint_Tells w64, (uint_Tells w32, (mut_Tells (named 2) κs.1.1.0 FaultRow, tt)))),
      ),
    )) (λ κs qs bounds a held are.
    let p0 = a.1.0 in
    let p1 = a.1.1.0 in
    let p2 = a.1.1.1.0 in
    let p3 = a.1.1.1.1.0 in
    let p4 = a.1.1.1.1.1.0 in
    let y : Ptr → W.Ghost = λ p. (
      (
        κs,
        qs,
        bounds,
        (p, (p0, (p1, (p2, (p3, (p4, tt)))))),
        (rawptr_vals p, (shr_slice_vals p0, (shr_slice_vals p1, (uint_vals w64 p2, (uint_vals w32 p3, (mut_vals p4, tt)))))),
      ),
      held,
    ) in
    let toks = ‵ (flft κs.0 qs.0) ⊛ ‵ (flft κs.1.0 qs.1.0) ⊛ ‵ (flft κs.1.1.0 qs.1.1.0) ⊛ ‵ ftrue in
    qed 𝓛
    ((toks ⊛ ‵ (RawPtr.own_val a.0 (rawptr_vals a.0)) ⊛ ‵ ((ShrSlice (named 0) κs.0 NodeRow).own_val p0 (shr_slice_vals p0))
    ⊛ ‵ ((ShrSlice (named 1) κs.1.0 u32).own_val p1 (shr_slice_vals p1)) ⊛ ‵ (u64.own_val p2 (uint_vals w64 p2))
    ⊛ ‵ (u32.own_val p3 (uint_vals w32 p3)) ⊛ ‵ ((MutRef (named 2) κs.1.1.0 FaultRow).own_val p4 (mut_vals p4)) ⊛ ‵ ftrue) ∷
    ‵ (lies_at R full_share a.0 held) ∷ []) ∵
    split ! $ move ! (1 ∷ []) $ split ! $ drop ! $ move ! (2 ∷ []) $
    in_a_block ! a.0 (λ p. lies_at R full_share p held) (id⊢ 𝓤 _) (λ b o e.
    regoal ! (λ p. prop (WpFn 𝓤 𝓛.H 𝓣.C 𝓣.Λ code.function (rawptr_vals p
    ++ (shr_slice_vals p0 ++ (shr_slice_vals p1 ++ (uint_vals w64 p2 ++ (uint_vals w32 p3 ++ (mut_vals p4)))))) (W.post (y p))))
    e refl $
    -- [the value; what the call takes beside it; the tokens]
    enter ! _ _ _ _ _ $
    alloc_all ! (λ l. pass_all ! refl (
      (tt, tt),
      (
        ((shr_slice_Lawful 𝓛 (named 0) κs.0 NodeRow).typed p0 (shr_slice_vals p0) are.1.0).0,
        (
          ((shr_slice_Lawful 𝓛 (named 1) κs.1.0 u32).typed p1 (shr_slice_vals p1) are.1.1.0).0,
          ((tt, record { fits = are.1.1.1.0.1 }), ((tt, record { fits = are.1.1.1.1.0.1 }), ((tt, tt), tt))),
        ),
      ),
    ) $
    sets ! (of_opd ! (get ! refl)) refl (tt, tt) $
    sets ! (addr ! (through ! refl (stop !))) refl (tt, tt) $
    sets ! (addr ! (through ! refl (stop !))) refl (tt, tt) $
    lft_new ! tt (λ α. move ! (1 ∷ []) $
    use1 𝓛 (later (some (λ (γ : ℕ). ‵ ((MutRef (named 0) (α ∷ []) R).own_val (record {
      ref_ptr = (b, o);
      ghost_name = γ;
      now = held;
    }) (mut_vals (record { ref_ptr = (b, o); ghost_name = γ; now = held }))) ⊛ ‵ (flent (α ∷ []) (Body (mem R) b o γ)))))
    (lends_ref 𝓛 R (named 0) (α ∷ []) held b o) $ await ! tt $ pick ! (λ γ. split ! $
    -- [the loan; what the lender keeps; the token of α; what the call takes; the tokens]
    let G = triple_of 𝓛 g.signature (g.spec 𝓛 𝓜.mem 𝓡.returns) in
    let r : MutBor SlotValue = record { ref_ptr = (b, o); ghost_name = γ; now = held } in
    let z : G.Ghost = (
      (
        (α ∷ [], (κs.0, (κs.1.0, (κs.1.1.0, tt)))),
        (full_share, (qs.0, (qs.1.0, (qs.1.1.0, tt)))),
        tt,
        (r, (p0, (p1, (p2, (p3, (p4, tt)))))),
        (mut_vals r, (shr_slice_vals p0, (shr_slice_vals p1, (uint_vals w64 p2, (uint_vals w32 p3, (mut_vals p4, tt)))))),
      ),
      tt,
    ) in
    move ! (0 ∷ 3 ∷ []) $ join ! $ move ! (2 ∷ 3 ∷ []) $ join ! $ join ! $
    nothing ! $ move ! (1 ∷ 0 ∷ []) $ use2 𝓛 (raw (G.pre z)) (id⊢ 𝓤 _) $
    calls_at ! (framed 𝓤 𝓛.H 𝓜 (tables 𝓤 𝓛.H 𝓜 𝓡 𝓡.env)) G (met 𝓤 𝓛 𝓜 𝓡 (code.calls-c_calls::slot::begin 𝓡.env wired)) z
    (and_then ! (get ! refl) (and_then ! (get ! refl)
    (and_then ! (get ! refl) (and_then ! (get ! refl) (and_then ! (get ! refl) (and_then ! (get ! refl) (no_more !))))))) (λ v.
    use1 𝓛 (later (some (λ (u : ℕ). ((‵ (flft (α ∷ []) full_share) ⊛ toks) ⊛ ‵ (u32.own_val u (v ∷ []))) ⊛
    some (λ (ws : SlotValue × (Unit {0} × (Unit {0} × (Unit {0} × (Unit {0} × (Fault × Unit {0})))))). ‵ (lasts g.ended z.0.0 z.0.3 ws)
    ⊛ raw (fact 𝓤 ((ws.0 ≡ begun held (own_setting (system_of_nodes p0.now) p1.now p2 p3) u) × (IsCoreBegun (IsTree p0.now)
    (IsBeginRefusal p0.now p1.now p2 p3) (own_setting (system_of_nodes p0.now) p1.now p2 p3) u p4.now ws.1.1.1.1.1.0)))))))
    (id⊢ 𝓤 _) $
    await ! tt $ pick ! (λ u. split ! $ split ! $ split ! $ lft_end ! tt $ move ! (2 ∷ []) $
    peeks ! u32 (Is u32) (shows 𝓛 u32) u (v ∷ []) (λ is. lands_as ! refl refl ((uint_Lawful 𝓛 w32).typed u _ is).0 $
    -- [the result; the end of α; the tokens; the clauses; what the lender keeps]
    move ! (3 ∷ []) $ pick ! (λ ws. split ! $ move ! (1 ∷ []) $ heard ! _ (λ facts. fsplit ! $ fsplit ! $
    rewrite ! 0 (λ (m : SlotValue). ‵ (fres γ (R.coded.code m))) facts.0 refl $
    -- [the last value; its borrow; what the references leave; the result; the end of α; the tokens; what the lender keeps]
    move ! (4 ∷ 6 ∷ 0 ∷ []) $
    use3 𝓛 (later (‵ (lies_at R full_share (block_ptr b o) (begun held (own_setting (system_of_nodes p0.now) p1.now p2 p3) u))))
    (ref_back 𝓛 R (α ∷ []) γ (begun held (own_setting (system_of_nodes p0.now) p1.now p2 p3) u) b o) $
    await ! tt $
    move ! (2 ∷ []) $ fsplit ! $ drop ! $ fsplit ! $ drop ! $ fsplit ! $ drop ! $ fsplit ! $ drop ! $ fsplit ! $
    returns ! (look_at ! 0 refl) $ free_all ! refl $ keep ! (0 ∷ 5 ∷ 4 ∷ 2 ∷ []) $
    suffices ! _
    (ends_at 𝓛 f.ended stayed c (y (block_ptr b o)) v u
    (tt, (tt, (tt, (tt, (tt, (ws.1.1.1.1.1.0, tt)))))) (tt, (tt, (tt, (tt, (tt, (tt, tt))))))) $
    nothing ! $ move ! (1 ∷ 0 ∷ []) $ join ! $ nothing ! $ join ! $ nothing ! $ join ! $ nothing ! $ join ! $ nothing ! $
    join ! $ nothing ! $ join ! $ move ! (1 ∷ 0 ∷ []) $ group ! 3 $ frame ! $ says ! facts.1 $ done !))))))))))
