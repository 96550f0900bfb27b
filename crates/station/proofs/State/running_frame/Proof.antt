-- The frame is lent: the place of its bytes is the call's answer, four statements make the pointer and the count, and the lemma of LentPart lends
-- what lies there. Assumes `Logic`.
use Rattle.std.proofs.Common.{◌≡◌, ℕ, ◌+◌, ◌-◌, ◌^◌, ◌<◌, ◌≤◌, List, [], ◌∷◌, ◌++◌, length, take, drop, refl, sym, ap, ap₂, ◌∙◌, w64, MutBor, arith}
use Rattle.std.proofs.raw_atomic.Walks.{proved}
use base.Logic.{id⊢}
use base.Fml.{Lft, Share, ftrue, flft}
use mir.Syntax.{named}
use mir.Val.{Val, vint, vstruct, vcons, vnil, of_list}
use contract.Monad.{fact}
use contract.Running.{tables}
use types.Kit.{‵, raw, ◌⊛◌, some, later, ◌$◌, ◌∵◌, !, qed, move, keep, drop as let_go, split, split3, join, fsplit, fjoin, fpick, feq_l, flt_l, use1, use2, await, pick, suffices, frame, rewrite, done}
use types.Part.{whole, sub, agg}
use types.Run.{stop, fld, bin, of_opd, addr, and_then, no_more, returns, enter}
use types.ByLocal.{alloc_all, pass_all, free_all, look_at, get, get_in, through, sets, lands_as}
use denote.Builtin.{u8, usize, RefOf}
use denote.Exit.{yes, no}
use denote.Plain.{uint_Makes}
use denote.RattleType.{owns}
use denote.Ref.{shr_vals, shr_Tells}
use denote.Signature.{plain, mut_slice_of, types_at, type_at}
use denote.Slice.{Room, slice_val, mut_slice_vals, mut_slice_Tells}
use denote.Steps.{nothing, owned, heard, only}
use denote.Triple.Call.{calls_at}
use denote.Triple.Clauses.{Lasts, lasts}
use denote.Triple.Spec.{triple_of}
use denote.Triple.Table.{framed}
use denote.Triple.Walked.{Stays, stay_dropped, walk_of, says, ends_at, Goes-dropped, Goes-spent_slice}
use Rattle.station.specs.Frame.{Part, part_between, part_of, running_part, LendsPart}
use Rattle.station.proofs.LentPart.{part_lent, lends_part}
use Rattle.station.specs.contracts.State.{the_row as State}
use Rattle.station.specs.contracts.State.running_bytes as g
use Rattle.station.proofs.State.running_bytes.Met.{met}
use Rattle.station.specs.contracts.State.running_frame as f
use Rattle.station.proofs.State.running_frame.Statement.{statement}
use Rattle.station.proofs.State.running_frame.Code as code

-- At the return nothing is left of the parameters: the memory went into the result.
abbrev stayed : Stays f.ended.signature.params f.ended.kept
stayed = (stay_dropped (RefOf (0 ∷ []) tt (plain (λ _. State)) (λ _. tt)) yes, (stay_dropped (mut_slice_of (1 ∷ []) tt (plain (λ _. u8))) no, tt))

pub running_frame_spec : {M : Type 1} → statement M
running_frame_spec 𝓤 𝓛 𝓜 𝓡 wired =
    let c = f.clauses 𝓛 𝓜.mem 𝓡.returns in let W = walk_of 𝓛 f.ended stayed c in let 𝓣 = tables 𝓤 𝓛.H 𝓜 𝓡 𝓡.env in
    proved 𝓛 f.ended stayed c 𝓜 𝓡
    (Goes-dropped 𝓛 2 (RefOf (0 ∷ []) tt (plain (λ _. State)) (λ _. tt)) yes (λ κs x w. refl), (Goes-spent_slice 𝓛 2 (1 ∷ []) tt (plain (λ _. u8)), tt))
    f.Key.name code.function (code.unfolded 𝓤 𝓛.H 𝓜 𝓡 wired)
    (λ κs. (shr_vals, (mut_slice_vals, tt))) (λ κs. (shr_Tells (named 0) κs.0 State, (mut_slice_Tells (named 1) κs.1.0 u8, tt)))
    (λ κs qs bounds a _ are.
    let κ : Lft = κs.0 in let q : Share = qs.0 in let κ₁ : Lft = κs.1.0 in let q₁ : Share = qs.1.0 in
    let memory = a.1.0 in let xs : List ℕ = memory.now in let b : ℕ = memory.ref_ptr.0 in let o : ℕ = memory.ref_ptr.1 in
    let rm : Room u8 (length xs) = are.1.0.0.1 in
    let y : W.Ghost = ((κs, qs, bounds, a, (shr_vals a.0, (mut_slice_vals memory, tt))), tt) in
    let G = triple_of 𝓛 g.signature (g.spec 𝓛 𝓜.mem 𝓡.returns) in
    let z : G.Ghost = (((κ, tt), (q, tt), tt, (a.0, (length xs, tt)), (shr_vals a.0, (vint w64 (length xs) ∷ [], tt))), tt) in
    qed 𝓛 (((‵ (flft κ q) ⊛ ‵ (flft κ₁ q₁) ⊛ ‵ ftrue) ⊛ ‵ (owns (types_at f.signature.params κs) a y.0.4)) ∷ ‵ ftrue ∷ []) ∵
    split ! $ split3 ! $ move ! (3 ∷ []) $ fsplit ! $ move ! (1 ∷ []) $ fsplit ! $ keep ! (2 ∷ 3 ∷ 0 ∷ 4 ∷ []) $
    enter ! _ _ _ _ _ $ alloc_all ! (λ l. pass_all ! refl ((tt, tt), ((tt, (tt, (record { fits = rm.0 }, tt))), tt)) $
    -- [the state; its token; the memory; its token; the locals]
    sets ! (of_opd ! (get_in ! (fld ! refl (stop !)) (sub ! 1 refl (whole !)))) refl (tt, record { fits = rm.0 }) $
    nothing ! $ owned ! usize _ (uint_Makes 𝓛 w64) (length xs) _ (refl, rm.0) $ join ! $ move ! (1 ∷ 0 ∷ []) $ join ! $
    nothing ! $ move ! (2 ∷ 0 ∷ []) $ join ! $ join ! $ nothing ! $ move ! (1 ∷ 0 ∷ []) $ use2 𝓛 (raw (G.pre z)) (id⊢ 𝓤 _) $
    calls_at ! (framed 𝓤 𝓛.H 𝓜 (tables 𝓤 𝓛.H 𝓜 𝓡 𝓡.env)) G (met 𝓤 𝓛 𝓜 𝓡 (code.calls-station::State::running_bytes 𝓡.env wired)) z
    (and_then ! (get ! refl) (and_then ! (get ! refl) (no_more !))) (λ v.
    use1 𝓛 (later (some (λ (r : ℕ × ℕ). ((‵ (flft κ q) ⊛ ‵ ftrue) ⊛ ‵ ((type_at g.signature.result (κ, tt)).own_val r (v ∷ []))) ⊛
    some (λ (ws : Lasts g.ended (κ, tt) z.0.3). ‵ (lasts g.ended (κ, tt) z.0.3 ws)
    ⊛ (raw (fact 𝓤 ((r.0 ≤ r.1) × (r.1 ≤ length xs))) ⊛ raw (fact 𝓤 (running_part a.0.now (length xs) ≡ part_between r.0 r.1))))))) (id⊢ 𝓤 _) $
    await ! tt $ pick ! (λ r. split ! $ split ! $ move ! (1 ∷ []) $ fpick ! (λ vss. fsplit ! $ feq_l ! (λ is.
    fsplit ! $ fsplit ! $ feq_l ! (λ one. flt_l ! (λ fs. fsplit ! $ fsplit ! $ feq_l ! (λ two. flt_l ! (λ fe. let_go ! $
    -- [the state's token; the call's clauses; the memory; its token; the locals]
    move ! (1 ∷ []) $ pick ! (λ ws. split3 ! $ let_go ! $ heard ! _ (λ le. heard ! _ (λ part.
    let start : ℕ = r.0 in let end : ℕ = r.1 in
    let word : v ∷ [] ≡ vstruct (vcons (vint w64 start) (vcons (vint w64 end) vnil)) ∷ [] =
    is ∙ ap₂ (λ (us vs : List Val). vstruct (of_list (us ++ (vs ++ []))) ∷ []) one two in
    lands_as ! (ap only word) refl (tt, (record { fits = fs }, (record { fits = fe }, tt))) $
    sets ! (of_opd ! (get_in ! (fld ! refl (stop !)) (sub ! 0 refl (whole !)))) refl (tt, record { fits = fs }) $
    sets ! (of_opd ! (get_in ! (fld ! refl (stop !)) (sub ! 1 refl (whole !)))) refl (tt, record { fits = fe }) $
    let n : ℕ = end - start in
    let fn : n < 2 ^ 64 = omega arith in
    sets ! (bin ! (get_in ! (fld ! refl (stop !)) (sub ! 0 refl (whole !))) (get ! refl) tt) refl (tt, tt) $
    sets ! (bin ! (get ! refl) (get ! refl) le.0) refl (tt, record { fits = fn }) $
    sets ! (addr ! (through ! refl (stop !))) refl (tt, tt) $
    sets ! (agg ! (and_then ! (get ! refl) (and_then ! (get ! refl) (no_more !)))) refl (tt, (tt, (record { fits = fn }, tt))) $
    move ! (1 ∷ 2 ∷ []) $
    use2 𝓛 (later (some (part_lent 𝓛 (named 1) κ₁ q₁ b o memory.ghost_name xs start n)))
    (lends_part 𝓛 (named 1) κ₁ q₁ b o memory.ghost_name xs start n (omega arith) rm (mut_slice_vals memory)) $ await ! tt $ pick ! (λ δ.
    let lent : MutBor (List ℕ) = record { ref_ptr = (b, start + o); ghost_name = δ; now = take n (drop start xs) } in
    returns ! (look_at ! 0 refl) $ free_all ! refl $ keep ! (0 ∷ 1 ∷ []) $ split3 ! $
    -- [the part; the memory's token; what the memory follows; the state's token]
    rewrite ! 2 (λ (p : Part). ‵ (LendsPart p memory lent)) (sym part) refl $
    suffices ! _ (ends_at 𝓛 f.ended stayed c y (slice_val (b, start + o) n) lent (tt, (tt, tt)) (tt, (tt, tt))) $
    nothing ! $ nothing ! $ fjoin ! $ nothing ! $ fjoin ! $ join ! $ move ! (3 ∷ []) $ split ! $ move ! (3 ∷ 1 ∷ []) $ join ! $ move ! (1 ∷ 0 ∷ []) $ join ! $ join ! $
    frame ! $ says ! (record { bytes = sym (ap (λ (p : Part). part_of p xs) part); address = sym (ap (λ (p : Part). (b, p.start + o)) part) }) $ done !))))))))))))))
