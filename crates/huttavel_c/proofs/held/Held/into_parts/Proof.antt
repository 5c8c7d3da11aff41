-- `into_parts` gives the address on, and the parts own what was owned there.
use Rattle.std.proofs.Common.{◌≡◌, List, [], ◌∷◌, ◌++◌, refl, sym, subst}
use mir.Syntax.{Fn, impl, tnil, dnil}
use mir.Val.{Val}
use base.Logic.{SProp, ent, emp, id⊢}
use prog.Wp.{WpFn}
use types.Kit.{‵, raw, ◌⊛◌, ◌$◌, ◌∵◌, !, qed, by, move, keep, split, use0, fsplit, fjoin, fpick, rewrite, suffices}
use types.Run.{stop, fld, of_opd, no_more, and_then, returns, enter}
use types.ByLocal.{alloc_all, pass_all, free_all, look_at, get, get_in, sets}
use types.Part.{agg, sub, whole}
use contract.Monad.{fact, fact_i}
use contract.Running.{tables}
use denote.RattleType.{RattleType, owns}
use denote.RawPtr.{Ptr, block_ptr}
use denote.Signature.{types_at, plain}
use denote.Steps.{nothing, heard}
use denote.Triple.Entry.{alive}
use denote.Triple.Walked.{Stays, stay_dropped, walk_of}
use Rattle.std.proofs.alloc.Calls.{Al, Goes-blank, handle_tells}
use Rattle.std.proofs.raw_atomic.Walks.{proved_at, leaves}
use Rattle.std.proofs.alloc.Global.TheLaws as heap_laws
use Rattle.std.specs.Prelude.{Option, Some, IsSome}
use Rattle.std.specs.contracts.alloc.Global as heap
use Rattle.std.specs.contracts.impls.GlobalAllocator.TheImpl.{ghosts}
use Rattle.huttavel_c.specs.Holding.{maybe_owns}
use Rattle.huttavel_c.specs.contracts.held.Held as held
use Rattle.huttavel_c.specs.contracts.sessions.Kept as kept
use Rattle.huttavel_c.proofs.Shapes.{found, word, two, two_typed, held_out, Pieces, placed, parts_in}
use Rattle.huttavel_c.specs.contracts.held.Held.into_parts.{ended, clauses}
use Rattle.huttavel_c.specs.contracts.held.Held.into_parts.Key.{name as #self}
use Rattle.huttavel_c.proofs.held.Held.into_parts.Statement.{statement}
use Rattle.huttavel_c.proofs.held.Held.into_parts.Code as code

pub into_parts_spec : {M : Type 1} → statement M
into_parts_spec 𝓤 𝓛 𝓜 𝓡 wired =
    let H = 𝓛.H in let 𝓣 = tables 𝓤 H 𝓜 𝓡 𝓡.env in let fn : Fn = code.function in let c = clauses 𝓛 𝓜.mem 𝓡.returns in
    let S : RattleType = kept.the_row in let G : RattleType = heap.the_row in let LG = heap_laws.the_row_laws in let P : RattleType = Pieces S G LG ghosts in
    let al : Al = record { row = G; laws = LG; g = ghosts; d = impl [] tnil dnil; drops = impl [] tnil dnil } in
    let stays : Stays ended.signature.params ended.kept = (stay_dropped (plain (λ _. held.the_row)) ended.kept.0, (stay_dropped (plain (λ _. G)) ended.kept.1.0, tt)) in
    proved_at 𝓛 ended stays c 𝓜 𝓡 (Goes-blank 𝓛 0 (plain (λ _. held.the_row)) ended.kept.0 (λ κs x f. tt), (Goes-blank 𝓛 0 (plain (λ _. G)) ended.kept.1.0 (λ κs x f. tt), tt)) #self fn (code.unfolded 𝓤 H 𝓜 𝓡 wired) (λ z are.
    let Post : Val → SProp 𝓤 = (walk_of 𝓛 ended stays c).post z in let Run : List Val → SProp 𝓤 = λ ws. WpFn 𝓤 H 𝓣.C 𝓣.Λ fn ws Post in
    let d = z.0.3.0 in let a : G.Denot = z.0.3.1.0 in
    qed 𝓛 ((raw (alive 𝓛 ended.signature z.0.0 z.0.1) ⊛ ‵ (owns (types_at ended.signature.params z.0.0) z.0.3 z.0.4)) ∷ raw (fact 𝓤 (IsSome d.value)) ∷ []) ∵ split ! $
    move ! (1 ∷ []) $ fsplit ! $ held_out ! d z.0.4.0 (λ ws. move ! (3 ∷ []) $ heard ! (IsSome d.value) (λ some.
    let is = found d.value some in let x : S.Denot = is.0 in
    rewrite ! 0 (λ (o : Option S.Denot). ‵ (maybe_owns S d.at o)) is.1 refl $ fpick ! (λ heap'.
    placed S G LG ghosts ! heap' d.at x (λ b o at. move ! (1 ∷ []) $ fsplit ! $ handle_tells al ! a z.0.4.1.0 (λ h same good.
    let w : Val = word (block_ptr b o) in let v : Val = two (block_ptr b o) h in let r : P.Denot = record { at = block_ptr b o; alloc = a; value = x } in
    let here : z.0.4.0 ≡ w ∷ [] = subst (λ (p : Ptr). z.0.4.0 ≡ word p ∷ []) at ws in
    suffices ! (Run (w ∷ h ∷ [])) (subst (λ (us : List Val). ent 𝓤 (Run (w ∷ h ∷ [])) (Run us)) (sym (λ i. here i ++ (same i ++ []))) (id⊢ 𝓤 (Run (w ∷ h ∷ [])))) $
    enter ! 𝓣.C 𝓣.Λ fn (w ∷ h ∷ []) Post $ alloc_all ! (λ l. pass_all ! refl ((tt, (tt, tt)), (good, tt)) $
    sets ! (of_opd ! (get_in ! (fld ! refl (stop !)) (sub ! 0 refl (whole !)))) refl (tt, tt) $ sets ! (of_opd ! (get ! refl)) refl (tt, tt) $
    sets ! (agg ! (and_then ! (get ! refl) (and_then ! (get ! refl) (no_more !)))) refl (two_typed G b o h good) $
    returns ! (look_at ! 0 refl) $ free_all ! refl $ move ! (2 ∷ 0 ∷ []) $ parts_in S G LG ghosts ! b o h a x $
    use0 𝓛 (raw (fact 𝓤 (d.value ≡ Some x))) (fact_i 𝓤 (d.value ≡ Some x) (emp 𝓤) is.1) $
    nothing ! $ nothing ! $ fjoin ! $ nothing ! $ fjoin ! $ keep ! (4 ∷ 0 ∷ 2 ∷ 1 ∷ []) $ by ! (leaves 𝓛 ended stays c z v r (tt, (tt, tt)) (tt, (tt, tt))))))))))
