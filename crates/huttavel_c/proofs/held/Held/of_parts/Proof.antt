-- `of_parts` keeps the address, and owns what the parts owned.
use Rattle.std.proofs.Common.{◌≡◌, List, [], ◌∷◌, ◌++◌, refl, sym, subst}
use mir.Syntax.{Fn}
use mir.Val.{Val}
use base.Logic.{SProp, ent, emp, id⊢}
use base.Fml.{ftrue}
use prog.Wp.{WpFn}
use types.Kit.{‵, raw, ◌⊛◌, ◌$◌, ◌∵◌, !, qed, by, move, keep, split, use0, fsplit, fjoin, fpack, suffices}
use types.Run.{stop, fld, of_opd, no_more, and_then, returns, enter}
use types.ByLocal.{alloc_all, pass_all, free_all, look_at, get, get_in, sets}
use types.Part.{agg, sub, whole}
use contract.Monad.{fact, fact_i}
use contract.Running.{tables}
use denote.RattleType.{RattleType, owns}
use denote.RawPtr.{block_ptr}
use denote.Signature.{types_at, plain}
use denote.Steps.{nothing}
use denote.Triple.Entry.{alive}
use denote.Triple.Walked.{Stays, stay_dropped, walk_of}
use Rattle.std.proofs.alloc.Calls.{Goes-blank}
use Rattle.std.proofs.raw_atomic.Walks.{proved_at, leaves}
use Rattle.std.proofs.alloc.Global.TheLaws as heap_laws
use Rattle.std.specs.Prelude.{Some}
use Rattle.std.specs.declared.alloc.Global.{Global}
use Rattle.std.specs.contracts.alloc.Global as heap
use Rattle.std.specs.contracts.impls.GlobalAllocator.TheImpl.{ghosts}
use Rattle.huttavel_c.specs.contracts.held.Held as held
use Rattle.huttavel_c.specs.contracts.sessions.Kept as kept
use Rattle.huttavel_c.proofs.Shapes.{word, two, two_typed, held_in, Pieces, owned, parts_out}
use Rattle.huttavel_c.specs.contracts.held.Held.of_parts.{ended, clauses}
use Rattle.huttavel_c.specs.contracts.held.Held.of_parts.Key.{name as #self}
use Rattle.huttavel_c.proofs.held.Held.of_parts.Statement.{statement}
use Rattle.huttavel_c.proofs.held.Held.of_parts.Code as code

pub of_parts_spec : {M : Type 1} → statement M
of_parts_spec 𝓤 𝓛 𝓜 𝓡 wired =
    let H = 𝓛.H in let 𝓣 = tables 𝓤 H 𝓜 𝓡 𝓡.env in let fn : Fn = code.function in let c = clauses 𝓛 𝓜.mem 𝓡.returns in
    let S : RattleType = kept.the_row in let G : RattleType = heap.the_row in let P : RattleType = Pieces S G heap_laws.the_row_laws ghosts in
    let stays : Stays ended.signature.params ended.kept = (stay_dropped (plain (λ _. P)) ended.kept.0, tt) in
    proved_at 𝓛 ended stays c 𝓜 𝓡 (Goes-blank 𝓛 0 (plain (λ _. P)) ended.kept.0 (λ κs x f. tt), tt) #self fn (code.unfolded 𝓤 H 𝓜 𝓡 wired) (λ z are.
    let Post : Val → SProp 𝓤 = (walk_of 𝓛 ended stays c).post z in let Run : List Val → SProp 𝓤 = λ ws. WpFn 𝓤 H 𝓣.C 𝓣.Λ fn ws Post in
    let d = z.0.3.0 in
    qed 𝓛 ((raw (alive 𝓛 ended.signature z.0.0 z.0.1) ⊛ ‵ (owns (types_at ended.signature.params z.0.0) z.0.3 z.0.4)) ∷ ‵ ftrue ∷ []) ∵ split ! $
    move ! (1 ∷ []) $ fsplit ! $ parts_out S G heap_laws.the_row_laws ghosts ! d z.0.4.0 (λ b o h at ws good.
    let w : Val = two (block_ptr b o) h in let r : held.the_row.Denot = record { at = block_ptr b o; value = Some d.value } in
    suffices ! (Run (w ∷ [])) (subst (λ (us : List Val). ent 𝓤 (Run (w ∷ [])) (Run us)) (sym (λ i. ws i ++ [])) (id⊢ 𝓤 (Run (w ∷ [])))) $
    enter ! 𝓣.C 𝓣.Λ fn (w ∷ []) Post $ alloc_all ! (λ l. pass_all ! refl (two_typed G b o h good, tt) $
    sets ! (of_opd ! (get_in ! (fld ! refl (stop !)) (sub ! 0 refl (whole !)))) refl (tt, tt) $ sets ! (of_opd ! (get ! refl)) refl (tt, tt) $
    sets ! (agg ! (and_then ! (get ! refl) (no_more !))) refl (tt, (tt, tt)) $
    returns ! (look_at ! 0 refl) $ free_all ! refl $
    fpack ! Global (λ (a : Global). owned S G heap_laws.the_row_laws ghosts a (block_ptr b o) d.value) d.alloc $ held_in ! (block_ptr b o) (Some d.value) $
    use0 𝓛 (raw (fact 𝓤 (Some d.value ≡ Some d.value))) (fact_i 𝓤 (Some d.value ≡ Some d.value) (emp 𝓤) refl) $
    nothing ! $ nothing ! $ fjoin ! $ keep ! (5 ∷ 0 ∷ 2 ∷ 1 ∷ []) $ by ! (leaves 𝓛 ended stays c z (word (block_ptr b o)) r (tt, tt) (tt, tt)))))
