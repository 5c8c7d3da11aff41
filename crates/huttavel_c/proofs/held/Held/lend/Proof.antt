-- `lend` lends what is at the address, and what is held follows it.
use Rattle.std.proofs.Common.{◌≡◌, ℕ, List, [], ◌∷◌, refl, sym, subst}
use mir.Syntax.{named}
use mir.Val.{Val, vptr}
use base.Logic.{ent, sep}
use base.Fml.{GName, Fml, ftrue, flft, fsep}
use base.Fraction.{full_share}
use seplogic.Ra.Ura.{Ura}
use types.Logic.{Logic, sem}
use types.Kit.{‵, raw, ◌⊛◌, some, later, at_ret, ◌$◌, ◌∵◌, !, qed, by, done, move, keep, use1, split, join, pick, await, fsplit, fsplit3, fjoin, fpick, fpack, rewrite, suffices, frame, group}
use types.Part.{whole, sub, look_in}
use types.Run.{stop, fld, load, of_opd, addr, first, blocks, exec, returns, enter}
use types.ByLocal.{alloc_all, pass_all, free_all, look_at, get, through, sets, sets_last, env}
use contract.Lifetimes.{Lfts, Shares, AllOutlive}
use contract.Monad.{fact}
use contract.Running.{Running, tables}
use prog.Model.{Model}
use denote.Triple.Entry.{Args}
use denote.RattleType.{RattleType}
use denote.Memory.{mem, cell_at, part_at, part_of}
use denote.RawPtr.{Ptr, block_ptr}
use denote.Ref.{MutRef, mut_vals, mut_Tells}
use denote.Signature.{plain, mut_ref_to}
use denote.Steps.{nothing, heard, opens}
use denote.Follow.{follows, Part, lends_Part}
use denote.Exit.{no}
use denote.Triple.Walked.{says, Stays, stay_dropped, walk_of, ends_at, Goes-spent_ref}
use Rattle.std.proofs.raw_atomic.Walks.{proved}
use Rattle.std.proofs.alloc.Global.TheLaws as heap_laws
use Rattle.std.proofs.VecSteps.Shapes.{after}
use Rattle.std.specs.Prelude.{Option, Some, IsSome}
use Rattle.std.specs.declared.alloc.Global.{Global}
use Rattle.std.specs.contracts.alloc.Global as heap
use Rattle.std.specs.contracts.impls.GlobalAllocator.TheImpl.{ghosts}
use Rattle.huttavel_c.specs.Following.{with_kept}
use Rattle.huttavel_c.specs.Holding.{maybe_owns}
use Rattle.huttavel_c.specs.contracts.held.Held as held
use Rattle.huttavel_c.specs.contracts.sessions.Kept as kept
use Rattle.huttavel_c.proofs.Shapes.{found, word, held_in, held_out, owned, placed}
use Rattle.huttavel_c.specs.contracts.held.Held.lend as f
use Rattle.huttavel_c.proofs.held.Held.lend.Statement.{statement}
use Rattle.huttavel_c.proofs.held.Held.lend.Code as code
use mir.Raw.{raw as bare}
use denote.Memory.{lone}

abbrev R : RattleType
R = held.the_row

abbrev S : RattleType
S = kept.the_row

abbrev stayed : Stays f.ended.signature.params f.ended.kept
stayed = (stay_dropped (mut_ref_to (0 ∷ []) tt (plain (λ _. R))) no, tt)

-- What stays of what is held while it is lent.
abbrev Rest : Global → ℕ → ℕ → ℕ → ℕ → Fml
Rest a b o rb ro = fsep (ghosts.dealloc_token a (bare (lone S.mir)) (block_ptr b o)) (cell_at full_share R.mir (word (block_ptr b o) ∷ []) rb ro)

module _ {M : Type 1} {𝓤 : Ura M} (𝓛 : Logic 𝓤) (h : R.Denot) (a : Global) (b o rb ro : ℕ) where
  back : h.at ≡ block_ptr b o → (w : S.Denot) → ent 𝓤 (sep 𝓤 (sem 𝓛 ((mem S).own_at w b o)) (sem 𝓛 (Rest a b o rb ro))) (sem 𝓛 ((mem R).own_at (with_kept h w) rb ro))
  unfolding part_of
  back at w =
      qed 𝓛 (‵ (part_at S full_share w b o) ∷ ‵ (Rest a b o rb ro) ∷ []) ∵ move ! (1 ∷ []) $ fsplit ! $ move ! (2 ∷ 0 ∷ []) $ fjoin ! $
      rewrite ! 0 (λ (p : Ptr). ‵ (owned S heap.the_row heap_laws.the_row_laws ghosts a p w)) (sym at) refl $
      rewrite ! 1 (λ (p : Ptr). ‵ (cell_at full_share R.mir (word p ∷ []) rb ro)) (sym at) refl $
      fpack ! Global (λ (x : Global). owned S heap.the_row heap_laws.the_row_laws ghosts x h.at w) a $ held_in ! h.at (Some w) $
      move ! (1 ∷ 0 ∷ []) $ fjoin ! $
      fpack ! (List Val) (λ us. fsep (cell_at full_share R.mir us rb ro) (R.own_val (with_kept h w) us)) (word h.at ∷ []) $ done !

module _ {M : Type 1} {𝓤 : Ura M} (𝓛 : Logic 𝓤) (𝓜 : Model 𝓤 𝓛.H) (𝓡 : Running 𝓤 𝓛.H 𝓜) (κs : Lfts 1) (qs : Shares 1) (bounds : AllOutlive 1 [] κs) (a : Args f.ended.signature κs) where
  -- The reference, the token and what follows are what the function gives.
  exits : (x : S.Denot) → a.0.now.value ≡ Some x → (b o : ℕ) (γ' : GName)
      → ent 𝓤 (sep 𝓤 (sem 𝓛 ((MutRef (named 0) κs.0 S).own_val (record { ref_ptr = (b, o); ghost_name = γ'; now = x }) (vptr b o ∷ []))) (sep 𝓤 (𝓛.A.lft κs.0 qs.0) (sem 𝓛 (follows R S a.0.ghost_name γ' (with_kept a.0.now)))))
      ((walk_of 𝓛 f.ended stayed (f.clauses 𝓛 𝓜.mem 𝓡.returns)).post ((κs, qs, bounds, a, (mut_vals a.0, tt)), tt) (vptr b o))
  exits x value b o γ' =
      qed 𝓛 (‵ ((MutRef (named 0) κs.0 S).own_val (record { ref_ptr = (b, o); ghost_name = γ'; now = x }) (vptr b o ∷ [])) ∷ ‵ (flft κs.0 qs.0) ∷ ‵ (follows R S a.0.ghost_name γ' (with_kept a.0.now)) ∷ []) ∵
      suffices ! _ (ends_at 𝓛 f.ended stayed (f.clauses 𝓛 𝓜.mem 𝓡.returns) ((κs, qs, bounds, a, (mut_vals a.0, tt)), tt) (vptr b o) (record { ref_ptr = (b, o); ghost_name = γ'; now = x }) (tt, tt) (tt, tt)) $
      nothing ! $ nothing ! $ fjoin ! $ join ! $ nothing ! $ move ! (2 ∷ 0 ∷ []) $ join ! $ join ! $ frame ! $ says ! value $ done !

pub lend_spec : {M : Type 1} → statement M
lend_spec 𝓤 𝓛 𝓜 𝓡 wired =
    let c = f.clauses 𝓛 𝓜.mem 𝓡.returns in let W = walk_of 𝓛 f.ended stayed c in let 𝓣 = tables 𝓤 𝓛.H 𝓜 𝓡 𝓡.env in
    proved 𝓛 f.ended stayed c 𝓜 𝓡 (Goes-spent_ref 𝓛 1 (0 ∷ []) tt (plain (λ _. R)), tt)
    f.Key.name code.function (code.unfolded 𝓤 𝓛.H 𝓜 𝓡 wired)
    (λ κs. (mut_vals, tt)) (λ κs. (mut_Tells (named 0) κs.0 R, tt)) (λ κs qs bounds a _ are.
    let κ = κs.0 in let q = qs.0 in let rb = a.0.ref_ptr.0 in let ro = a.0.ref_ptr.1 in let γ = a.0.ghost_name in let h = a.0.now in let vs = mut_vals a.0 in
    let y : W.Ghost = ((κs, qs, bounds, a, (vs, tt)), tt) in
    qed 𝓛 (((‵ (flft κ q) ⊛ ‵ ftrue) ⊛ ‵ ((MutRef (named 0) κ R).own_val a.0 vs) ⊛ ‵ ftrue) ∷ raw (fact 𝓤 (IsSome h.value)) ∷ []) ∵
    split ! $ split ! $ move ! (2 ∷ []) $ split ! $ keep ! (4 ∷ 0 ∷ 2 ∷ []) $ heard ! (IsSome h.value) (λ there.
    let is = found h.value there in let x : S.Denot = is.0 in
    enter ! _ _ _ _ _ $ alloc_all ! (λ l. pass_all ! refl ((tt, tt), tt) $
    fsplit3 ! $ move ! (1 ∷ 2 ∷ 3 ∷ []) $ opens ! tt R rb ro (λ us. move ! (1 ∷ []) $ held_out ! h us (λ ws.
    rewrite ! 0 (λ (v : Option S.Denot). ‵ (maybe_owns S h.at v)) is.1 refl $ fpick ! (λ heap'.
    placed S heap.the_row heap_laws.the_row_laws ghosts ! heap' h.at x (λ b o at. fsplit ! $
    let here = subst (λ (p : Ptr). us ≡ word p ∷ []) at ws in
    rewrite ! 2 (λ (ws : List Val). ‵ (cell_at full_share R.mir ws rb ro)) here refl $
    first ! $ blocks ! $
    sets ! (of_opd ! (load ! (through ! refl (fld ! refl (stop !))) (look_in ! 2 (sub ! 0 refl (whole !))))) refl (tt, tt) $
    sets ! (of_opd ! (get ! refl)) refl (tt, tt) $
    sets_last ! (addr ! (through ! refl (stop !))) refl (tt, tt) $
    exec ! 𝓣.C 𝓣.Λ (env code.Mir.locals l) (after 1 (code.function).body) (at_ret _ (W.post y)) $
    sets ! (of_opd ! (get ! refl)) refl (tt, tt) $
    move ! (1 ∷ 2 ∷ []) $ fjoin ! $ move ! (2 ∷ 3 ∷ 4 ∷ 1 ∷ 0 ∷ []) $ group ! 5 $
    use1 𝓛 (later (some (λ (γ' : GName). raw (Part 𝓛 R S (with_kept h) (named 0) κ q rb ro b o γ (sem 𝓛 (Rest heap' b o rb ro)) (back 𝓛 h heap' b o rb ro at) x γ'))))
    (lends_Part 𝓛 R S (with_kept h) (named 0) κ q rb ro b o γ (sem 𝓛 (Rest heap' b o rb ro)) (back 𝓛 h heap' b o rb ro at) (R.coded.code h) (R.coded.code h) x) $ await ! tt $ pick ! (λ γ'.
    returns ! (look_at ! 0 refl) $ free_all ! refl $
    keep ! (0 ∷ []) $ by ! (exits 𝓛 𝓜 𝓡 κs qs bounds a x is.1 b o γ')))))))))
