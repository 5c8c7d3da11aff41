-- The machine values of what is held and of the parts of a box, and what each owns.
use Rattle.std.proofs.Common.{◌≡◌, ℕ, List, [], ◌∷◌, ◌++◌, refl, sym, subst}
use mathlib.Core.Bool.{true, ◌&&◌}
use lib.Dec.{T}
use seplogic.Ra.Ura.{Ura}
use mir.Syntax.{impl, tnil, dnil}
use mir.Raw.{raw as bare}
use mir.Val.{Val, vptr, vstruct, vcons, vnil, of_list, has_ty, WT}
use base.Logic.{never, fst∗}
use types.Logic.{Logic, sem}
use types.Kit.{Item, Goal, Seq, Step, step, ‵, ◌$◌, move, drop, fsplit, fjoin, fpick, fpack, feq_i, feq_l}
use denote.RattleType.{RattleType, Valss}
use denote.Builtin.{RawPtr}
use denote.Memory.{lone}
use denote.Param.{layout}
use denote.Param.Laws.{Laws}
use denote.RawPtr.{Ptr, block_ptr, null_ptr, ptr_val, in_a_block}
use denote.Steps.{nothing}
use denote.Struct.Struct.{within}
use denote.Struct.Owning.{shape}
use denote.Triple.Table.{framed}
use prog.Model.{Model}
use sound.WpLaws.{FmC}
use contract.Running.{Running, tables}
use Rattle.std.specs.Prelude.{Option, Some, None, IsSome}
use Rattle.std.specs.Box.Ownership.{box_owns}
use Rattle.std.specs.declared.alloc.Allocator.{Ghosts}
use Rattle.std.proofs.alloc.Calls.{Al, handle_tells}
use Rattle.std.proofs.cell.Inside.{Good}
use Rattle.std.proofs.ResultValues.{and_tt}
use Rattle.huttavel_c.specs.Holding.{maybe_owns}
use Rattle.huttavel_c.specs.contracts.held.Held as held
use Rattle.huttavel_c.specs.contracts.parts.HeldParts as parts
use Rattle.huttavel_c.specs.contracts.sessions.Kept as kept

-- What is there is found.
pub found : {X : Type 0} (o : Option X) → IsSome o → (x : X) × (o ≡ Some x)
found (Some x) some = (x, refl)
found None some = absurd (subst T (sym some) tt)

-- What is held is one word, its address.
abbrev pub word : Ptr → Val
word p = vstruct (vcons (ptr_val p) vnil)

-- The parts of a box are its address and its allocator.
abbrev pub two : Ptr → Val → Val
two p h = vstruct (vcons (ptr_val p) (vcons h vnil))

-- The parts are of their type where the allocator's value is.
pub two_typed : (Z : RattleType) (b o : ℕ) (h : Val) → Good (layout Z) h → T (has_ty (layout Z) h && true) × WT (two (block_ptr b o) h)
two_typed Z b o h good = (and_tt (has_ty (layout Z) h) good.0, (tt, (good.1, tt)))

module _ {M : Type 1} {𝓤 : Ura M} {𝓛 : Logic 𝓤} {K : Type 0} {Γ : List (Item 𝓤)} {G : Goal 𝓤 𝓛.H} where
  -- The address, and what is owned there, make what is held.
  pub held_in : K → (p : Ptr) (x : Option kept.the_row.Denot)
      → Step K 𝓛 (‵ (held.the_row.own_val (record { at = p; value = x }) (word p ∷ [])) ∷ Γ) G (‵ (maybe_owns kept.the_row p x) ∷ Γ) G
  held_in t p x = step (λ s. nothing t $ feq_i t (List Val) (ptr_val p ∷ []) (ptr_val p ∷ []) refl $ fjoin t $
      feq_i t (List Val) (word p ∷ []) (word p ∷ []) refl $ fjoin t $
      fpack t (Valss (RawPtr ∷ [])) (within (shape held.the_type) (p, tt) (word p ∷ [])) (ptr_val p ∷ [], tt) $ fjoin t $ s)

  -- What is held is its address, and what is owned there.
  pub held_out : K → (h : held.the_row.Denot) (vs : List Val)
      → (vs ≡ word h.at ∷ [] → Seq K 𝓛 (‵ (maybe_owns kept.the_row h.at h.value) ∷ Γ) G)
      → Seq K 𝓛 (‵ (held.the_row.own_val h vs) ∷ Γ) G
  held_out t h vs k = fsplit t $ fpick t (λ vss. fsplit t $ feq_l t (λ whole. fsplit t $ feq_l t (λ part. drop t $
      k (subst (λ (ws : List Val). vs ≡ vstruct (of_list (ws ++ [])) ∷ []) part whole))))

module _ (R Z : RattleType) (L : Laws Z) (g : Ghosts Z.Denot) where
  -- The parts of a box of R, from an allocator of Z.
  abbrev pub Pieces : RattleType
  Pieces = parts.the_row R Z g

  abbrev al : Al
  al = record { row = Z; laws = L; g = g; d = impl [] tnil dnil; drops = impl [] tnil dnil }

  -- What they own.
  abbrev pub owned : Z.Denot → Ptr → R.Denot → base.Fml.Fml
  owned a p x = box_owns (g.dealloc_token a) R p x

  module _ {M : Type 1} {𝓤 : Ura M} {𝓛 : Logic 𝓤} {K : Type 0} {Γ : List (Item 𝓤)} {G : Goal 𝓤 𝓛.H} where
    -- What is owned lies in a block.
    pub placed : K → (a : Z.Denot) (p : Ptr) (x : R.Denot)
        → ((b o : ℕ) → p ≡ block_ptr b o → Seq K 𝓛 (‵ (owned a (block_ptr b o) x) ∷ Γ) G)
        → Seq K 𝓛 (‵ (owned a p x) ∷ Γ) G
    placed t a p x k = in_a_block t p (λ q. owned a q x) (fst∗ 𝓤 (never 𝓤) (sem 𝓛 (g.dealloc_token a (bare (lone R.mir)) null_ptr))) (λ b o e. k b o e)

  module _ {M : Type 1} {𝓤 : Ura M} {𝓛 : Logic 𝓤} {K : Type 0} {Γ : List (Item 𝓤)} {G : Goal 𝓤 𝓛.H} where
    -- HeldParts are an address, an allocator, and what is owned there.
    pub parts_out : K → (d : Pieces.Denot) (vs : List Val)
        → ((b o : ℕ) (h : Val) → d.at ≡ block_ptr b o → vs ≡ two (block_ptr b o) h ∷ [] → Good (layout Z) h
        → Seq K 𝓛 (‵ (owned d.alloc (block_ptr b o) d.value) ∷ ‵ (Z.own_val d.alloc (h ∷ [])) ∷ Γ) G)
        → Seq K 𝓛 (‵ (Pieces.own_val d vs) ∷ Γ) G
    parts_out t d vs k =
        fsplit t $ fpick t (λ vss. fsplit t $ feq_l t (λ whole. fsplit t $ feq_l t (λ part. fsplit t $
        handle_tells al t d.alloc vss.1.0 (λ h same good. move t (1 ∷ []) $ drop t $ move t (1 ∷ []) $
        placed t d.alloc d.at d.value (λ b o at. k b o h at
        (subst (λ (p : Ptr). vs ≡ two p h ∷ []) at
        (subst (λ (ws : List Val). vs ≡ vstruct (of_list (ptr_val d.at ∷ (ws ++ []))) ∷ []) same
        (subst (λ (ps : List Val). vs ≡ vstruct (of_list (ps ++ (vss.1.0 ++ []))) ∷ []) part whole))) good)))))

    -- An address, an allocator, and what is owned there make parts.
    pub parts_in : K → (b o : ℕ) (h : Val) (a : Z.Denot) (x : R.Denot)
        → Step K 𝓛 (‵ (Pieces.own_val (record { at = block_ptr b o; alloc = a; value = x }) (two (block_ptr b o) h ∷ [])) ∷ Γ) G
        (‵ (owned a (block_ptr b o) x) ∷ ‵ (Z.own_val a (h ∷ [])) ∷ Γ) G
    parts_in t b o h a x = step (λ s. let v : Val = two (block_ptr b o) h in
        nothing t $ move t (2 ∷ 0 ∷ []) $ fjoin t $ feq_i t (List Val) (vptr b o ∷ []) (vptr b o ∷ []) refl $ fjoin t $
        feq_i t (List Val) (v ∷ []) (v ∷ []) refl $ fjoin t $
        fpack t (Valss (RawPtr ∷ Z ∷ [])) (within (shape (parts.the_type R Z g)) (block_ptr b o, (a, tt)) (v ∷ [])) (vptr b o ∷ [], (h ∷ [], tt)) $ fjoin t $ s)

-- What a call leaves alone stays as it was.
module _ {M : Type 1} {𝓤 : Ura M} (𝓛 : Logic 𝓤) (𝓜 : Model 𝓤 𝓛.H) (𝓡 : Running 𝓤 𝓛.H 𝓜) where
  pub calls_frame : FmC 𝓤 𝓛.H 𝓛.laws (tables 𝓤 𝓛.H 𝓜 𝓡 𝓡.env).C
  calls_frame f = framed 𝓤 𝓛.H 𝓜 (tables 𝓤 𝓛.H 𝓜 𝓡 𝓡.env) f
