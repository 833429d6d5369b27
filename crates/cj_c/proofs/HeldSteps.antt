-- What the proofs of a kept timetable share. Assumes `Logic`.
--     E, FromParts, FromHeld     a box of a timetable, its parts, and what keeps it
--     held_word, held_typed      the machine value of what keeps it, which is of its type
--     held_open, held_close      it, taken apart into the handle and what it owns, and put together
use mathlib.Core.Path.{◌≡◌, refl, subst}
use mathlib.Core.Bool.{Bool}
use mathlib.Core.List.{List, [], ◌∷◌, ◌++◌}
use lib.Dec.{T, lit<}
use seplogic.Ra.Ura.{Ura}
use mir.Syntax.{Ty, impl, tnil, tcons, dnil, ty_ptr, ty_bool, ty_struct}
use mir.Val.{Val, vbool, vstruct, vnil, vcons, of_list, has_ty, WT}
use base.Fml.{Fml}
use types.Logic.{Logic}
use types.Kit.{Goal, Step, step, Seq, Item, ‵, ◌$◌, move, drop, fsplit, fjoin, fpick, fpack, feq_l, feq_i}
use denote.Builtin.{bool}
use denote.Laws.{Is}
use denote.Plain.{bool_Makes}
use denote.RattleType.{Valss}
use denote.RawPtr.{Ptr, RawPtr, block_ptr, null_ptr, ptr_val}
use denote.Signature.{Slot, plain}
use denote.Steps.{nothing, owned}
use denote.Struct.Struct.{within}
use denote.Struct.Owning.{shape, to}
use Rattle.core.proofs.alloc.Calls.{α, Fits, handle_tells}
use Rattle.std_alloc.proofs.BoxSteps.Form.{Bx, P, handle}
use Rattle.std_alloc.proofs.ResultValues.{and_tt}
use Rattle.std_heap.specs.contracts.Global as Heap
use Rattle.std_heap.specs.contracts.GlobalAllocator.TheImpl.{ghosts, dict}
use Rattle.std_heap.proofs.Global.TheLaws as heap
use Rattle.cj_c.specs.Held.{held_owns}
use Rattle.cj_c.specs.contracts.timetable.Timetable as Timetable
use Rattle.cj_c.proofs.timetable.Timetable.TheLaws as timetable
use Rattle.cj_c.specs.contracts.parts.Parts as Parts
use Rattle.cj_c.specs.contracts.held.Held as Held

abbrev pub E : Bx
E = record {
  row = Timetable.the_row;
  laws = timetable.the_row_laws;
  al = record
      { row = Heap.the_row; laws = heap.the_row_laws; g = ghosts; d = dict; drops = impl [] tnil dnil };
}

abbrev pub FromParts : Slot 0
FromParts = plain (λ _. Parts.the_row Timetable.the_row Heap.the_row ghosts)

abbrev pub FromHeld : Slot 0
FromHeld = plain (λ _. Held.the_row)

abbrev pub FromAlloc : Slot 0
FromAlloc = plain (λ _. Heap.the_row)

-- the pointer, the handle of the allocator and the truth value
abbrev pub held_word : Ptr → Val → Bool → Val
held_word p hv f = vstruct (vcons (ptr_val p) (vcons hv (vcons (vbool f) vnil)))

-- a pointer's machine value is of its type
pub ptr_typed : (p : Ptr) → T (has_ty ty_ptr (ptr_val p)) × WT (ptr_val p)
ptr_typed (block_ptr b o) = (tt, tt)
ptr_typed null_ptr = (tt, record { fits = lit< tt })

abbrev pub held_ty : Ty
held_ty = ty_struct (Held.the_type).name (tcons ty_ptr (tcons (α E.al) (tcons ty_bool tnil)))

-- For the walks of Held: the word is of the struct's type.
pub held_typed : (p : Ptr) (hv : Val) (f : Bool) → Fits E.al hv → T (has_ty held_ty (held_word p hv f))
    × WT (held_word p hv f)
held_typed (block_ptr b o) hv f fa = (and_tt (has_ty (α E.al) hv) fa.0, (tt, (fa.1, (tt, tt))))
held_typed null_ptr hv f fa = (and_tt (has_ty (α E.al) hv) fa.0, (record { fits = lit< tt }, (fa.1, (tt, tt))))

-- what is owned beside the fields
abbrev pub beside : Held.the_row.Denot → Fml
beside v = held_owns v.full v.alloc v.at v.timetable

module _ {M : Type 1} {𝓤 : Ura M} {𝓛 : Logic 𝓤} {K : Type 0} {Γ : List (Item 𝓤)} {G : Goal 𝓤 𝓛.H} where
  -- what keeps a timetable is the handle of the allocator and what is owned beside it
  pub held_open : K → (v : Held.the_row.Denot) (vs : List Val)
      → ((hv : Val) → vs ≡ held_word v.at hv v.full ∷ [] → Fits E.al hv
      → Seq K 𝓛 (‵ (handle E v.alloc hv) ∷ ‵ (beside v) ∷ Γ) G)
      → Seq K 𝓛 (‵ (Held.the_row.own_val v vs) ∷ Γ) G
  held_open t v vs k =
      fsplit t $ fpick t (λ vss. fsplit t $ feq_l t (λ ev. fsplit t $ feq_l t
      (λ ep. fsplit t $ handle_tells E.al t v.alloc vss.1.0 (λ hv ea fa.
      move t (1 ∷ []) $ fsplit t $ feq_l t (λ eb. drop t $
      k hv
      (subst (λ (bs : List Val). vs ≡ vstruct (of_list (ptr_val v.at ∷ hv ∷ (bs ++ []))) ∷ []) eb
      (subst (λ (ws : List Val). vs ≡ vstruct (of_list (ptr_val v.at ∷ (ws ++ (vss.1.1.0 ++ [])))) ∷ []) ea
      (subst (λ (ps : List Val). vs ≡ vstruct (of_list (ps ++ (vss.1.0 ++ (vss.1.1.0 ++ [])))) ∷ []) ep ev))) fa)))))

  -- and is made of these two
  pub held_close : K → (v : Held.the_row.Denot) {hv : Val}
      → Step K 𝓛 (‵ (Held.the_row.own_val v (held_word v.at hv v.full ∷ [])) ∷ Γ) G (‵ (handle E v.alloc hv)
      ∷ ‵ (beside v) ∷ Γ) G
  held_close t v {hv} = step (λ s.
      nothing t $ owned t bool (Is bool) (bool_Makes 𝓛) v.full (vbool v.full ∷ []) refl $ fjoin t $ move t (1
      ∷ []) $ fjoin t $
      feq_i t (List Val) (ptr_val v.at ∷ []) (ptr_val v.at ∷ []) refl $ fjoin t $
      feq_i t (List Val) (held_word v.at hv v.full ∷ []) (held_word v.at hv v.full ∷ []) refl $ fjoin t $
      fpack t (Valss (RawPtr ∷ P E ∷ bool
      ∷ [])) (within (shape Held.the_type) (to Held.the_type v) (held_word v.at hv v.full ∷ [])) (
        ptr_val v.at
            ∷ [],
        (hv ∷ [], (vbool v.full ∷ [], tt)),
      ) $ fjoin t $ s)
