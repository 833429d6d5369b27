-- `told` reads a field, and moves all of them back.
use mathlib.Core.Path.{refl, sym, subst}
use mathlib.Core.List.{List, [], ◌∷◌, ◌++◌}
use seplogic.Ra.Ura.{Ura}
use mir.Val.{Val, vbool, vstruct, vnil, vcons, of_list, has_ty}
use base.Logic.{SProp, ent, emp, id⊢}
use base.Fml.{ftrue, fsep, feq}
use prog.Memory.{Memory}
use prog.Routine.{Routine}
use prog.Wp.{WpFn, Tables}
use types.Logic.{Logic}
use contract.Monad.{Fun}
use contract.Running.{tables, tables_of}
use sound.WpLaws.{WpFn-mono}
use types.Kit.{Item, ‵, raw, ◌⊛◌, ◌$◌, ◌∵◌, !, qed, by, move, drop, use1, join, split, rewrite, fsplit, fjoin, fpack, feq_i, suffices, done}
use types.Part.{whole, sub, agg}
use types.Run.{stop, fld, no_more, and_then, of_opd, returns, enter}
use types.ByLocal.{alloc_all, pass_all, free_all, look_at, get, get_in, sets}
use denote.Builtin.{bool}
use denote.Exit.{yes}
use denote.Laws.{Is}
use denote.Plain.{bool_Makes}
use denote.RattleType.{Valss, flat, owns}
use denote.Signature.{type_at}
use denote.Steps.{nothing, owned}
use denote.Triple.Spec.{triple_of}
use denote.Triple.Table.{entered}
use denote.Triple.Walked.{says, Stays, stay_dropped, walk_of, ends_at, Goes-dropped, walk_Meets}
use Rattle.std_alloc.proofs.ResultValues.{and_tt}
use Rattle.cj_c.specs.contracts.held.Held.{the_row as H-row}
use Rattle.cj_c.proofs.HeldSteps.{FromHeld, held_word, held_ty, held_typed, ptr_typed, held_open, held_close}
use Rattle.cj_c.specs.contracts.held.Held.told as F
use Rattle.cj_c.specs.contracts.held.Held.told.Key.{name as #self}
use Rattle.cj_c.proofs.held.Held.told.Statement as stated
use Rattle.cj_c.proofs.held.Held.told.Code as code

abbrev stayed : Stays (F.ended).signature.params (F.ended).kept
stayed = (stay_dropped FromHeld yes, tt)

module _ {M : Type 1} {𝓤 : Ura M} (𝓛 : Logic 𝓤) (at_mem : Memory → SProp 𝓤) (run : Routine
    → Fun 𝓤) (𝓣 : Tables 𝓤 𝓛.H) where
  open 𝓛 use {H}

  walk : (z : (walk_of 𝓛 F.ended stayed (F.clauses 𝓛 at_mem run)).Ghost)
      → ent 𝓤 ((walk_of 𝓛 F.ended stayed (F.clauses 𝓛 at_mem run)).pre z) (WpFn 𝓤 H 𝓣.C 𝓣.Λ code.function (z.0.4.0
      ++ []) ((walk_of 𝓛 F.ended stayed (F.clauses 𝓛 at_mem run)).post z))
  walk z =
      let Post = (walk_of 𝓛 F.ended stayed (F.clauses 𝓛 at_mem run)).post z in
      let v : H-row.Denot = z.0.3.0 in
      let To = type_at (F.signature).result tt in
      let made : To.Denot = (v.full, v) in
      qed 𝓛 ((‵ ftrue ⊛ ‵ (fsep (H-row.own_val v z.0.4.0) ftrue)) ∷ raw (emp 𝓤) ∷ []) ∵ split ! $ drop ! $ fsplit ! $
      held_open ! v z.0.4.0 (λ hv ws fa. held_close ! v $ move ! (1 ∷ 2 ∷ []) $ drop ! $ drop ! $
      let h = held_word v.at hv v.full in let w = vstruct (vcons (vbool v.full) (vcons h vnil)) in
      let Γ : List (Item 𝓤) = ‵ (H-row.own_val v (h ∷ [])) ∷ [] in
      by ! (subst (λ (us : List Val). ent 𝓤 (types.Kit.⋆ 𝓛 Γ) (WpFn 𝓤 H 𝓣.C 𝓣.Λ code.function (us ++ []) Post)) (sym ws)
      (qed 𝓛 Γ ∵
      nothing ! $ move ! (1 ∷ []) $ fjoin ! $ owned ! bool (Is bool) (bool_Makes 𝓛) v.full (vbool v.full
      ∷ []) refl $ fjoin ! $
      feq_i ! (List Val) (w ∷ []) (w ∷ []) refl $ fjoin ! $
      fpack ! (Valss (bool ∷ H-row
      ∷ [])) (λ (vss : Valss (bool ∷ H-row ∷ [])). fsep (feq (List Val) (w
      ∷ []) (vstruct (of_list (flat (bool ∷ H-row ∷ []) vss)) ∷ [])) (owns (bool ∷ H-row
      ∷ []) (v.full, (v, tt)) vss)) (vbool v.full ∷ [], (h ∷ [], tt)) $
      use1 𝓛 (‵ (To.own_val made (w ∷ []))) (id⊢ 𝓤 _) $
      enter ! 𝓣.C 𝓣.Λ code.function (h ∷ []) _ $ alloc_all ! (λ ls. pass_all ! refl (held_typed v.at hv v.full fa, tt) $
      sets ! (of_opd ! (get_in ! (fld ! refl (stop !)) (sub ! 0 refl (whole !)))) refl (ptr_typed v.at) $ sets !
      (of_opd ! (get_in ! (fld ! refl (stop !)) (sub ! 1 refl (whole !)))) refl fa $
      sets ! (of_opd ! (get_in ! (fld ! refl (stop !)) (sub ! 2 refl (whole !)))) refl (tt, tt) $
      sets ! (agg ! (and_then ! (get ! refl) (and_then ! (get ! refl) (and_then ! (get ! refl) (no_more !))))) refl
      (held_typed v.at hv v.full fa) $
      let ht = held_typed v.at hv v.full fa in
      sets ! (agg ! (and_then ! (get ! refl) (and_then ! (get ! refl) (no_more !)))) refl
      (and_tt (has_ty held_ty h) ht.0, (tt, (ht.1, tt))) $ returns ! (look_at ! 0 refl) $ free_all ! refl $
      suffices ! _ (ends_at 𝓛 F.ended stayed (F.clauses 𝓛 at_mem run) z w made (tt, tt) (tt, tt)) $ says !
      (refl, refl) $
      nothing ! $ nothing ! $ fjoin ! $ join ! $ nothing ! $ join ! $ done !))))

-- told meets its contract
pub told_spec : {M : Type 1} → stated.statement M
unfolding tables_of
told_spec 𝓤 𝓛 𝓜 𝓡 wired =
    let 𝓣 : Tables 𝓤 𝓛.H = tables_of 𝓤 𝓛.H 𝓜 (tables 𝓤 𝓛.H 𝓜 𝓡 𝓡.env) in
    entered 𝓤 𝓛.H (triple_of 𝓛 F.signature (F.spec 𝓛 𝓜.mem 𝓡.returns)) 𝓣.C 𝓣.Λ #self code.function
    (code.unfolded 𝓤 𝓛.H 𝓜 𝓡 wired)
    (walk_Meets 𝓛 F.ended stayed (Goes-dropped 𝓛 0 FromHeld yes (λ κs x f. refl), tt) (F.clauses 𝓛 𝓜.mem 𝓡.returns)
    (WpFn 𝓤 𝓛.H 𝓣.C 𝓣.Λ code.function) (WpFn-mono 𝓤 𝓛.H 𝓛.laws 𝓣 code.function)
    (walk 𝓛 𝓜.mem 𝓡.returns 𝓣))
