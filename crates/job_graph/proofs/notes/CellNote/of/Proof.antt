-- A cell's note is made of one behind a `&`, which knows a value.
use Rattle.std.proofs.Common.{◌≡◌, ℕ, [], ◌∷◌, Some, refl}
use mir.Syntax.{a_type, named}
use mir.Val.{Val, vptr}
use mir.MapTy.{inst_fn}
use base.Logic.{SProp, emp}
use base.Fml.{Fml, ftrue, fsep, flft}
use types.Kit.{‵, raw, ◌⊛◌, ◌$◌, ◌∵◌, !, qed, by, move, keep, split, join, fsplit, fjoin, use0, use1, rewrite}
use types.Run.{no_more, and_then, returns, enter}
use types.ByLocal.{alloc_all, pass_all, free_all, look_at, get, sets}
use types.Part.{agg}
use contract.Monad.{fact, fact_i}
use contract.BorrowLft.{◌⊑◌}
use contract.Running.{tables}
use denote.Builtin.{RefOf}
use denote.Exit.{yes}
use denote.RattleType.{RattleType, owns}
use denote.Signature.{types_at, plain}
use denote.Steps.{nothing, heard, looks, shuts}
use denote.Param.{param, layouts}
use denote.Param.Laws.{param_laws}
use denote.Ref.{shr_vals, shr_Tells}
use denote.Triple.Walked.{Stays, stay_dropped, walk_of, Goes-dropped}
use Rattle.once_cell.specs.Once.{noted}
use Rattle.once_cell.proofs.Notes.{token, noted_twice}
use Rattle.std.proofs.raw_atomic.Walks.{proved, leaves}
use Rattle.job_graph.specs.contracts.notes.CellNote as kept
use Rattle.job_graph.proofs.Lent.{Row, opened, kept_made}
use Rattle.job_graph.specs.contracts.notes.CellNote.of.{ended, clauses}
use Rattle.job_graph.specs.contracts.notes.CellNote.of.Key.{name as #self}
use Rattle.job_graph.proofs.notes.CellNote.of.Statement.{statement}
use Rattle.job_graph.proofs.notes.CellNote.of.Code as code

pub of_spec : {M : Type 1} → statement M
of_spec 𝓤 𝓛 𝓜 𝓡 wired T L =
    let H = 𝓛.H in let 𝓣 = tables 𝓤 H 𝓜 𝓡 𝓡.env in let R : RattleType = param 0 T in let LR = param_laws 0 T L in let En = ended T in let S : RattleType = kept.the_row R in
    let inst = layouts (a_type ∷ []) (T, tt) in let fn = inst_fn inst code.function in let c = clauses T 𝓛 𝓜.mem 𝓡.returns in
    let self = RefOf (0 ∷ []) tt (plain (λ _. Row R)) (λ _. tt) in let hs : Stays En.signature.params En.kept = (stay_dropped self yes, tt) in
    proved 𝓛 En hs c 𝓜 𝓡 (Goes-dropped 𝓛 2 self yes (λ κs x f. refl), tt) (#self inst) fn (code.unfolded 𝓤 H 𝓜 𝓡 wired (T, tt))
    (λ κs. (shr_vals, tt)) (λ κs. (shr_Tells (named 0) κs.0 (Row R), tt)) (λ κs qs bounds a gh are.
    let b : ℕ = a.0.ref_ptr.0 in let o : ℕ = a.0.ref_ptr.1 in let p : Val = vptr b o in let n = a.0.now in
    let y : (walk_of 𝓛 En hs c).Ghost = ((κs, qs, bounds, a, (p ∷ [], tt)), gh) in let Post : Val → SProp 𝓤 = (walk_of 𝓛 En hs c).post y in
    let others : Fml = fsep (flft κs.1.0 qs.1.0) ftrue in
    qed 𝓛 (((‵ (flft κs.0 qs.0) ⊛ ‵ others) ⊛ ‵ (owns (types_at En.signature.params κs) a y.0.4)) ∷ raw (fact 𝓤 (κs.1.0 ⊑ T.lives)) ∷ raw (fact 𝓤 ((x : T.Denot) × (n.known ≡ Some x))) ∷ []) ∵ split ! $ split ! $ move ! (2 ∷ []) $ fsplit ! $ fsplit ! $ move ! (6 ∷ []) $
    heard ! ((x : T.Denot) × (n.known ≡ Some x)) (λ w. keep ! (1 ∷ 3 ∷ 4 ∷ []) $
    let r : S.Denot = record { marker = record {}; cell = n.cell; value = w.0 } in let Told : Type 0 = (n.cell ≡ n.cell) × (n.known ≡ Some w.0) in let N : Fml = noted R n.cell n.known in
    enter ! 𝓣.C 𝓣.Λ fn (p ∷ []) Post $ alloc_all ! (λ l. pass_all ! refl ((tt, tt), tt) $
    looks ! tt (Row R) (opened 𝓛 R LR) n b o (λ q' vs. move ! (1 ∷ []) $ fsplit ! $ move ! (1 ∷ []) $ use1 𝓛 (‵ N ⊛ ‵ N) (noted_twice 𝓛 R n.cell n.known) $ split ! $
    move ! (2 ∷ 0 ∷ []) $ fjoin ! $ move ! (2 ∷ 0 ∷ 3 ∷ []) $ shuts ! tt (Row R) q' n vs b o $
    -- [the token; what is known; the note lent; the other tokens]
    move ! (1 ∷ []) $ rewrite ! 0 (λ k. ‵ (noted R n.cell k)) w.1 refl $ use1 𝓛 (‵ (S.own_val r (token ∷ []))) (kept_made 𝓛 R n.cell w.0) $ move ! (1 ∷ 3 ∷ []) $ join ! $
    sets ! (agg ! (no_more !)) refl (tt, tt) $ sets ! (agg ! (and_then ! (get ! refl) (no_more !))) refl (tt, (tt, tt)) $
    use0 𝓛 (raw (fact 𝓤 Told)) (fact_i 𝓤 Told (emp 𝓤) (refl, w.1)) $ nothing ! $ nothing ! $ fjoin ! $
    returns ! (look_at ! 0 refl) $ free_all ! refl $ keep ! (2 ∷ 0 ∷ 3 ∷ 1 ∷ []) $ by ! (leaves 𝓛 En hs c y token r (tt, tt) (tt, tt))))))
