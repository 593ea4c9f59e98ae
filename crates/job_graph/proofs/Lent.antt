-- A note behind a `&` opened for a while: what it owns can be had twice. Assumes `Logic`.
use Rattle.std.proofs.Common.{◌≡◌, ℕ, List, [], ◌∷◌, ◌++◌, refl, ap, ◌∙◌}
use mathlib.Mathlib.Data.Part.{◌∈◌}
use seplogic.Ra.Ura.{Ura}
use mir.Val.{Val, vstruct, vnil, of_list}
use base.Share
use base.Logic.{ent, sep}
use base.Fml.{Share, Fml, fsep}
use types.Logic.{Logic, sem}
use types.Kit.{‵, ◌⊛◌, ◌$◌, ◌∵◌, !, qed, move, drop, use0, use1, use2, split, fsplit, fjoin, fpick, fpack, rewrite, done}
use denote.RattleType.{RattleType}
use denote.Memory.{cell_at, part_at, part_of, shared_of, cell_cut, cell_join}
use denote.Laws.{Is, shows}
use denote.Steps.{peeks}
use denote.Opens.{Cuts-Halves, Opened-one, Opens, Twice-of}
use denote.Param.Laws.{Laws}
use denote.Struct.Struct.{Struct}
use denote.Struct.Owning.{shape}
use Rattle.once_cell.specs.Once.{noted}
use Rattle.once_cell.proofs.Notes.{token, noted_twice, note_made}
use Rattle.once_cell.proofs.race.note.Note.TheLaws as note_laws
use Rattle.once_cell.specs.contracts.race.note.Note as note
use denote.Shadow.{makes_shadow}
use Rattle.std.specs.declared.option.Option.TheVariants.{Some}
use Rattle.job_graph.specs.contracts.notes.CellNote as kept

module _ (R : RattleType) where
  abbrev pub Row : RattleType
  Row = note.the_row R

  abbrev pub Data : RattleType
  Data = Struct (shape (note.the_type R))

  pub told : (vs : List Val) → Is Data (tt, tt) vs → vs ≡ token ∷ []
  told vs is = is.1.0 ∙ ap (λ (ws : List Val). vstruct (of_list (ws ++ [])) ∷ []) is.1.1.0.1.0

module _ {M : Type 1} {𝓤 : Ura M} (𝓛 : Logic 𝓤) (R : RattleType) where
  note_cut : (n : (Row R).Denot) (b o : ℕ) (q q₁ q₂ : Share) → q ∈ Share.op q₁ q₂ → ent 𝓤 (sem 𝓛 (part_at (Row R) q n b o)) (sep 𝓤 (sem 𝓛 (part_at (Row R) q₁ n b o)) (sem 𝓛 (part_at (Row R) q₂ n b o)))
  unfolding part_of
  note_cut n b o q q₁ q₂ m = let N : Fml = noted R n.cell n.known in let D : Fml = (Data R).own_val (tt, tt) (token ∷ []) in let here : List Val = token ∷ [] in
      qed 𝓛 (‵ (part_at (Row R) q n b o) ∷ []) ∵ fpick ! (λ vs. fsplit ! $ move ! (1 ∷ []) $ fsplit ! $ peeks ! (Data R) (Is (Data R)) (shows 𝓛 (Data R)) (tt, tt) vs (λ so. drop ! $
      use1 𝓛 (‵ N ⊛ ‵ N) (noted_twice 𝓛 R n.cell n.known) $ split ! $ move ! (2 ∷ []) $ rewrite ! 0 (λ (us : List Val). ‵ (cell_at q (Row R).mir us b o)) (told R vs so) refl $
      use1 𝓛 (‵ (cell_at q₁ (Row R).mir here b o) ⊛ ‵ (cell_at q₂ (Row R).mir here b o)) (cell_cut 𝓛 q q₁ q₂ m (Row R).mir here b o) $ split ! $
      use0 𝓛 (‵ D) (note_made 𝓛 R) $ move ! (0 ∷ 3 ∷ []) $ fjoin ! $ move ! (1 ∷ 0 ∷ []) $ fjoin ! $ fpack ! (List Val) (λ us. fsep (cell_at q₁ (Row R).mir us b o) ((Row R).own_val n us)) here $
      move ! (1 ∷ 2 ∷ []) $ use0 𝓛 (‵ D) (note_made 𝓛 R) $ move ! (0 ∷ 2 ∷ []) $ fjoin ! $ move ! (1 ∷ 0 ∷ []) $ fjoin ! $ fpack ! (List Val) (λ us. fsep (cell_at q₂ (Row R).mir us b o) ((Row R).own_val n us)) here $
      move ! (1 ∷ 0 ∷ []) $ done !))

  note_join : (n : (Row R).Denot) (b o : ℕ) (q q₁ q₂ : Share) → q ∈ Share.op q₁ q₂ → ent 𝓤 (sep 𝓤 (sem 𝓛 (part_at (Row R) q₁ n b o)) (sem 𝓛 (part_at (Row R) q₂ n b o))) (sem 𝓛 (part_at (Row R) q n b o))
  unfolding part_of
  note_join n b o q q₁ q₂ m = let N : Fml = noted R n.cell n.known in let D : Fml = (Data R).own_val (tt, tt) (token ∷ []) in let here : List Val = token ∷ [] in
      qed 𝓛 (‵ (part_at (Row R) q₁ n b o) ∷ ‵ (part_at (Row R) q₂ n b o) ∷ []) ∵ fpick ! (λ vs. fsplit ! $ move ! (1 ∷ []) $ fsplit ! $ peeks ! (Data R) (Is (Data R)) (shows 𝓛 (Data R)) (tt, tt) vs (λ so. drop ! $
      move ! (1 ∷ []) $ rewrite ! 0 (λ (us : List Val). ‵ (cell_at q₁ (Row R).mir us b o)) (told R vs so) refl $
      move ! (2 ∷ []) $ fpick ! (λ vs'. fsplit ! $ move ! (1 ∷ []) $ fsplit ! $ peeks ! (Data R) (Is (Data R)) (shows 𝓛 (Data R)) (tt, tt) vs' (λ so'. drop ! $ drop ! $
      rewrite ! 0 (λ (us : List Val). ‵ (cell_at q₂ (Row R).mir us b o)) (told R vs' so') refl $ move ! (1 ∷ 0 ∷ []) $
      use2 𝓛 (‵ (cell_at q (Row R).mir here b o)) (cell_join 𝓛 q q₁ q₂ m (Row R).mir here b o) $
      use0 𝓛 (‵ D) (note_made 𝓛 R) $ move ! (0 ∷ 2 ∷ []) $ fjoin ! $ move ! (1 ∷ 0 ∷ []) $ fjoin ! $ fpack ! (List Val) (λ us. fsep (cell_at q (Row R).mir us b o) ((Row R).own_val n us)) here $ done !))))

  pub opened : Laws R → Opens 𝓛 (Row R)
  opened L n b o = (
    Opened-one 𝓛 (λ q. part_at (Row R) q n b o) (Cuts-Halves 𝓛 (λ q. part_at (Row R) q n b o) (record { cut = note_cut n b o; join = note_join n b o })),
    Twice-of 𝓛 (shared_of (Row R) n b o) ((note_laws.the_row_laws R L).shr_laws n b o),
  )

-- a cell's note is made of what is known of the cell
pub kept_made : {M : Type 1} {𝓤 : Ura M} (𝓛 : Logic 𝓤) (R : RattleType) (γ : ℕ) (x : R.Denot)
    → ent 𝓤 (sem 𝓛 (noted R γ (Some x))) (sem 𝓛 ((kept.the_row R).own_val (record { marker = record {}; cell = γ; value = x }) (token ∷ [])))
kept_made 𝓛 R γ x = let F = (Struct (shape (kept.the_type R))).own_val (tt, tt) (token ∷ []) in
    qed 𝓛 (‵ (noted R γ (Some x)) ∷ []) ∵ use0 𝓛 (‵ F) (makes_shadow 𝓛 F (λ vss. (tt, ((λ uss. (tt, tt)), tt))) ((vstruct vnil ∷ [], tt), (refl, ((tt, (refl, tt)), tt)))) $ done !
