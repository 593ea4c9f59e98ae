-- What cells hold of selections, read off the design that has all their layers.
use Rattle.std.proofs.Common.{◌≡◌, ◌↔◌, inl, inr, ℕ, List, [], ◌∷◌, refl, sym, ◌∙◌, ap, subst}
use Rattle.flat_layout.specs.Layout.{Design, HasText, IsOwn, IsPlaced, IsReached, Place, Some_of, Text}
use Rattle.geo_base.specs.declared.layer.LayerKey.{LayerKey}
use Rattle.geo_base.specs.declared.shapes.Square.{Square}
use Rattle.select_laws.specs.Layered.{IsOwnSelected}
use Rattle.select_laws.specs.Selects.{Select, sight}
use Rattle.select_laws.specs.Staged.{IsBefore, IsKeyOf, IsStaged, Reads, Stage}
use Rattle.select_laws.proofs.Grouped.{group, reached_to, turned}

-- ---- what stands as it was

pub staged_top : (ss : List Stage) (d e : Design) → IsStaged d ss e → e.top ≡ d.top
staged_top [] d e st = ap (λ (x : Design). x.top) (sym st)
staged_top (s ∷ ss) d e st = staged_top ss st.0 e st.3 ∙ st.1.same.top

pub staged_places : (ss : List Stage) (d e : Design) → IsStaged d ss e → (cell k : ℕ) (p : Place) → IsPlaced e cell k p ↔ IsPlaced d cell k p
staged_places [] d e st cell k p = ((λ h. subst (λ (x : Design). IsPlaced x cell k p) (sym st) h), (λ h. subst (λ (x : Design). IsPlaced x cell k p) st h))
staged_places (s ∷ ss) d e st cell k p =
    let rest = staged_places ss st.0 e st.3 cell k p in
    let one = st.1.same.places cell k p in ((λ h. one.0 (rest.0 h)), (λ h. rest.1 (one.1 h)))

pub staged_texts : (ss : List Stage) (d e : Design) → IsStaged d ss e → (cell : ℕ) (t : Text) → HasText e cell t ↔ HasText d cell t
staged_texts [] d e st cell t = ((λ h. subst (λ (x : Design). HasText x cell t) (sym st) h), (λ h. subst (λ (x : Design). HasText x cell t) st h))
staged_texts (s ∷ ss) d e st cell t =
    let rest = staged_texts ss st.0 e st.3 cell t in
    let one = st.1.same.texts cell t in ((λ h. one.0 (rest.0 h)), (λ h. rest.1 (one.1 h)))

pub staged_own : (ss : List Stage) (d e : Design) (key : LayerKey) → IsStaged d ss e → (IsKeyOf ss key → ⊥) → (cell : ℕ) (q : Square) → IsOwn e cell key q ↔ IsOwn d cell key q
staged_own [] d e key st apart_from cell q = ((λ h. subst (λ (x : Design). IsOwn x cell key q) (sym st) h), (λ h. subst (λ (x : Design). IsOwn x cell key q) st h))
staged_own (s ∷ ss) d e key st apart_from cell q =
    let rest = staged_own ss st.0 e key st.3 (λ k. apart_from (inr k)) cell q in
    let one = st.1.same.own cell key q (λ is. apart_from (inl (sym is))) in ((λ h. one.0 (rest.0 h)), (λ h. rest.1 (one.1 h)))

pub reached_back : (ss : List Stage) (d e : Design) → IsStaged d ss e → (cell : ℕ) → IsReached e cell → IsReached d cell
reached_back [] d e st cell h = subst (λ (x : Design). IsReached x cell) (sym st) h
reached_back (s ∷ ss) d e st cell h = reached_to d st.0 s.key st.1.same cell (reached_back ss st.0 e st.3 cell h)

pub reached_on : (ss : List Stage) (d e : Design) → IsStaged d ss e → (cell : ℕ) → IsReached d cell → IsReached e cell
reached_on [] d e st cell h = subst (λ (x : Design). IsReached x cell) st h
reached_on (s ∷ ss) d e st cell h = reached_on ss st.0 e st.3 cell (reached_to st.0 d s.key (turned d st.0 s.key st.1.same) cell h)

-- ---- a selection

-- what is held of one that reads none of the layers
staged_selected : (ss : List Stage) (d e : Design) (x : Select) → IsStaged d ss e → ((key : LayerKey) → IsKeyOf ss key → Some_of (λ k. k ≡ key) (sight x).keys → ⊥) → (cell : ℕ) (q : Square) → IsOwnSelected e x cell q ↔ IsOwnSelected d x cell q
staged_selected [] d e x st free cell q = ((λ h. subst (λ (y : Design). IsOwnSelected y x cell q) (sym st) h), (λ h. subst (λ (y : Design). IsOwnSelected y x cell q) st h))
staged_selected (s ∷ ss) d e x st free cell q =
    let rest = staged_selected ss st.0 e x st.3 (λ key k. free key (inr k)) cell q in
    let one = group d st.0 s.key x st.1.same (free s.key (inl refl)) cell q in ((λ h. one.0 (rest.0 h)), (λ h. rest.1 (one.1 h)))

-- none of the layers of a stage and of those behind it is read by it
pub not_read : (s : Stage) (ss : List Stage) → IsBefore s ss → (key : LayerKey) → IsKeyOf (s ∷ ss) key → Reads s key → ⊥
not_read s ss before key (inl e) r = before.own (subst (λ k. Reads s k) (sym e) r)
not_read s ss before key (inr l) r = before.unread key l r

-- the layer of the first stage holds what the last design's cells hold of its selection
pub own_first : (s : Stage) (ss : List Stage) (d e : Design) → IsBefore s ss → IsStaged d (s ∷ ss) e → (cell : ℕ) (q : Square) → IsReached d cell → IsOwn e cell s.key q ↔ IsOwnSelected e s.select cell q
own_first s ss d e before st cell q reached =
    let later = staged_own ss st.0 e s.key st.3 before.apart cell q in
    let new = st.1.new cell q reached in
    let stands = staged_selected (s ∷ ss) d e s.select st (not_read s ss before) cell q in (
      (λ h. stands.1 (new.0 (later.0 h))),
      (λ h. later.1 (new.1 (stands.0 h))),
    )
