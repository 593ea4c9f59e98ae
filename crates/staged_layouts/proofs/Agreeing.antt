-- Designs with the layers of the same selections over one design have the same squares.
use Rattle.std.proofs.Common.{◌≡◌, ◌↔◌, inl, inr, ℕ, List, [], ◌∷◌, sym, subst, true, false, refl}
use Rattle.base_laws.proofs.Tests.{not_both}
use Rattle.flat_layout.specs.Layout.{Design, IsOwn, IsReached, Leads, Some_of}
use Rattle.geo_base.specs.Layers.{is_same_key}
use Rattle.geo_base.specs.declared.layer.LayerKey.{LayerKey}
use Rattle.geo_base.specs.declared.shapes.Square.{Square}
use Rattle.cell_graph.proofs.Bridge.{key_is, key_own, key_same}
use Rattle.select_laws.specs.Layered.{IsOwnSelected}
use Rattle.select_laws.specs.Selects.{Select, sight}
use Rattle.select_laws.specs.Staged.{AreInTurn, IsKeyOf, IsStaged, Stage}
use Rattle.select_laws.proofs.Grouped.{group}
use Rattle.staged_designs.proofs.Mixed.{AreAlike, mixed, mixed_alike, mixed_key, mixed_other, mixed_same}
use Rattle.staged_layouts.proofs.Stages.{not_read, own_first, reached_back}

pub differs : (a b : LayerKey) → is_same_key a b ≡ false → a ≡ b → ⊥
differs a b apart_from same = not_both (is_same_key a b) (subst (λ k. is_same_key a k ≡ true) same (key_own a)) apart_from

other_key : (s : Stage) (ss : List Stage) (key : LayerKey) → (IsKeyOf ss key → ⊥) → (key ≡ s.key → ⊥) → IsKeyOf (s ∷ ss) key → ⊥
other_key s ss key apart_from differ (inl k) = differ (sym k)
other_key s ss key apart_from differ (inr k) = apart_from k

-- own squares that are the same but on these stages' keys
abbrev AreSameOff : List Stage → Design → Design → Type 0
AreSameOff ss d e = (cell : ℕ) (key : LayerKey) (q : Square) → (IsKeyOf ss key → ⊥) → IsOwn e cell key q ↔ IsOwn d cell key q

-- what is held of a selection that reads none of these layers
others_selected : (ss : List Stage) (s : Stage) (d e : Design) (x : Select) → AreAlike d e → AreSameOff (s ∷ ss) d e → ((key : LayerKey) → IsKeyOf (s ∷ ss) key → Some_of (λ k. k ≡ key) (sight x).keys → ⊥) → (cell : ℕ) (q : Square)
    → IsOwnSelected e x cell q ↔ IsOwnSelected d x cell q
others_selected [] s d e x alike same free cell q =
    group d e s.key x (record {
      top = alike.top;
      places = alike.places;
      texts = alike.texts;
      own = λ at other z differ. same at other z (other_key s [] other (λ k. k) differ);
    }) (free s.key (inl refl)) cell q
others_selected (t ∷ ts) s d e x alike same free cell q =
    let rest = others_selected ts t middle e x (mixed_alike d e alike s.key) off (λ key k. free key (inr k)) cell q in ((λ h. one.0 (rest.0 h)), (λ h. rest.1 (one.1 h)))
  where
    middle : Design
    middle = record { cells = mixed s.key d.cells e.cells; top = d.top; way = d.way }

    one : IsOwnSelected middle x cell q ↔ IsOwnSelected d x cell q
    one = group d middle s.key x (mixed_same d e alike s.key) (free s.key (inl refl)) cell q

    off : AreSameOff (t ∷ ts) middle e
    off at key z apart_from = elim (key_is key s.key) [
      | inl k ↦
          let a = mixed_key d e alike s.key at z in
          subst (λ (y : LayerKey). IsOwn e at y z ↔ IsOwn middle at y z) (sym (key_same key s.key k)) (a.1, a.0)
      | inr k ↦
          let differ = differs key s.key k in
          let a = mixed_other d e alike s.key at key z differ in
          let b = same at key z (other_key s (t ∷ ts) key apart_from differ) in ((λ y. a.1 (b.0 y)), (λ y. b.1 (a.0 y)))
    ]

leads_alike : (d e : Design) → AreAlike d e → (path : List ℕ) (from to : ℕ) → Leads e from path to → Leads d from path to
leads_alike d e alike [] from to h = h
leads_alike d e alike (k ∷ ks) from to h = (h.0, (alike.places from k h.0).0 h.1, leads_alike d e alike ks h.0.cell to h.2)

leads_back : (d e : Design) → AreAlike d e → (path : List ℕ) (from to : ℕ) → Leads d from path to → Leads e from path to
leads_back d e alike [] from to h = h
leads_back d e alike (k ∷ ks) from to h = (h.0, (alike.places from k h.0).1 h.1, leads_back d e alike ks h.0.cell to h.2)

reached_too : (d e : Design) → AreAlike d e → (cell : ℕ) → IsReached e cell → IsReached d cell
reached_too d e alike cell h = record { path = h.path; leads = subst (λ t. Leads d t h.path cell) alike.top (leads_alike d e alike h.path e.top cell h.leads) }

reached_there : (d e : Design) → AreAlike d e → (cell : ℕ) → IsReached d cell → IsReached e cell
reached_there d e alike cell h = record { path = h.path; leads = subst (λ t. Leads e t h.path cell) (sym alike.top) (leads_back d e alike h.path d.top cell h.leads) }

-- only reached cells have squares on these stages' keys
abbrev pub AreOnlyReached : List Stage → Design → Type 0
AreOnlyReached ss e = (cell : ℕ) (key : LayerKey) (q : Square) → IsKeyOf ss key → IsOwn e cell key q → IsReached e cell

pub agree : (ss : List Stage) (d f e g : Design) → AreInTurn ss → IsStaged d ss e → IsStaged f ss g → AreAlike e g → AreSameOff ss e g → AreOnlyReached ss e → AreOnlyReached ss g
    → (cell : ℕ) (key : LayerKey) (q : Square) → IsOwn g cell key q ↔ IsOwn e cell key q
agree [] d f e g turns one two alike same only other cell key q = same cell key q (λ k. k)
agree (s ∷ ss) d f e g turns one two alike same only other cell key q =
    agree ss one.0 two.0 e g turns.1 one.3 two.3 alike off (λ at k z l. only at k z (inr l)) (λ at k z l. other at k z (inr l)) cell key q
  where
    here : (at : ℕ) (z : Square) → IsOwn g at s.key z ↔ IsOwn e at s.key z
    here at z =
        let mine = λ (r : IsReached e at). own_first s ss d e turns.0 one at z (reached_back (s ∷ ss) d e one at r) in
        let theirs = λ (r : IsReached g at). own_first s ss f g turns.0 two at z (reached_back (s ∷ ss) f g two at r) in
        let both = others_selected ss s e g s.select alike same (not_read s ss turns.0) at z in (
          (λ h.
              let r = other at s.key z (inl refl) h in
              (mine (reached_too e g alike at r)).1 (both.0 ((theirs r).0 h))),
          (λ h.
              let r = only at s.key z (inl refl) h in
              (theirs (reached_there e g alike at r)).1 (both.1 ((mine r).0 h))),
        )

    off : AreSameOff ss e g
    off at k z apart_from = elim (key_is k s.key) [
      | inl is ↦ subst (λ (y : LayerKey). IsOwn g at y z ↔ IsOwn e at y z) (sym (key_same k s.key is)) (here at z)
      | inr not ↦ same at k z (other_key s ss k apart_from (differs k s.key not))
    ]
