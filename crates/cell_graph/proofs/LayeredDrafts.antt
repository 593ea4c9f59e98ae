-- Drafts of cells with further layers, made one by one.
use Rattle.std.proofs.Common.{◌≡◌, inl, inr, ℕ, ◌+◌, ◌<◌, ◌≤◌, List, [], ◌∷◌, ◌++◌, Some, None, length, set, take, get_or, slice_get, refl, sym, ◌∙◌, ap, subst, arith, length-append}
use Rattle.std.specs.Global.{Vec}
use Rattle.std.proofs.lemmas.List.{append-nil, length-set, take_more}
use Rattle.base_laws.proofs.Items.{one_entry, push_cases}
use Rattle.base_laws.proofs.Lists.{map_last}
use Rattle.geo_base.specs.declared.layer.LayerKey.{LayerKey}
use Rattle.cell_graph.specs.declared.cells.OwnLayer.{OwnLayer}
use Rattle.cell_graph.specs.declared.cells.Place.{Place}
use Rattle.cell_graph.specs.declared.cells.CellPart.{CellPart}
use Rattle.cell_graph.specs.declared.drafts.CellDraft.{CellDraft}
use Rattle.cell_graph.specs.declared.drafts.DraftRef.{DraftRef}
use Rattle.cell_graph.specs.Layering.{cell_names, IsRefOf, AreRefsTo, IsDraftOf, AreDraftsTo}
use Rattle.cell_graph.proofs.Finishes.{set_other}

pub names_more : (cells : List CellPart) (i : ℕ) (d : CellPart) (out : List (List ℕ)) → i < length cells → out ≡ cell_names (take i cells) → out ++ (get_or cells i d).name ∷ [] ≡ cell_names (take (i + 1) cells)
names_more cells i d out lt h =
    ap (λ (l : List (List ℕ)). l ++ (get_or cells i d).name ∷ []) h ∙ sym (map_last (λ (c : CellPart). c.name) (take i cells) (get_or cells i d)) ∙ ap (λ (cs : List CellPart). cell_names cs) (sym (take_more cells i d lt))

pub refs_none : (names : List (List ℕ)) (places : List Place) → AreRefsTo names places 0 []
refs_none names places = record { count = refl; each = λ k p r at_p at_r. (let f : None ≡ Some r = at_r in absurd (let z : ⊥ = cc in z)) }

pub refs_more : (names : List (List ℕ)) (places : List Place) (n : ℕ) (refs : List DraftRef) (p : Place) (r : DraftRef) → slice_get places n ≡ Some p → IsRefOf names p r → AreRefsTo names places n refs → AreRefsTo names places (n + 1) (refs ++ r ∷ [])
refs_more names places n refs p r at is h = record {
  count = length-append refs (r ∷ []) ∙ ap (λ k. k + 1) h.count;
  each = λ k q s at_q at_s. elim (push_cases refs r s k at_s) [
    | inl old ↦ h.each k q s at_q old
    | inr (e, same) ↦
        let there : slice_get places n ≡ Some q = subst (λ j. slice_get places j ≡ Some q) (e ∙ h.count) at_q in
        let one = one_entry (slice_get places n) p q at there in
        subst (λ (t : DraftRef). IsRefOf names q t) same (subst (λ (t : Place). IsRefOf names t r) one is)
  ];
}

pub record DraftedTo (names : List (List ℕ)) (cells : List CellPart) (keys : List LayerKey) (all : List (Vec OwnLayer)) (i : ℕ) (further : List (Vec OwnLayer)) (drafts : List CellDraft) : Type 0 where
  pub made : AreDraftsTo names cells keys all i drafts
  pub count : length further ≡ length all
  pub later : (k : ℕ) (layers : Vec OwnLayer) → i ≤ k → slice_get all k ≡ Some layers → slice_get further k ≡ Some layers

pub nothing_drafted : (names : List (List ℕ)) (cells : List CellPart) (keys : List LayerKey) (all : List (Vec OwnLayer)) → DraftedTo names cells keys all 0 all []
nothing_drafted names cells keys all = record {
  made = record { count = refl; each = λ i l c d a b e. (let f : None ≡ Some d = e in absurd (let z : ⊥ = cc in z)) };
  count = refl;
  later = λ k l le e. e;
}

pub one_drafted : (names : List (List ℕ)) (cells : List CellPart) (keys : List LayerKey) (all : List (Vec OwnLayer)) (i : ℕ) (further : List (Vec OwnLayer)) (drafts : List CellDraft) (c : CellPart) (more fresh : Vec OwnLayer) (d : CellDraft)
    → slice_get cells i ≡ Some c → slice_get further i ≡ Some more → IsDraftOf names keys more.items c d
    → DraftedTo names cells keys all i further drafts → DraftedTo names cells keys all (i + 1) (set further i fresh) (drafts ++ d ∷ [])
one_drafted names cells keys all i further drafts c more fresh d at_c at_more made h = record {
  made = record {
    count = length-append drafts (d ∷ []) ∙ ap (λ k. k + 1) h.made.count;
    each = λ k l b e at_l at_b at_e. elim (push_cases drafts d e k at_e) [
      | inl old ↦ h.made.each k l b e at_l at_b old
      | inr (j, same) ↦
          let is : k ≡ i = j ∙ h.made.count in
          let cell : c ≡ b = one_entry (slice_get cells i) c b at_c (subst (λ n. slice_get cells n ≡ Some b) is at_b) in
          let there : slice_get further i ≡ Some l = h.later i l (omega arith) (subst (λ n. slice_get all n ≡ Some l) is at_l) in
          let list : more ≡ l = one_entry (slice_get further i) more l at_more there in
          let one : IsDraftOf names keys l.items c d = subst (λ (v : Vec OwnLayer). IsDraftOf names keys v.items c d) list made in
          let two : IsDraftOf names keys l.items b d = subst (λ (x : CellPart). IsDraftOf names keys l.items x d) cell one in
          subst (λ (x : CellDraft). IsDraftOf names keys l.items b x) same two
    ];
  };
  count = length-set further i fresh ∙ h.count;
  later = λ k l le at. set_other further i k fresh (λ e. (let z : ⊥ = omega arith in z)) ∙ h.later k l (omega arith) at;
}

pub all_drafted : (names : List (List ℕ)) (cells yielded rest : List CellPart) (keys : List LayerKey) (all : List (Vec OwnLayer)) (i : ℕ) (further : List (Vec OwnLayer)) (drafts : List CellDraft)
    → cells ≡ yielded ++ rest → rest ≡ [] → i ≡ length yielded → DraftedTo names cells keys all i further drafts → AreDraftsTo names cells keys all (length cells) drafts
all_drafted names cells yielded rest keys all i further drafts e f g h =
    let len : i ≡ length cells = g ∙ sym (ap length (e ∙ ap (λ r. yielded ++ r) f ∙ append-nil yielded)) in
    record { count = h.made.count ∙ len; each = h.made.each }
