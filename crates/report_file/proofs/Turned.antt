-- A turn: the circuits that go had partners, and fewer circuits have one after it.
use Rattle.std.proofs.Common.{◌≡◌, ◌⊎◌, inl, inr, ℕ, ◌<◌, ◌≤◌, Bool, true, false, List, ◌++◌, length, Some, slice_get, sym, ap, subst, ◌∙◌, true≢false}
use Rattle.std.specs.Prelude.{not}
use Rattle.std.specs.List.{filter}
use Rattle.std.proofs.lemmas.Bool.{cases_Bool, not_from_false, not_from_true, not-true}
use Rattle.std.proofs.lemmas.Simd.{map-map}
use Rattle.net_names.specs.Folding.{folded_bytes}
use Rattle.align_laws.specs.Partners.{AreNamesApart}
use Rattle.net_align.specs.Compared.{AreAligned}
use Rattle.net_align.specs.Names.{left_names, right_names}
use Rattle.pair_turns.specs.Alone.{Names, all_names, circuit_names, first_names, gone_names, has_name, same_alone, second_names, with_gone}
use Rattle.pair_turns.specs.Laws.{AloneLaw, AreAtMost, AreNamesOnce, LinesApartLaw}
use Rattle.pair_turns.proofs.Lists.{on_map}
use Rattle.plain_netlist.specs.Lists.{AreApart, IsListed}
use Rattle.plain_netlist.specs.Netlist.{Circuit, Netlist}
use Rattle.plain_netlist.proofs.Members.{either_side, in_left, in_right, listed}
use Rattle.report_file.proofs.Gone.{both_apart, comes, gone, gone_there, one_fewer, stays}
use Rattle.report_file.proofs.Kept.{made_apart, made_of}

-- what holds before each comparison of the circuits without a partner
pub record AreFit (layout schematic : Netlist) (same : List (List ℕ × List ℕ)) (most : ℕ) (alone : Names) : Type 0 where
  pub once : AreNamesOnce alone
  pub low : AreAtMost most (all_names layout schematic same alone)

-- how many circuits of the layout have a name that isn't among theirs
abbrev pub left_over : Netlist → Names → ℕ
left_over layout alone = length (filter (λ (c : Circuit). not (has_name alone.lefts c.name)) layout.circuits)

-- the lines have no name twice on one side
module _ (law : LinesApartLaw) (layout schematic : Netlist) (same : List (List ℕ × List ℕ)) (most : ℕ) (alone : Names) (fit : AreFit layout schematic same most alone) where
  pub lefts_once : AreApart (left_names same) → AreApart (left_names (same_alone most alone same))
  lefts_once apart =
      subst AreApart (map-map folded_bytes (λ (l : List ℕ × List ℕ). l.0) (same_alone most alone same))
      (law.lefts most alone layout schematic same fit.low fit.once (subst AreApart (sym (map-map folded_bytes (λ (l : List ℕ × List ℕ). l.0) same)) apart))

  pub rights_once : AreApart (right_names same) → AreApart (right_names (same_alone most alone same))
  rights_once apart =
      subst AreApart (map-map folded_bytes (λ (l : List ℕ × List ℕ). l.1) (same_alone most alone same))
      (law.rights most alone layout schematic same fit.low fit.once (subst AreApart (sym (map-map folded_bytes (λ (l : List ℕ × List ℕ). l.1) same)) apart))

-- a name among some and behind is among those and others, or it is low
past : (P : Type 0) (xs ys zs : List (List ℕ)) (name : List ℕ) → (IsListed name ys → IsListed name zs ⊎ P) → IsListed name (xs ++ ys) → IsListed name (xs ++ zs) ⊎ P
past P xs ys zs name step h = elim (either_side xs ys name h) [
  | inl k ↦ inl (in_left xs zs name k)
  | inr k ↦ elim (step k) [ inl l ↦ inl (in_right xs zs name l) | inr p ↦ inr p ]
]

within : (P : Type 0) (xs ys gs hs : List (List ℕ)) (name : List ℕ) → (IsListed name gs → P) → (IsListed name hs → P) → IsListed name ((xs ++ gs) ++ (ys ++ hs)) → IsListed name (xs ++ ys) ⊎ P
within P xs ys gs hs name left right h = elim (either_side (xs ++ gs) (ys ++ hs) name h) [
  | inl k ↦ elim (either_side xs gs name k) [ inl l ↦ inl (in_left xs ys name l) | inr l ↦ inr (left l) ]
  | inr k ↦ elim (either_side ys hs name k) [ inl l ↦ inl (in_right xs ys name l) | inr l ↦ inr (right l) ]
]

module _ (law : AloneLaw) (layout schematic : Netlist) (top : ℕ) (same : List (List ℕ × List ℕ)) (most : ℕ) (alone : Names) (fit : AreFit layout schematic same most alone) (fine : AreNamesApart layout)
    (also : AreNamesApart schematic) (left right : Netlist) (a : AreAligned layout schematic top (same_alone most alone same) left right) (goes : List Bool) where
  -- the circuits of the pair had partners
  left_free : (k : ℕ) (c : Circuit) → slice_get left.circuits k ≡ Some c → has_name alone.lefts c.name ≡ true → ⊥
  left_free k c is there =
      let p = a.are in
      let m = made_of layout left a.left_by p.left_aligned p.left_only k c is in
      let pair = (p.pairs.left_kept m.number).0 m.kept in
      law.left most alone layout schematic top same fit.low m.number pair.0 c.name (m.given, m.is, ap folded_bytes (sym m.name)) there pair.1.partner

  right_free : (k : ℕ) (c : Circuit) → slice_get right.circuits k ≡ Some c → has_name alone.rights c.name ≡ true → ⊥
  right_free k c is there =
      let p = a.are in
      let m = made_of schematic right a.right_by p.right_aligned p.right_only k c is in
      let pair = (p.pairs.right_kept m.number).0 m.kept in
      law.right most alone layout schematic top same fit.low pair.0 m.number c.name (m.given, m.is, ap folded_bytes (sym m.name)) there pair.1.partner

  left_low : (name : List ℕ) → IsListed name (gone_names goes left.circuits) → length name ≤ most
  left_low name h =
      let g = gone goes left.circuits name h in
      let m = made_of layout left a.left_by a.are.left_aligned a.are.left_only g.place g.circuit g.there in
      let low = fit.low m.given.name (in_left (circuit_names layout) _ m.given.name (on_map (λ (c : Circuit). c.name) layout.circuits m.given (listed layout.circuits m.number m.given m.is))) in
      subst (λ (n : List ℕ). length n ≤ most) (sym (g.is ∙ m.name)) low

  right_low : (name : List ℕ) → IsListed name (gone_names goes right.circuits) → length name ≤ most
  right_low name h =
      let g = gone goes right.circuits name h in
      let m = made_of schematic right a.right_by a.are.right_aligned a.are.right_only g.place g.circuit g.there in
      let low = fit.low m.given.name (in_right (circuit_names layout) _ m.given.name (in_left (circuit_names schematic) _ m.given.name (on_map (λ (c : Circuit). c.name) schematic.circuits m.given (listed schematic.circuits m.number m.given m.is)))) in
      subst (λ (n : List ℕ). length n ≤ most) (sym (g.is ∙ m.name)) low

  low_after : AreAtMost most (all_names layout schematic same (with_gone alone left right goes))
  low_after name h =
      let P = length name ≤ most in
      let gl = gone_names goes left.circuits in
      let gr = gone_names goes right.circuits in
      let at_rest = within P alone.lefts alone.rights gl gr name (left_low name) (right_low name) in
      let at_seconds = past P (second_names same) ((alone.lefts ++ gl) ++ (alone.rights ++ gr)) (alone.lefts ++ alone.rights) name at_rest in
      let at_firsts = past P (first_names same) (second_names same ++ ((alone.lefts ++ gl) ++ (alone.rights ++ gr))) (second_names same ++ (alone.lefts ++ alone.rights)) name at_seconds in
      let at_schematic = past P (circuit_names schematic) (first_names same ++ (second_names same ++ ((alone.lefts ++ gl) ++ (alone.rights ++ gr))))
      (first_names same ++ (second_names same ++ (alone.lefts ++ alone.rights))) name at_firsts in
      elim (past P (circuit_names layout) (circuit_names schematic ++ (first_names same ++ (second_names same ++ ((alone.lefts ++ gl) ++ (alone.rights ++ gr)))))
      (circuit_names schematic ++ (first_names same ++ (second_names same ++ (alone.lefts ++ alone.rights)))) name at_schematic h) [
        | inl l ↦ fit.low name l
        | inr p ↦ p
      ]

  pub fit_after : AreFit layout schematic same most (with_gone alone left right goes)
  fit_after = record {
    once = record {
      lefts = both_apart alone.lefts goes left.circuits fit.once.lefts (λ j k c d is js e. made_apart layout left a.left_by a.are.left_aligned a.are.left_only fine j k c d is js e) left_free;
      rights = both_apart alone.rights goes right.circuits fit.once.rights (λ j k c d is js e. made_apart schematic right a.right_by a.are.right_aligned a.are.right_only also j k c d is js e) right_free;
    };
    low = low_after;
  }

  -- a circuit of the layout has a partner no more
  pub fewer_after : (k : ℕ) (c : Circuit) → slice_get goes k ≡ Some true → slice_get left.circuits k ≡ Some c → left_over layout (with_gone alone left right goes) < left_over layout alone
  fewer_after k c set is =
      let gl = gone_names goes left.circuits in
      let m = made_of layout left a.left_by a.are.left_aligned a.are.left_only k c is in
      let before : has_name alone.lefts m.given.name ≡ false = elim (cases_Bool (has_name alone.lefts m.given.name)) [
        | inl e ↦ absurd (left_free k c is (subst (λ (n : List ℕ). has_name alone.lefts n ≡ true) (sym m.name) e))
        | inr e ↦ e
      ] in
      let after : has_name (alone.lefts ++ gl) m.given.name ≡ true = comes alone.lefts gl m.given.name (subst (λ (n : List ℕ). IsListed n gl) m.name (gone_there goes left.circuits k c set is)) in
      one_fewer (λ (x : Circuit). not (has_name alone.lefts x.name)) (λ (x : Circuit). not (has_name (alone.lefts ++ gl) x.name)) layout.circuits
      (λ x e. elim (cases_Bool (has_name alone.lefts x.name)) [
        | inl t ↦ absurd (true≢false (sym (stays alone.lefts gl x.name t) ∙ not-true (has_name (alone.lefts ++ gl) x.name) e))
        | inr f ↦ not_from_false (has_name alone.lefts x.name) f
      ]) m.number m.given m.is (not_from_false (has_name alone.lefts m.given.name) before) (not_from_true (has_name (alone.lefts ++ gl) m.given.name) after)
