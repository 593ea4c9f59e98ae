-- The partner by name that the tables give is the one of the definition.
use Rattle.std.proofs.Common.{◌≡◌, ◌↔◌, inl, inr, ℕ, List, Option, Some, None, slice_get, refl, sym, ◌∙◌, ap}
use Rattle.base_laws.proofs.Items.{map_to, map_from}
use Rattle.std.proofs.lemmas.Option.{none-some}
use Rattle.net_names.specs.Folding.{folded_bytes}
use Rattle.plain_netlist.specs.Lists.{IsListed}
use Rattle.plain_netlist.specs.Netlist.{Circuit, Netlist}
use Rattle.plain_netlist.proofs.Members.{listed, position}
use Rattle.align_laws.specs.Partners.{HasName, IsLeftSaid, IsRightSaid, AreSaidSame, AreNamesakes, IsPartnerByName}
use Rattle.net_align.specs.Names.{FindsNames, names_of, left_names, right_names, look_other, by_lines}

abbrev folded_name : Circuit → List ℕ
folded_name c = folded_bytes c.name

-- a circuit's place among the names
pub name_at : (nl : Netlist) (a : ℕ) (name : List ℕ) → HasName nl a name → slice_get (names_of nl) a ≡ Some (folded_bytes name)
name_at nl a name h = map_to folded_name nl.circuits a h.0 h.1 ∙ ap Some h.2

pub at_name : (nl : Netlist) (a : ℕ) (q name : List ℕ) → slice_get (names_of nl) a ≡ Some q → folded_bytes name ≡ q → HasName nl a name
at_name nl a q name e same = let r = map_from folded_name nl.circuits a q e in (r.0, r.1, r.2 ∙ sym same)

abbrev left_text : List ℕ × List ℕ → List ℕ
left_text p = folded_bytes p.0

abbrev right_text : List ℕ × List ℕ → List ℕ
right_text p = folded_bytes p.1

module _ (layout schematic : Netlist) (top : ℕ) (same : List (List ℕ × List ℕ)) (circuits lefts rights : List ℕ → Option ℕ)
    (finds : FindsNames (names_of schematic) circuits) (left_finds : FindsNames (left_names same) lefts) (right_finds : FindsNames (right_names same) rights)
    (a b : ℕ) (q : List ℕ) (has : slice_get (names_of layout) a ≡ Some q) where
  one_text : (name : List ℕ) → HasName layout a name → folded_bytes name ≡ q
  one_text name h = let s : Some (folded_bytes name) ≡ Some q = sym (name_at layout a name h) ∙ has in cc

  -- the place of a line that names a
  pub line_place : (line : List ℕ × List ℕ) → IsListed line same → HasName layout a line.0 → (k : ℕ) × (slice_get same k ≡ Some line) × (lefts q ≡ Some k)
  line_place line h name =
      let p = position same line h in
      (p.0, p.1, (left_finds q p.0).1 (map_to left_text same p.0 line p.1 ∙ ap Some (one_text line.0 name)))

  pub said : (k : ℕ) → lefts q ≡ Some k → IsLeftSaid layout schematic top same a
  said k e =
      let r = map_from left_text same k q ((left_finds q k).0 e) in
      (r.0, listed same k r.0 r.1, at_name layout a q r.0.0 has r.2)

  found : (name : List ℕ) → HasName schematic b name → circuits (folded_bytes name) ≡ Some b
  found name h = (finds (folded_bytes name) b).1 (name_at schematic b name h)

  right_said : (k : ℕ) (name : List ℕ) → HasName schematic b name → rights (folded_bytes name) ≡ Some k → IsRightSaid layout schematic top same b
  right_said k name h e =
      let r = map_from right_text same k (folded_bytes name) ((right_finds (folded_bytes name) k).0 e) in
      (r.0, listed same k r.0 r.1, at_name schematic b (folded_bytes name) r.0.1 (name_at schematic b name h) r.2)

  by_line : (line : ℕ) (o : Option (List ℕ)) → lefts q ≡ Some line → slice_get (right_names same) line ≡ o → look_other circuits o ≡ Some b → IsPartnerByName layout schematic top same a b
  by_line line None l r e = absurd (none-some b e)
  by_line line (Some other) l r e =
      let p = map_from left_text same line q ((left_finds q line).0 l) in
      let t : Some (right_text p.0) ≡ Some other = sym (map_to right_text same line p.0 p.1) ∙ r in
      let k : right_text p.0 ≡ other = cc in
      inl (p.0, listed same line p.0 p.1, at_name layout a q p.0.0 has p.2, at_name schematic b other p.0.1 ((finds other b).0 e) k)

  by_own_line : (line : ℕ) → lefts q ≡ Some line → AreSaidSame layout schematic top same a b → look_other circuits (slice_get (right_names same) line) ≡ Some b
  by_own_line line l w =
      let p = line_place w.0 w.1 w.2 in
      let ks : Some p.0 ≡ Some line = sym p.2 ∙ l in
      let k : p.0 ≡ line = cc in
      let at : slice_get (right_names same) line ≡ Some (right_text w.0) = ap (λ (i : ℕ). slice_get (right_names same) i) (sym k) ∙ map_to right_text same p.0 w.0 p.1 in
      ap (look_other circuits) at ∙ found w.0.1 w.3

  no_line : lefts q ≡ None → AreSaidSame layout schematic top same a b → ⊥
  no_line l w = let p = line_place w.0 w.1 w.2 in none-some p.0 (sym l ∙ p.2)

  namesakes : AreNamesakes layout schematic top same a b → circuits q ≡ Some b
  namesakes w = ap circuits (sym (one_text w.0 w.1)) ∙ found w.0 w.2

  by_name_alone : lefts q ≡ None → rights q ≡ None → circuits q ≡ Some b → IsPartnerByName layout schematic top same a b
  by_name_alone l r e =
      let p = map_from folded_name layout.circuits a q has in
      inr (
        (λ s. let k = line_place s.0 s.1 s.2 in none-some k.0 (sym l ∙ k.2)),
        (λ s.
            let k = position same s.0 s.1 in
            let t : Some (folded_bytes s.0.1) ≡ Some q = sym (name_at schematic b s.0.1 s.2) ∙ (finds q b).0 e in
            let u : folded_bytes s.0.1 ≡ q = cc in
            none-some k.0 (sym r ∙ (right_finds q k.0).1 (map_to right_text same k.0 s.0 k.1 ∙ ap Some u))),
        (p.0.name, at_name layout a q p.0.name has p.2, at_name schematic b q p.0.name ((finds q b).0 e) p.2),
      )

  cases : (x y : Option ℕ) → lefts q ≡ x → rights q ≡ y → (by_lines circuits (right_names same) q x y ≡ Some b) ↔ IsPartnerByName layout schematic top same a b
  cases (Some line) y l r = (
    (λ e. by_line line (slice_get (right_names same) line) l refl e),
    (λ h. elim h [ inl w ↦ by_own_line line l w | inr w ↦ absurd (w.0 (said line l)) ]),
  )
  cases None (Some line) l r = (
    (λ e. absurd (none-some b e)),
    (λ h. elim h [
      | inl w ↦ absurd (no_line l w)
      | inr w ↦ absurd (w.1 (right_said line w.2.0 w.2.2 (ap rights (one_text w.2.0 w.2.1) ∙ r)))
    ]),
  )
  cases None None l r = (
    (λ e. by_name_alone l r e),
    (λ h. elim h [ inl w ↦ absurd (no_line l w) | inr w ↦ namesakes w.2 ]),
  )

  pub by_name : (by_lines circuits (right_names same) q (lefts q) (rights q) ≡ Some b) ↔ IsPartnerByName layout schematic top same a b
  by_name = cases (lefts q) (rights q) refl refl
