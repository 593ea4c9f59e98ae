-- The partners that are found are those of the definition.
use Rattle.std.proofs.Common.{◌≡◌, inl, inr, ◌↔◌, ℕ, ◌<◌, false, List, [], length, get_or, Option, Some, None, slice_get, refl, sym, subst, ◌∙◌, ap, arith, true≢false}
use Rattle.base_laws.proofs.Items.{map_to, map_from}
use Rattle.std.proofs.lemmas.Bool.{cases_Bool}
use Rattle.std.specs.Prelude.{slice_index_or, ◌==◌}
use Rattle.std.proofs.lemmas.Bool.Decides.{Decides-eqb}
use Rattle.std.proofs.lemmas.List.{length-map}
use Rattle.std.proofs.lemmas.Option.{none-some, slice_get_within, slice_get-get_or}
use Rattle.net_names.specs.Folding.{folded_bytes}
use Rattle.plain_netlist.specs.Netlist.{Circuit, Netlist, IsCircuit}
use Rattle.plain_netlist.proofs.Members.{listed, position}
use Rattle.align_laws.specs.Partners.{IsLeftSaid, IsRightSaid, IsPartnerByName, IsUncalled, IsPartnerOfTop, IsPartner}
use Rattle.net_align.specs.declared.names.Naming.{Naming}
use Rattle.net_align.specs.Names.{AreOnce, IsNaming, found_in, names_of, left_names, right_names, by_lines, partner_named, partners_named}
use Rattle.net_align.specs.Marks.{AreCallsOfCircuits, IsUnmarked, circuits_called}
use Rattle.net_align.specs.Found.{ArePartners, IsPlaced, FindsPlaced, settled, other_than, AreSettled}
use Rattle.net_align.proofs.Finding.{finds_names}
use Rattle.net_align.proofs.ByName.{name_at, at_name, by_name}
use Rattle.net_align.proofs.Marking.{called_is, is_called, called_long}

-- what isn't something is nothing
pub no_some : {A : Type 0} (o : Option A) → ((x : A) → o ≡ Some x → ⊥) → o ≡ None
no_some None h = refl
no_some (Some x) h = absurd (h x refl)

pub at_or : {A : Type 0} (xs : List A) (i : ℕ) (x d : A) → slice_get xs i ≡ Some x → slice_index_or xs i d ≡ x
at_or xs i x d e =
    let s : Some (get_or xs i d) ≡ Some x = sym (slice_get-get_or xs i d (slice_get_within xs i x e)) ∙ e in
    let k : get_or xs i d ≡ x = cc in k

abbrev left_text : List ℕ × List ℕ → List ℕ
left_text p = folded_bytes p.0

abbrev right_text : List ℕ × List ℕ → List ℕ
right_text p = folded_bytes p.1

module _ (layout schematic : Netlist) (top : ℕ) (same : List (List ℕ × List ℕ)) (n : Naming) (naming : IsNaming schematic same n)
    (once : AreOnce (names_of schematic)) (left_once : AreOnce (left_names same)) (right_once : AreOnce (right_names same)) (calls : AreCallsOfCircuits schematic) where
  abbrev look : List ℕ → Option ℕ
  look = found_in (names_of schematic)

  abbrev look_left : List ℕ → Option ℕ
  look_left = found_in (left_names same)

  abbrev look_right : List ℕ → Option ℕ
  look_right = found_in (right_names same)

  by_tables : (p : List ℕ) → partner_named n p ≡ by_lines look (right_names same) p (look_left p) (look_right p)
  by_tables p =
      ap (λ (t : List (List ℕ)). by_lines (found_in t) n.right_names.items p (found_in n.lefts p) (found_in n.rights p)) naming.circuits
      ∙ (ap (λ (t : List (List ℕ)). by_lines look t p (found_in n.lefts p) (found_in n.rights p)) naming.names
      ∙ (ap (λ (t : List (List ℕ)). by_lines look (right_names same) p (found_in t p) (found_in n.rights p)) naming.lefts
      ∙ ap (λ (t : List (List ℕ)). by_lines look (right_names same) p (look_left p) (found_in t p)) naming.rights))

  named : (a b : ℕ) (p : List ℕ) → slice_get (names_of layout) a ≡ Some p → (partner_named n p ≡ Some b) ↔ IsPartnerByName layout schematic top same a b
  named a b p has =
      let r = by_name layout schematic top same look look_left look_right (finds_names (names_of schematic) once) (finds_names (left_names same) left_once) (finds_names (right_names same) right_once) a b p has in
      ((λ e. r.0 (sym (by_tables p) ∙ e)), (λ h. by_tables p ∙ r.1 h))

  -- a name of a circuit that is in range
  name_there : (nl : Netlist) (a : ℕ) → a < length nl.circuits → (p : List ℕ) × (slice_get (names_of nl) a ≡ Some p)
  name_there nl a low =
      let none : Circuit = record { name = []; nets = []; pins = []; devices = []; calls = [] } in
      let x = get_or nl.circuits a none in
      (folded_bytes x.name, map_to (λ (c : Circuit). folded_bytes c.name) nl.circuits a x (slice_get-get_or nl.circuits a none low))

  circuit_there : (nl : Netlist) (a : ℕ) → a < length nl.circuits → (x : Circuit) × IsCircuit nl a x
  circuit_there nl a low =
      let none : Circuit = record { name = []; nets = []; pins = []; devices = []; calls = [] } in
      (get_or nl.circuits a none, slice_get-get_or nl.circuits a none low)

  module _ (q : List ℕ) (has : slice_get (names_of layout) top ≡ Some q) where
    left_found : (k : ℕ) → found_in n.lefts q ≡ Some k → IsLeftSaid layout schematic top same top
    left_found k e =
        let r = map_from left_text same k q ((finds_names (left_names same) left_once q k).0 (ap (λ (t : List (List ℕ)). found_in t q) (sym naming.lefts) ∙ e)) in
        (r.0, listed same k r.0 r.1, at_name layout top q r.0.0 has r.2)

    found_left : IsLeftSaid layout schematic top same top → (k : ℕ) × (found_in n.lefts q ≡ Some k)
    found_left s =
        let p = position same s.0 s.1 in
        let t : Some (folded_bytes s.0.0) ≡ Some q = sym (name_at layout top s.0.0 s.2) ∙ has in
        let e : folded_bytes s.0.0 ≡ q = cc in
        (p.0, ap (λ (t : List (List ℕ)). found_in t q) naming.lefts ∙ (finds_names (left_names same) left_once q p.0).1 (map_to left_text same p.0 s.0 p.1 ∙ ap Some e))

    right_found : (b k : ℕ) → b < length schematic.circuits → found_in n.rights (slice_index_or (names_of schematic) b []) ≡ Some k → IsRightSaid layout schematic top same b
    right_found b k low e =
        let p = name_there schematic b low in
        let i : slice_index_or (names_of schematic) b [] ≡ p.0 = at_or (names_of schematic) b p.0 [] p.1 in
        let f : look_right p.0 ≡ Some k = ap look_right (sym i) ∙ (ap (λ (t : List (List ℕ)). found_in t (slice_index_or (names_of schematic) b [])) (sym naming.rights) ∙ e) in
        let r = map_from right_text same k p.0 ((finds_names (right_names same) right_once p.0 k).0 f) in
        (r.0, listed same k r.0 r.1, at_name schematic b p.0 r.0.1 p.1 r.2)

    found_right : (b : ℕ) → IsRightSaid layout schematic top same b → (k : ℕ) × (found_in n.rights (slice_index_or (names_of schematic) b []) ≡ Some k)
    found_right b s =
        let p = position same s.0 s.1 in
        let i : slice_index_or (names_of schematic) b [] ≡ folded_bytes s.0.1 = at_or (names_of schematic) b (folded_bytes s.0.1) [] (name_at schematic b s.0.1 s.2) in (
          p.0,
          ap (λ (t : List (List ℕ)). found_in t (slice_index_or (names_of schematic) b [])) naming.rights
              ∙ (ap look_right i ∙ (finds_names (right_names same) right_once (folded_bytes s.0.1) p.0).1 (map_to right_text same p.0 s.0 p.1)),
        )

    uncalled : (b : ℕ) → IsUnmarked (circuits_called schematic) b → IsUncalled layout schematic top same b
    uncalled b u = record {
      there = circuit_there schematic b (let l = u.low in let k = called_long schematic in omega (arith, l, k));
      uncalled = λ c k row h e. true≢false (sym (called_is schematic c k b row calls h e) ∙ u.unset);
    }

    unmarked : (b : ℕ) → IsUncalled layout schematic top same b → IsUnmarked (circuits_called schematic) b
    unmarked b u = record {
      low = let l = slice_get_within schematic.circuits b u.there.0 u.there.1 in let k = called_long schematic in omega (arith, l, k);
      unset = elim (cases_Bool (slice_index_or (circuits_called schematic) b false)) [
        | inl t ↦ let r = is_called schematic b t in absurd (u.uncalled r.0 r.1 r.2 r.3 r.4)
        | inr f ↦ f
      ];
    }

    pub of_top : (b : ℕ) → IsPlaced n q schematic b → IsPartnerOfTop layout schematic top same b
    of_top b h = record {
      unnamed = λ c w. none-some c (sym h.unnamed ∙ (named top c q has).1 w);
      unsaid = λ s. let f = found_left s in none-some f.0 (sym h.unsaid ∙ f.1);
      uncalled = uncalled b h.sole.here;
      one = λ c u. h.sole.one c (unmarked c u);
      right_unsaid = λ s. let f = found_right b s in none-some f.0 (sym h.right_unsaid ∙ f.1);
    }

    pub top_of : (b : ℕ) → IsPartnerOfTop layout schematic top same b → IsPlaced n q schematic b
    top_of b h = record {
      unnamed = no_some (partner_named n q) (λ c e. h.unnamed c ((named top c q has).0 e));
      unsaid = no_some (found_in n.lefts q) (λ k e. h.unsaid (left_found k e));
      sole = record { here = unmarked b h.uncalled; one = λ c u. h.one c (uncalled c u) };
      right_unsaid = no_some (found_in n.rights (slice_index_or (names_of schematic) b [])) (λ k e. h.right_unsaid (right_found b k (slice_get_within schematic.circuits b h.uncalled.there.0 h.uncalled.there.1) e));
    }

    abbrev Partner : ℕ → ℕ → Type 0
    Partner a b = IsPartner layout schematic top same a b

    others : (t : ℕ) (o : Option ℕ) (b : ℕ) → other_than t o ≡ Some b → (o ≡ Some b) × (b ≡ t → ⊥)
    others t None b e = absurd (none-some b e)
    others t (Some d) b e = elim (cases_Bool (d == t)) [
      | inl s ↦ let z : other_than t (Some d) ≡ None = rw s refl in absurd (none-some b (sym z ∙ e))
      | inr s ↦
          let z : other_than t (Some d) ≡ Some d = rw s refl in
          let w : Some d ≡ Some b = sym z ∙ e in
          let k : d ≡ b = cc in
          (w, λ same. true≢false (sym ((Decides-eqb d t).1 (k ∙ same)) ∙ s))
    ]

    stays : (t b : ℕ) → (b ≡ t → ⊥) → other_than t (Some b) ≡ Some b
    stays t b not = elim (cases_Bool (b == t)) [
      | inl s ↦ absurd (not ((Decides-eqb b t).0 s))
      | inr s ↦ rw s refl
    ]

    module _ (a b : ℕ) (p : List ℕ) (at : slice_get (names_of layout) a ≡ Some p) where
      settled_is : (place : Option ℕ) → FindsPlaced n q schematic place → (settled top place a (partner_named n p) ≡ Some b) ↔ Partner a b
      settled_is None none = (
        (λ e. inr ((named a b p at).0 e, λ t. none b (top_of b t))),
        (λ h. elim h [ inl w ↦ absurd (none b (top_of b w.1)) | inr w ↦ (named a b p at).1 w.0 ]),
      )
      settled_is (Some t) placed = elim (cases_Bool (a == top)) [
        | inl y ↦
            let is : a ≡ top = (Decides-eqb a top).0 y in
            let z : settled top (Some t) a (partner_named n p) ≡ Some t = rw y refl in (
              (λ e.
                  let w : Some t ≡ Some b = sym z ∙ e in
                  let k : t ≡ b = cc in
                  inl (is, subst (λ (x : ℕ). IsPartnerOfTop layout schematic top same x) k (of_top t placed))),
              (λ h. elim h [
                | inl w ↦ z ∙ ap Some (sym ((of_top t placed).one b w.1.uncalled))
                | inr w ↦ absurd ((of_top t placed).unnamed b (subst (λ (x : ℕ). IsPartnerByName layout schematic top same x b) is w.0))
              ]),
            )
        | inr y ↦
            let isnt : a ≡ top → ⊥ = λ e. true≢false (sym ((Decides-eqb a top).1 e) ∙ y) in
            let z : settled top (Some t) a (partner_named n p) ≡ other_than t (partner_named n p) = rw y refl in (
              (λ e.
                  let w = others t (partner_named n p) b (sym z ∙ e) in
                  inr ((named a b p at).0 w.0, λ u. w.1 ((of_top t placed).one b u.uncalled))),
              (λ h. elim h [
                | inl w ↦ absurd (isnt w.0)
                | inr w ↦ z ∙ (ap (other_than t) ((named a b p at).1 w.0) ∙ stays t b (λ e. w.1 (subst (λ (x : ℕ). IsPartnerOfTop layout schematic top same x) (sym e) (of_top t placed))))
              ]),
            )
      ]

    named_low : (a b : ℕ) → IsPartnerByName layout schematic top same a b → a < length layout.circuits
    named_low a b (inl w) = slice_get_within layout.circuits a w.2.0 w.2.1
    named_low a b (inr w) = slice_get_within layout.circuits a w.2.1.0 w.2.1.1

    partner_low : (a b : ℕ) → top < length layout.circuits → Partner a b → a < length layout.circuits
    partner_low a b low (inl w) = subst (λ (x : ℕ). x < length layout.circuits) (sym w.0) low
    partner_low a b low (inr w) = named_low a b w.0

    pub partners_found : (place : Option ℕ) (of new : List (Option ℕ)) → top < length layout.circuits → of ≡ partners_named n layout → FindsPlaced n q schematic place
        → AreSettled of top place (length of) new → ArePartners layout schematic top same new
    partners_found place of new low is placed h =
        let named_long : length (partners_named n layout) ≡ length layout.circuits = length-map (names_of layout) (partner_named n) ∙ length-map layout.circuits (λ (c : Circuit). folded_bytes c.name) in
        let of_long : length of ≡ length layout.circuits = ap (λ (t : List (Option ℕ)). length t) is ∙ named_long in
        let long : length new ≡ length layout.circuits = h.long ∙ of_long in
        let at : (a : ℕ) (p : List ℕ) → slice_get (names_of layout) a ≡ Some p → slice_index_or of a None ≡ partner_named n p
        = λ a p e. at_or of a (partner_named n p) None (ap (λ (t : List (Option ℕ)). slice_get t a) is ∙ map_to (partner_named n) (names_of layout) a p e) in
        let value : (a : ℕ) (p : List ℕ) → slice_get (names_of layout) a ≡ Some p → a < length layout.circuits → slice_index_or new a None ≡ settled top place a (partner_named n p)
        = λ a p e l. h.each a (omega (arith, l, of_long)) ∙ ap (settled top place a) (at a p e) in
        record {
          long = long;
          each = λ a b. (
            (λ e.
                let l : a < length layout.circuits = let k = slice_get_within new a (Some b) e in omega (arith, k, long) in
                let p = name_there layout a l in
                (settled_is a b p.0 p.1 place placed).0 (sym (value a p.0 p.1 l) ∙ at_or new a (Some b) None e)),
            (λ w.
                let l = partner_low a b low w in
                let p = name_there layout a l in
                let k : a < length new = omega (arith, l, long) in
                slice_get-get_or new a None k ∙ ap Some (value a p.0 p.1 l ∙ (settled_is a b p.0 p.1 place placed).1 w)),
          );
        }
