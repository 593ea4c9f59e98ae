-- The code's tables of an aligned netlist are what its alignment says.
use Rattle.std.proofs.Common.{◌≡◌, inl, inr, ℕ, zero, suc, ◌+◌, ◌≤◌, ◌&&◌, ◌==◌, not, Bool, true, false, cond, List, [], ◌∷◌, length, Option, Some, None, slice_get, refl, sym, ◌∙◌, ap, ap₂, subst, arith}
use Rattle.base_laws.proofs.Items.{item_at, map_to}
use Rattle.base_laws.proofs.Tests.{same_truth}
use Rattle.std.proofs.lemmas.Bool.{cases_Bool, and_parts, not-true, cases_lt}
use Rattle.std.specs.Prelude.{slice_index_or, is_some, replicate}
use Rattle.std.specs.List.{list_any, range_with_len}
use Rattle.std.proofs.lemmas.List.{length-map}
use Rattle.std.proofs.lemmas.List.FromFn.{get_or-range_with_len}
use Rattle.std.proofs.lemmas.Option.{same_Some, slice_get_within}
use Rattle.plain_netlist.specs.Netlist.{DeviceRow, Circuit, Netlist, IsCircuit, HasDevice}
use Rattle.plain_netlist.specs.Sound.{IsGood}
use Rattle.plain_netlist.proofs.Members.{listed, position}
use Rattle.text_table.specs.Texts.{place_of}
use Rattle.align_laws.specs.Aligned.{IsAligned, HasOnlyKept}
use Rattle.align_laws.specs.Cut.{Alignment, cut}
use Rattle.align_laws.specs.Lists.{FlatCircuit, plain, given_of}
use Rattle.align_laws.proofs.CutList.{given_is, cut_is}
use Rattle.align_laws.proofs.FlatGood.{flat_is_good}
use Rattle.part_origins.specs.Kept.{texts_from, places_in, numbered, is_kept, holding, going}
use Rattle.part_origins.specs.Origins.{AreNamedApart}
use Rattle.part_origins.proofs.Numbered.{among, has_listed, past_end, long_set, long_none, set_in_none, place_is, holding_tells, holding_long, going_at}
use Rattle.part_origins.proofs.Spots.{there}

module _ (g o : Netlist) (w : Alignment) (a : IsAligned g o w) (only : HasOnlyKept o w) (good : IsGood g (λ k. k)) (apart : AreNamedApart g) where
  abbrev pub flat : Netlist
  flat = a.by.flat

  abbrev pub flats : ℕ → FlatCircuit
  flats = a.by.flats

  pub flat_good : IsGood flat (λ k. k)
  flat_good = flat_is_good g flat a.goes flats (λ k. k) good a.by.flattened

  abbrev pub kept_list : List ℕ
  kept_list = places_in (texts_from [] g.circuits) o.circuits

  abbrev pub numbers : List (Option ℕ)
  numbers = numbered kept_list (length g.circuits)

  abbrev pub goes_list : List Bool
  goes_list = going numbers 0 (holding [] g.circuits)

  pub given : (c : ℕ) → w.kept c ≡ true → IsCircuit g c (given_of g c)
  given c kept = let x = a.by.cut_down.given c kept in let y = a.by.flattened.back c x.0 x.1 in there g c y.0 y.1

  pub given_flat : (c : ℕ) → IsCircuit g c (given_of g c) → IsCircuit flat c (plain (flats c))
  given_flat c is = a.by.flattened.there c (given_of g c) is

  pub plain_is : (c : ℕ) → IsCircuit g c (given_of g c) → given_of flat c ≡ plain (flats c)
  plain_is c is = given_is flat c (plain (flats c)) (given_flat c is)

  name_is : (c : ℕ) (x : Circuit) → w.kept c ≡ true → IsCircuit o (w.number c) x → x.name ≡ (given_of g c).name
  name_is c x kept is =
      let i = given c kept in
      ap (λ (y : Circuit). y.name) (cut_is flat o w a.by.cut_down c x kept is)
      ∙ (ap (λ (y : Circuit). y.name) (plain_is c i)
      ∙ ap (λ (z : FlatCircuit). z.name) (a.by.flattened.each c (given_of g c) i))

  pub record Entry (j : ℕ) : Type 0 where
    pub circuit : ℕ
    pub kept : w.kept circuit ≡ true
    pub number : w.number circuit ≡ j
    pub at : slice_get kept_list j ≡ Some circuit

  pub entry : (j : ℕ) (x : Circuit) → IsCircuit o j x → Entry j
  entry j x is =
      let f = only.from j x is in
      let i = given f.0 f.1 in
      let name : x.name ≡ (given_of g f.0).name = name_is f.0 x f.1 (subst (λ (n : ℕ). IsCircuit o n x) (sym f.2) is) in
      let place : place_of (texts_from [] g.circuits) x.name ≡ f.0 = ap (place_of (texts_from [] g.circuits)) name ∙ place_is g f.0 (given_of g f.0) apart i in
      record {
        circuit = f.0;
        kept = f.1;
        number = f.2;
        at = map_to (λ (y : Circuit). place_of (texts_from [] g.circuits) y.name) o.circuits j x is ∙ ap Some place;
      }

  pub kept_at : (c : ℕ) → w.kept c ≡ true → slice_get kept_list (w.number c) ≡ Some c
  kept_at c kept =
      let e = entry (w.number c) (cut flat w c) (a.by.cut_down.there c kept) in
      e.at ∙ ap Some (only.apart e.circuit c e.kept kept e.number)

  entry_at : (j m : ℕ) → slice_get kept_list j ≡ Some m → (w.kept m ≡ true) × (w.number m ≡ j)
  entry_at j m at =
      let low = slice_get_within kept_list j m at in
      let long = length-map o.circuits (λ (y : Circuit). place_of (texts_from [] g.circuits) y.name) in
      let x = item_at o.circuits j (omega arith) in
      let e = entry j x.0 x.1 in
      let same : e.circuit ≡ m = same_Some _ _ (sym e.at ∙ at) in
      (subst (λ (n : ℕ). w.kept n ≡ true) same e.kept, subst (λ (n : ℕ). w.number n ≡ j) same e.number)

  has_kept : (c : ℕ) → list_any (λ (x : ℕ). c == x) kept_list ≡ w.kept c
  has_kept c = same_truth (list_any (λ (x : ℕ). c == x) kept_list) (w.kept c)
      (λ h. let p = position kept_list c (among c kept_list h) in (entry_at p.0 c p.1).0)
      (λ h. has_listed c kept_list (listed kept_list (w.number c) c (kept_at c h)))

  pub numbers_at : (c : ℕ) → slice_index_or numbers c None ≡ cond (w.kept c) (Some (w.number c)) None
  numbers_at c = elim (cases_lt c (length g.circuits)) [
    | inl low ↦
        set_in_none kept_list (range_with_len 0 (length kept_list)) (length g.circuits) c w.number low (λ j m e.
        let lower = slice_get_within kept_list j m e in
        get_or-range_with_len 0 (length kept_list) j 0 lower ∙ (let z : 0 + j ≡ j = omega arith in z ∙ sym (entry_at j m e).1))
        ∙ ap (λ (b : Bool). cond b (Some (w.number c)) None) (has_kept c)
    | inr high ↦
        let long = long_set kept_list (range_with_len 0 (length kept_list)) (replicate (length g.circuits) None) 0 in
        let none = long_none (length g.circuits) in
        let unkept : w.kept c ≡ false = elim (cases_Bool (w.kept c)) [
          | inl t ↦ absurd (let low = slice_get_within g.circuits c (given_of g c) (given c t) in omega arith)
          | inr e ↦ e
        ] in
        past_end numbers c (omega arith) ∙ ap (λ (b : Bool). cond b (Some (w.number c)) None) (sym unkept)
  ]

  pub kept_is : (c : ℕ) → is_kept numbers c ≡ w.kept c
  kept_is c = ap (λ (n : Option ℕ). is_some n) (numbers_at c) ∙ both (w.kept c)
    where
      both : (b : Bool) → is_some (cond b (Some (w.number c)) None) ≡ b
      both true = refl
      both false = refl

  has_circuit : (c : ℕ) (path : List ℕ) (j : ℕ) (row : DeviceRow) → HasDevice g c path j row → (x : Circuit) × IsCircuit g c x
  has_circuit c [] j row h = (h.0, h.1)
  has_circuit c (k ∷ ks) j row h = (h.1.0, h.1.1)

  pub goes_is : (c : ℕ) → slice_index_or goes_list c false ≡ a.goes c
  goes_is c =
      let marks = holding [] g.circuits in
      let at : slice_index_or goes_list c false ≡ (not (w.kept c) && slice_index_or marks c false)
      = going_at numbers marks 0 c ∙ ap (λ (b : Bool). not b && slice_index_or marks c false) (ap (is_kept numbers) (let e : 0 + c ≡ c = omega arith in e) ∙ kept_is c) in
      at ∙ same_truth (not (w.kept c) && slice_index_or marks c false) (a.goes c)
      (λ h.
      let b = and_parts (not (w.kept c)) (slice_index_or marks c false) h in
      elim (cases_lt c (length g.circuits)) [
        | inl low ↦ (a.going c).1 (not-true (w.kept c) b.0, (holding_tells g good c low).0 b.1)
        | inr high ↦ absurd (past_marks marks c (let l = long in omega arith) b.1)
      ])
      (λ h.
      let b = (a.going c).0 h in
      let d = b.1 in
      let x = has_circuit c d.0 d.1 d.2 d.3 in
      let low = slice_get_within g.circuits c x.0 x.1 in
      let t = (holding_tells g good c low).1 d in
      ap₂ (λ (p q : Bool). not p && q) b.0 t)
    where
      long : length (holding [] g.circuits) ≡ length g.circuits
      long = holding_long g good

      past_marks : (marks : List Bool) (n : ℕ) → length marks ≤ n → slice_index_or marks n false ≡ true → ⊥
      past_marks [] n low h = cc
      past_marks (m ∷ ms) zero low h = omega arith
      past_marks (m ∷ ms) (suc n) low h = past_marks ms n (omega arith) h
