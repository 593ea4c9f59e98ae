-- The lines by which circuits have no partner.
use Rattle.std.proofs.Common.{◌≡◌, inl, inr, ℕ, ◌+◌, ◌<◌, ◌≤◌, List, [], ◌∷◌, ◌++◌, length, map, true, false, sym, ap, subst, ◌∙◌, arith, true≢false}
use Rattle.std.proofs.lemmas.Bool.{and_parts, not-true}
use Rattle.std.specs.Prelude.{not, replicate}
use Rattle.std.specs.List.{filter}
use Rattle.std.proofs.lemmas.List.{length-append, length-map, length-replicate, map-append}
use Rattle.std.proofs.lemmas.Simd.{map-map}
use Rattle.net_names.specs.Folding.{folded_byte, folded_bytes}
use Rattle.plain_netlist.specs.Lists.{AreApart, IsListed}
use Rattle.plain_netlist.specs.Netlist.{Circuit, Netlist}
use Rattle.plain_netlist.proofs.Members.{either_side, in_left, in_right, listed}
use Rattle.align_laws.specs.Partners.{HasName, IsPartner}
use Rattle.align_laws.proofs.Sides.{said}
use Rattle.pair_turns.specs.Alone.{Names, all_names, circuit_names, first_names, greater, has_name, is_untouched, longest, same_alone, second_names, stranger}
use Rattle.pair_turns.specs.Laws.{AloneLaw, AreAtMost, AreNamesOnce, LinesApartLaw, LongestLaw}
use Rattle.pair_turns.proofs.Lists.{apart_join, apart_through, cancel, found, listed_found, of_map, on_map, picked, picked_apart}

-- the longest

first_greater : (a b : ℕ) → a ≤ greater a b
first_greater a b = grind arith

second_greater : (a b : ℕ) → b ≤ greater a b
second_greater a b = grind arith

pub longest_law : LongestLaw
longest_law [] name h = absurd h
longest_law (n ∷ ns) name (inl e) =
    let here = first_greater (length n) (longest ns) in
    let same = ap (λ (x : List ℕ). length x) e in omega (arith, here, same)
longest_law (n ∷ ns) name (inr h) =
    let below = longest_law ns name h in
    let there = second_greater (length n) (longest ns) in omega (arith, below, there)

-- strangers

long : (name : List ℕ) → length (folded_bytes name) ≡ length name
long name = length-map name folded_byte

stranger_long : (most : ℕ) (name : List ℕ) → most < length (folded_bytes (stranger most name))
stranger_long most name =
    let whole = long (stranger most name) in
    let parts = length-append (replicate (most + 1) 0x2D) name in
    let front = length-replicate {A = ℕ} (most + 1) 0x2D in omega (arith, whole, parts, front)

-- a name that isn't longer than so much is no stranger's
pub no_stranger : (most : ℕ) (a name : List ℕ) → length a ≤ most → folded_bytes a ≡ folded_bytes (stranger most name) → ⊥
no_stranger most a name low e =
    let same = ap (λ (x : List ℕ). length x) e in
    let here = long a in
    let there = stranger_long most name in omega (arith, low, same, here, there)

stranger_one : (most : ℕ) (a b : List ℕ) → folded_bytes (stranger most a) ≡ folded_bytes (stranger most b) → folded_bytes a ≡ folded_bytes b
stranger_one most a b e =
    let pad = replicate (most + 1) 0x2D in
    cancel (folded_bytes pad) (folded_bytes a) (folded_bytes b) (sym (map-append folded_byte pad a) ∙ e ∙ map-append folded_byte pad b)

-- where names stand among all names
module _ (layout schematic : Netlist) (same : List (List ℕ × List ℕ)) (alone : Names) where
  of_layout : (name : List ℕ) → IsListed name (circuit_names layout) → IsListed name (all_names layout schematic same alone)
  of_layout name h = in_left (circuit_names layout) _ name h

  of_schematic : (name : List ℕ) → IsListed name (circuit_names schematic) → IsListed name (all_names layout schematic same alone)
  of_schematic name h = in_right (circuit_names layout) _ name (in_left (circuit_names schematic) _ name h)

  of_first : (name : List ℕ) → IsListed name (first_names same) → IsListed name (all_names layout schematic same alone)
  of_first name h = in_right (circuit_names layout) _ name (in_right (circuit_names schematic) _ name (in_left (first_names same) _ name h))

  of_second : (name : List ℕ) → IsListed name (second_names same) → IsListed name (all_names layout schematic same alone)
  of_second name h = in_right (circuit_names layout) _ name (in_right (circuit_names schematic) _ name (in_right (first_names same) _ name (in_left (second_names same) _ name h)))

  of_lefts : (name : List ℕ) → IsListed name alone.lefts → IsListed name (all_names layout schematic same alone)
  of_lefts name h =
      in_right (circuit_names layout) _ name (in_right (circuit_names schematic) _ name (in_right (first_names same) _ name (in_right (second_names same) _ name (in_left alone.lefts _ name h))))

  of_rights : (name : List ℕ) → IsListed name alone.rights → IsListed name (all_names layout schematic same alone)
  of_rights name h =
      in_right (circuit_names layout) _ name (in_right (circuit_names schematic) _ name (in_right (first_names same) _ name (in_right (second_names same) _ name (in_right alone.lefts _ name h))))

-- three parts of lines, each without a name twice
parts_apart : (g : List ℕ × List ℕ → List ℕ) (xs ys zs : List (List ℕ × List ℕ)) → AreApart (map g xs) → AreApart (map g ys) → AreApart (map g zs)
    → ((a b : List ℕ × List ℕ) → IsListed a xs → IsListed b ys → g a ≡ g b → ⊥)
    → ((a b : List ℕ × List ℕ) → IsListed a xs → IsListed b zs → g a ≡ g b → ⊥)
    → ((a b : List ℕ × List ℕ) → IsListed a ys → IsListed b zs → g a ≡ g b → ⊥)
    → AreApart (map g (xs ++ (ys ++ zs)))
parts_apart g xs ys zs h k l one two three =
    let behind : AreApart (map g (ys ++ zs)) = subst AreApart (sym (map-append g ys zs)) (apart_join (map g ys) (map g zs) k l (λ q a b.
    let r = of_map g ys q a in let s = of_map g zs q b in three r.item s.item r.there s.there (sym r.is ∙ s.is))) in
    subst AreApart (sym (map-append g xs (ys ++ zs))) (apart_join (map g xs) (map g (ys ++ zs)) h behind (λ q a b.
    let r = of_map g xs q a in
    let s = of_map g (ys ++ zs) q b in
    elim (either_side ys zs s.item s.there) [
      | inl y ↦ one r.item s.item r.there y (sym r.is ∙ s.is)
      | inr z ↦ two r.item s.item r.there z (sym r.is ∙ s.is)
    ]))

module _ (most : ℕ) (alone : Names) (layout schematic : Netlist) (same : List (List ℕ × List ℕ)) (low : AreAtMost most (all_names layout schematic same alone)) where
  abbrev left_line : List ℕ → List ℕ × List ℕ
  left_line name = (name, stranger most name)

  abbrev right_line : List ℕ → List ℕ × List ℕ
  right_line name = (stranger most name, name)

  abbrev untouched : List (List ℕ × List ℕ)
  untouched = filter (is_untouched alone) same

  abbrev left_name : List ℕ × List ℕ → List ℕ
  left_name line = folded_bytes line.0

  abbrev right_name : List ℕ × List ℕ → List ℕ
  right_name line = folded_bytes line.1

  -- a line that is left names none of the circuits
  left_free : (line : List ℕ × List ℕ) → IsListed line untouched → (name : List ℕ) → IsListed name alone.lefts → left_name line ≡ folded_bytes name → ⊥
  left_free line h name l e =
      let p = picked (is_untouched alone) same line h in
      let free = not-true (has_name alone.lefts line.0) (and_parts (not (has_name alone.lefts line.0)) _ p.1).0 in
      let there = found (folded_bytes line.0) (map folded_bytes alone.lefts) (subst (λ (q : List ℕ). IsListed q (map folded_bytes alone.lefts)) (sym e) (on_map folded_bytes alone.lefts name l)) in
      true≢false (sym there ∙ free)

  right_free : (line : List ℕ × List ℕ) → IsListed line untouched → (name : List ℕ) → IsListed name alone.rights → right_name line ≡ folded_bytes name → ⊥
  right_free line h name l e =
      let p = picked (is_untouched alone) same line h in
      let free = not-true (has_name alone.rights line.1) (and_parts (not (has_name alone.lefts line.0)) _ p.1).1 in
      let there = found (folded_bytes line.1) (map folded_bytes alone.rights) (subst (λ (q : List ℕ). IsListed q (map folded_bytes alone.rights)) (sym e) (on_map folded_bytes alone.rights name l)) in
      true≢false (sym there ∙ free)

  first_low : (line : List ℕ × List ℕ) → IsListed line untouched → length line.0 ≤ most
  first_low line h = low line.0 (of_first layout schematic same alone line.0 (on_map (λ (l : List ℕ × List ℕ). l.0) same line (picked (is_untouched alone) same line h).0))

  second_low : (line : List ℕ × List ℕ) → IsListed line untouched → length line.1 ≤ most
  second_low line h = low line.1 (of_second layout schematic same alone line.1 (on_map (λ (l : List ℕ × List ℕ). l.1) same line (picked (is_untouched alone) same line h).0))

  lefts_apart : AreNamesOnce alone → AreApart (map folded_bytes (first_names same)) → AreApart (map folded_bytes (first_names (same_alone most alone same)))
  lefts_apart once apart =
      subst AreApart (sym (map-map folded_bytes (λ (l : List ℕ × List ℕ). l.0) (same_alone most alone same)))
      (parts_apart left_name untouched (map left_line alone.lefts) (map right_line alone.rights)
      (picked_apart (is_untouched alone) left_name same (subst AreApart (map-map folded_bytes (λ (l : List ℕ × List ℕ). l.0) same) apart))
      (subst AreApart (sym (map-map left_name left_line alone.lefts)) once.lefts)
      (subst AreApart (sym (map-map left_name right_line alone.rights)) (apart_through folded_bytes (λ (name : List ℕ). left_name (right_line name)) (λ a b e. stranger_one most a b e) alone.rights once.rights))
      (λ a b h k e. let r = of_map left_line alone.lefts b k in left_free a h r.item r.there (e ∙ ap left_name r.is))
      (λ a b h k e. let r = of_map right_line alone.rights b k in no_stranger most a.0 r.item (first_low a h) (e ∙ ap left_name r.is))
      (λ a b h k e.
      let r = of_map left_line alone.lefts a h in
      let s = of_map right_line alone.rights b k in
      no_stranger most r.item s.item (low r.item (of_lefts layout schematic same alone r.item r.there)) (sym (ap left_name r.is) ∙ e ∙ ap left_name s.is)))

  rights_apart : AreNamesOnce alone → AreApart (map folded_bytes (second_names same)) → AreApart (map folded_bytes (second_names (same_alone most alone same)))
  rights_apart once apart =
      subst AreApart (sym (map-map folded_bytes (λ (l : List ℕ × List ℕ). l.1) (same_alone most alone same)))
      (parts_apart right_name untouched (map left_line alone.lefts) (map right_line alone.rights)
      (picked_apart (is_untouched alone) right_name same (subst AreApart (map-map folded_bytes (λ (l : List ℕ × List ℕ). l.1) same) apart))
      (subst AreApart (sym (map-map right_name left_line alone.lefts)) (apart_through folded_bytes (λ (name : List ℕ). right_name (left_line name)) (λ a b e. stranger_one most a b e) alone.lefts once.lefts))
      (subst AreApart (sym (map-map right_name right_line alone.rights)) once.rights)
      (λ a b h k e. let r = of_map left_line alone.lefts b k in no_stranger most a.1 r.item (second_low a h) (e ∙ ap right_name r.is))
      (λ a b h k e. let r = of_map right_line alone.rights b k in right_free a h r.item r.there (e ∙ ap right_name r.is))
      (λ a b h k e.
      let r = of_map left_line alone.lefts a h in
      let s = of_map right_line alone.rights b k in
      no_stranger most s.item r.item (low s.item (of_rights layout schematic same alone s.item s.there)) (sym (ap right_name s.is) ∙ sym e ∙ ap right_name r.is)))

  -- no circuit has a stranger's name
  layout_free : (a : ℕ) (name : List ℕ) → HasName layout a (stranger most name) → ⊥
  layout_free a name (x, is, e) = no_stranger most x.name name (low x.name (of_layout layout schematic same alone x.name (on_map (λ (c : Circuit). c.name) layout.circuits x (listed layout.circuits a x is)))) e

  schematic_free : (b : ℕ) (name : List ℕ) → HasName schematic b (stranger most name) → ⊥
  schematic_free b name (x, is, e) =
      no_stranger most x.name name (low x.name (of_schematic layout schematic same alone x.name (on_map (λ (c : Circuit). c.name) schematic.circuits x (listed schematic.circuits b x is)))) e

  -- a circuit has one name
  one_name : (nl : Netlist) (a : ℕ) (m n : List ℕ) → HasName nl a m → HasName nl a n → folded_bytes m ≡ folded_bytes n
  one_name nl a m n (x, is, e) (y, also, f) =
      let same_circuit : x ≡ y = cc in sym e ∙ ap (λ (c : Circuit). folded_bytes c.name) same_circuit ∙ f

  left_alone : (top a b : ℕ) (name : List ℕ) → HasName layout a name → has_name alone.lefts name ≡ true → IsPartner layout schematic top (same_alone most alone same) a b → ⊥
  left_alone top a b name named there partner =
      let r = of_map folded_bytes alone.lefts (folded_bytes name) (listed_found (folded_bytes name) (map folded_bytes alone.lefts) there) in
      let also : HasName layout a r.item = (named.0, named.1, named.2 ∙ r.is) in
      let line = in_right untouched _ (left_line r.item) (in_left (map left_line alone.lefts) (map right_line alone.rights) (left_line r.item) (on_map left_line alone.lefts r.item r.there)) in
      let s = said layout schematic top (same_alone most alone same) a b (inl (left_line r.item, line, also)) partner in
      elim (either_side untouched _ s.0 s.1) [
        | inl h ↦ left_free s.0 h r.item r.there (one_name layout a s.0.0 r.item s.2 also)
        | inr h ↦ elim (either_side (map left_line alone.lefts) (map right_line alone.rights) s.0 h) [
          | inl k ↦ let m = of_map left_line alone.lefts s.0 k in schematic_free b m.item (subst (λ (l : List ℕ × List ℕ). HasName schematic b l.1) m.is s.3)
          | inr k ↦ let m = of_map right_line alone.rights s.0 k in layout_free a m.item (subst (λ (l : List ℕ × List ℕ). HasName layout a l.0) m.is s.2)
        ]
      ]

  right_alone : (top a b : ℕ) (name : List ℕ) → HasName schematic b name → has_name alone.rights name ≡ true → IsPartner layout schematic top (same_alone most alone same) a b → ⊥
  right_alone top a b name named there partner =
      let r = of_map folded_bytes alone.rights (folded_bytes name) (listed_found (folded_bytes name) (map folded_bytes alone.rights) there) in
      let also : HasName schematic b r.item = (named.0, named.1, named.2 ∙ r.is) in
      let line = in_right untouched _ (right_line r.item) (in_right (map left_line alone.lefts) (map right_line alone.rights) (right_line r.item) (on_map right_line alone.rights r.item r.there)) in
      let s = said layout schematic top (same_alone most alone same) a b (inr (right_line r.item, line, also)) partner in
      elim (either_side untouched _ s.0 s.1) [
        | inl h ↦ right_free s.0 h r.item r.there (one_name schematic b s.0.1 r.item s.3 also)
        | inr h ↦ elim (either_side (map left_line alone.lefts) (map right_line alone.rights) s.0 h) [
          | inl k ↦ let m = of_map left_line alone.lefts s.0 k in schematic_free b m.item (subst (λ (l : List ℕ × List ℕ). HasName schematic b l.1) m.is s.3)
          | inr k ↦ let m = of_map right_line alone.rights s.0 k in layout_free a m.item (subst (λ (l : List ℕ × List ℕ). HasName layout a l.0) m.is s.2)
        ]
      ]

pub lines_apart : LinesApartLaw
lines_apart = record {
  lefts = λ most alone layout schematic same low once apart. lefts_apart most alone layout schematic same low once apart;
  rights = λ most alone layout schematic same low once apart. rights_apart most alone layout schematic same low once apart;
}

pub are_alone : AloneLaw
are_alone = record {
  left = λ most alone layout schematic top same low a b name named there partner. left_alone most alone layout schematic same low top a b name named there partner;
  right = λ most alone layout schematic top same low a b name named there partner. right_alone most alone layout schematic same low top a b name named there partner;
}
