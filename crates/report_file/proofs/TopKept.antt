-- Through all turns the top keeps the partner that it has by the rules.
use Rattle.std.proofs.Common.{◌≡◌, inl, inr, ℕ, zero, suc, Bool, true, false, List, ◌++◌, length, map, Some, slice_get, refl, sym, ap, subst, ◌∙◌, arith}
use Rattle.base_laws.proofs.Tests.{same_truth}
use Rattle.base_laws.proofs.Items.{item_at}
use Rattle.std.specs.Prelude.{◌||◌}
use Rattle.std.specs.List.{list_any}
use Rattle.std.specs.Str.{bytes_eq}
use Rattle.std.proofs.lemmas.Bool.{cases_Bool, or_from}
use Rattle.std.proofs.lemmas.List.{map-append}
use Rattle.std.proofs.lemmas.List.Folds.{list_any-append}
use Rattle.std.proofs.lemmas.Option.{slice_get_within}
use Rattle.net_names.specs.Folding.{folded_bytes}
use Rattle.align_laws.proofs.Sides.{said}
use Rattle.align_laws.specs.Partners.{AreLinesApart, AreNamesApart, HasName}
use Rattle.match_laws.specs.Answer.{Answer}
use Rattle.net_align.specs.Compared.{AreAligned, AreCalleesFirst}
use Rattle.pair_turns.specs.Alone.{Names, gone_names, has_name, same_alone, with_gone}
use Rattle.pair_turns.specs.Going.{AreGoing}
use Rattle.pair_turns.proofs.Lists.{found, listed_found, of_map, on_map}
use Rattle.plain_netlist.specs.Lists.{IsListed}
use Rattle.plain_netlist.specs.Netlist.{Circuit, Netlist, IsCircuit}
use Rattle.report_file.proofs.Gone.{gone, gone_there}
use Rattle.report_file.proofs.Kept.{kept_as, made_of}
use Rattle.report_file.proofs.LastPair.{last_is_top, partner_kept, top_kept, tops}
use Rattle.report_file.proofs.SameTop.{IsFree, line_stays, one_name}
use Rattle.report_file.proofs.Turned.{AreFit}
use Rattle.report_file.proofs.TopStays.{top_never_goes}

has_more : (names more : List (List ℕ)) (name : List ℕ) → has_name (names ++ more) name ≡ (has_name names name || has_name more name)
has_more names more name =
    ap (λ (all : List (List ℕ)). list_any (bytes_eq (folded_bytes name)) all) (map-append folded_bytes names more) ∙ list_any-append (bytes_eq (folded_bytes name)) (map folded_bytes names) (map folded_bytes more)

-- what is kept of the top, its partner b and the lines of the rules
pub record IsKept (layout schematic : Netlist) (top b : ℕ) (same : List (List ℕ × List ℕ)) (alone : Names) : Type 0 where
  pub whole : (line : List ℕ × List ℕ) → IsListed line same → has_name alone.lefts line.0 ≡ has_name alone.rights line.1
  pub free : IsFree layout alone.lefts top
  pub also : IsFree schematic alone.rights b

both_or : (a b c d : Bool) → a ≡ b → (a ≡ false → c ≡ d) → (a || c) ≡ (b || d)
both_or true true c d e f = refl
both_or true false c d e f = absurd cc
both_or false true c d e f = absurd cc
both_or false false c d e f = f refl

module _ (layout schematic : Netlist) (top : ℕ) (rules : List (List ℕ × List ℕ)) (most : ℕ) (alone : Names) (fit : AreFit layout schematic rules most alone) (fine : AreNamesApart layout) (fine_right : AreNamesApart schematic) (lines : AreLinesApart (same_alone most alone rules))
    (left right : Netlist) (a : AreAligned layout schematic top (same_alone most alone rules) left right) (first : AreCalleesFirst layout) (order : AreCalleesFirst left) (answers : List Answer) (long : length answers ≡ length left.circuits) (goes : List Bool) (are : AreGoing left right answers goes)
    (b : ℕ) (is_partner : a.right_top ≡ b) (kept : IsKept layout schematic top b rules alone) where
  abbrev same : List (List ℕ × List ℕ)
  same = same_alone most alone rules

  abbrev gl : List (List ℕ)
  gl = gone_names goes left.circuits

  abbrev gr : List (List ℕ)
  gr = gone_names goes right.circuits

  left_to_right : (line : List ℕ × List ℕ) → IsListed line same → has_name gl line.0 ≡ true → has_name gr line.1 ≡ true
  left_to_right line l t =
      let p = a.are in
      let r = of_map folded_bytes gl (folded_bytes line.0) (listed_found (folded_bytes line.0) (map folded_bytes gl) t) in
      let g = gone goes left.circuits r.item r.there in
      let m = made_of layout left a.left_by p.left_aligned p.left_only g.place g.circuit g.there in
      let has : HasName layout m.number line.0 = (m.given, m.is, ap folded_bytes (sym m.name) ∙ ap folded_bytes (sym g.is) ∙ sym r.is) in
      let pair = (p.pairs.left_kept m.number).0 m.kept in
      let s = said layout schematic top same m.number pair.0 (inl (line, l, has)) pair.1.partner in
      let one : s.0 ≡ line = lines.left s.0 line s.1 l (one_name layout m.number s.0.0 line.0 s.2 has) in
      let named : HasName schematic pair.0 line.1 = subst (λ (x : List ℕ × List ℕ). HasName schematic pair.0 x.1) one s.3 in
      let so = kept_as schematic right a.right_by p.right_aligned pair.0 ((p.pairs.right_kept pair.0).1 (m.number, pair.1)) in
      let place = sym (p.pairs.together m.number pair.0 pair.1) ∙ m.becomes in
      let there : slice_get right.circuits g.place ≡ Some so.made = subst (λ (n : ℕ). IsCircuit right n so.made) place so.becomes in
      let listed = gone_there goes right.circuits g.place so.made g.goes_so there in
      let circuit : named.0 ≡ so.given = (let x = named.1 in let y = so.is in cc) in
      let name : folded_bytes so.made.name ≡ folded_bytes line.1 = ap folded_bytes so.name ∙ ap (λ (c : Circuit). folded_bytes c.name) (sym circuit) ∙ named.2 in
      found (folded_bytes line.1) (map folded_bytes gr) (subst (λ (q : List ℕ). IsListed q (map folded_bytes gr)) name (on_map folded_bytes gr so.made.name listed))

  right_to_left : (line : List ℕ × List ℕ) → IsListed line same → has_name gr line.1 ≡ true → has_name gl line.0 ≡ true
  right_to_left line l t =
      let p = a.are in
      let r = of_map folded_bytes gr (folded_bytes line.1) (listed_found (folded_bytes line.1) (map folded_bytes gr) t) in
      let g = gone goes right.circuits r.item r.there in
      let m = made_of schematic right a.right_by p.right_aligned p.right_only g.place g.circuit g.there in
      let has : HasName schematic m.number line.1 = (m.given, m.is, ap folded_bytes (sym m.name) ∙ ap folded_bytes (sym g.is) ∙ sym r.is) in
      let pair = (p.pairs.right_kept m.number).0 m.kept in
      let s = said layout schematic top same pair.0 m.number (inr (line, l, has)) pair.1.partner in
      let one : s.0 ≡ line = lines.right s.0 line s.1 l (one_name schematic m.number s.0.1 line.1 s.3 has) in
      let named : HasName layout pair.0 line.0 = subst (λ (x : List ℕ × List ℕ). HasName layout pair.0 x.0) one s.2 in
      let so = kept_as layout left a.left_by p.left_aligned pair.0 ((p.pairs.left_kept pair.0).1 (m.number, pair.1)) in
      let place = p.pairs.together pair.0 m.number pair.1 ∙ m.becomes in
      let there : slice_get left.circuits g.place ≡ Some so.made = subst (λ (n : ℕ). IsCircuit left n so.made) place so.becomes in
      let listed = gone_there goes left.circuits g.place so.made g.goes_so there in
      let circuit : named.0 ≡ so.given = (let x = named.1 in let y = so.is in cc) in
      let name : folded_bytes so.made.name ≡ folded_bytes line.0 = ap folded_bytes so.name ∙ ap (λ (c : Circuit). folded_bytes c.name) (sym circuit) ∙ named.2 in
      found (folded_bytes line.0) (map folded_bytes gl) (subst (λ (q : List ℕ). IsListed q (map folded_bytes gl)) name (on_map folded_bytes gl so.made.name listed))

  whole_after : (line : List ℕ × List ℕ) → IsListed line rules → has_name (alone.lefts ++ gl) line.0 ≡ has_name (alone.rights ++ gr) line.1
  whole_after line l =
      has_more alone.lefts gl line.0
      ∙ both_or (has_name alone.lefts line.0) (has_name alone.rights line.1) (has_name gl line.0) (has_name gr line.1) (kept.whole line l)
      (λ off. let now = line_stays most alone layout schematic rules fit.low top kept.whole kept.free line l off in same_truth (has_name gl line.0) (has_name gr line.1) (left_to_right line now) (right_to_left line now))
      ∙ sym (has_more alone.rights gr line.1)

  -- the place of the tops' pair, which stands last
  last_place : (n : ℕ) → length left.circuits ≡ n → (k : ℕ) × (length left.circuits ≡ suc k) × (a.left_by.number top ≡ k)
  last_place zero e = absurd (
      let so = kept_as layout left a.left_by a.are.left_aligned top (top_kept layout schematic top a.right_top same left right a.left_by a.right_by a.are first) in
      let within = slice_get_within left.circuits _ so.made so.becomes in omega (arith, within, e))
  last_place (suc k) e =
      let c = item_at left.circuits k (omega (arith, e)) in
      (k, e, last_is_top layout schematic top a.right_top same left right a.left_by a.right_by a.are first k c.0 c.1 (omega (arith, e)))

  never : (k : ℕ) → a.left_by.number top ≡ k → slice_get goes k ≡ Some true → ⊥
  never k e set =
      let l = last_place (length left.circuits) refl in
      let together = a.are.pairs.together top a.right_top (tops layout schematic top a.right_top same left right a.left_by a.right_by a.are first) in
      top_never_goes layout schematic top a.right_top same left right a.left_by a.right_by a.are order l.0 (sym together ∙ l.2) (partner_kept layout schematic top a.right_top same left right a.left_by a.right_by a.are first) l.1 answers goes long are
      (subst (λ (n : ℕ). slice_get goes n ≡ Some true) (sym e ∙ l.2) set)

  free_after : IsFree layout (alone.lefts ++ gl) top
  free_after name has = has_more alone.lefts gl name ∙ or_from (has_name alone.lefts name) (has_name gl name) (kept.free name has) (elim (cases_Bool (has_name gl name)) [
    | inr f ↦ f
    | inl t ↦ absurd (
        let p = a.are in
        let r = of_map folded_bytes gl (folded_bytes name) (listed_found (folded_bytes name) (map folded_bytes gl) t) in
        let g = gone goes left.circuits r.item r.there in
        let m = made_of layout left a.left_by p.left_aligned p.left_only g.place g.circuit g.there in
        let also : HasName layout m.number name = (m.given, m.is, ap folded_bytes (sym m.name) ∙ ap folded_bytes (sym g.is) ∙ sym r.is) in
        let one = fine top m.number name has also in never g.place (ap a.left_by.number one ∙ m.becomes) g.goes_so)
  ])

  also_after : IsFree schematic (alone.rights ++ gr) b
  also_after name has = has_more alone.rights gr name ∙ or_from (has_name alone.rights name) (has_name gr name) (kept.also name has) (elim (cases_Bool (has_name gr name)) [
    | inr f ↦ f
    | inl t ↦ absurd (
        let p = a.are in
        let r = of_map folded_bytes gr (folded_bytes name) (listed_found (folded_bytes name) (map folded_bytes gr) t) in
        let g = gone goes right.circuits r.item r.there in
        let m = made_of schematic right a.right_by p.right_aligned p.right_only g.place g.circuit g.there in
        let also : HasName schematic m.number name = (m.given, m.is, ap folded_bytes (sym m.name) ∙ ap folded_bytes (sym g.is) ∙ sym r.is) in
        let one = is_partner ∙ fine_right b m.number name has also in
        let together = p.pairs.together top a.right_top (tops layout schematic top a.right_top same left right a.left_by a.right_by p first) in
        never g.place (together ∙ ap a.right_by.number one ∙ m.becomes) g.goes_so)
  ])

  pub kept_after : IsKept layout schematic top b rules (with_gone alone left right goes)
  kept_after = record { whole = whole_after; free = free_after; also = also_after }
