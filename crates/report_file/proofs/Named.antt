-- The report's second name is that of the top's partner.
use Rattle.std.proofs.Common.{◌≡◌, inl, inr, ℕ, ◌<◌, true, false, List, [], Option, Some, length, get_or, slice_get, refl, sym, ap, ◌∙◌, arith}
use Rattle.std.proofs.lemmas.Bool.{cases_Bool}
use Rattle.std.proofs.lemmas.List.Sums.{position_or_len_is}
use Rattle.std.proofs.lemmas.Option.{slice_get_within, slice_get-get_or, get_or_from_slice_get}
use Rattle.std.proofs.lemmas.Slice.Eq.{bytes_eq-Decides}
use Rattle.std.specs.List.{position_or_len}
use Rattle.std.specs.Str.{bytes_eq}
use Rattle.align_laws.proofs.Soundness.{names_apart}
use Rattle.align_laws.specs.Partners.{IsPair}
use Rattle.match_report.specs.Pairs.{name_of}
use Rattle.match_report.specs.Report.{partner_word}
use Rattle.match_report.specs.Words.{name_word}
use Rattle.match_report.specs.declared.report.Compared.{Compared}
use Rattle.net_model.specs.Rows.{plain_netlist}
use Rattle.plain_netlist.specs.Netlist.{Circuit, Netlist, IsCircuit}
use Rattle.report_file.proofs.Compared.{found, no_circuit}
use Rattle.report_file.proofs.Kept.{kept_as}
use Rattle.report_file.specs.Named.{TopPartnerLaw}

-- the first circuit of a name, where no other has it
place_of : (nl : Netlist) (n : ℕ) (c : Circuit) → IsCircuit nl n c → ((k : ℕ) (x : Circuit) → IsCircuit nl k x → x.name ≡ c.name → k ≡ n)
    → position_or_len (λ (x : Circuit). bytes_eq c.name x.name) nl.circuits ≡ n
place_of nl n c is one =
    let within = slice_get_within nl.circuits n c is in
    position_or_len_is (λ (x : Circuit). bytes_eq c.name x.name) nl.circuits n no_circuit (omega (arith, within)) (before within) (λ l. here)
  where
    before : n < length nl.circuits → (k : ℕ) → k < n → bytes_eq c.name (get_or nl.circuits k no_circuit).name ≡ false
    before within k low = elim (cases_Bool (bytes_eq c.name (get_or nl.circuits k no_circuit).name)) [
      | inr f ↦ f
      | inl t ↦ absurd (
          let e = one k (get_or nl.circuits k no_circuit) (slice_get-get_or nl.circuits k no_circuit (omega (arith, within, low))) (sym ((bytes_eq-Decides c.name (get_or nl.circuits k no_circuit).name).0 t)) in
          omega (arith, e, low))
    ]

    here : bytes_eq c.name (get_or nl.circuits n no_circuit).name ≡ true
    here =
        let e = get_or_from_slice_get nl.circuits n c no_circuit is in
        (bytes_eq-Decides c.name (get_or nl.circuits n no_circuit).name).1 (ap (λ (x : Circuit). x.name) (sym e))

pub top_partner : TopPartnerLaw
top_partner d r layout top bad schematic text pairs v sound x f e =
    let a = (found r layout top schematic x.same x.compared f e x.comparison).0 in
    let p = a.are in
    let left = plain_netlist f.left in
    let right = plain_netlist f.right in
    let pair : IsPair layout schematic top x.same a.right_top top a.right_top = record {
      tops = p.partner;
      partner = p.partner;
      called = ([], refl);
      right_called = ([], refl);
      devices = inl refl;
    } in
    let one = kept_as layout left a.left_by p.left_aligned top ((p.pairs.left_kept top).1 (a.right_top, pair)) in
    let other = kept_as schematic right a.right_by p.right_aligned a.right_top ((p.pairs.right_kept a.right_top).1 (top, pair)) in
    let n = a.left_by.number top in
    let named : name_of (slice_get layout.circuits top) ≡ one.made.name = ap name_of one.is ∙ sym one.name in
    let place = place_of left n one.made one.becomes (λ k y is same. names_apart layout left a.left_by p.left_aligned.goes p.left_aligned.by p.left_only sound k n y one.made is one.becomes same) in
    let number = place ∙ p.pairs.together top a.right_top pair in (
      a.right_top,
      other.given,
      p.partner,
      other.is,
      ap (λ (o : Option Compared). partner_word (name_of (slice_get layout.circuits top)) o) e
          ∙ (ap (λ (name : List ℕ). partner_word name (Some f)) named
          ∙ (ap (λ (k : ℕ). name_word (name_of (slice_get right.circuits k))) number ∙ ap name_word (ap name_of other.becomes ∙ other.name))),
    )
