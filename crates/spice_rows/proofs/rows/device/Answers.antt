use Rattle.std.proofs.Common.{◌≡◌, sym, ◌∙◌, ap, subst, rules, ℕ, List, map, Some, Ok, Result}
use Rattle.fixed_num.specs.declared.femto.Femto.{Femto}
use Rattle.fixed_num.specs.declared.femto.ValueFault.{ValueFault}
use Rattle.spice_cards.specs.Seen.{words_seen, params_seen}
use Rattle.spice_rows.specs.Names.{names_of}
use Rattle.spice_rows.specs.Params.{copies_of}
use Rattle.spice_rows.specs.Rows.{device_of, is_formed}
use Rattle.spice_rows.specs.Seen.{Says, sizes_seen}
use Rattle.spice_rows.specs.Sizes.{read_limit}
use Rattle.spice_rows.proofs.DeviceRows.{unformed, refused, taken}
use Rattle.spice_rows.proofs.rows.device.Goals as goal

pub returns-then-not-is_formed : goal.returns-then-not-is_formed
returns-then-not-is_formed c =
    let e : names_of (words_seen c.args.words.now) ≡ Some c.in-Some.names.items = search rules in
    unformed read_limit c.args.kind c.args.line _ c.in-Some.names.items (params_seen c.args.params.now) e (ap (λ (ns : List (List ℕ)). is_formed c.args.kind ns (params_seen c.args.params.now)) (sym c.deref.ensures.value) ∙ sym c.is_formed.ensures ∙ c.if-not-is_formed.true)

pub returns-then-has_refused : goal.returns-then-has_refused
returns-then-has_refused c =
    let e : names_of (words_seen c.args.words.now) ≡ Some c.in-Some.names.items = search rules in
    refused read_limit c.args.kind c.args.line _ c.in-Some.names.items (params_seen c.args.params.now) e (ap (λ (ns : List (List ℕ)). is_formed c.args.kind ns (params_seen c.args.params.now)) (sym c.deref.ensures.value) ∙ sym c.is_formed.ensures ∙ c.if-not-is_formed.false) (sym c.has_refused.ensures ∙ c.if-has_refused.true)

pub returns-in-Ok : goal.returns-in-Ok
returns-in-Ok c =
    let k = c.args.kind in
    let ps = params_seen c.args.params.now in
    let e : names_of (words_seen c.args.words.now) ≡ Some c.in-Some.names.items = search rules in
    let row = taken read_limit k c.args.line _ c.in-Some.names.items ps e (ap (λ (ns : List (List ℕ)). is_formed c.args.kind ns (params_seen c.args.params.now)) (sym c.deref.ensures.value) ∙ sym c.is_formed.ensures ∙ c.if-not-is_formed.false) (sym c.has_refused.ensures ∙ c.if-has_refused.false) in
    let sizes = sym c.sizes_of.ensures ∙ ap sizes_seen c.in-Ok.is in
    let made : Result (List ℕ) ValueFault = Ok (map (λ (f : Femto). f.0) c.in-Ok.sizes) in
    let copies = ap (λ (n : ℕ). device_of c.args.line n k c.in-Some.names.items made) (sym c.copies_of.ensures)
    ∙ ap (λ (ns : List (List ℕ)). device_of c.args.line c.copies_of.result k ns made) (sym c.deref-in-Ok.ensures.value) in
    subst (Says c.device_of.result) (sym (row ∙ ap (λ (s : Result (List ℕ) ValueFault). device_of c.args.line (copies_of ps) k c.in-Some.names.items s) sizes ∙ copies)) c.device_of.ensures

pub returns : goal.returns
returns c =
    let k = c.args.kind in
    let ps = params_seen c.args.params.now in
    let e : names_of (words_seen c.args.words.now) ≡ Some c.in-Some.names.items = search rules in
    let row = taken read_limit k c.args.line _ c.in-Some.names.items ps e (ap (λ (ns : List (List ℕ)). is_formed c.args.kind ns (params_seen c.args.params.now)) (sym c.deref.ensures.value) ∙ sym c.is_formed.ensures ∙ c.if-not-is_formed.false) (sym c.has_refused.ensures ∙ c.if-has_refused.false) in
    let sizes = sym c.sizes_of.ensures ∙ ap sizes_seen c.in-Err.is in
    row ∙ ap (λ (s : Result (List ℕ) ValueFault). device_of c.args.line (copies_of ps) k c.in-Some.names.items s) sizes
