use Rattle.std.proofs.Common.{◌++◌, ◌∙◌, ℕ, List, codes, map, append_assoc, ap, refl}
use Rattle.net_model.specs.Rows.{plain_circuit}
use Rattle.rule_text.specs.Seen.{rules_seen}
use Rattle.view_file.specs.Layout.{front_text}
use Rattle.view_file.proofs.layout.push_layout.Goals as goal

pub returns : goal.returns
returns c =
    let out = c.args.out.now.items in
    let unit = c.in_ok-unit_text.unit_text.items in
    let front = front_text c.args.top.now unit (rules_seen c.args.rules.now) c.args.picture.now (map plain_circuit c.args.circuits.now) in
    let text = c.in_ok-push_all_circuits.ensures in
    let end = codes "\n)" in
    let first = c.in_ok-push_front.ensures ∙ ap (λ (u : List ℕ). out ++ front_text c.args.top.now u (rules_seen c.args.rules.now) c.args.picture.now (map plain_circuit c.args.circuits.now)) c.deref.ensures.value in (
      front ++ (text.0 ++ end),
      c.in_ok-extend_from_slice.ensures.items
          ∙ ap (λ (o : List ℕ). o ++ end) (text.1 ∙ ap (λ (o : List ℕ). o ++ text.0) first)
          ∙ append_assoc (out ++ front) text.0 end
          ∙ append_assoc out front (text.0 ++ end),
      record { unit_text = unit; microns = c.in_ok-unit_text.ensures.exact; circuits = text.0; are = text.2; is = refl },
    )
