use Rattle.std.proofs.Common.{◌≡◌, ◌∙◌, ◌++◌, ◌+◌, ℕ, List, [], ◌∷◌, map, take, get_or, arith, ap, refl, sym, subst}
use Rattle.flat_layout.specs.Regions.{Line}
use Rattle.rule_layers.specs.Meaning.{line}
use Rattle.rule_text.specs.Seen.{rules_seen}
use Rattle.text_table.specs.Texts.{place_of, with_text}
use Rattle.net_phase.proofs.Listing.{any_default}
use Rattle.net_phase.proofs.Wiring.{AreGrounds, grounds_all, grounds_more, no_lines}
use Rattle.net_phase.proofs.wires.ground_lines.Goals as goal
use Rattle.net_phase.specs.Wires.{ground_line}

pub loop-line-init : goal.loop-line-init
loop-line-init c = rw (c.new-lines.ensures.items, c.new-names.ensures) no_lines

pub loop-line-preserved : goal.loop-line-preserved
loop-line-preserved c =
    let gs = c.args.rules.now.globals.items in
    let n = c.loop-line.line-index in
    let old = map ground_line c.loop-line.lines.items in
    let g = get_or gs n (0, []) in
    let item : c.line-item.result ≡ g = subst (λ (l : List (ℕ × List ℕ)). c.line-item.result ≡ get_or l n c.line-item.result) c.deref-line-items.ensures.value c.line-item.is ∙ any_default gs n c.line-item.result (0, []) (omega arith) in
    let added = c.in_ok-push_ground.ensures in
    let texts : c.push_ground.new.names ≡ with_text c.loop-line.names g.1 = added.names ∙ ap (λ (x : ℕ × List ℕ). with_text c.loop-line.names x.1) item in
    let pushed = added.lines ∙ ap (λ (x : ℕ × List ℕ). old ++ line x.0 (place_of c.loop-line.names x.1) ∷ []) item in
    subst (λ (l : List Line). AreGrounds (take (n + 1) gs) c.push_ground.new.names l) (sym pushed)
    (grounds_more gs n (place_of c.loop-line.names g.1) (0, []) c.loop-line.names c.push_ground.new.names old (omega arith) c.loop-line.invariant refl texts)

pub returns-clause-lines : goal.returns-clause-lines
returns-clause-lines c = (grounds_all (rules_seen c.args.rules.now) c.loop-line.line-index c.loop-line.names (map ground_line c.loop-line.lines.items) (omega arith) c.loop-line.invariant).0

pub returns-clause-globals : goal.returns-clause-globals
returns-clause-globals c =
    let all = (grounds_all (rules_seen c.args.rules.now) c.loop-line.line-index c.loop-line.names (map ground_line c.loop-line.lines.items) (omega arith) c.loop-line.invariant).1 in
    c.in_ok-globals.ensures.ok ∙ c.len.ensures ∙ all
