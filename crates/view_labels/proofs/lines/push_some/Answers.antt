use Rattle.std.proofs.Common.{◌≡◌, ◌++◌, ◌∷◌, ◌∙◌, [], ℕ, List, ap, sym, take}
use Rattle.std.proofs.lemmas.List.{drop-map}
use Rattle.std.specs.Global.{Vec}
use Rattle.view_labels.specs.Logs.{texts_of}
use Rattle.view_labels.proofs.Logging.{front, more_taken, whole_drop}
use Rattle.view_labels.proofs.lines.push_some.Goals as goal

pub lines-init : goal.lines-init
lines-init c =
    let all = c.args.all.now in
    let rest = whole_drop all c.args.from in
    ap (λ (l : List (List ℕ)). texts_of c.args.lines.now.items ++ take c.args.count l) (ap (λ (l : List (Vec ℕ)). texts_of l) rest ∙ sym (drop-map (λ (v : Vec ℕ). v.items) c.args.from all))

pub lines-preserved : goal.lines-preserved
lines-preserved c =
    let line = c.line-item.result in
    let all = front (λ (v : Vec ℕ). v.items) c.lines.rest.now line c.in-len1-up.len_at_least c.line-item.is in
    let pushed : texts_of c.push_line.new.lines.items ≡ texts_of c.lines.lines.items ++ c.deref.result.now ∷ [] = c.in_ok-push_line.ensures in
    more_taken (texts_of c.lines.lines.items) (texts_of c.push_line.new.lines.items) c.lines.left line.items _ _ (texts_of c.lines.rest.now) all
    (pushed ∙ ap (λ (l : List ℕ). texts_of c.lines.lines.items ++ l ∷ []) c.deref.ensures.value) c.if-left-eq0.false c.lines.invariant
