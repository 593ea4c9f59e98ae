use Rattle.std.specs.Global.{Vec}
use Rattle.std.proofs.Common.{◌≡◌, ◌∷◌, ◌++◌, [], ◌∙◌, ap, get_or}
use Rattle.pin_phase.specs.declared.links.Link.{Link}
use Rattle.pin_phase.proofs.Tagging.{adds_one}
use Rattle.pin_phase.proofs.links.put_link.Goals as goal

pub returns : goal.returns
returns c =
    let xs = c.args.lists.now.items in let n = c.args.cell in
    let value : c.push.new.self.items ≡ (get_or xs n c.index_mut.result.now).items ++ c.args.link ∷ [] = c.in_ok-push.ensures.items ∙ ap (λ (v : Vec Link). v.items ++ c.args.link ∷ []) c.index_mut.ensures.value in
    adds_one (λ (v : Vec Link). v.items) xs n c.push.new.self c.index_mut.result.now c.args.link c.requires value
