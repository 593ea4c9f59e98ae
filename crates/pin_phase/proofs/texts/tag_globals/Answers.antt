use Rattle.std.proofs.Common.{◌≡◌, ◌<◌, ◌∙◌, [], ℕ, List, Vec, Global, get_or, length, refl, sym, ap, arith}
use Rattle.std.proofs.lemmas.List.{get_or-map, length-map}
use Rattle.pin_phase.specs.Tagged.{IsGlobalTag}
use Rattle.pin_phase.proofs.Added.{item_more, items_all}
use Rattle.pin_phase.proofs.Naming.{global_tags}
use Rattle.pin_phase.proofs.texts.tag_globals.Goals as goal

pub loop-global-preserved : goal.loop-global-preserved
loop-global-preserved g c =
    let d = g.C.Cells.design c.args.cells.now in let w = g.C.Cells.wiring c.args.cells.now in let t = g.C.Cells.tables c.args.cells.now in
    let k = c.loop-global.global in let names = c.args.globals.now in
    let name = c.index-globals-global.result in
    let test = c.loop-global-test.true in
    let inside : k < length names = omega arith in
    let long = ap length c.requires.globals in let same = length-map names (λ (v : Vec ℕ Global). v.items) in
    let is : name.items ≡ get_or w.globals k name.items =
    sym (ap (λ (l : List (List ℕ)). get_or l k name.items) (sym c.requires.globals) ∙ get_or-map (λ (v : Vec ℕ Global). v.items) names k name name.items inside ∙ ap (λ (v : Vec ℕ Global). v.items) (sym c.index-globals-global.is)) in
    item_more (IsGlobalTag d t c.args.cell) w.globals k name.items c.args.tags.now c.loop-global.tags c.add.new.self (omega arith) is c.loop-global.invariant
    (global_tags d w t c.args.cell k c.net_of_global-net.result c.in_ok-tag.tag name.items c.loop-global.tags c.add.new.self (c.requires.nets c.args.cell ([], refl)) c.net_of_global-net.ensures (c.in_ok-tag.ensures ∙ c.deref.ensures.value) c.in_ok-add.ensures)

pub returns : goal.returns
returns g c =
    let d = g.C.Cells.design c.args.cells.now in let w = g.C.Cells.wiring c.args.cells.now in let t = g.C.Cells.tables c.args.cells.now in
    let names = c.args.globals.now in
    let long = ap length c.requires.globals in let same = length-map names (λ (v : Vec ℕ Global). v.items) in
    let past = c.loop-global-test.false in let end = c.loop-global.auto.global-end in
    items_all (IsGlobalTag d t c.args.cell) w.globals c.loop-global.global c.args.tags.now c.loop-global.tags (omega arith) c.loop-global.invariant
