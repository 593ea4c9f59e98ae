use Rattle.std.proofs.Common.{◌≡◌, ◌<◌, ◌+◌, ◌-◌, ℕ, List, [], Some, refl, ap, subst, arith, length, slice_get, slice_index_or}
use Rattle.std.proofs.lemmas.Option.{slice_get-get_or}
use Rattle.gate_phase.proofs.Netting.{global_holds, globals_fit}
use Rattle.gate_phase.proofs.nets.net_of_global.Goals as goal

pub overflow_sub-result : goal.overflow_sub-result
overflow_sub-result g c =
    let d = g.C.Cells.design c.args.cells.now in let w = g.C.Cells.wiring c.args.cells.now in let t = g.C.Cells.tables c.args.cells.now in
    let fit = globals_fit d w t c.args.cell (c.requires.nets c.args.cell ([], refl)) in
    let same = ap length c.net_of-net_of.ensures in let n = c.requires.globals in omega arith

pub bounds-net_of-net_of : goal.bounds-net_of-net_of
bounds-net_of-net_of g c =
    let d = g.C.Cells.design c.args.cells.now in let w = g.C.Cells.wiring c.args.cells.now in let t = g.C.Cells.tables c.args.cells.now in
    let fit = globals_fit d w t c.args.cell (c.requires.nets c.args.cell ([], refl)) in
    let same = ap length c.net_of-net_of.ensures in let n = c.requires.globals in let lt = c.requires.global in omega arith

pub returns : goal.returns
returns g c =
    let d = g.C.Cells.design c.args.cells.now in let w = g.C.Cells.wiring c.args.cells.now in let t = g.C.Cells.tables c.args.cells.now in
    let cell = c.args.cell in let k = c.args.global in
    let fit = globals_fit d w t cell (c.requires.nets cell ([], refl)) in
    let list = c.net_of-net_of.result.now in
    let same = ap length c.net_of-net_of.ensures in let n = c.requires.globals in let lt = c.requires.global in
    let place = length list - c.args.globals + k in
    let inside : place < length list = omega arith in
    let at : slice_get list place ≡ Some (slice_index_or list place 0) = slice_get-get_or list place 0 inside in
    let there : slice_get (t.nets cell).net_of (length (t.nets cell).net_of - length w.globals + k) ≡ Some (slice_index_or list place 0) =
    subst (λ (l : List ℕ). slice_get l (length l - length w.globals + k) ≡ Some (slice_index_or list place 0)) c.net_of-net_of.ensures (subst (λ (m : ℕ). slice_get list (length list - m + k) ≡ Some (slice_index_or list place 0)) n at) in
    global_holds d w t cell k (slice_index_or list place 0) (c.requires.nets cell ([], refl)) (subst (λ m. k < m) n lt) there
