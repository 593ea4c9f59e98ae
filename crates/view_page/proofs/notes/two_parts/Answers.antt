use Rattle.std.proofs.Common.{◌≡◌, ◌∙◌, ◌++◌, ℕ, List, ap}
use Rattle.view_page.specs.Notes.{part_end, part_head}
use Rattle.view_page.specs.Subjects.{net_name}
use Rattle.view_page.specs.Told.{told_by}
use Rattle.view_page.proofs.notes.two_parts.Goals as goal

pub returns : goal.returns
returns c =
    let q = told_by c.args.q in
    let first = net_name q.left.nets c.args.j in
    let second = net_name q.left.nets c.args.k in
    let at = c.in_ok-place.place.items in
    let there = c.in_ok-there.there.items in
    let e : c.in_ok-text.text.items ≡ part_head first at ++ part_end second there =
    c.in_ok-text.ensures
    ∙ ap (λ (v : List ℕ). part_head v c.deref-2.result.now ++ part_end c.deref-3.result.now c.deref-4.result.now) (c.deref.ensures.value ∙ c.in_ok-first.ensures)
    ∙ ap (λ (v : List ℕ). part_head first v ++ part_end c.deref-3.result.now c.deref-4.result.now) c.deref-2.ensures.value
    ∙ ap (λ (v : List ℕ). part_head first at ++ part_end v c.deref-4.result.now) (c.deref-3.ensures.value ∙ c.in_ok-second.ensures)
    ∙ ap (λ (v : List ℕ). part_head first at ++ part_end second v) c.deref-4.ensures.value in
    (at, c.in_ok-place.ensures, there, c.in_ok-there.ensures, e)
