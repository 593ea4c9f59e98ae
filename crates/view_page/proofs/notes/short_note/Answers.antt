use Rattle.std.proofs.Common.{◌≡◌, ◌∙◌, ℕ, List, [], get_or, map, ap}
use Rattle.std.specs.Global.{Vec}
use Rattle.view_page.specs.Notes.{known, pieces, short_line}
use Rattle.view_page.specs.Subjects.{net_name}
use Rattle.view_page.specs.Told.{told_by}
use Rattle.view_page.proofs.notes.short_note.Goals as goal

pub returns : goal.returns
returns c =
    let q = told_by c.args.q in
    let name = net_name q.left.nets c.args.k in
    let place = c.in_ok-place.place.items in
    let texts = map (λ (t : Vec ℕ). t.items) c.deref-3.result.now in
    let e : c.in_ok-text.text.items ≡ short_line name place (known q.right.nets (pieces [] (get_or q.left.nets c.args.k []))) =
    c.in_ok-text.ensures
    ∙ ap (λ (v : List ℕ). short_line v c.deref-2.result.now texts) (c.deref.ensures.value ∙ c.in_ok-name.ensures)
    ∙ ap (λ (v : List ℕ). short_line name v texts) c.deref-2.ensures.value
    ∙ ap (λ (v : List (List ℕ)). short_line name place v) (ap (λ (vs : List (Vec ℕ)). map (λ (t : Vec ℕ). t.items) vs) c.deref-3.ensures.value ∙ c.in_ok-found.ensures) in
    (place, c.in_ok-place.ensures, e)
