use Rattle.std.proofs.Common.{◌<◌, ℕ, List, length, subst, arith}
use Rattle.match_parts.proofs.Read.{read}
use Rattle.match_rounds.specs.Classes.{class_in}
use Rattle.refine_match.specs.Ties.{IsFirstIn}
use Rattle.refine_match.proofs.RightOnes.{first_right, span_here}
use Rattle.refine_match.proofs.rights.Rights.first.Goals as goal

pub returns-then-place-span : goal.returns-then-place-span
returns-then-place-span c =
    let nodes = c.args.self.now.nodes.items in
    let s = c.index-span.result.now in
    let place = c.first_in-place.result in
    let span = span_here c.args.self.now c.args.graph.now c.args.classes.now c.args.class s c.requires.rights c.requires.class c.index-span.ensures in
    let fits = span.fits in
    let inside = c.if-place-span.true in
    let low : place < length nodes = omega arith in
    first_right nodes s c.args.graph.now c.args.classes.now c.args.class place c.index.result.now span
    (subst (λ (xs : List ℕ). IsFirstIn xs (class_in c.args.classes.now) c.args.class s.next s.end place) c.deref.ensures.value c.first_in-place.ensures) inside
    (read nodes place c.index.result.now low c.index.ensures)
