use Rattle.std.proofs.Common.{◌<◌, ◌≤◌, ◌∙◌, ℕ, List, length, slice_index, refl, sym, subst, ap, arith}
use Rattle.match_graph.specs.Graph.{left_of}
use Rattle.match_rounds.specs.Classes.{class_in}
use Rattle.match_rounds.specs.Sides.{left_members}
use Rattle.refine_match.specs.declared.ties.Span.{Span}
use Rattle.refine_match.specs.Ties.{IsFirstIn, IsSpanOf}
use Rattle.refine_match.proofs.InOrder.{renewed_tied, renewed_untied, some_place, span_read}
use Rattle.refine_match.proofs.ties.Ties.renew.Goals as goal

pub first_in-next-requires-clause-end : goal.first_in-next-requires-clause-end
first_in-next-requires-clause-end c =
    let a = c.requires.class in
    let b = c.requires.count in
    let low : c.args.class < length c.args.self.now.spans.items = omega arith in
    let s = c.index-span.result.now in
    let is = span_read c.args.self.now.spans.items c.args.class s low c.index-span.ensures in
    let span = subst (λ (u : Span). IsSpanOf c.args.self.now.nodes.items u (class_in c.args.classes.now) 0 (left_of c.args.graph.now) c.args.class) (sym is) (c.requires.spans c.args.class low) in
    subst (λ (xs : List ℕ). s.end ≤ length xs) (sym c.deref.ensures.value) span.fits

pub first_in-next-requires-clause-nodes : goal.first_in-next-requires-clause-nodes
first_in-next-requires-clause-nodes c = λ k l m.
    let a = c.requires.class in
    let b = c.requires.count in
    let low : c.args.class < length c.args.self.now.spans.items = omega arith in
    let s = c.index-span.result.now in
    let is = span_read c.args.self.now.spans.items c.args.class s low c.index-span.ensures in
    let span = subst (λ (u : Span). IsSpanOf c.args.self.now.nodes.items u (class_in c.args.classes.now) 0 (left_of c.args.graph.now) c.args.class) (sym is) (c.requires.spans c.args.class low) in
    let left = subst (λ (xs : List ℕ). slice_index xs k < left_of c.args.graph.now) (sym c.deref.ensures.value) (span.within k l m).1 in
    let inside = c.requires.partition.inside in
    let long = c.requires.partition.classes.long in
    omega arith

pub tie_at-requires-clause-place : goal.tie_at-requires-clause-place
tie_at-requires-clause-place c = λ more.
    let a = c.requires.class in
    let b = c.requires.count in
    let low : c.args.class < length c.args.self.now.spans.items = omega arith in
    let s = c.index-span.result.now in
    let is = span_read c.args.self.now.spans.items c.args.class s low c.index-span.ensures in
    some_place c.args.self.now c.args.graph.now c.args.classes.now c.args.class c.first_in-next.result s c.deref-2.result.now c.requires.spans low is c.deref-2.ensures.value
    (subst (λ (xs : List ℕ). IsFirstIn xs (class_in c.args.classes.now) c.args.class s.next s.end c.first_in-next.result) (c.deref.ensures.value ∙ sym c.deref-2.ensures.value) c.first_in-next.ensures) more

pub returns-in-None : goal.returns-in-None
returns-in-None c =
    let a = c.requires.class in
    let b = c.requires.count in
    let low : c.args.class < length c.args.self.now.spans.items = omega arith in
    let s = c.index-span.result.now in
    let is = span_read c.args.self.now.spans.items c.args.class s low c.index-span.ensures in
    renewed_untied c.args.self.now c.args.graph.now c.args.classes.now c.args.class c.first_in-next.result s (_) c.requires.spans c.requires.ordered low is
    (subst (λ (xs : List ℕ). IsFirstIn xs (class_in c.args.classes.now) c.args.class s.next s.end c.first_in-next.result) c.deref.ensures.value c.first_in-next.ensures) refl c.in-None.ensures

pub returns-in_ok-push-in-Some : goal.returns-in_ok-push-in-Some
returns-in_ok-push-in-Some c =
    let a = c.requires.class in
    let b = c.requires.count in
    let low : c.args.class < length c.args.self.now.spans.items = omega arith in
    let s = c.index-span.result.now in
    let is = span_read c.args.self.now.spans.items c.args.class s low c.index-span.ensures in
    let tied = c.in-Some.ensures in
    let more : 1 < left_members c.args.graph.now c.args.classes.now c.args.class = subst (λ (n : ℕ). 1 < n) tied.1 tied.0 in
    renewed_tied c.args.self.now c.args.graph.now c.args.classes.now c.args.class c.first_in-next.result s (_) c.in-Some.tie c.push.new.self (_) c.requires.spans (c.in_ok-push-in-Some.ensures.heap_order c.requires.ordered) low is
    (subst (λ (xs : List ℕ). IsFirstIn xs (class_in c.args.classes.now) c.args.class s.next s.end c.first_in-next.result) c.deref.ensures.value c.first_in-next.ensures) refl tied.1
    (tied.2 ∙ ap (λ (xs : List ℕ). slice_index xs c.first_in-next.result) c.deref-2.ensures.value) more refl c.in_ok-push-in-Some.ensures.permutation
