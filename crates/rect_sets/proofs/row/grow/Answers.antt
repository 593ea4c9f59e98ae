use Rattle.std.proofs.Common.{rules, arith, ◌≡◌, ◌+◌, ◌≤ℤ◌, ◌<ℤ◌, [], true, pos, ◌-◌, subst, length, get_or, w64}
use Rattle.std.proofs.lemmas.List.{nil_from_length, get_or_read}
use mir.Val.{SFits}
use Rattle.std.proofs.lemmas.Int.{ints, to_z-of_z}
use Rattle.rect_sets.proofs.RowRuns.{grows_nothing, grows_outside, grows_first, grows_beyond, grows_wider}
use Rattle.rect_sets.specs.declared.row.Span.{Span}
use Rattle.rect_sets.proofs.row.grow.Goals as goal
use Rattle.rect_sets.proofs.row.grow.Goals.{then-not-inside-via-then-not-inside, then-not-inside-via-else-not-inside+then-to-from}

pub returns-then-not-inside : goal.returns-then-not-inside
returns-then-not-inside c =
    elim c.then-not-inside.branch [
      | then-not-inside-via-then-not-inside w ↦ grows_outside c.args.out.now.items c.args.from c.args.to c.args.inside (search rules) c.requires.order c.requires.runs
      | then-not-inside-via-else-not-inside+then-to-from w ↦ grows_nothing c.args.out.now.items c.args.from c.args.to c.args.inside c.requires.order (omega (arith, ints)) c.requires.runs
    ]

pub returns-then-count-eq0 : goal.returns-then-count-eq0
returns-then-count-eq0 c =
    let f1 : SFits w64 c.args.from = search rules in let f2 : SFits w64 c.args.to = search rules in
    let none : c.args.out.now.items ≡ [] = nil_from_length c.args.out.now.items (search rules) in
    let some : c.args.from <ℤ c.args.to = omega (arith, ints) in
    let t : c.args.inside ≡ true = search rules in
    rw c.in_ok-push.ensures.items (simp to_z-of_z (grows_first c.args.out.now.items c.args.from c.args.to c.args.inside t none some))

pub returns-then-index-from : goal.returns-then-index-from
returns-then-index-from c =
    let f1 : SFits w64 c.args.from = search rules in let f2 : SFits w64 c.args.to = search rules in
    let d : Span = record { x1 = pos 0; x2 = pos 0 } in
    let k = c.len-count.result - 1 in
    let count : k + 1 ≡ length c.args.out.now.items = omega (arith, c.args.out.now.ok.0) in
    let read : c.index.result.now ≡ get_or c.args.out.now.items k d = get_or_read c.args.out.now.items k c.index.result.now (omega arith) c.index.ensures d in
    let less : c.index.result.now.x2 <ℤ c.args.from = omega (arith, ints) in
    let less' : (get_or c.args.out.now.items k d).x2 <ℤ c.args.from = subst (λ (s : Span). s.x2 <ℤ c.args.from) read less in
    let some : c.args.from <ℤ c.args.to = omega (arith, ints) in
    let t : c.args.inside ≡ true = search rules in
    rw c.in_ok-push-2.ensures.items (simp to_z-of_z (grows_beyond c.args.out.now.items k d c.args.from c.args.to c.args.inside t count less' some c.requires.runs))

pub returns : goal.returns
returns c =
    let f2 : SFits w64 c.args.to = search rules in
    let d : Span = record { x1 = pos 0; x2 = pos 0 } in
    let k = c.len-count.result - 1 in
    let count : k + 1 ≡ length c.args.out.now.items = omega (arith, c.args.out.now.ok.0) in
    let read : c.index.result.now ≡ get_or c.args.out.now.items k d = get_or_read c.args.out.now.items k c.index.result.now (omega arith) c.index.ensures d in
    let read' : c.index_mut.result.now ≡ get_or c.args.out.now.items k d = get_or_read c.args.out.now.items k c.index_mut.result.now (omega arith) c.index_mut.ensures.value d in
    let meets : c.args.from ≤ℤ c.index.result.now.x2 = omega (arith, ints) in
    let meets' : c.args.from ≤ℤ (get_or c.args.out.now.items k d).x2 = subst (λ (s : Span). c.args.from ≤ℤ s.x2) read meets in
    let some : c.args.from <ℤ c.args.to = omega (arith, ints) in
    let t : c.args.inside ≡ true = search rules in
    simp (to_z-of_z, read') (grows_wider c.args.out.now.items k d c.args.from c.args.to c.args.inside t count meets' some c.requires.runs)
