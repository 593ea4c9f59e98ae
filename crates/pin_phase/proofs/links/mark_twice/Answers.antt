use Rattle.std.proofs.Common.{◌≡◌, ◌<◌, ◌∙◌, ◌+◌, ◌++◌, ◌&&◌, ◌||◌, ◌==◌, ℕ, Bool, true, false, List, drop, take, get_or, length, sym, ap, subst, arith}
use Rattle.std.proofs.lemmas.Option.{slice_get-get_or}
use Rattle.gate_phase.proofs.Marking.{written}
use Rattle.net_phase.proofs.Listing.{any_default}
use Rattle.pin_phase.proofs.Twice.{AreTwiceTo, twice_more}
use Rattle.pin_phase.proofs.links.mark_twice.Goals as goal

pub loop-net-preserved : goal.loop-net-preserved
loop-net-preserved c =
    let net_of = c.args.net_of.now in let n = c.loop-net.net-index in
    let y = get_or net_of n 0 in
    let old = c.loop-net.seen.items in
    let new = c.mark_if-in-loop-net.new.marks in
    let size = c.loop-net.seen.ok.0 in
    let lt : n < length net_of = omega arith in
    let under = c.requires n y (slice_get-get_or net_of n 0 lt) in
    let seen = c.loop-net.invariant.long in
    let want : c.index.result.now ≡ get_or old y false = c.index.ensures ∙ any_default old y c.index.result.now false (omega (arith, under, seen)) in
    let long : length new ≡ length old = c.mark_if-in-loop-net.ensures.count ∙ ap (λ (l : List Bool). length l) c.deref_mut.ensures.value in
    let whole : take c.loop-net.seen.len (new ++ drop (length new) old) ≡ new = written new (drop (length new) old) c.loop-net.seen.len (omega (arith, long, size)) in
    let now : (x : ℕ) → get_or new x false ≡ ((true && (x == y)) || get_or old x false) = λ x. c.mark_if-in-loop-net.ensures.marked x ∙ ap (λ (l : List Bool). (true && (x == y)) || get_or l x false) c.deref_mut.ensures.value in
    subst (λ (l : List Bool). AreTwiceTo c.args.marks.now net_of (n + 1) l c.mark_if.new.marks) (sym whole)
    (twice_more c.args.marks.now old c.loop-net.marks new c.mark_if.new.marks net_of n y c.index.result.now lt (any_default net_of n 0 y lt) want c.mark_if.ensures.count c.mark_if.ensures.marked long now c.loop-net.invariant)
