use Rattle.std.proofs.Common.{◌≡◌, ◌<◌, ◌+◌, ◌-◌, ℕ, Option, Some, cond, length, bytes_eq, subst, ◌∙◌, ap, arith}
use Rattle.std.specs.HashMap.{get}
use Rattle.refine_match.specs.Namesakes.{AreFirsts, is_same_name, name_of}
use Rattle.refine_match.proofs.Named.{first_more, name_read}
use Rattle.refine_match.proofs.namesakes.first_nets.Goals as goal

pub loop-k-preserved : goal.loop-k-preserved
loop-k-preserved c =
    let circuit = c.args.circuit.now in
    let all = length circuit.nets.items in
    let long : c.len-count.result ≡ all = c.len-count.ensures ∙ circuit.nets.ok.0 in
    let inside : c.loop-k.k < c.len-count.result = c.loop-k-test.true in
    let n : ℕ = all - (c.loop-k.k + 1) in
    let at : c.len-count.result - 1 - c.loop-k.k ≡ n = omega arith in
    let before : all - c.loop-k.k ≡ n + 1 = omega arith in
    let low : n < all = omega arith in
    let old = get is_same_name c.loop-k.firsts in
    first_more circuit n c.bytes.result old (get is_same_name c.insert.new.self)
    (subst (λ (m : ℕ). AreFirsts circuit m old) before c.loop-k.invariant) low
    (c.bytes.ensures.same ∙ (name_read circuit.nets.items (c.len-count.result - 1 - c.loop-k.k) c.index.result.now (omega arith) c.index.ensures ∙ ap (name_of circuit) at))
    (λ q. c.in_ok-insert.ensures.updates.0 q ∙ ap (λ (i : ℕ). cond {A = Option ℕ} (bytes_eq c.bytes.result.now q.now) (Some i) (old q)) at)
