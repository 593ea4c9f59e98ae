use Rattle.std.proofs.Common.{Global, Vec, ◌≡◌, ◌<◌, ◌++◌, ℕ, List, length, ap, ◌∙◌, arith}
use Rattle.pin_phase.proofs.Ordered.{commas_all, commas_first, commas_more}
use Rattle.pin_phase.proofs.bases.joined.Goals as goal
use Rattle.pin_phase.proofs.bases.joined.Goals.{then-i-gt0+in_ok-push, else-i-gt0}

pub loop-i-preserved : goal.loop-i-preserved
loop-i-preserved c =
    let xs = c.args.tags.now in
    let i = c.loop-i.i in
    let lt : i < length xs = omega arith in
    let tag = c.index-tags-i.result in
    let new : c.extend_from_slice.new.self.items ≡ c.if-i-gt0.text.items ++ tag = c.in_ok-extend_from_slice.ensures.items ∙ ap (λ (r : List ℕ). c.if-i-gt0.text.items ++ r) c.bytes.ensures in
    elim c.if-i-gt0.branch [
      | then-i-gt0+in_ok-push w ↦ commas_more xs i tag c.loop-i.text.items c.extend_from_slice.new.self.items lt (omega arith) c.index-tags-i.is c.loop-i.invariant
          (new ∙ ap (λ (t : Vec ℕ Global). t.items ++ tag) w.text-is ∙ ap (λ (r : List ℕ). r ++ tag) w.in_ok-push.ensures.items)
      | else-i-gt0 w ↦ commas_first xs i tag c.loop-i.text.items c.extend_from_slice.new.self.items lt (λ h. omega arith) c.index-tags-i.is c.loop-i.invariant
          (new ∙ ap (λ (t : Vec ℕ Global). t.items ++ tag) w.text-is)
    ]

pub returns : goal.returns
returns c = c.loop-i.invariant ∙ commas_all c.args.tags.now c.loop-i.i (omega arith)
