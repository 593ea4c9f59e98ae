use Rattle.script_lexis.proofs.TokenLemmas.{turn, length_kept}
use Rattle.script_lexis.proofs.tokens.read_script.Goals as goal

pub loop-rest-preserved : goal.loop-rest-preserved
loop-rest-preserved c =
    let h = c.in_ok-width in (
      turn c.loop-rest.at c.loop-rest.spaced h.spacing _ _ _ c.loop-rest.rest.now h.width c.loop-rest-test.true h.ensures.some h.ensures.within h.ensures.tokens h.ensures.width h.ensures.spacing c.loop-rest.invariant.0,
      length_kept c.loop-rest.at h.width _ c.loop-rest.rest.now h.ensures.within c.loop-rest.invariant.1,
    )
