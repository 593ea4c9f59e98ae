use Rattle.spice_cards.proofs.TokenLemmas.{turn}
use Rattle.spice_cards.proofs.tokens.take_tokens.Goals as goal

pub loop-rest-preserved : goal.loop-rest-preserved
loop-rest-preserved c =
    turn _ _ _ c.loop-rest.rest.now c.in_ok-width.width c.loop-rest-test.true c.in_ok-width.ensures.some c.in_ok-width.ensures.within c.in_ok-width.ensures.tokens c.in_ok-width.ensures.width c.loop-rest.invariant
