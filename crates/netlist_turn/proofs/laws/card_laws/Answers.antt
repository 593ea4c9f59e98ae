use Rattle.netlist_turn.proofs.CardText.{card_text_is, card_tokens_is}
use Rattle.netlist_turn.proofs.laws.card_laws.Goals as goal

pub returns-clause-text : goal.returns-clause-text
returns-clause-text c = card_text_is

pub returns-clause-tokens : goal.returns-clause-tokens
returns-clause-tokens c = card_tokens_is
