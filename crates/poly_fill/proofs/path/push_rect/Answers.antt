use Rattle.std.proofs.Common.{ap, ◌∙◌, sym, ◌++◌, ◌∷◌, []}
use Rattle.std.proofs.lemmas.List.Elements.{All-same, All-push}
use Rattle.geo_base.specs.Rects.{IsRect}
use Rattle.rect_sets.specs.Rects.{covers}
use Rattle.poly_fill.proofs.Widened.{covers_push, no_squares, or_none}
use Rattle.poly_fill.proofs.path.push_rect.Goals as goal

pub returns-in_ok-push-clause-sound : goal.returns-in_ok-push-clause-sound
returns-in_ok-push-clause-sound c =
    All-same IsRect c.push.new.self.items (c.args.rects.now.items ++ c.args.r ∷ []) c.in_ok-push.ensures.items
    (All-push IsRect c.args.rects.now.items c.args.r c.requires (c.is_rect.ensures.rect.0 c.if-is_rect.true))

pub returns-in_ok-push-clause-covers : goal.returns-in_ok-push-clause-covers
returns-in_ok-push-clause-covers c = λ s. ap (λ q. covers q s) c.in_ok-push.ensures.items ∙ covers_push c.args.rects.now.items c.args.r s

pub returns-else-is_rect-clause-covers : goal.returns-else-is_rect-clause-covers
returns-else-is_rect-clause-covers c = λ s. or_none _ _ (no_squares c.args.r s (sym c.is_rect.ensures.exact ∙ c.if-is_rect.false))
