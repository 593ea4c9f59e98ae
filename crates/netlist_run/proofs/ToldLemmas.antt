-- All that is told, piece behind piece.
use Rattle.std.proofs.Common.{◌≡◌, ℕ, List, [], ◌++◌, ap, ◌∙◌, append_assoc}
use Rattle.netlist_run.specs.Sums.{Sums, names_text, counts_text}

-- the counts, and what stands behind them
abbrev pub tail : ℕ → Sums → List ℕ → List ℕ
tail comments s written = names_text s ++ (counts_text comments s ++ written)

pub told_is : (comments : ℕ) (title scale written : List ℕ) (s t : Sums) (titled carded sized told cards : List ℕ) → s ≡ t → titled ≡ [] ++ title → cards ≡ s.cards → carded ≡ titled ++ cards
    → sized ≡ carded ++ scale → told ≡ sized ++ tail comments s written → told ≡ title ++ (t.cards ++ (scale ++ tail comments t written))
told_is comments title scale written s t titled carded sized told cards e first are then by last =
    let both : carded ≡ title ++ s.cards = then ∙ ap (λ (x : List ℕ). x ++ cards) first ∙ ap (λ (x : List ℕ). title ++ x) are in
    let all : sized ≡ (title ++ s.cards) ++ scale = by ∙ ap (λ (x : List ℕ). x ++ scale) both in
    last ∙ ap (λ (x : List ℕ). x ++ tail comments s written) all ∙ append_assoc (title ++ s.cards) scale (tail comments s written)
    ∙ append_assoc title s.cards (scale ++ tail comments s written)
    ∙ ap (λ (x : Sums). title ++ (x.cards ++ (scale ++ tail comments x written))) e
