-- The row of a guess.
use Rattle.std.proofs.Common.{◌≡◌, inl, inr, ℕ, suc, ◌+◌, ◌≤◌, List, [], ◌∷◌, length, refl, sym, subst, ◌∙◌, ap, ap₂, arith}
use Rattle.std.proofs.lemmas.List.{length-append}
use Rattle.plain_netlist.specs.Lists.{IsListed}
use Rattle.round_laws.specs.Web.{under}
use Rattle.round_laws.specs.Nodes.{Node, Side, Kind, Layout, Schematic}
use Rattle.round_laws.specs.Guesses.{Outcome, Row, candidates}
use Rattle.round_laws.proofs.Guesses.{of_filter}
use Rattle.match_laws.specs.Circuits.{Pair, node, web_of}
use Rattle.match_laws.proofs.Images.{nodes_there}
use Rattle.match_types.specs.declared.answer.Guess.{Guess as Try}
use Rattle.match_types.specs.declared.answer.GuessEnd.{GuessEnd}
use Rattle.match_types.specs.declared.answer.Node.{Node as Told}
use Rattle.match_types.specs.Plain.{plain_end, plain_node, plain_side, plain_kind, row_of}
use Rattle.match_graph.specs.declared.graph.Graph.{Graph}
use Rattle.match_graph.specs.Graph.{IsNumbered, left_of}
use Rattle.match_graph.proofs.Placed.{index-injective}
use Rattle.refine_match.specs.declared.candidates.Candidate.{Candidate}
use Rattle.refine_match.specs.declared.searching.Level.{Level}
use Rattle.refine_match.specs.declared.searching.Search.{Search}
use Rattle.refine_match.specs.Candidates.{IsHead, is_behind, rank_in, remaining}
use Rattle.refine_match.specs.Searching.{setting_in, IsGuessing, IsSearchOf, guess_row}
use Rattle.refine_match.proofs.Members.{candidate_agrees, one_kind}
use Rattle.refine_match.proofs.Stages.{guess_count}
use Rattle.refine_match.proofs.Steps.{left_here, right_here}
use Rattle.refine_match.proofs.Told.{told_count}

-- a row by its nodes
same_row : (depth : ℕ) (a b x y : Node) (o : Outcome) (d : ℕ) → d ≡ depth → x ≡ a → y ≡ b
    → ◌≡◌ {A = Row} record { depth = d; left = x; right = y; outcome = o } record { depth = depth; left = a; right = b; outcome = o }
same_row depth a b x y o d e f g =
    ap (λ (n : ℕ). let r : Row = record { depth = n; left = x; right = y; outcome = o } in r) e
    ∙ ap₂ (λ (u v : Node). let r : Row = record { depth = depth; left = u; right = v; outcome = o } in r) f g

-- the kind of a guess's nodes
pub same_kinds : (p : Pair) (g : Graph) (limit : ℕ) (ns : List (ℕ × ℕ)) (v : Level) (vs : List Level) (ts : List Try) (n : ℕ) (c : Candidate) (h : IsSearchOf p g limit ns v vs ts n)
    → (head : IsHead p h.stage.node v.last h.stage.tries c) → left_of g ≤ c.node → head.right.kind ≡ h.stage.node.kind
same_kinds p g limit ns v vs ts n c h head right =
    let l = h.stage in
    let among : IsListed head.right (remaining p l.node v.last l.tries) = subst (λ (xs : List Node). IsListed head.right xs) (sym head.is) (inl refl) in
    let listed : IsListed head.right l.tries = of_filter (λ b. is_behind v.last (rank_in p l.node b)) head.right l.tries among in
    let some : IsListed head.right (candidates (setting_in p limit) (under (web_of p) l.above) h.here.round l.node) = subst (λ (xs : List Node). IsListed head.right xs) h.here.tries listed in
    let agreed = candidate_agrees (setting_in p limit) (under (web_of p) l.above) h.here.round l.node head.right some in
    one_kind p l.above h.here.round l.node head.right (left_here p g limit ns v vs ts n h) (right_here p g limit ns v vs ts n c h head right) agreed.1

pub row_is : (p : Pair) (g : Graph) (s : Search) (c : Candidate) (h : IsGuessing p g s c) (depth : ℕ) (a b : Told) (e : GuessEnd)
    → depth ≡ length s.guesses.items → IsNumbered p s.level.node (plain_node a) → IsNumbered p c.node (plain_node b)
    → (let t : Try = record { depth = depth; kind = a.kind; left = a.number; right = b.number; end = e } in row_of t) ≡ guess_row h.search.above h.search.stage h.head.right (plain_end e)
row_is p g s c h depth a b e long na nb =
    let l = h.search.stage in
    let r = h.head.right in
    let here = left_here p g s.limit h.before s.level s.outer.items s.rows.items s.refuted h.search in
    let there = right_here p g s.limit h.before s.level s.outer.items s.rows.items s.refuted c h.search h.head h.right in
    let kinds = same_kinds p g s.limit h.before s.level s.outer.items s.rows.items s.refuted c h.search h.head h.right in
    let ea : plain_node a ≡ l.node = index-injective p (plain_node a) l.node na.node (inl here) (na.index ∙ sym h.search.here.node) in
    let eb : plain_node b ≡ r = index-injective p (plain_node b) r nb.node (inr there) (nb.index ∙ sym h.head.numbered.index) in
    let sa : Layout ≡ plain_side a.side = sym (ap (λ (x : Node). x.side) ea ∙ (nodes_there p Layout l.node here).stands) in
    let sb : Schematic ≡ plain_side b.side = sym (ap (λ (x : Node). x.side) eb ∙ (nodes_there p Schematic r there).stands) in
    let kb : plain_kind a.kind ≡ plain_kind b.kind = ap (λ (x : Node). x.kind) ea ∙ (sym kinds ∙ sym (ap (λ (x : Node). x.kind) eb)) in
    let count : length s.guesses.items ≡ length h.before + 1 = ap length h.guesses_are ∙ length-append h.before ((s.level.node, c.node) ∷ []) in
    let told = told_count p g h.before l.above h.search.told in
    let stages = guess_count (setting_in p s.limit) h.search.first l h.search.above h.search.stack h.search.begins.above in
    same_row (suc (length h.search.above)) l.node r (node Layout (plain_kind a.kind) a.number) (node Schematic (plain_kind a.kind) b.number) (plain_end e) depth
    (omega arith)
    (ap (λ (x : Side). node x (plain_kind a.kind) a.number) sa ∙ ea)
    (ap₂ (λ (x : Side) (k : Kind). node x k b.number) sb kb ∙ eb)
