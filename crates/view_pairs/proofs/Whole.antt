-- Each node of both circuits stands in one row of a proposal.
use Rattle.std.proofs.Common.{◌≡◌, ◌∙◌, ℕ, zero, suc, ◌+◌, ◌<◌, Bool, true, false, List, [], ◌∷◌, ◌++◌, Option, Some, None, length, map, slice_get, take, if◌then◌else◌, refl, sym, ap, subst, arith, append-nil}
use Rattle.std.proofs.lemmas.Option.{slice_get_within}
use Rattle.std.specs.List.{range_with_len}
use Rattle.std.specs.List.Sorted.{IsPermutation}
use Rattle.std.proofs.lemmas.List.Sorted.{IsPermutation-refl}
use Rattle.plain_netlist.specs.Netlist.{Circuit}
use Rattle.view_cross.specs.Laws.{is_kind, numbers, with_number}
use Rattle.view_cross.specs.Matched.{right_alone}
use Rattle.view_cross.specs.Whole.{AreOnce, AreWhole, HasEachOnce, IsWhole, counts_of}
use Rattle.view_cross.specs.declared.rows.Kind.{Kind}
use Rattle.view_cross.specs.declared.rows.Kind.TheVariants.{Net, Pin, Device, Call}
use Rattle.view_cross.specs.declared.rows.Mark.{Mark}
use Rattle.view_cross.specs.declared.rows.Row.{Row}
use Rattle.view_pairs.specs.Partners.{ArePartners, chosen}
use Rattle.view_pairs.specs.Proposals.{AreProposed, IsProposal, asked_at}
use Rattle.view_pairs.specs.Rows.{Asked, entry_row, kind_rows, left_rows, mark_at, proposal_rows}
use Rattle.view_pairs.specs.declared.partners.Partner.{Partner}
use Rattle.view_pairs.specs.declared.partners.Partners.{Partners}
use Rattle.view_pairs.specs.declared.proposal.Proposal.{Proposal}

with_more : (o : Option ℕ) (ms ns : List ℕ) → with_number o (ms ++ ns) ≡ with_number o ms ++ ns
with_more None ms ns = refl
with_more (Some n) ms ns = refl

pick : (b : Bool) (o : Option ℕ) (all ms ns : List ℕ) → all ≡ ms ++ ns
    → (if b then with_number o all else all) ≡ (if b then with_number o ms else ms) ++ ns
pick true o all ms ns e = ap (with_number o) e ∙ with_more o ms ns
pick false o all ms ns e = e

numbers_append : (side : Row → Option ℕ) (kind : Kind) (xs ys : List Row) → numbers side kind (xs ++ ys) ≡ numbers side kind xs ++ numbers side kind ys
numbers_append side kind [] ys = refl
numbers_append side kind (r ∷ xs) ys =
    pick (is_kind r.kind kind) (side r) (numbers side kind (xs ++ ys)) (numbers side kind xs) (numbers side kind ys) (numbers_append side kind xs ys)

keep : (b : Bool) (o : Option ℕ) (ms : List ℕ) → b ≡ true → (if b then with_number o ms else ms) ≡ with_number o ms
keep true o ms e = refl
keep false o ms e = absurd (let f : false ≡ true = e in cc)

skip : (b : Bool) (o : Option ℕ) (ms : List ℕ) → b ≡ false → (if b then with_number o ms else ms) ≡ ms
skip false o ms e = refl
skip true o ms e = absurd (let f : true ≡ false = e in cc)

own_kind : (kind : Kind) → is_kind kind kind ≡ true
own_kind Net = refl
own_kind Pin = refl
own_kind Device = refl
own_kind Call = refl

-- the left nodes' rows
left_of : (mark : ℕ → Partner → Mark) (kind : Kind) (k : ℕ) (xs : List (Option Partner))
    → numbers (λ r. r.left) kind (left_rows mark kind k xs) ≡ range_with_len k (length xs)
left_of mark kind k [] = refl
left_of mark kind k (None ∷ xs) =
    keep (is_kind kind kind) (Some k) (numbers (λ r. r.left) kind (left_rows mark kind (k + 1) xs)) (own_kind kind)
    ∙ ap (λ (ns : List ℕ). k ∷ ns) (left_of mark kind (k + 1) xs)
left_of mark kind k (Some p ∷ xs) =
    keep (is_kind kind kind) (Some k) (numbers (λ r. r.left) kind (left_rows mark kind (k + 1) xs)) (own_kind kind)
    ∙ ap (λ (ns : List ℕ). k ∷ ns) (left_of mark kind (k + 1) xs)

right_of : (mark : ℕ → Partner → Mark) (kind : Kind) (k : ℕ) (xs : List (Option Partner))
    → numbers (λ r. r.right) kind (left_rows mark kind k xs) ≡ chosen xs
right_of mark kind k [] = refl
right_of mark kind k (None ∷ xs) =
    keep (is_kind kind kind) None (numbers (λ r. r.right) kind (left_rows mark kind (k + 1) xs)) (own_kind kind)
    ∙ right_of mark kind (k + 1) xs
right_of mark kind k (Some p ∷ xs) =
    keep (is_kind kind kind) (Some p.number) (numbers (λ r. r.right) kind (left_rows mark kind (k + 1) xs)) (own_kind kind)
    ∙ ap (λ (ns : List ℕ). p.number ∷ ns) (right_of mark kind (k + 1) xs)

other_of : (side : Row → Option ℕ) (mark : ℕ → Partner → Mark) (kind other : Kind) (k : ℕ) (xs : List (Option Partner)) → is_kind kind other ≡ false
    → numbers side other (left_rows mark kind k xs) ≡ []
other_of side mark kind other k [] e = refl
other_of side mark kind other k (None ∷ xs) e =
    skip (is_kind kind other) (side (entry_row mark kind k None)) (numbers side other (left_rows mark kind (k + 1) xs)) e
    ∙ other_of side mark kind other (k + 1) xs e
other_of side mark kind other k (Some p ∷ xs) e =
    skip (is_kind kind other) (side (entry_row mark kind k (Some p))) (numbers side other (left_rows mark kind (k + 1) xs)) e
    ∙ other_of side mark kind other (k + 1) xs e

-- the rows of the right nodes without a partner
free_left : (kind : Kind) (ns : List ℕ) → numbers (λ r. r.left) kind (map (right_alone kind) ns) ≡ []
free_left kind [] = refl
free_left kind (n ∷ ns) =
    keep (is_kind kind kind) None (numbers (λ r. r.left) kind (map (right_alone kind) ns)) (own_kind kind) ∙ free_left kind ns

free_right : (kind : Kind) (ns : List ℕ) → numbers (λ r. r.right) kind (map (right_alone kind) ns) ≡ ns
free_right kind [] = refl
free_right kind (n ∷ ns) =
    keep (is_kind kind kind) (Some n) (numbers (λ r. r.right) kind (map (right_alone kind) ns)) (own_kind kind)
    ∙ ap (λ (ms : List ℕ). n ∷ ms) (free_right kind ns)

free_other : (side : Row → Option ℕ) (kind other : Kind) (ns : List ℕ) → is_kind kind other ≡ false → numbers side other (map (right_alone kind) ns) ≡ []
free_other side kind other [] e = refl
free_other side kind other (n ∷ ns) e =
    skip (is_kind kind other) (side (right_alone kind n)) (numbers side other (map (right_alone kind) ns)) e ∙ free_other side kind other ns e

-- those of a kind, and none of another
kind_left : (q : Asked) (kind : Kind) (x : Partners) → numbers (λ r. r.left) kind (kind_rows q kind x) ≡ range_with_len 0 (length x.lefts.items)
kind_left q kind x =
    numbers_append (λ r. r.left) kind (left_rows (mark_at q kind) kind 0 x.lefts.items) (map (right_alone kind) x.free.items)
    ∙ ap (λ (ns : List ℕ). numbers (λ r. r.left) kind (left_rows (mark_at q kind) kind 0 x.lefts.items) ++ ns) (free_left kind x.free.items)
    ∙ append-nil (numbers (λ r. r.left) kind (left_rows (mark_at q kind) kind 0 x.lefts.items))
    ∙ left_of (mark_at q kind) kind 0 x.lefts.items

kind_right : (q : Asked) (kind : Kind) (x : Partners) → numbers (λ r. r.right) kind (kind_rows q kind x) ≡ chosen x.lefts.items ++ x.free.items
kind_right q kind x =
    numbers_append (λ r. r.right) kind (left_rows (mark_at q kind) kind 0 x.lefts.items) (map (right_alone kind) x.free.items)
    ∙ ap (λ (ns : List ℕ). numbers (λ r. r.right) kind (left_rows (mark_at q kind) kind 0 x.lefts.items) ++ ns) (free_right kind x.free.items)
    ∙ ap (λ (ns : List ℕ). ns ++ x.free.items) (right_of (mark_at q kind) kind 0 x.lefts.items)

kind_other : (side : Row → Option ℕ) (q : Asked) (kind other : Kind) (x : Partners) → is_kind kind other ≡ false → numbers side other (kind_rows q kind x) ≡ []
kind_other side q kind other x e =
    numbers_append side other (left_rows (mark_at q kind) kind 0 x.lefts.items) (map (right_alone kind) x.free.items)
    ∙ ap (λ (ns : List ℕ). numbers side other (left_rows (mark_at q kind) kind 0 x.lefts.items) ++ ns) (free_other side kind other x.free.items e)
    ∙ ap (λ (ns : List ℕ). ns ++ []) (other_of side (mark_at q kind) kind other 0 x.lefts.items e)

split : (side : Row → Option ℕ) (kind : Kind) (a b c d : List Row)
    → numbers side kind (a ++ (b ++ (c ++ d))) ≡ numbers side kind a ++ (numbers side kind b ++ (numbers side kind c ++ numbers side kind d))
split side kind a b c d =
    numbers_append side kind a (b ++ (c ++ d))
    ∙ ap (λ (ns : List ℕ). numbers side kind a ++ ns) (numbers_append side kind b (c ++ d))
    ∙ ap (λ (ns : List ℕ). numbers side kind a ++ (numbers side kind b ++ ns)) (numbers_append side kind c d)

-- four lists of which one has numbers
only : (ks ls ms ns ws xs ys zs : List ℕ) → ks ≡ ws → ls ≡ xs → ms ≡ ys → ns ≡ zs → ks ++ (ls ++ (ms ++ ns)) ≡ ws ++ (xs ++ (ys ++ zs))
only ks ls ms ns ws xs ys zs e f g h =
    ap (λ (vs : List ℕ). vs ++ (ls ++ (ms ++ ns))) e ∙ ap (λ (vs : List ℕ). ws ++ (vs ++ (ms ++ ns))) f
    ∙ ap (λ (vs : List ℕ). ws ++ (xs ++ (vs ++ ns))) g ∙ ap (λ (vs : List ℕ). ws ++ (xs ++ (ys ++ vs))) h

-- the numbers of each kind in all rows, by those of its own rows
all_nets : (side : Row → Option ℕ) (q : Asked) (ns : List ℕ) → numbers side Net (kind_rows q Net q.proposal.nets) ≡ ns → numbers side Net (proposal_rows q) ≡ ns
all_nets side q ns e =
    split side Net (kind_rows q Net q.proposal.nets) (kind_rows q Pin q.proposal.pins) (kind_rows q Device q.proposal.devices) (kind_rows q Call q.proposal.calls)
    ∙ only (numbers side Net (kind_rows q Net q.proposal.nets)) (numbers side Net (kind_rows q Pin q.proposal.pins)) (numbers side Net (kind_rows q Device q.proposal.devices))
    (numbers side Net (kind_rows q Call q.proposal.calls)) ns [] [] [] e
    (kind_other side q Pin Net q.proposal.pins refl) (kind_other side q Device Net q.proposal.devices refl) (kind_other side q Call Net q.proposal.calls refl)
    ∙ append-nil ns

all_pins : (side : Row → Option ℕ) (q : Asked) (ns : List ℕ) → numbers side Pin (kind_rows q Pin q.proposal.pins) ≡ ns → numbers side Pin (proposal_rows q) ≡ ns
all_pins side q ns e =
    split side Pin (kind_rows q Net q.proposal.nets) (kind_rows q Pin q.proposal.pins) (kind_rows q Device q.proposal.devices) (kind_rows q Call q.proposal.calls)
    ∙ only (numbers side Pin (kind_rows q Net q.proposal.nets)) (numbers side Pin (kind_rows q Pin q.proposal.pins)) (numbers side Pin (kind_rows q Device q.proposal.devices))
    (numbers side Pin (kind_rows q Call q.proposal.calls)) [] ns [] [] (kind_other side q Net Pin q.proposal.nets refl) e
    (kind_other side q Device Pin q.proposal.devices refl) (kind_other side q Call Pin q.proposal.calls refl)
    ∙ append-nil ns

all_devices : (side : Row → Option ℕ) (q : Asked) (ns : List ℕ) → numbers side Device (kind_rows q Device q.proposal.devices) ≡ ns → numbers side Device (proposal_rows q) ≡ ns
all_devices side q ns e =
    split side Device (kind_rows q Net q.proposal.nets) (kind_rows q Pin q.proposal.pins) (kind_rows q Device q.proposal.devices) (kind_rows q Call q.proposal.calls)
    ∙ only (numbers side Device (kind_rows q Net q.proposal.nets)) (numbers side Device (kind_rows q Pin q.proposal.pins)) (numbers side Device (kind_rows q Device q.proposal.devices))
    (numbers side Device (kind_rows q Call q.proposal.calls)) [] [] ns [] (kind_other side q Net Device q.proposal.nets refl) (kind_other side q Pin Device q.proposal.pins refl) e
    (kind_other side q Call Device q.proposal.calls refl)
    ∙ append-nil ns

all_calls : (side : Row → Option ℕ) (q : Asked) (ns : List ℕ) → numbers side Call (kind_rows q Call q.proposal.calls) ≡ ns → numbers side Call (proposal_rows q) ≡ ns
all_calls side q ns e =
    split side Call (kind_rows q Net q.proposal.nets) (kind_rows q Pin q.proposal.pins) (kind_rows q Device q.proposal.devices) (kind_rows q Call q.proposal.calls)
    ∙ only (numbers side Call (kind_rows q Net q.proposal.nets)) (numbers side Call (kind_rows q Pin q.proposal.pins)) (numbers side Call (kind_rows q Device q.proposal.devices))
    (numbers side Call (kind_rows q Call q.proposal.calls)) [] [] [] ns (kind_other side q Net Call q.proposal.nets refl) (kind_other side q Pin Call q.proposal.pins refl)
    (kind_other side q Device Call q.proposal.devices refl) e

-- the left ones in order
once_left : (n : ℕ) (ns : List ℕ) (x : Partners) → length x.lefts.items ≡ n → ns ≡ range_with_len 0 (length x.lefts.items) → AreOnce n ns
once_left n ns x count e =
    subst (λ (zs : List ℕ). IsPermutation (range_with_len 0 n) zs) (sym (e ∙ ap (range_with_len 0) count)) (IsPermutation-refl (range_with_len 0 n))

once_right : (n m : ℕ) (ns : List ℕ) (x : Partners) → ArePartners n m x → ns ≡ chosen x.lefts.items ++ x.free.items → AreOnce m ns
once_right n m ns x h e = subst (λ (zs : List ℕ). IsPermutation (range_with_len 0 m) zs) (sym e) h.rights

lefts_whole : (q : Asked) → IsProposal q.left q.right q.proposal → HasEachOnce (λ r. r.left) (counts_of q.left) (proposal_rows q)
lefts_whole q h =
    let x = q.proposal in
    let side : Row → Option ℕ = λ r. r.left in
    record {
      nets = once_left (length q.left.nets) (numbers side Net (proposal_rows q)) x.nets h.nets.count (all_nets side q (range_with_len 0 (length x.nets.lefts.items)) (kind_left q Net x.nets));
      pins = once_left (length q.left.pins) (numbers side Pin (proposal_rows q)) x.pins h.pins.count (all_pins side q (range_with_len 0 (length x.pins.lefts.items)) (kind_left q Pin x.pins));
      devices = once_left (length q.left.devices) (numbers side Device (proposal_rows q)) x.devices h.devices.count
          (all_devices side q (range_with_len 0 (length x.devices.lefts.items)) (kind_left q Device x.devices));
      calls = once_left (length q.left.calls) (numbers side Call (proposal_rows q)) x.calls h.calls.count (all_calls side q (range_with_len 0 (length x.calls.lefts.items)) (kind_left q Call x.calls));
    }

rights_whole : (q : Asked) → IsProposal q.left q.right q.proposal → HasEachOnce (λ r. r.right) (counts_of q.right) (proposal_rows q)
rights_whole q h =
    let x = q.proposal in
    let side : Row → Option ℕ = λ r. r.right in
    record {
      nets = once_right (length q.left.nets) (length q.right.nets) (numbers side Net (proposal_rows q)) x.nets h.nets
          (all_nets side q (chosen x.nets.lefts.items ++ x.nets.free.items) (kind_right q Net x.nets));
      pins = once_right (length q.left.pins) (length q.right.pins) (numbers side Pin (proposal_rows q)) x.pins h.pins
          (all_pins side q (chosen x.pins.lefts.items ++ x.pins.free.items) (kind_right q Pin x.pins));
      devices = once_right (length q.left.devices) (length q.right.devices) (numbers side Device (proposal_rows q)) x.devices h.devices
          (all_devices side q (chosen x.devices.lefts.items ++ x.devices.free.items) (kind_right q Device x.devices));
      calls = once_right (length q.left.calls) (length q.right.calls) (numbers side Call (proposal_rows q)) x.calls h.calls
          (all_calls side q (chosen x.calls.lefts.items ++ x.calls.free.items) (kind_right q Call x.calls));
    }

-- the rows of a pair have each node of both circuits once
pub rows_whole : (q : Asked) → IsProposal q.left q.right q.proposal → IsWhole (counts_of q.left) (counts_of q.right) (proposal_rows q)
rows_whole q h = record { lefts = lefts_whole q h; rights = rights_whole q h }

at_within : (xs : List Proposal) (k : ℕ) → k < length xs → (x : Proposal) × (slice_get xs k ≡ Some x)
at_within [] k h = absurd (omega arith)
at_within (x ∷ xs) zero h = (x, refl)
at_within (x ∷ xs) (suc k) h = at_within xs k (omega arith)

-- so have those of all pairs
pub all_whole : (lefts rights : List Circuit) (same : Bool) (lists : List (List Row)) → AreProposed lefts rights same lists → AreWhole lefts rights lists
all_whole lefts rights same lists h k a b rows l r at =
    let lt : k < length lefts = slice_get_within lefts k a l in
    let found = at_within h.proposals k (subst (λ (n : ℕ). k < n) (sym h.all) lt) in
    let q = asked_at same (length lefts) k a b (take k h.proposals) found.0 in
    let e : Some (proposal_rows q) ≡ Some rows = sym (h.shown.shown k a b found.0 l r found.1) ∙ at in
    let same_rows : proposal_rows q ≡ rows = cc in
    subst (λ (rs : List Row). IsWhole (counts_of a) (counts_of b) rs) same_rows (rows_whole q (h.shown.sound k a b found.0 l r found.1))
