-- Pairs one after another.
use Rattle.std.proofs.Common.{◌≡◌, ◌⊎◌, inl, inr, ◌∙◌, ℕ, zero, suc, ◌+◌, ◌<◌, ◌≤◌, Bool, List, [], ◌∷◌, ◌++◌, Some, None, length, get_or, map, slice_get, take, refl, sym, ap, subst, arith}
use Rattle.base_laws.proofs.Items.{get_left, get_last}
use Rattle.match_types.specs.declared.answer.Answer.{Answer}
use Rattle.plain_netlist.specs.Netlist.{Circuit}
use Rattle.view_cross.specs.declared.rows.Row.{Row}
use Rattle.view_pairs.specs.Proposals.{AreProposed, AreShown, IsProposal, asked_at, is_told}
use Rattle.view_pairs.specs.Added.{AddsPair, rows_in}
use Rattle.view_pairs.specs.Rows.{asked, proposal_rows}
use Rattle.view_pairs.specs.declared.pairs.Proposed.{Proposed}
use Rattle.net_model.specs.Rows.{plain_circuit}
use Rattle.net_model.specs.declared.netlist.Circuit.{Circuit as Row_circuit}
use Rattle.std.specs.Option.{option_map}
use Rattle.std.proofs.lemmas.Option.{slice_get-map, slice_get-get_or}
use Rattle.std.proofs.lemmas.List.{length-map, map-append}
use Rattle.std.specs.Global.{Vec}
use Rattle.view_pairs.specs.declared.proposal.Proposal.{Proposal}

pub get_snoc : {T : Type 0} (xs : List T) (x : T) (j : ℕ) (y : T) → slice_get (xs ++ x ∷ []) j ≡ Some y
    → ((slice_get xs j ≡ Some y) × (j < length xs)) ⊎ ((j ≡ length xs) × (x ≡ y))
get_snoc [] x zero y h = inr (refl, (let e : Some x ≡ Some y = h in cc))
get_snoc [] x (suc j) y h = absurd (let e : None ≡ Some y = h in cc)
get_snoc (z ∷ zs) x zero y h = inl (h, omega arith)
get_snoc (z ∷ zs) x (suc j) y h =
    elim (get_snoc zs x j y h) [ inl w ↦ inl (w.0, (let l = w.1 in omega arith)) | inr w ↦ inr (ap suc w.0, w.1) ]

pub take_before : {T : Type 0} (xs zs : List T) (j : ℕ) → j ≤ length xs → take j (xs ++ zs) ≡ take j xs
take_before {T} xs zs zero h = refl
take_before {T} [] zs (suc j) h = absurd (omega arith)
take_before {T} (x ∷ xs) zs (suc j) h = ap (λ (ys : List T). x ∷ ys) (take_before xs zs j (omega arith))

pub take_whole : {T : Type 0} (xs zs : List T) → take (length xs) (xs ++ zs) ≡ xs
take_whole {T} [] zs = refl
take_whole {T} (x ∷ xs) zs = ap (λ (ys : List T). x ∷ ys) (take_whole xs zs)

snoc_length : {T : Type 0} (xs : List T) (x : T) → length (xs ++ x ∷ []) ≡ suc (length xs)
snoc_length [] x = refl
snoc_length (y ∷ ys) x = ap suc (snoc_length ys x)

-- one more pair
pub shown_on : (lefts rights : List Circuit) (same : Bool) (xs : List Proposal) (rows : List (List Row)) (k : ℕ) (a b : Circuit) (x : Proposal)
    → AreShown lefts rights same xs rows → length xs ≡ k → slice_get lefts k ≡ Some a → slice_get rights k ≡ Some b → IsProposal a b x
    → AreShown lefts rights same (xs ++ x ∷ []) (rows ++ proposal_rows (asked_at same (length lefts) k a b xs x) ∷ [])
shown_on lefts rights same xs rows k a b x old at left right sound =
    let fresh = proposal_rows (asked_at same (length lefts) k a b xs x) in
    record {
      long = snoc_length rows fresh ∙ ap suc old.long ∙ sym (snoc_length xs x);
      sound = λ j c d y l r h. elim (get_snoc xs x j y h) [
        | inl w ↦ old.sound j c d y l r w.0
        | inr w ↦ sound_at lefts rights k j a b c d x y at left right sound l r w.0 w.1
      ];
      shown = λ j c d y l r h. elim (get_snoc xs x j y h) [
        | inl w ↦
            let t : take j (xs ++ x ∷ []) ≡ take j xs = take_before xs (x ∷ []) j (let v = w.1 in omega arith) in
            subst (λ (ys : List Proposal). slice_get (rows ++ fresh ∷ []) j ≡ Some (proposal_rows (asked_at same (length lefts) j c d ys y))) (sym t)
            (get_left rows (fresh ∷ []) j (proposal_rows (asked_at same (length lefts) j c d (take j xs) y)) (old.shown j c d y l r w.0))
        | inr w ↦ shown_at lefts rights same xs rows k j a b c d x y old.long at left right l r w.0 w.1
      ];
    }
  where
    sound_at : (lefts rights : List Circuit) (k j : ℕ) (a b c d : Circuit) (x y : Proposal) → length xs ≡ k → slice_get lefts k ≡ Some a → slice_get rights k ≡ Some b
        → IsProposal a b x → slice_get lefts j ≡ Some c → slice_get rights j ≡ Some d → j ≡ length xs → x ≡ y → IsProposal c d y
    sound_at lefts rights k j a b c d x y at left right sound l r e f =
        let g : j ≡ k = e ∙ at in
        let p : a ≡ c = (let u : slice_get lefts k ≡ Some c = subst (λ (n : ℕ). slice_get lefts n ≡ Some c) g l in let v : Some a ≡ Some c = sym left ∙ u in cc) in
        let q : b ≡ d = (let u : slice_get rights k ≡ Some d = subst (λ (n : ℕ). slice_get rights n ≡ Some d) g r in let v : Some b ≡ Some d = sym right ∙ u in cc) in
        subst (λ (z : Proposal). IsProposal c d z) f (subst (λ (z : Circuit). IsProposal c z x) q (subst (λ (z : Circuit). IsProposal z b x) p sound))

    shown_at : (lefts rights : List Circuit) (same : Bool) (xs : List Proposal) (rows : List (List Row)) (k j : ℕ) (a b c d : Circuit) (x y : Proposal) → length rows ≡ length xs → length xs ≡ k
        → slice_get lefts k ≡ Some a → slice_get rights k ≡ Some b → slice_get lefts j ≡ Some c → slice_get rights j ≡ Some d → j ≡ length xs → x ≡ y
        → slice_get (rows ++ proposal_rows (asked_at same (length lefts) k a b xs x) ∷ []) j ≡ Some (proposal_rows (asked_at same (length lefts) j c d (take j (xs ++ x ∷ [])) y))
    shown_at lefts rights same xs rows k j a b c d x y long at left right l r e f =
        let g : k ≡ j = sym (e ∙ at) in
        let p : a ≡ c = (let u : slice_get lefts k ≡ Some c = subst (λ (n : ℕ). slice_get lefts n ≡ Some c) (sym g) l in let v : Some a ≡ Some c = sym left ∙ u in cc) in
        let q : b ≡ d = (let u : slice_get rights k ≡ Some d = subst (λ (n : ℕ). slice_get rights n ≡ Some d) (sym g) r in let v : Some b ≡ Some d = sym right ∙ u in cc) in
        let fresh = proposal_rows (asked_at same (length lefts) k a b xs x) in
        let i : length rows ≡ j = long ∙ sym e in
        let here : slice_get (rows ++ fresh ∷ []) j ≡ Some fresh = subst (λ (n : ℕ). slice_get (rows ++ fresh ∷ []) n ≡ Some fresh) i (get_last rows fresh) in
        let t : xs ≡ take j (xs ++ x ∷ []) = subst (λ (n : ℕ). xs ≡ take n (xs ++ x ∷ [])) (sym e) (sym (take_whole xs (x ∷ []))) in
        here ∙ ap Some (ap (λ (n : ℕ). proposal_rows (asked_at same (length lefts) n a b xs x)) g
        ∙ ap (λ (z : Circuit). proposal_rows (asked_at same (length lefts) j z b xs x)) p
        ∙ ap (λ (z : Circuit). proposal_rows (asked_at same (length lefts) j c z xs x)) q
        ∙ ap (λ (ys : List Proposal). proposal_rows (asked_at same (length lefts) j c d ys x)) t
        ∙ ap (λ (z : Proposal). proposal_rows (asked_at same (length lefts) j c d (take j (xs ++ x ∷ [])) z)) f)

-- no pair yet
pub shown_none : (lefts rights : List Circuit) (same : Bool) → AreShown lefts rights same [] []
shown_none lefts rights same = record {
  long = refl;
  sound = λ k a b x l r h. absurd (let e : None ≡ Some x = h in cc);
  shown = λ k a b x l r h. absurd (let e : None ≡ Some x = h in cc);
}

pub at_place : (cs : List Row_circuit) (k : ℕ) (c : Row_circuit) → k < length cs → c ≡ get_or cs k c → slice_get (map plain_circuit cs) k ≡ Some (plain_circuit c)
at_place cs k c lt e = slice_get-map plain_circuit cs k ∙ ap (option_map plain_circuit) (slice_get-get_or cs k c lt ∙ ap Some (sym e))

-- the next pair of two lists
pub pair_on : (lefts rights : List Row_circuit) (same told : Bool) (old new : Proposed) (k : ℕ) (answer : Answer) (a b : Row_circuit)
    → AreShown (map plain_circuit lefts) (map plain_circuit rights) same old.proposals.items (rows_in old) → length old.proposals.items ≡ k
    → k < length lefts → k < length rights → a ≡ get_or lefts k a → b ≡ get_or rights k b → told ≡ is_told same (length lefts) k
    → AddsPair told (plain_circuit a) (plain_circuit b) answer old new
    → AreShown (map plain_circuit lefts) (map plain_circuit rights) same new.proposals.items (rows_in new) × (length new.proposals.items ≡ k + 1)
pair_on lefts rights same told old new k answer a b shown at lt rt left right te adds =
    let ls = map plain_circuit lefts in
    let rs = map plain_circuit rights in
    let x = adds.proposal in
    let xs = old.proposals.items in
    let t : told ≡ is_told same (length ls) k = te ∙ ap (λ (n : ℕ). is_told same n k) (sym (length-map lefts plain_circuit)) in
    let step = shown_on ls rs same xs (rows_in old) k (plain_circuit a) (plain_circuit b) x shown at
    (at_place lefts k a lt left) (at_place rights k b rt right) adds.sound in
    let rows : rows_in new ≡ rows_in old ++ proposal_rows (asked_at same (length ls) k (plain_circuit a) (plain_circuit b) xs x) ∷ [] =
    adds.rows ∙ ap (λ (v : Bool). rows_in old ++ proposal_rows (asked v (plain_circuit a) (plain_circuit b) xs x) ∷ []) t in (
      subst (λ (ys : List Proposal). AreShown ls rs same ys (rows_in new)) (sym adds.proposals)
          (subst (λ (ys : List (List Row)). AreShown ls rs same (xs ++ x ∷ []) ys) (sym rows) step),
      ap (λ (ys : List Proposal). length ys) adds.proposals ∙ snoc_length xs x ∙ (let e = at in omega arith),
    )

-- the rows of one more pair
pub rows_more : (xs ys : List (Vec Row)) (v : Vec Row) (rs : List Row) → ys ≡ xs ++ v ∷ [] → v.items ≡ rs
    → map (λ r. r.items) ys ≡ map (λ r. r.items) xs ++ rs ∷ []
rows_more xs ys v rs e h =
    ap (λ (zs : List (Vec Row)). map (λ r. r.items) zs) e ∙ map-append (λ r. r.items) xs (v ∷ [])
    ∙ ap (λ (z : List Row). map (λ (r : Vec Row). r.items) xs ++ z ∷ []) h

-- all pairs
pub proposed : (lefts : List Row_circuit) (rights : List Circuit) (same : Bool) (x : Proposed) → AreShown (map plain_circuit lefts) rights same x.proposals.items (rows_in x)
    → length x.proposals.items ≡ length lefts → AreProposed (map plain_circuit lefts) rights same (rows_in x)
proposed lefts rights same x shown all = record { proposals = x.proposals.items; shown = shown; all = all ∙ sym (length-map lefts plain_circuit) }
