-- What the tests of conditions tell.
use Rattle.std.proofs.Common.{◌≡◌, inl, inr, ℕ, zero, suc, ◌+◌, ◌<◌, Bool, true, false, ◌||◌, List, [], ◌∷◌, length, map, Some, slice_get, refl, sym, ◌∙◌, ap₂, subst, arith, true≢false}
use Rattle.base_laws.proofs.Items.{map_from}
use Rattle.std.proofs.lemmas.Bool.{cases_Bool}
use Rattle.std.specs.Prelude.{nat_lt, not}
use Rattle.std.proofs.Math.Decide.{ℕ_discrete}
use Rattle.std.specs.List.{list_any}
use Rattle.std.specs.Char.{is_ascii_lowercase}
use Rattle.net_names.specs.Folding.{folded_byte, folded_bytes}
use Rattle.plain_netlist.specs.Lists.{AreApart}
use Rattle.plain_netlist.specs.Netlist.{CallRow as PlainCall, Circuit as PlainCircuit, Netlist as Plain, IsCall}
use Rattle.plain_netlist.specs.Sound.{IsSoundNetlist}
use Rattle.plain_netlist.proofs.Members.{listed}
use Rattle.align_laws.specs.Partners.{AreNamesApart}
use Rattle.net_model.specs.Rows.{plain_call, plain_circuit, plain_netlist}
use Rattle.net_model.specs.declared.netlist.CallRow.{CallRow}
use Rattle.net_model.specs.declared.netlist.Circuit.{Circuit}
use Rattle.net_model.specs.declared.netlist.Netlist.{Netlist}
use Rattle.net_model.proofs.FirstLemmas.{any_listed}
use Rattle.net_align.specs.Names.{left_names, right_names}
use Rattle.row_netlists.specs.Small.{has_small}

same_byte : (b : ℕ) → is_ascii_lowercase b ≡ false → folded_byte b ≡ b
same_byte b e = rw e refl

folded_same : (name : List ℕ) → has_small name ≡ false → folded_bytes name ≡ name
folded_same [] e = refl
folded_same (b ∷ name) e = elim (cases_Bool (is_ascii_lowercase b)) [
  | inl t ↦ absurd (true≢false (sym (rw t refl) ∙ e))
  | inr f ↦ ap₂ (λ (x : ℕ) (xs : List ℕ). x ∷ xs) (same_byte b f) (folded_same name (rest f e))
]
  where
    rest : is_ascii_lowercase b ≡ false → has_small (b ∷ name) ≡ false → has_small name ≡ false
    rest f e = let z : has_small (b ∷ name) ≡ has_small name = rw f refl in sym z ∙ e

no_small : (cs : List Circuit) (i : ℕ) (x : PlainCircuit) → list_any (λ (c : Circuit). has_small c.name) cs ≡ false → slice_get (map plain_circuit cs) i ≡ Some x → folded_bytes x.name ≡ x.name
no_small cs i x none at =
    let r = map_from plain_circuit cs i x at in
    elim (cases_Bool (has_small r.0.name)) [
      | inl t ↦ absurd (true≢false (sym (any_listed (λ (c : Circuit). has_small c.name) cs r.0 (listed cs i r.0 r.1) t) ∙ none))
      | inr f ↦ subst (λ (y : PlainCircuit). folded_bytes y.name ≡ y.name) r.2 (folded_same r.0.name f)
    ]

pub names_apart : (n : Netlist) → IsSoundNetlist (plain_netlist n) → list_any (λ (c : Circuit). has_small c.name) n.circuits.items ≡ false → AreNamesApart (plain_netlist n)
names_apart n sound none a b name (x, is, e) (y, also, f) =
    let p = no_small n.circuits.items a x none is in
    let q = no_small n.circuits.items b y none also in
    sound.names a b x y is also (sym p ∙ (e ∙ (sym f ∙ q)))

below : (a b : ℕ) → nat_lt a b ≡ true → a < b
below a b e = grind (arith, e)

-- no call of the first n circuits is of one that stands later
abbrev pub AreFirstBelow : Plain → ℕ → Type 0
AreFirstBelow nl n = (c k : ℕ) (row : PlainCall) → c < n → IsCall nl c k row → row.circuit < c

low_row : (rows : List CallRow) (c : ℕ) → list_any (λ (r : CallRow). not (nat_lt r.circuit c)) rows ≡ false → (k : ℕ) (w : CallRow) → slice_get rows k ≡ Some w → w.circuit < c
low_row [] c none k w e = cc
low_row (r ∷ rows) c none k w e = go (nat_lt r.circuit c) refl none k e (λ f j h. low_row rows c f j w h)
  where
    go : (b : Bool) → nat_lt r.circuit c ≡ b → (not b || list_any (λ (r : CallRow). not (nat_lt r.circuit c)) rows) ≡ false → (k : ℕ) → slice_get (r ∷ rows) k ≡ Some w
        → (list_any (λ (r : CallRow). not (nat_lt r.circuit c)) rows ≡ false → (j : ℕ) → slice_get rows j ≡ Some w → w.circuit < c) → w.circuit < c
    go false t f k e more = absurd (true≢false f)
    go true t f zero e more = let same : r ≡ w = cc in subst (λ (z : CallRow). z.circuit < c) same (below r.circuit c t)
    go true t f (suc k) e more = more f k e

pub calls_low : (n : Netlist) (c : ℕ) (x : Circuit) → slice_get n.circuits.items c ≡ Some x → list_any (λ (r : CallRow). not (nat_lt r.circuit c)) x.calls.items ≡ false
    → (k : ℕ) (row : PlainCall) → IsCall (plain_netlist n) c k row → row.circuit < c
calls_low n c x at none k row (y, is, e) =
    let r = map_from plain_circuit n.circuits.items c y is in
    let s : Some r.0 ≡ Some x = sym r.1 ∙ at in
    let same : r.0 ≡ x = cc in
    let there : slice_get (map plain_call x.calls.items) k ≡ Some row = subst (λ (z : Circuit). slice_get (map plain_call z.calls.items) k ≡ Some row) same (subst (λ (z : PlainCircuit). slice_get z.calls k ≡ Some row) (sym r.2) e) in
    let w = map_from plain_call x.calls.items k row there in
    subst (λ (z : PlainCall). z.circuit < c) w.2 (low_row x.calls.items c none k w.0 w.1)

pub first_more : (nl : Plain) (i : ℕ) → AreFirstBelow nl i → ((k : ℕ) (row : PlainCall) → IsCall nl i k row → row.circuit < i) → AreFirstBelow nl (i + 1)
first_more nl i before here c k row l call = elim (ℕ_discrete c i) [
  | yes e ↦ subst (λ (x : ℕ). row.circuit < x) (sym e) (here k row (subst (λ (x : ℕ). IsCall nl x k row) e call))
  | no not ↦ before c k row (omega (arith, l, not)) call
]

pub few_lefts : (same : List (List ℕ × List ℕ)) → length same < 2 → AreApart (left_names same)
few_lefts [] l = tt
few_lefts (x ∷ []) l = ((λ h. h), tt)
few_lefts (x ∷ y ∷ xs) l = absurd (let m = l in omega arith)

pub few_rights : (same : List (List ℕ × List ℕ)) → length same < 2 → AreApart (right_names same)
few_rights [] l = tt
few_rights (x ∷ []) l = ((λ h. h), tt)
few_rights (x ∷ y ∷ xs) l = absurd (let m = l in omega arith)
