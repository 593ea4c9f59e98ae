-- The code's circuits as plain ones.
use Rattle.std.proofs.Common.{◌≡◌, ℕ, zero, suc, ◌+◌, ◌<◌, ◌++◌, List, [], ◌∷◌, length, map, take, get_or, option_map, refl, sym, ◌∙◌, ap, arith}
use Rattle.std.proofs.lemmas.List.{map-append, take_more}
use Rattle.std.proofs.lemmas.Option.{slice_get-map, slice_get_read}
use Rattle.std.specs.Prelude.{slice_index_or}
use Rattle.net_names.specs.Folding.{folded_bytes}
use Rattle.plain_netlist.specs.Netlist.{IsCircuit, Circuit as PlainCircuit}
use Rattle.net_model.specs.Rows.{plain_netlist, plain_circuit}
use Rattle.net_model.specs.declared.netlist.Circuit.{Circuit}
use Rattle.net_model.specs.declared.netlist.Netlist.{Netlist}

pub circuit_at : (n : Netlist) (i : ℕ) (x : Circuit) → i < length n.circuits.items → x ≡ get_or n.circuits.items i x → IsCircuit (plain_netlist n) i (plain_circuit x)
circuit_at n i x low e = slice_get-map plain_circuit n.circuits.items i ∙ ap (option_map plain_circuit) (slice_get_read n.circuits.items (length n.circuits.items) i x refl low e)

pub map_named : {B : Type 0} (g : List ℕ → B) (xs : List Circuit) → map (λ (c : Circuit). g (folded_bytes c.name)) xs ≡ map g (map (λ (c : PlainCircuit). folded_bytes c.name) (map plain_circuit xs))
map_named g [] = refl
map_named {B = B} g (x ∷ xs) = ap (λ (t : List B). g (folded_bytes x.name) ∷ t) (map_named g xs)

pub own_names : (xs : List Circuit) → map (λ (c : Circuit). folded_bytes c.name) xs ≡ map (λ (c : PlainCircuit). folded_bytes c.name) (map plain_circuit xs)
own_names [] = refl
own_names (x ∷ xs) = ap (λ (t : List (List ℕ)). folded_bytes x.name ∷ t) (own_names xs)

-- the name at a place
pub name_or : (xs : List Circuit) (b : ℕ) (x : Circuit) → b < length xs → x ≡ get_or xs b x → slice_index_or (map (λ (c : PlainCircuit). folded_bytes c.name) (map plain_circuit xs)) b [] ≡ folded_bytes x.name
name_or [] b x low e = absurd (let l = low in omega arith)
name_or (y ∷ xs) zero x low e = ap (λ (c : Circuit). folded_bytes c.name) (sym e)
name_or (y ∷ xs) (suc b) x low e = name_or xs b x (let l = low in omega arith) e

pub map_more : {A B : Type 0} (g : A → B) (xs : List A) (i : ℕ) (x : A) → i < length xs → x ≡ get_or xs i x → map g (take (i + 1) xs) ≡ map g (take i xs) ++ g x ∷ []
map_more {A = A} {B = B} g xs i x low e =
    ap (λ (t : List A). map g t) (take_more xs i x low) ∙ (map-append g (take i xs) (get_or xs i x ∷ []) ∙ ap (λ (y : A). map g (take i xs) ++ g y ∷ []) (sym e))
