-- Where all nodes are alone each stands in one row.
use Rattle.std.proofs.Common.{◌≡◌, ◌∙◌, ℕ, zero, suc, ◌+◌, true, false, List, [], ◌∷◌, ◌++◌, Option, refl, sym, subst, ap, append-nil, if◌then◌else◌}
use Rattle.std.specs.List.{range_with_len}
use Rattle.std.specs.List.Sorted.{IsPermutation}
use Rattle.std.proofs.lemmas.List.Sorted.{IsPermutation-refl}
use Rattle.view_cross.specs.declared.matched.Counts.{Counts}
use Rattle.view_cross.specs.declared.rows.Kind.{Kind}
use Rattle.view_cross.specs.declared.rows.Kind.TheVariants.{Net, Pin, Device, Call}
use Rattle.view_cross.specs.declared.rows.Row.{Row}
use Rattle.view_cross.specs.Laws.{is_kind, with_number, numbers}
use Rattle.view_cross.specs.Matched.{apart_rows, left_alone, lone_of, lone_rows, right_alone}
use Rattle.view_cross.specs.Whole.{AreOnce, ApartLaw}
use Rattle.view_cross.proofs.Nodes.{four, numbers_append}

-- rows that have their numbers
numbered : (side : Row → Option ℕ) (kind : Kind) (row : ℕ → Row) → ((j : ℕ) (rest : List Row) → numbers side kind (row j ∷ rest) ≡ j ∷ numbers side kind rest) → (k n : ℕ) → numbers side kind (lone_rows row k n) ≡ range_with_len k n
numbered side kind row step k zero = refl
numbered side kind row step k (suc n) = step k (lone_rows row (k + 1) n) ∙ ap (λ (l : List ℕ). k ∷ l) (numbered side kind row step (k + 1) n)

-- rows that have none
unnumbered : (side : Row → Option ℕ) (kind : Kind) (row : ℕ → Row) → ((j : ℕ) (rest : List Row) → numbers side kind (row j ∷ rest) ≡ numbers side kind rest) → (k n : ℕ) → numbers side kind (lone_rows row k n) ≡ []
unnumbered side kind row step k zero = refl
unnumbered side kind row step k (suc n) = step k (lone_rows row (k + 1) n) ∙ unnumbered side kind row step (k + 1) n

two : (side : Row → Option ℕ) (kind : Kind) (a b : List Row) (ns ms : List ℕ) → numbers side kind a ≡ ns → numbers side kind b ≡ ms → numbers side kind (a ++ b) ≡ ns ++ ms
two side kind a b ns ms ea eb = numbers_append side kind a b ∙ ap (λ (l : List ℕ). l ++ numbers side kind b) ea ∙ ap (λ (l : List ℕ). ns ++ l) eb

abbrev L : Row → Option ℕ
L r = r.left

abbrev R : Row → Option ℕ
R r = r.right

lefts_of : (kind : Kind) (n m : ℕ) → is_kind kind kind ≡ true → numbers L kind (lone_of kind n m) ≡ range_with_len 0 n
lefts_of kind n m e =
    two L kind (lone_rows (left_alone kind) 0 n) (lone_rows (right_alone kind) 0 m) (range_with_len 0 n) []
    (numbered L kind (left_alone kind) (λ j rest. ap (λ b. if b then j ∷ numbers L kind rest else numbers L kind rest) e) 0 n)
    (unnumbered L kind (right_alone kind) (λ j rest. ap (λ b. if b then numbers L kind rest else numbers L kind rest) e) 0 m)
    ∙ append-nil (range_with_len 0 n)

rights_of : (kind : Kind) (n m : ℕ) → is_kind kind kind ≡ true → numbers R kind (lone_of kind n m) ≡ range_with_len 0 m
rights_of kind n m e =
    two R kind (lone_rows (left_alone kind) 0 n) (lone_rows (right_alone kind) 0 m) [] (range_with_len 0 m)
    (unnumbered R kind (left_alone kind) (λ j rest. ap (λ b. if b then numbers R kind rest else numbers R kind rest) e) 0 n)
    (numbered R kind (right_alone kind) (λ j rest. ap (λ b. if b then j ∷ numbers R kind rest else numbers R kind rest) e) 0 m)

others_of : (side : Row → Option ℕ) (kind other : Kind) (n m : ℕ) → is_kind kind other ≡ false → numbers side other (lone_of kind n m) ≡ []
others_of side kind other n m e =
    two side other (lone_rows (left_alone kind) 0 n) (lone_rows (right_alone kind) 0 m) [] []
    (unnumbered side other (left_alone kind) (λ j rest. ap (λ b. if b then with_number (side (left_alone kind j)) (numbers side other rest) else numbers side other rest) e) 0 n)
    (unnumbered side other (right_alone kind) (λ j rest. ap (λ b. if b then with_number (side (right_alone kind j)) (numbers side other rest) else numbers side other rest) e) 0 m)

once : (n : ℕ) (ns : List ℕ) → ns ≡ range_with_len 0 n → AreOnce n ns
once n ns e = subst (λ (ms : List ℕ). IsPermutation (range_with_len 0 n) ms) (sym e) (IsPermutation-refl (range_with_len 0 n))

module _ (a b : Counts) where
  abbrev N : List Row
  N = lone_of Net a.nets b.nets

  abbrev P : List Row
  P = lone_of Pin a.pins b.pins

  abbrev D : List Row
  D = lone_of Device a.devices b.devices

  abbrev C : List Row
  C = lone_of Call a.calls b.calls

  of_nets : (side : Row → Option ℕ) (ns : List ℕ) → numbers side Net N ≡ ns → numbers side Net (apart_rows a b) ≡ ns
  of_nets side ns e = four side Net N P D C ns [] [] [] e (others_of side Pin Net a.pins b.pins refl) (others_of side Device Net a.devices b.devices refl) (others_of side Call Net a.calls b.calls refl) ∙ append-nil ns

  of_pins : (side : Row → Option ℕ) (ns : List ℕ) → numbers side Pin P ≡ ns → numbers side Pin (apart_rows a b) ≡ ns
  of_pins side ns e = four side Pin N P D C [] ns [] [] (others_of side Net Pin a.nets b.nets refl) e (others_of side Device Pin a.devices b.devices refl) (others_of side Call Pin a.calls b.calls refl) ∙ append-nil ns

  of_devices : (side : Row → Option ℕ) (ns : List ℕ) → numbers side Device D ≡ ns → numbers side Device (apart_rows a b) ≡ ns
  of_devices side ns e = four side Device N P D C [] [] ns [] (others_of side Net Device a.nets b.nets refl) (others_of side Pin Device a.pins b.pins refl) e (others_of side Call Device a.calls b.calls refl) ∙ append-nil ns

  of_calls : (side : Row → Option ℕ) (ns : List ℕ) → numbers side Call C ≡ ns → numbers side Call (apart_rows a b) ≡ ns
  of_calls side ns e = four side Call N P D C [] [] [] ns (others_of side Net Call a.nets b.nets refl) (others_of side Pin Call a.pins b.pins refl) (others_of side Device Call a.devices b.devices refl) e

pub apart_whole : ApartLaw
apart_whole a b = record {
  lefts = record {
    nets = once a.nets (numbers L Net (apart_rows a b)) (of_nets a b L (range_with_len 0 a.nets) (lefts_of Net a.nets b.nets refl));
    pins = once a.pins (numbers L Pin (apart_rows a b)) (of_pins a b L (range_with_len 0 a.pins) (lefts_of Pin a.pins b.pins refl));
    devices = once a.devices (numbers L Device (apart_rows a b)) (of_devices a b L (range_with_len 0 a.devices) (lefts_of Device a.devices b.devices refl));
    calls = once a.calls (numbers L Call (apart_rows a b)) (of_calls a b L (range_with_len 0 a.calls) (lefts_of Call a.calls b.calls refl));
  };
  rights = record {
    nets = once b.nets (numbers R Net (apart_rows a b)) (of_nets a b R (range_with_len 0 b.nets) (rights_of Net a.nets b.nets refl));
    pins = once b.pins (numbers R Pin (apart_rows a b)) (of_pins a b R (range_with_len 0 b.pins) (rights_of Pin a.pins b.pins refl));
    devices = once b.devices (numbers R Device (apart_rows a b)) (of_devices a b R (range_with_len 0 b.devices) (rights_of Device a.devices b.devices refl));
    calls = once b.calls (numbers R Call (apart_rows a b)) (of_calls a b R (range_with_len 0 b.calls) (rights_of Call a.calls b.calls refl));
  };
}
