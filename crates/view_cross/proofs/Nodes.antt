-- The nodes in the rows of a match.
use Rattle.std.proofs.Common.{◌≡◌, ◌∙◌, ℕ, ◌+◌, Bool, true, false, List, [], ◌∷◌, ◌++◌, Option, Some, None, length, map, get_or, refl, ap, append-nil, if◌then◌else◌}
use Rattle.std.specs.List.{range_with_len}
use Rattle.view_cross.specs.declared.rows.Kind.{Kind}
use Rattle.view_cross.specs.declared.rows.Kind.TheVariants.{Net, Pin, Device, Call}
use Rattle.view_cross.specs.declared.rows.Row.{Row}
use Rattle.view_cross.specs.Laws.{is_kind, with_number, numbers, lefts, rights, MatchedLeftLaw, MatchedRightLaw}
use Rattle.view_cross.specs.Matched.{partners, partner_rows, pin_on, pin_row, pin_rows, matched_rows}

with_append : (o : Option ℕ) (xs ys : List ℕ) → with_number o (xs ++ ys) ≡ with_number o xs ++ ys
with_append None xs ys = refl
with_append (Some n) xs ys = refl

choice : (b : Bool) (xs ys zs us : List ℕ) → xs ≡ ys ++ us → (if b then xs else (zs ++ us)) ≡ (if b then ys else zs) ++ us
choice true xs ys zs us e = e
choice false xs ys zs us e = refl

pub numbers_append : (side : Row → Option ℕ) (kind : Kind) (a b : List Row) → numbers side kind (a ++ b) ≡ numbers side kind a ++ numbers side kind b
numbers_append side kind [] b = refl
numbers_append side kind (r ∷ a) b =
    let e = numbers_append side kind a b in
    ap (λ (l : List ℕ). if is_kind r.kind kind then with_number (side r) l else l) e
    ∙ choice (is_kind r.kind kind) (with_number (side r) (numbers side kind a ++ numbers side kind b)) (with_number (side r) (numbers side kind a)) (numbers side kind a) (numbers side kind b)
    (with_append (side r) (numbers side kind a) (numbers side kind b))

pub four : (side : Row → Option ℕ) (kind : Kind) (a b c d : List Row) (ns ps cs ds : List ℕ) → numbers side kind a ≡ ns → numbers side kind b ≡ ps → numbers side kind c ≡ cs → numbers side kind d ≡ ds
    → numbers side kind (a ++ (b ++ (c ++ d))) ≡ ns ++ (ps ++ (cs ++ ds))
four side kind a b c d ns ps cs ds ea eb ec ed =
    numbers_append side kind a (b ++ (c ++ d))
    ∙ ap (λ (l : List ℕ). l ++ numbers side kind (b ++ (c ++ d))) ea
    ∙ ap (λ (l : List ℕ). ns ++ l) (numbers_append side kind b (c ++ d) ∙ ap (λ (l : List ℕ). l ++ numbers side kind (c ++ d)) eb
    ∙ ap (λ (l : List ℕ). ps ++ l) (numbers_append side kind c d ∙ ap (λ (l : List ℕ). l ++ numbers side kind d) ec ∙ ap (λ (l : List ℕ). cs ++ l) ed))

partner_lefts : (kind : Kind) (k : ℕ) (ns : List ℕ) → is_kind kind kind ≡ true → lefts kind (partner_rows kind k ns) ≡ range_with_len k (length ns)
partner_lefts kind k [] e = refl
partner_lefts kind k (n ∷ ns) e =
    let rest = lefts kind (partner_rows kind (k + 1) ns) in
    ap (λ b. if b then k ∷ rest else rest) e ∙ ap (λ (l : List ℕ). k ∷ l) (partner_lefts kind (k + 1) ns e)

partner_rights : (kind : Kind) (k : ℕ) (ns : List ℕ) → is_kind kind kind ≡ true → rights kind (partner_rows kind k ns) ≡ ns
partner_rights kind k [] e = refl
partner_rights kind k (n ∷ ns) e =
    let rest = rights kind (partner_rows kind (k + 1) ns) in
    ap (λ b. if b then n ∷ rest else rest) e ∙ ap (λ (l : List ℕ). n ∷ l) (partner_rights kind (k + 1) ns e)

partner_others : (side : Row → Option ℕ) (kind other : Kind) (k : ℕ) (ns : List ℕ) → is_kind kind other ≡ false → numbers side other (partner_rows kind k ns) ≡ []
partner_others side kind other k [] e = refl
partner_others side kind other k (n ∷ ns) e =
    let rest = numbers side other (partner_rows kind (k + 1) ns) in
    ap (λ b. if b then with_number (side (partners kind k n)) rest else rest) e ∙ partner_others side kind other (k + 1) ns e

pin_lefts : (nets others : List ℕ) (k : ℕ) (ns : List ℕ) → lefts Pin (pin_rows nets others k ns) ≡ range_with_len k (length ns)
pin_lefts nets others k [] = refl
pin_lefts nets others k (n ∷ ns) = ap (λ (l : List ℕ). k ∷ l) (pin_lefts nets others (k + 1) ns)

pin_rights : (nets others : List ℕ) (k : ℕ) (ns : List ℕ) → rights Pin (pin_rows nets others k ns) ≡ map (λ n. pin_on others (get_or nets n 0)) ns
pin_rights nets others k [] = refl
pin_rights nets others k (n ∷ ns) = ap (λ (l : List ℕ). pin_on others (get_or nets n 0) ∷ l) (pin_rights nets others (k + 1) ns)

pin_others : (side : Row → Option ℕ) (other : Kind) (nets others : List ℕ) (k : ℕ) (ns : List ℕ) → is_kind Pin other ≡ false → numbers side other (pin_rows nets others k ns) ≡ []
pin_others side other nets others k [] e = refl
pin_others side other nets others k (n ∷ ns) e =
    let rest = numbers side other (pin_rows nets others (k + 1) ns) in
    ap (λ b. if b then with_number (side (pin_row nets others k n)) rest else rest) e ∙ pin_others side other nets others (k + 1) ns e

module _ (nets pins others devices calls : List ℕ) where
  abbrev N : List Row
  N = partner_rows Net 0 nets

  abbrev P : List Row
  P = pin_rows nets others 0 pins

  abbrev D : List Row
  D = partner_rows Device 0 devices

  abbrev C : List Row
  C = partner_rows Call 0 calls

  of_nets : (side : Row → Option ℕ) (ns : List ℕ) → numbers side Net N ≡ ns → numbers side Net (matched_rows nets pins others devices calls) ≡ ns
  of_nets side ns e = four side Net N P D C ns [] [] [] e (pin_others side Net nets others 0 pins refl) (partner_others side Device Net 0 devices refl) (partner_others side Call Net 0 calls refl) ∙ append-nil ns

  of_pins : (side : Row → Option ℕ) (ns : List ℕ) → numbers side Pin P ≡ ns → numbers side Pin (matched_rows nets pins others devices calls) ≡ ns
  of_pins side ns e = four side Pin N P D C [] ns [] [] (partner_others side Net Pin 0 nets refl) e (partner_others side Device Pin 0 devices refl) (partner_others side Call Pin 0 calls refl) ∙ append-nil ns

  of_devices : (side : Row → Option ℕ) (ns : List ℕ) → numbers side Device D ≡ ns → numbers side Device (matched_rows nets pins others devices calls) ≡ ns
  of_devices side ns e = four side Device N P D C [] [] ns [] (partner_others side Net Device 0 nets refl) (pin_others side Device nets others 0 pins refl) e (partner_others side Call Device 0 calls refl) ∙ append-nil ns

  of_calls : (side : Row → Option ℕ) (ns : List ℕ) → numbers side Call C ≡ ns → numbers side Call (matched_rows nets pins others devices calls) ≡ ns
  of_calls side ns e = four side Call N P D C [] [] [] ns (partner_others side Net Call 0 nets refl) (pin_others side Call nets others 0 pins refl) (partner_others side Device Call 0 devices refl) e

pub each_left : MatchedLeftLaw
each_left nets pins others devices calls = record {
  nets_once = of_nets nets pins others devices calls (λ r. r.left) (range_with_len 0 (length nets)) (partner_lefts Net 0 nets refl);
  pins_once = of_pins nets pins others devices calls (λ r. r.left) (range_with_len 0 (length pins)) (pin_lefts nets others 0 pins);
  devices_once = of_devices nets pins others devices calls (λ r. r.left) (range_with_len 0 (length devices)) (partner_lefts Device 0 devices refl);
  calls_once = of_calls nets pins others devices calls (λ r. r.left) (range_with_len 0 (length calls)) (partner_lefts Call 0 calls refl);
}

pub each_right : MatchedRightLaw
each_right nets pins others devices calls = record {
  nets_as = of_nets nets pins others devices calls (λ r. r.right) nets (partner_rights Net 0 nets refl);
  pins_as = of_pins nets pins others devices calls (λ r. r.right) (map (λ n. pin_on others (get_or nets n 0)) pins) (pin_rights nets others 0 pins);
  devices_as = of_devices nets pins others devices calls (λ r. r.right) devices (partner_rights Device 0 devices refl);
  calls_as = of_calls nets pins others devices calls (λ r. r.right) calls (partner_rights Call 0 calls refl);
}
